-- From an accepted section to the row of the function that covers: what each step of a lookup may rely on.
-- Assumes nothing.
use mathlib.Core.Path.{◌≡◌, sym, ◌∙◌, ap}
use mathlib.Core.Bool.{true, true≢false, ◌&&◌}
use mathlib.Core.List.{List}
use Prim.Native.Nat.{ℕ, ◌+◌, ◌-◌, ◌^◌, ◌≤◌, ◌<◌}
use native.Mathlib.Omega.{arith}
use lib.Dec.{leb, ltb}
use lib.IntN.{ℤ, pos, ◌+ℤ◌}
use lib.Signed.{le_z, lt_z}
use borrow.Author.Tests.{leb-true, leb-false, ltb-true, ltb-false}
use Rattle.numbers.specs.Inner.Held.{natural, Held, Near}
use Rattle.numbers.proofs.HeldLaws.{from_start, before_start, from_end, offset_in_lem}
use Rattle.section.specs.Meaning.{Function, entry_in, block_of, function_start, function_in, functions_of, area_of, shape_of}
use Rattle.section.specs.declared.header.Layout.{Layout}
use Rattle.section.proofs.ListedLaws.{functions_length, functions_get}
use Rattle.accept.specs.Rules.{function_count}
use Rattle.accept.specs.Computed.Checks.{entry_fault}
use Rattle.accept.specs.Fault.{Sound}
use Rattle.accept.proofs.AcceptedLaws.{accepted_laws}
use Rattle.accept.proofs.Exactly.{header_exactly_when}
use Rattle.lookup.specs.Halving.{empty_function}
use Rattle.lookup.specs.Computed.Covering.{covers, covering, cover_of}
use Rattle.lookup.specs.Computed.Rows.{in_block, offset_within}
use Rattle.lookup.specs.Inner.Requires.{HeaderOf, AcceptedOf, RowAsked}
use Rattle.lookup.specs.declared.search.Cover.{Cover}
use Rattle.lookup.specs.declared.search.Cover.TheVariants.{Nobody, One, Two}
use Rattle.lookup.proofs.CoveringLaws.{by_value, OnlyAt, none_cover, one_covers, two_cover, Coverage, no_one, just_one, two_or_more, cover_cases}

-- an accepted section has a sound header
pub accepted_header : {s : List ℕ} {layout : Layout} → AcceptedOf s layout → HeaderOf s layout
accepted_header {s} section =
    record { sound = (header_exactly_when s).1 (accepted_laws s section.accepted).header; layout_is = section.layout_is }

-- ---- the one function that covers

-- how many cover, told apart to two, and the index where one does
many : Cover → ℕ
many Nobody = 0
many (One i) = 1
many (Two i j) = 2

the_one : Cover → ℕ
the_one Nobody = 0
the_one (One i) = i
the_one (Two i j) = 0

by_coverage : (d : ℤ) (fs : List Function) (i : ℕ) → cover_of (covering d fs) ≡ One i → Coverage d fs → OnlyAt d fs i
unfolding many the_one
by_coverage d fs i e (no_one none) =
    let clash : ◌≡◌ {A = ℕ} 0 1 = ap many (sym (none_cover d fs none) ∙ e) in
    absurd (omega arith)
by_coverage d fs i e (just_one k only) =
    let same : k ≡ i = ap the_one (sym (one_covers d fs k only) ∙ e) in
    rw same at only
by_coverage d fs i e (two_or_more k j lowest) =
    let clash : ◌≡◌ {A = ℕ} 2 1 = ap many (sym (two_cover d fs k j lowest) ∙ e) in
    absurd (omega arith)

pub only_one : (d : ℤ) (fs : List Function) (i : ℕ) → cover_of (covering d fs) ≡ One i → OnlyAt d fs i
only_one d fs i e = by_coverage d fs i e (cover_cases d fs)

pub row_asked : {s : List ℕ} {layout : Layout} {d : ℤ} (i : ℕ) → AcceptedOf s layout → cover_of (covering d (functions_of s)) ≡ One i
    → RowAsked s layout i d
row_asked {s} {layout} {d} i section e =
    let only = only_one d (functions_of s) i e in
    let listed = rw functions_length at only.0 in
    record {
      section = section;
      inside = rw section.layout_is listed;
      within = rw (functions_get s i empty_function listed) at only.1;
    }

-- ---- d within that function, as it is held

module _ (s : List ℕ) {d : ℤ} (i : ℕ) {h n : ℕ} (within : covers d (function_in s i) ≡ true) (held : Held (function_start s i) h) (near : Near d n)
    (small : (entry_in s i).size < 2 ^ 32) where
  -- no test that covering makes can be false
  both_hold : (le_z (function_start s i) d && lt_z d (function_start s i +ℤ pos (entry_in s i).size)) ≡ true
  unfolding covers function_in
  both_hold = within

  pub past_start_lem : h ≤ n
  past_start_lem =
      by_value (leb h n) (leb-true h n) λ e.
      let early = before_start held near (leb-false h n e) in
      absurd (true≢false (sym (rw early at both_hold)))

  pub short_of_end : n < h + (entry_in s i).size
  short_of_end =
      by_value (ltb n (h + (entry_in s i).size)) (ltb-true _ _) λ e.
      let late = from_end (entry_in s i).size held near small (ltb-false n (h + (entry_in s i).size) e) in
      let early = from_start held near past_start_lem in
      absurd (true≢false (sym (rw (early, late) at both_hold)))

  pub offset_held : offset_within d (function_in s i) ≡ in_block (block_of (entry_in s i)) (n - h)
  unfolding offset_within function_in natural
  offset_held = ap (λ z. in_block (block_of (entry_in s i)) (natural z)) (offset_in_lem (entry_in s i).size held near small past_start_lem short_of_end)

-- ---- its entry is sound

pub fault_free : {s : List ℕ} {layout : Layout} {i : ℕ} {d : ℤ} → RowAsked s layout i d → entry_fault (area_of s) (shape_of s) (entry_in s i) ≡ Sound
unfolding function_count
fault_free {s} asked =
    let section = asked.section in
    (accepted_laws s section.accepted).entries _ (rw section.layout_is at asked.inside)
