-- What a lookup looks at decides its answer: two accepted sections that agree on it (`LookAlike`) get the same answer, row, number, indexes
-- and count, whatever else they hold. So the offsets of a row that is passed change no answer. Assumes nothing.
use mathlib.Core.Path.{◌≡◌, refl, sym, ◌∙◌, ap, fun_ext}
use mathlib.Core.Bool.{Bool, true, false}
use mathlib.Core.List.{List}
use Prim.Native.Nat.{ℕ, ◌≤◌, ◌<◌}
use lib.Dec.{ltb}
use lib.IntN.{ℤ}
use lib.ListN.{length, get_or-eq_default}
use borrow.Author.Tests.{ltb-true, ltb-false}
use Rattle.numbers.specs.Start.{distance}
use Rattle.section.specs.Header.{layout_of}
use Rattle.section.specs.Meaning.{area_of, shape_of, entry_in, function_in, functions_of}
use Rattle.section.proofs.PartAgreement.{layout_agrees, shape_agrees, entries_agree}
use Rattle.accept.specs.Rules.{function_count}
use Rattle.accept.specs.Computed.Checks.{verdict}
use Rattle.accept.specs.Verdict.{Accepted}
use Rattle.accept.proofs.AcceptedLaws.{accepted_laws}
use Rattle.lookup.specs.Cases.{Covers}
use Rattle.lookup.specs.Halving.{empty_function, starts_at_most, landing, compared}
use Rattle.lookup.specs.Scanned.{LookAlike}
use Rattle.lookup.specs.Computed.Answers.{with_row, with_cover, outcome, answer, answer_of, answer_after, lookup_of}
use Rattle.lookup.specs.Computed.Covering.{covers, covering, cover_of}
use Rattle.lookup.specs.Computed.Rows.{offset_within, row_for}
use Rattle.lookup.specs.declared.search.Cover.{Cover}
use Rattle.lookup.specs.declared.search.Cover.TheVariants.{Nobody, One, Two}
use Rattle.lookup.proofs.CaseLaws.{functions_at, functions_count, at_covers}
use Rattle.lookup.proofs.CoveringLaws.{by_value, covers_at, covering_alike}
use Rattle.lookup.proofs.LookLaws.{only_one}
use Rattle.lookup.proofs.OffsetWithinLaws.{offset_is}
use Rattle.lookup.proofs.ScanAgreement.{last_row_agrees}

module _ (s t : List ℕ) (d : ℤ) (alike : LookAlike s t d) where
  one-layout : layout_of s ≡ layout_of t
  one-layout = layout_agrees s t alike.header

  -- ---- entries and what they say of their functions

  one_entry : (i : ℕ) → i < function_count s → entry_in s i ≡ entry_in t i
  unfolding function_count
  one_entry i lt = entries_agree s t alike.header alike.table i lt

  one-count : function_count s ≡ function_count t
  unfolding function_count
  one-count = ap (λ layout. layout.functions) one-layout

  as_many : length (functions_of s) ≡ length (functions_of t)
  as_many = functions_count s ∙ one-count ∙ sym (functions_count t)

  -- start, size and block; the rows may differ
  one-start : (i : ℕ) → i < function_count s → (function_in s i).start ≡ (function_in t i).start
  unfolding function_in
  one-start i lt = rw (one_entry i lt, one-layout)

  one_size : (i : ℕ) → i < function_count s → (function_in s i).size ≡ (function_in t i).size
  unfolding function_in
  one_size i lt = rw (one_entry i lt)

  one-offset : (i : ℕ) → i < function_count s → offset_within d (function_in s i) ≡ offset_within d (function_in t i)
  unfolding offset_within function_in
  one-offset i lt = rw (one_entry i lt, one-layout)

  -- ---- which functions cover, and how many entries are compared

  covers-alike : (i : ℕ) → i < length (functions_of s) → covers_at d (functions_of s) i ≡ covers_at d (functions_of t) i
  unfolding covers
  covers-alike i lt =
      let inside : i < function_count s = rw functions_count at lt in
      rw (functions_at s i inside, functions_at t i (rw one-count at inside), one-start i inside, one_size i inside)

  one-cover : cover_of (covering d (functions_of s)) ≡ cover_of (covering d (functions_of t))
  one-cover = ap cover_of (covering_alike d (functions_of s) (functions_of t) as_many covers-alike)

  starts-alike : (i : ℕ) → starts_at_most d (functions_of s) i ≡ starts_at_most d (functions_of t) i
  unfolding starts_at_most
  starts-alike i =
      by_value (ltb i (function_count s))
      (λ e.
      let inside : i < function_count s = ltb-true i (function_count s) e in
      rw (functions_at s i inside, functions_at t i (rw one-count at inside), one-start i inside))
      (λ e.
      let past : function_count s ≤ i = ltb-false i (function_count s) e in
      let beyond : length (functions_of s) ≤ i = rw functions_count past in
      rw (get_or-eq_default (functions_of s) empty_function beyond, get_or-eq_default (functions_of t) empty_function (rw as_many at beyond)))

  one-landing : landing d (functions_of s) ≡ landing d (functions_of t)
  unfolding landing
  one-landing = rw (fun_ext starts-alike, as_many)

  counted-alike : (sorted : Bool) → compared sorted d (functions_of s) ≡ compared sorted d (functions_of t)
  unfolding compared
  counted-alike true = ap (λ landing. landing.compared) one-landing
  counted-alike false = as_many

  one-compared : compared (layout_of s).sorted d (functions_of s) ≡ compared (layout_of t).sorted d (functions_of t)
  one-compared = rw one-layout (counted-alike (layout_of t).sorted)

  -- ---- the row

  module _ (accepted : verdict s ≡ Accepted) (also : verdict t ≡ Accepted) where
    one_row : (i : ℕ) → Covers s d i → row_for d (function_in s i) ≡ row_for d (function_in t i)
    unfolding row_for function_in
    one_row i covered =
        let inside = covered.0 in
        let o = offset_within d (function_in s i) in
        let sound = (accepted_laws s accepted).entries i inside in
        let sound' = (accepted_laws t also).entries i (rw one-count at inside) in
        let same = alike.rows i o covered (offset_is s accepted d i covered) in
        rw (← one-offset i inside, ← shape_agrees s t alike.header, ← one_entry i inside)
        (last_row_agrees (area_of s) (area_of t) (shape_of s) (entry_in s i) o sound (rw (← shape_agrees s t alike.header, ← one_entry i inside) at sound') same)

    -- the cover is one and the same
    with-cover : (cover : Cover) → cover_of (covering d (functions_of s)) ≡ cover
        → with_cover d (functions_of s) cover ≡ with_cover d (functions_of t) cover
    unfolding with_cover
    with-cover Nobody e = refl
    with-cover (One i) e =
        let only = only_one d (functions_of s) i e in
        let covered = at_covers s d i only.0 only.1 in
        let inside = covered.0 in
        rw (functions_at s i inside, functions_at t i (rw one-count at inside)) (ap (with_row i) (one_row i covered))
    with-cover (Two i j) e = refl

    one-outcome : outcome d (functions_of s) ≡ outcome d (functions_of t)
    unfolding outcome
    one-outcome = with-cover (cover_of (covering d (functions_of s))) refl ∙ ap (with_cover d (functions_of t)) one-cover

pub answer_agrees : (s t : List ℕ) → verdict s ≡ Accepted → verdict t ≡ Accepted → (address pc : ℕ) → LookAlike s t (distance address pc)
    → lookup_of s address pc ≡ lookup_of t address pc
unfolding lookup_of answer_after answer_of answer
answer_agrees s t accepted also address pc alike =
    rw (accepted, also, one-outcome s t (distance address pc) alike accepted also, one-compared s t (distance address pc) alike)
