-- The search of an accepted section: by halving or by a scan it finds what `covering` says.
-- Assumes nothing.
use mathlib.Core.Path.{◌≡◌, sym, ◌∙◌, ap}
use mathlib.Core.Bool.{true, true≢false}
use mathlib.Core.List.{List}
use mathlib.Core.Logic.{⊎_elim}
use Prim.Native.Nat.{ℕ, zero, suc, ◌≤◌, ◌<◌}
use native.Mathlib.Nat.{eq-or-lt_of_le}
use native.Mathlib.Omega.{arith}
use lib.IntN.{ℤ, pos, ◌+ℤ◌}
use lib.ListN.{length, get_or}
use lib.Signed.{◌≤ℤ◌, clash_ℤ}
use Rattle.section.specs.Header.{layout_of}
use Rattle.section.specs.Meaning.{Function, function_in, functions_of}
use Rattle.section.proofs.ListedLaws.{functions_length, functions_get}
use Rattle.accept.specs.Rules.{function_count}
use Rattle.accept.specs.Computed.Checks.{verdict}
use Rattle.accept.specs.Verdict.{Accepted}
use Rattle.accept.proofs.AcceptedLaws.{accepted_laws, pass_on, no_less}
use Rattle.accept.proofs.Decides.{Shows}
use Rattle.lookup.specs.Halving.{empty_function, starts_at_most, landing}
use Rattle.lookup.specs.Computed.Covering.{covering, cover_of}
use Rattle.lookup.specs.Inner.Search.{landed_on, cover_by}
use Rattle.lookup.proofs.CoveringLaws.{by_value, unless_true, is_true, le_shows, covers_shows, covers_at, none_cover, one_covers}
use Rattle.lookup.proofs.HalvingLaws.{Lands, halve_lands}

-- ---- functions that lie apart

abbrev function_at : List Function → ℕ → Function
function_at fs i = get_or fs i empty_function

abbrev ends : Function → ℤ
ends f = f.start +ℤ pos f.size

-- every earlier function ends at or before every later one's start
abbrev LieApart : List Function → Type 0
LieApart fs = (i j : ℕ) → i < j → j < length fs → ends (function_at fs i) ≤ℤ (function_at fs j).start

module _ (d : ℤ) (fs : List Function) (apart : LieApart fs) where
  starts : (i : ℕ) → Shows (starts_at_most d fs i) ((function_at fs i).start ≤ℤ d)
  unfolding starts_at_most
  starts i = le_shows (function_at fs i).start d

  ends-before : (i j : ℕ) → i < j → j < length fs → starts_at_most d fs j ≡ true → ends (function_at fs i) ≤ℤ d
  ends-before i j less lt e = pass_on (apart i j less lt) ((starts j).holds e)

  starts-ordered : (i j : ℕ) → i ≤ j → j < length fs → starts_at_most d fs j ≡ true → starts_at_most d fs i ≡ true
  starts-ordered i j le lt e =
      ⊎_elim
      (λ same. rw same e)
      (λ less. is_true (starts i) (pass_on (no_less (function_at fs i).start (function_at fs i).size) (ends-before i j less lt e)))
      (eq-or-lt_of_le le)

  -- only the one before `low` can cover: a later one starts too late, an earlier one ends too soon
  landed-covers : (low : ℕ) → Lands (starts_at_most d fs) (length fs) low → (k : ℕ) → k < length fs → covers_at d fs k ≡ true → suc k ≡ low
  landed-covers low lands k lt e =
      let (from, before) = (covers_shows d (function_at fs k)).holds e in
      let late : ¬ (low ≤ k) = λ le. (starts k).broken (lands.above k le lt) from in
      let soon : ¬ (suc k < low) = λ less. clash_ℤ before (ends-before k (suc k) (omega arith) (omega arith) (lands.below (suc k) less)) in
      omega arith

  landing-covers : (low : ℕ) → Lands (starts_at_most d fs) (length fs) low → landed_on d fs low ≡ cover_of (covering d fs)
  unfolding landed_on
  landing-covers zero lands =
      sym (none_cover d fs λ k lt. unless_true (covers_at d fs k) λ e. let same : suc k ≡ 0 = landed-covers 0 lands k lt e in omega arith)
  landing-covers (suc i) lands =
      by_value (covers_at d fs i)
      (λ e. rw (e, landed_on) (sym (one_covers d fs i (lands.inside, e, only))))
      (λ e.
      rw (e, landed_on)
      (sym (none_cover d fs λ k lt. unless_true (covers_at d fs k) λ t. true≢false (sym t ∙ ap (covers_at d fs) (only k lt t) ∙ e))))
    where
      only : (k : ℕ) → k < length fs → covers_at d fs k ≡ true → k ≡ i
      only k lt e = let same : suc k ≡ suc i = landed-covers (suc i) lands k lt e in omega arith

  apart-search : cover_by true d fs ≡ cover_of (covering d fs)
  unfolding cover_by landing
  apart-search = landing-covers _ (halve_lands (starts_at_most d fs) (length fs) starts-ordered)

-- ---- an accepted section

functions_apart : (s : List ℕ) → verdict s ≡ Accepted → (layout_of s).sorted ≡ true → LieApart (functions_of s)
unfolding function_in function_count
functions_apart s e set i j less lt =
    let inside : j < function_count s = rw functions_length at lt in
    rw (functions_get s i empty_function (omega arith), functions_get s j empty_function inside) ((accepted_laws s e).apart set i j less inside)

-- the halving of a sorted section, and the scan of another, find the function that covers
pub search_finds_covering : (s : List ℕ) → verdict s ≡ Accepted → (d : ℤ)
    → cover_by (layout_of s).sorted d (functions_of s) ≡ cover_of (covering d (functions_of s))
unfolding cover_by
search_finds_covering s e d =
    by_value (layout_of s).sorted
    (λ set. rw set (apart-search d (functions_of s) (functions_apart s e set)))
    (λ unset. rw unset)
