-- The cases of a lookup in an accepted section: each, as a plain proposition, makes the outcome that it is the case of, and one
-- of them always holds. So an outcome is given exactly when its case holds (`outcome_exactly_when`).
-- Assumes nothing.
use mathlib.Core.Path.{◌≡◌, refl, sym, ◌∙◌, ap, subst}
use mathlib.Core.Bool.{true, false, true≢false}
use mathlib.Core.List.{List}
use mathlib.Core.Logic.{◌⊎◌, inl, inr, ◌↔◌, ⊎_elim}
use Prim.Native.Nat.{ℕ, ◌≤◌, ◌<◌}
use native.Mathlib.Omega.{arith}
use lib.Dec.{eqb}
use lib.IntN.{ℤ}
use lib.ListN.{length, get_or}
use lib.Signed.{<ℤ-≤ℤ_trans, clash_ℤ}
use Rattle.std.specs.Prelude.{Option, Some, None}
use Rattle.section.specs.Header.{layout_of}
use Rattle.section.specs.Meaning.{row_in, function_in, functions_of}
use Rattle.section.specs.Row.{row_of}
use Rattle.section.specs.declared.row.Row.{Row}
use Rattle.section.proofs.ListedLaws.{functions_length, functions_get}
use Rattle.accept.specs.Rules.{function_count, row_count, row_start_at}
use Rattle.accept.specs.Computed.Checks.{verdict}
use Rattle.accept.specs.Verdict.{Accepted}
use Rattle.accept.proofs.AcceptedLaws.{accepted_laws}
use Rattle.lookup.specs.Cases.{Covers, NoneCovers, OnlyCovers, SomeTwoCover, LowestTwo, LastAtMost, NoneAtMost, OffsetIs, row_of_function, FoundCase, NoRowCase, Case}
use Rattle.lookup.specs.Halving.{empty_function}
use Rattle.lookup.specs.Numbers.{number_of_unfound, outcome_number}
use Rattle.lookup.specs.Computed.Answers.{with_row, with_cover, outcome}
use Rattle.lookup.specs.Computed.Rows.{offset_within, last_row, row_for}
use Rattle.lookup.specs.Outcome.{Outcome}
use Rattle.lookup.specs.Outcome.{Found, Unsound, NoFunction, Dispute, NoRow}
use Rattle.lookup.specs.declared.rows.Hit.{Hit}
use Rattle.lookup.proofs.CoveringLaws.{unless_true, is_true, covers_shows, covers_at, NoneAt, OnlyAt, LowestAt, none_cover, one_covers, two_cover, Coverage, no_one, just_one, two_or_more, cover_cases}
use Rattle.lookup.proofs.LastRowLaws.{last_none, last_is, row_cases}
use Rattle.lookup.proofs.OffsetWithinLaws.{offset_is, offset_unique}

-- ---- which functions cover, by index and by place in the list

pub functions_at : (s : List ℕ) (i : ℕ) → i < function_count s → get_or (functions_of s) i empty_function ≡ function_in s i
unfolding function_count
functions_at s i lt = functions_get s i empty_function lt

pub functions_count : (s : List ℕ) → length (functions_of s) ≡ function_count s
unfolding function_count
functions_count s = functions_length s

module _ (s : List ℕ) (d : ℤ) where
  in_list : (i : ℕ) → Covers s d i → i < length (functions_of s)
  in_list i h = rw functions_count h.0

  pub covers_at_lem : (i : ℕ) → Covers s d i → covers_at d (functions_of s) i ≡ true
  unfolding function_in
  covers_at_lem i h = rw (functions_at s i h.0) (is_true (covers_shows d (function_in s i)) (h.1, h.2))

  pub at_covers : (i : ℕ) → i < length (functions_of s) → covers_at d (functions_of s) i ≡ true → Covers s d i
  unfolding function_in
  at_covers i lt e =
      let inside : i < function_count s = rw functions_count at lt in
      let (from, before) = (covers_shows d (function_in s i)).holds (rw (functions_at s i inside) at e) in
      (inside, from, before)

  none-at : NoneCovers s d → NoneAt d (functions_of s)
  none-at none k lt = unless_true (covers_at d (functions_of s) k) (λ e. none k (at_covers k lt e))

  only_at : (i : ℕ) → OnlyCovers s d i → OnlyAt d (functions_of s) i
  only_at i h = (in_list i h.0, covers_at_lem i h.0, λ k lt e. h.1 k (at_covers k lt e))

  lowest-at : (i j : ℕ) → LowestTwo s d i j → LowestAt d (functions_of s) i j
  lowest-at i j h =
      let (less, here, there, only) = h in
      let lt = in_list j there in
      (less, lt, covers_at_lem i here, covers_at_lem j there, λ k before e. only k before (at_covers k (omega arith) e))

  -- none covers, one does, or two or more do
  data CoverCase : Type 0 where
    none_covers : NoneCovers s d → CoverCase
    only_covers : (i : ℕ) → OnlyCovers s d i → CoverCase
    lowest_cover : (i j : ℕ) → LowestTwo s d i j → CoverCase

  cover-of : Coverage d (functions_of s) → CoverCase
  cover-of (no_one none) = none_covers (λ i h. true≢false (sym (covers_at_lem i h) ∙ none i (in_list i h)))
  cover-of (just_one i h) = only_covers i (at_covers i h.0 h.1, λ j other. h.2 j (in_list j other) (covers_at_lem j other))
  cover-of (two_or_more i j h) =
      let (less, lt, here, there, only) = h in
      lowest_cover i j (less, at_covers i (omega arith) here, at_covers j lt there, λ k before other. only k before (covers_at_lem k other))

  cover-decided : CoverCase
  cover-decided = cover-of (cover_cases d (functions_of s))

-- ---- the row of one function

module _ (s : List ℕ) (i o : ℕ) where
  pub none_row : NoneAtMost s i o → last_row o 0 (function_in s i).rows ≡ None
  unfolding function_in row_in row_of row_count row_start_at
  none_row none =
      last_none o (row_of_function s i) (row_count s i) 0 λ j le lt.
      let above : ¬ (row_start_at s i j ≤ o) = λ at. none j (omega arith, at) in
      omega arith

  pub last_row_lem : (k : ℕ) → LastAtMost s i o k → last_row o 0 (function_in s i).rows ≡ Some (record { row = row_of_function s i k; number = k })
  unfolding function_in row_in row_of row_count row_start_at
  last_row_lem k h =
      last_is o (row_of_function s i) (row_count s i) 0 k (omega arith) (omega arith) h.0.1 λ j less lt.
      let above : ¬ (row_start_at s i j ≤ o) = λ at. omega (arith, h.1 j (omega arith, at)) in
      omega arith

  pub rows_decided : NoneAtMost s i o ⊎ ((k : ℕ) × LastAtMost s i o k)
  rows_decided =
      ⊎_elim
      (λ above. inl (λ k at. omega (arith, above k (omega arith) (omega arith))))
      (λ last.
      let (k, (le, lt, here, above)) = last in
      inr (k, ((omega arith, here), λ j at. let late : ¬ (k < j) = λ less. omega (arith, above j less (omega arith)) in omega arith)))
      (row_cases (row_start_at s i) o (row_count s i) 0)

-- ---- the cases

module _ (s : List ℕ) (d : ℤ) where
  one-given : {i o : ℕ} {scan : Option Hit} → OnlyCovers s d i → OffsetIs s d i o → last_row o 0 (function_in s i).rows ≡ scan
      → outcome d (functions_of s) ≡ with_row i scan
  unfolding outcome with_cover row_for
  one-given {i} {o} {scan} only offset e =
      ap (with_cover d (functions_of s)) (one_covers d (functions_of s) i (only_at s d i only))
      ∙ ap (λ f. with_row i (row_for d f)) (functions_at s i only.0.0)
      ∙ ap (with_row i) (rw (← offset_unique offset) e)

  case_given : (o : Outcome) → Case s d o → outcome d (functions_of s) ≡ o
  unfolding outcome with_cover with_row
  case_given (Found row i k) h = one-given h.only h.offset_is (last_row_lem s i h.offset k h.last) ∙ ap (λ r. Found r i k) (sym h.row_is)
  case_given (Unsound number index) h = absurd h
  case_given NoFunction h = ap (with_cover d (functions_of s)) (none_cover d (functions_of s) (none-at s d h))
  case_given (Dispute i j) h = ap (with_cover d (functions_of s)) (two_cover d (functions_of s) i j (lowest-at s d i j h))
  case_given (NoRow i) h = one-given h.only h.offset_is (none_row s i h.offset h.none)

  module _ (e : verdict s ≡ Accepted) where
    row-case : (i : ℕ) → OnlyCovers s d i → (o : Outcome) × Case s d o
    row-case i only =
        let offset = offset_within d (function_in s i) in
        let is = offset_is s e d i only.0 in
        ⊎_elim
        (λ none. (NoRow i, record { only = only; offset = offset; offset_is = is; none = none }))
        (λ last.
        let (k, at) = last in
        (Found (row_of_function s i k) i k, record { only = only; offset = offset; offset_is = is; last = at; row_is = refl }))
        (rows_decided s i offset)

    some_case : CoverCase s d → (o : Outcome) × Case s d o
    some_case (none_covers h) = (NoFunction, h)
    some_case (only_covers i h) = row-case i h
    some_case (lowest_cover i j h) = (Dispute i j, h)

    pub outcome_exactly_when : (o : Outcome) → (outcome d (functions_of s) ≡ o) ↔ Case s d o
    outcome_exactly_when o = (
      λ same.
          let (p, holds) = some_case (cover-decided s d) in
          subst (Case s d) (sym (case_given p holds) ∙ same) holds,
      case_given o,
    )

-- ---- the cases by document 01's numbers

-- what the number of an outcome says of an accepted section and d; it is 0 where a row was found
abbrev pub Reason : List ℕ → ℤ → ℕ → Type 0
Reason s d number =
    elim (eqb number 0) [
      | true ↦ (row : Row) × (i : ℕ) × (k : ℕ) × FoundCase s d row i k
      | false ↦ elim (eqb number 21) [
        | true ↦ NoneCovers s d
        | false ↦ elim (eqb number 22) [ true ↦ (i : ℕ) × (j : ℕ) × LowestTwo s d i j | false ↦ (i : ℕ) × NoRowCase s d i ]
      ]
    ]

module _ (s : List ℕ) (d : ℤ) where
  reason : (o : Outcome) → Case s d o → Reason s d (outcome_number o)
  unfolding outcome_number number_of_unfound
  reason (Found row i k) h = (row, i, k, h)
  reason (Unsound number index) h = absurd h
  reason NoFunction h = h
  reason (Dispute i j) h = (i, j, h)
  reason (NoRow i) h = (i, h)

  pub number_tells : verdict s ≡ Accepted → (number : ℕ) → outcome_number (outcome d (functions_of s)) ≡ number → Reason s d number
  number_tells e number is = subst (Reason s d) is (reason (outcome d (functions_of s)) ((outcome_exactly_when s d e _).0 refl))

  -- where two cover, there are the two lowest that do
  lowest-of : SomeTwoCover s d → CoverCase s d → (i : ℕ) × (j : ℕ) × LowestTwo s d i j
  lowest-of two (none_covers h) = absurd (h _ two.3)
  lowest-of two (only_covers i h) = let (a, b, less, here, there) = two in absurd (omega (arith, h.1 a here, h.1 b there))
  lowest-of two (lowest_cover i j h) = (i, j, h)

  pub lowest_two : SomeTwoCover s d → (i : ℕ) × (j : ℕ) × LowestTwo s d i j
  lowest_two two = lowest-of two (cover-decided s d)

  -- functions of a sorted section lie apart
  pub two_unsorted : verdict s ≡ Accepted → SomeTwoCover s d → (layout_of s).sorted ≡ false
  two_unsorted e two =
      let (i, j, less, here, there) = two in
      unless_true (layout_of s).sorted λ set.
      clash_ℤ (<ℤ-≤ℤ_trans here.2 ((accepted_laws s e).apart set i j less there.0)) there.1
