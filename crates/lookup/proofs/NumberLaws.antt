-- The numbers of a lookup: each is given exactly when its cause holds (`lookup_given`), and what the indexes and the row of an answer say.
-- Assumes nothing.
use mathlib.Core.Path.{◌≡◌, refl, sym, ◌∙◌, ap}
use mathlib.Core.List.{List, [], ◌∷◌}
use mathlib.Core.Logic.{◌⊎◌, inl, inr, ◌↔◌, ⊎_elim}
use Prim.Native.Nat.{ℕ, ◌-◌, ◌≤◌}
use native.Mathlib.Omega.{arith}
use lib.ListN.{get_or}
use Rattle.numbers.specs.Start.{distance}
use Rattle.section.specs.declared.row.Row.{Row}
use Rattle.accept.specs.Given.{number_of_rule}
use Rattle.accept.specs.Rules.{Obeys}
use Rattle.accept.specs.Computed.Checks.{verdict}
use Rattle.accept.specs.Verdict.{Accepted}
use Rattle.accept.proofs.CauseLaws.{Distinct, Due, due_exactly_when}
use Rattle.accept.proofs.Exactly.{accepted_exactly_when, given_exactly_when, obeys_or_refusal, number_of_rule_lem, by_number}
use Rattle.lookup.specs.Cases.{NoneCovers, OnlyCovers, LowestTwo, FoundCase, Case, UnfoundCase, OnLookup}
use Rattle.lookup.specs.Numbers.{Unfound, no_function, dispute, no_row, number_of_unfound, LookupCause, unsound, unfound, number_of_lookup_cause, outcome_number, outcome_indexes, outcome_row}
use Rattle.lookup.specs.Computed.Answers.{lookup_of}
use Rattle.lookup.specs.Outcome.{Outcome}
use Rattle.lookup.specs.Outcome.{Found, Unsound, NoFunction, Dispute, NoRow}
use Rattle.lookup.proofs.Exactly.{answer_exactly_when, number_21_exactly_when, number_22_exactly_when, number_23_exactly_when, unsound_exactly_when}

-- ---- no two causes have one number

unfounds : List Unfound
unfounds = no_function ∷ dispute ∷ no_row ∷ []

abbrev unfound_of : ℕ → Unfound
unfolding unfounds
unfound_of number = get_or unfounds (number - 21) no_function

at_its_number : (why : Unfound) → unfound_of (number_of_unfound why) ≡ why
unfolding unfound_of number_of_unfound
at_its_number no_function = refl
at_its_number dispute = refl
at_its_number no_row = refl

pub same_unfound : (why other : Unfound) → number_of_unfound why ≡ number_of_unfound other → why ≡ other
same_unfound why other e = sym (at_its_number why) ∙ ap unfound_of e ∙ at_its_number other

pub number_of_unfound_lem : (why : Unfound) → (21 ≤ number_of_unfound why) × (number_of_unfound why ≤ 23)
unfolding number_of_unfound
number_of_unfound_lem no_function = omega arith
number_of_unfound_lem dispute = omega arith
number_of_unfound_lem no_row = omega arith

same_cause : (cause other : LookupCause) → number_of_lookup_cause cause ≡ number_of_lookup_cause other → cause ≡ other
unfolding number_of_lookup_cause
same_cause (unsound rule) (unsound other) e = ap unsound (by_number rule other e)
same_cause (unsound rule) (unfound why) e = absurd (omega (arith, number_of_rule_lem rule, number_of_unfound_lem why, e))
same_cause (unfound why) (unsound rule) e = absurd (omega (arith, number_of_rule_lem rule, number_of_unfound_lem why, e))
same_cause (unfound why) (unfound other) e = ap unfound (same_unfound why other e)

pub lookup_distinct : Distinct number_of_lookup_cause
unfolding number_of_lookup_cause
lookup_distinct = record { same = same_cause; above_0 = above }
  where
    above : (cause : LookupCause) → 1 ≤ number_of_lookup_cause cause
    above (unsound rule) = omega (arith, number_of_rule_lem rule)
    above (unfound why) = omega (arith, number_of_unfound_lem why)

-- ---- an accepted section, and d, "PC minus section address"

module _ (s : List ℕ) (accepted : verdict s ≡ Accepted) (address pc : ℕ) where
  -- "21", "22", "23", each under its own case
  pub unfound_exactly_when : (why : Unfound)
      → (outcome_number (lookup_of s address pc).outcome ≡ number_of_unfound why) ↔ UnfoundCase s (distance address pc) why
  unfolding number_of_unfound
  unfound_exactly_when no_function = number_21_exactly_when s accepted address pc
  unfound_exactly_when dispute = number_22_exactly_when s accepted address pc
  unfound_exactly_when no_row = number_23_exactly_when s accepted address pc

  -- a row, or why there is none
  pub found_or_unfound : ((row : Row) × (i : ℕ) × (k : ℕ) × FoundCase s (distance address pc) row i k)
      ⊎ ((why : Unfound) × UnfoundCase s (distance address pc) why)
  found_or_unfound = by (lookup_of s address pc).outcome ((answer_exactly_when s accepted address pc _).0 refl)
    where
      by : (o : Outcome) → Case s (distance address pc) o
          → ((row : Row) × (i : ℕ) × (k : ℕ) × FoundCase s (distance address pc) row i k) ⊎ ((why : Unfound) × UnfoundCase s (distance address pc) why)
      by (Found row i k) case = inl (row, i, k, case)
      by (Unsound number index) case = absurd case
      by NoFunction case = inr (no_function, case)
      by (Dispute i j) case = inr (dispute, (i, j, case.0, case.1, case.2))
      by (NoRow i) case = inr (no_row, (i, case))

  -- ---- the values of an answer

  -- "no index is returned"
  pub no_index_exactly_when : (outcome_indexes (lookup_of s address pc).outcome ≡ []) ↔ NoneCovers s (distance address pc)
  unfolding outcome_indexes
  no_index_exactly_when = (
    by (lookup_of s address pc).outcome ((answer_exactly_when s accepted address pc _).0 refl),
    λ none. ap outcome_indexes ((answer_exactly_when s accepted address pc NoFunction).1 none),
  )
    where
      by : (o : Outcome) → Case s (distance address pc) o → outcome_indexes o ≡ [] → NoneCovers s (distance address pc)
      by (Found row i k) case is = absurd (let z : ◌≡◌ {A = ℕ} 0 1 = cc in omega arith)
      by (Unsound number index) case is = absurd case
      by NoFunction case is = case
      by (Dispute i j) case is = absurd (let z : ◌≡◌ {A = ℕ} 0 1 = cc in omega arith)
      by (NoRow i) case is = absurd (let z : ◌≡◌ {A = ℕ} 0 1 = cc in omega arith)

  -- "the two lowest indexes are returned"
  pub two_indexes_exactly_when : (i j : ℕ)
      → (outcome_indexes (lookup_of s address pc).outcome ≡ i ∷ j ∷ []) ↔ LowestTwo s (distance address pc) i j
  unfolding outcome_indexes
  two_indexes_exactly_when i j = (
    by (lookup_of s address pc).outcome ((answer_exactly_when s accepted address pc _).0 refl),
    λ two. ap outcome_indexes ((answer_exactly_when s accepted address pc (Dispute i j)).1 two),
  )
    where
      by : (o : Outcome) → Case s (distance address pc) o → outcome_indexes o ≡ i ∷ j ∷ [] → LowestTwo s (distance address pc) i j
      by (Found row a k) case is = absurd (let z : ◌≡◌ {A = ℕ} 0 1 = cc in omega arith)
      by (Unsound number index) case is = absurd case
      by NoFunction case is = absurd (let z : ◌≡◌ {A = ℕ} 0 1 = cc in omega arith)
      by (Dispute a b) case is = let one : a ≡ i = cc in let two : b ≡ j = cc in rw (one, two) at case
      by (NoRow a) case is = absurd (let z : ◌≡◌ {A = ℕ} 0 1 = cc in omega arith)

  -- "with the function's index": where one function covers, whether it has a row there or not
  pub one_index_exactly_when : (i : ℕ)
      → (outcome_indexes (lookup_of s address pc).outcome ≡ i ∷ []) ↔ OnlyCovers s (distance address pc) i
  unfolding outcome_indexes
  one_index_exactly_when i = (
    by (lookup_of s address pc).outcome ((answer_exactly_when s accepted address pc _).0 refl),
    λ only. made only (lookup_of s address pc).outcome ((answer_exactly_when s accepted address pc _).0 refl),
  )
    where
      by : (o : Outcome) → Case s (distance address pc) o → outcome_indexes o ≡ i ∷ [] → OnlyCovers s (distance address pc) i
      by (Found row a k) case is = let one : a ≡ i = cc in rw one at case.only
      by (Unsound number index) case is = absurd case
      by NoFunction case is = absurd (let z : ◌≡◌ {A = ℕ} 0 1 = cc in omega arith)
      by (Dispute a b) case is = absurd (let z : ◌≡◌ {A = ℕ} 0 1 = cc in omega arith)
      by (NoRow a) case is = let one : a ≡ i = cc in rw one at case.only

      made : OnlyCovers s (distance address pc) i → (o : Outcome) → Case s (distance address pc) o → outcome_indexes o ≡ i ∷ []
      made only (Found row a k) case = ap (λ n. n ∷ []) (only.1 a case.only.0)
      made only (Unsound number index) case = absurd case
      made only NoFunction case = absurd (case i only.0)
      made only (Dispute a b) case =
          let one : a ≡ i = only.1 a case.1 in
          let two : b ≡ i = only.1 b case.2 in
          absurd (omega (arith, case.0))
      made only (NoRow a) case = ap (λ n. n ∷ []) (only.1 a case.only.0)

  -- "the row: its number in the function, start, base, offsets and signed bit"
  pub row_value_exactly_when : (row : Row) (k : ℕ)
      → (outcome_row (lookup_of s address pc).outcome ≡ (k, row) ∷ []) ↔ ((i : ℕ) × FoundCase s (distance address pc) row i k)
  unfolding outcome_row
  row_value_exactly_when row k = (
    by (lookup_of s address pc).outcome ((answer_exactly_when s accepted address pc _).0 refl),
    λ h. ap outcome_row ((answer_exactly_when s accepted address pc (Found row h.0 k)).1 h.1),
  )
    where
      by : (o : Outcome) → Case s (distance address pc) o → outcome_row o ≡ (k, row) ∷ [] → (i : ℕ) × FoundCase s (distance address pc) row i k
      by (Found other i j) case is =
          let number : j ≡ k = ap (λ (rows : List (ℕ × Row)). (get_or {A = ℕ × Row} rows 0 (0, row)).0) is in
          let same : other ≡ row = ap (λ (rows : List (ℕ × Row)). (get_or {A = ℕ × Row} rows 0 (0, row)).1) is in
          (i, rw (number, same) at case)
      by (Unsound number index) case is = absurd case
      by NoFunction case is = absurd (let z : ◌≡◌ {A = ℕ} 0 1 = cc in omega arith)
      by (Dispute i j) case is = absurd (let z : ◌≡◌ {A = ℕ} 0 1 = cc in omega arith)
      by (NoRow i) case is = absurd (let z : ◌≡◌ {A = ℕ} 0 1 = cc in omega arith)

-- ---- any section

module _ (s : List ℕ) (address pc : ℕ) where
  abbrev number : ℕ
  number = outcome_number (lookup_of s address pc).outcome

  lookup-makes : (cause : LookupCause) → OnLookup s (distance address pc) cause → number ≡ number_of_lookup_cause cause
  unfolding outcome_number number_of_unfound number_of_lookup_cause
  lookup-makes (unsound rule) (index, given) =
      ap outcome_number ((unsound_exactly_when s address pc (number_of_rule rule) index).1 ((given_exactly_when s rule index).1 given))
  lookup-makes (unfound why) (obeys, case) = (unfound_exactly_when s ((accepted_exactly_when s).1 obeys) address pc why).1 case

  -- a row is found, or a cause holds
  pub found_or_cause : (Obeys s × ((row : Row) × (i : ℕ) × (k : ℕ) × FoundCase s (distance address pc) row i k))
      ⊎ ((cause : LookupCause) × OnLookup s (distance address pc) cause)
  found_or_cause =
      ⊎_elim
      (λ obeys.
      ⊎_elim (λ found. inl (obeys, found)) (λ why. inr (unfound why.0, (obeys, why.1)))
      (found_or_unfound s ((accepted_exactly_when s).1 obeys) address pc))
      (λ refusal. let (rule, index, given) = refusal in inr (unsound rule, (index, given)))
      (obeys_or_refusal s)

  pub lookup_due : Due number_of_lookup_cause number (OnLookup s (distance address pc))
  unfolding outcome_number number_of_unfound
  lookup_due =
      ⊎_elim
      (λ found.
      let (obeys, (row, i, k, case)) = found in
      inl (ap outcome_number ((answer_exactly_when s ((accepted_exactly_when s).1 obeys) address pc (Found row i k)).1 case)))
      (λ due. let (cause, on) = due in inr (cause, lookup-makes cause on, on))
      found_or_cause

  -- 1 to 15 and 21 to 23: each is given exactly when its cause holds
  pub lookup_given : (cause : LookupCause) → (number ≡ number_of_lookup_cause cause) ↔ OnLookup s (distance address pc) cause
  lookup_given = due_exactly_when number_of_lookup_cause lookup_distinct number (OnLookup s (distance address pc)) lookup_due lookup-makes
