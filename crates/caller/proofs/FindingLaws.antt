-- What a step's lookup finds: in a section that obeys, what the lookup's own cases say (`finds_exactly_when`, `unfound_exactly_when`), and
-- what the lookup by itself answers (`answers_exactly_when`).
-- Assumes nothing.
use mathlib.Core.Path.{◌≡◌, ap}
use mathlib.Core.List.{List}
use mathlib.Core.Logic.Iff
use mathlib.Core.Logic.{◌⊎◌, ◌↔◌}
use Prim.Native.Nat.{ℕ, ◌<◌}
use native.Mathlib.Omega.{arith}
use Rattle.numbers.specs.Start.{distance}
use Rattle.section.specs.declared.row.Row.{Row}
use Rattle.accept.specs.Rules.{Obeys}
use Rattle.accept.specs.Computed.Checks.{verdict}
use Rattle.accept.specs.Verdict.{Accepted}
use Rattle.accept.proofs.Exactly.{accepted_exactly_when}
use Rattle.lookup.specs.Cases.{FoundCase, UnfoundCase}
use Rattle.lookup.specs.Finding.{finds, refuses, finding_of}
use Rattle.lookup.specs.Numbers.{Unfound, number_of_unfound, outcome_number}
use Rattle.lookup.specs.Computed.Answers.{answer_after, lookup_of, look_in}
use Rattle.lookup.specs.Outcome.{Outcome}
use Rattle.lookup.specs.Outcome.{Found, Unsound, NoFunction, Dispute, NoRow}
use Rattle.lookup.proofs.Exactly.{found_exactly_when}
use Rattle.lookup.proofs.NumberLaws as lookup
use Rattle.lookup.proofs.NumberLaws.{number_of_unfound_lem}

-- ---- the lookup's own answer, by any outcome

refuses_number : (o : Outcome) (number : ℕ) → 0 < number → (finding_of o ≡ refuses number) ↔ (outcome_number o ≡ number)
unfolding finding_of number_of_unfound outcome_number
refuses_number (Found row i k) number h = (λ e. absurd (let z : ◌≡◌ {A = ℕ} 0 1 = cc in omega arith), λ e. absurd (omega arith))
refuses_number (Unsound m i) number h = (λ e. cc, λ e. ap refuses e)
refuses_number NoFunction number h = (λ e. cc, λ e. ap refuses e)
refuses_number (Dispute i j) number h = (λ e. cc, λ e. ap refuses e)
refuses_number (NoRow i) number h = (λ e. cc, λ e. ap refuses e)

finds_row : (o : Outcome) (row : Row) (k : ℕ) → (finding_of o ≡ finds row k) ↔ ((i : ℕ) × (o ≡ Found row i k))
unfolding finding_of number_of_unfound
finds_row (Found other i j) row k = (λ e. (i, cc), λ h. let e = h.1 in cc)
finds_row (Unsound m i) row k = (λ e. absurd (let z : ◌≡◌ {A = ℕ} 0 1 = cc in omega arith), λ h. let e = h.1 in cc)
finds_row NoFunction row k = (λ e. absurd (let z : ◌≡◌ {A = ℕ} 0 1 = cc in omega arith), λ h. let e = h.1 in cc)
finds_row (Dispute i j) row k = (λ e. absurd (let z : ◌≡◌ {A = ℕ} 0 1 = cc in omega arith), λ h. let e = h.1 in cc)
finds_row (NoRow i) row k = (λ e. absurd (let z : ◌≡◌ {A = ℕ} 0 1 = cc in omega arith), λ h. let e = h.1 in cc)

module _ (s : List ℕ) (obeys : Obeys s) (address pc : ℕ) where
  accepted : verdict s ≡ Accepted
  accepted = (accepted_exactly_when s).1 obeys

  look_is : look_in s address pc ≡ finding_of (lookup_of s address pc).outcome
  unfolding look_in lookup_of answer_after
  look_is = rw accepted

  pub answers_exactly_when : (row : Row) (k : ℕ) → (look_in s address pc ≡ finds row k) ↔ ((i : ℕ) × ((lookup_of s address pc).outcome ≡ Found row i k))
  answers_exactly_when row k = rw look_is (finds_row (lookup_of s address pc).outcome row k)

  pub finds_exactly_when : (row : Row) (k : ℕ) → (look_in s address pc ≡ finds row k) ↔ ((i : ℕ) × FoundCase s (distance address pc) row i k)
  finds_exactly_when row k =
      Iff.trans (answers_exactly_when row k) (
        λ h. (h.0, (found_exactly_when s accepted address pc row h.0 k).0 h.1),
        λ h. (h.0, (found_exactly_when s accepted address pc row h.0 k).1 h.1),
      )

  pub unfound_exactly_when : (why : Unfound) → (look_in s address pc ≡ refuses (number_of_unfound why)) ↔ UnfoundCase s (distance address pc) why
  unfound_exactly_when why =
      Iff.trans
      (rw look_is (refuses_number (lookup_of s address pc).outcome (number_of_unfound why) (omega (arith, number_of_unfound_lem why))))
      (lookup.unfound_exactly_when s accepted address pc why)

  pub looked_up : ((row : Row) × (i : ℕ) × (k : ℕ) × FoundCase s (distance address pc) row i k)
      ⊎ ((why : Unfound) × UnfoundCase s (distance address pc) why)
  looked_up = lookup.found_or_unfound s accepted address pc
