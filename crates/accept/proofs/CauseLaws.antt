-- The numbers of a call and their causes, over any enumeration of causes in which no two have one number: a call whose number is always
-- due gives each number exactly when it is due. And the numbers of a check.
-- Assumes nothing.
use mathlib.Core.Path.{◌≡◌, refl, sym, ◌∙◌, ap, subst}
use mathlib.Core.List.{List, [], ◌∷◌}
use mathlib.Core.Logic.{◌⊎◌, inl, inr, ◌↔◌, ⊎_elim}
use Prim.Native.Nat.{ℕ, ◌<◌}
use native.Mathlib.Omega.{arith}
use Rattle.accept.specs.Given.{number_of_rule, verdict_number, verdict_indexes, Given, BrokenFirst}
use Rattle.accept.specs.declared.verdict.Rule.{Rule}
use Rattle.accept.specs.Computed.Checks.{verdict}
use Rattle.accept.specs.Verdict.{Verdict, Accepted, Refused}
use Rattle.accept.proofs.Exactly.{accepted_exactly_when, given_exactly_when, refused_by_a_rule, obeys_or_refusal, number_of_rule_lem, by_number}

module _ {Cause : Type 0} (number_of : Cause → ℕ) where
  -- no two causes have one number, and none has 0
  pub record Distinct : Type 0 where
    pub same : (cause other : Cause) → number_of cause ≡ number_of other → cause ≡ other
    pub above_0 : (cause : Cause) → 0 < number_of cause

  -- the number is 0, or that of a cause that holds
  abbrev pub Due : ℕ → (Cause → Type 0) → Type 0
  Due number On = (number ≡ 0) ⊎ ((cause : Cause) × (number ≡ number_of cause) × On cause)

  module _ (distinct : Distinct) (number : ℕ) (On : Cause → Type 0) where
    pub due_exactly_when : Due number On → ((cause : Cause) → On cause → number ≡ number_of cause) → (cause : Cause) → (number ≡ number_of cause) ↔ On cause
    due_exactly_when due makes cause = (λ e. by e due, makes cause)
      where
        by : number ≡ number_of cause → Due number On → On cause
        by e (inl none) = absurd (omega (arith, distinct.above_0 cause))
        by e (inr (other, is, on)) = rw (distinct.same cause other (sym e ∙ is)) on

-- ---- a check

pub rules_distinct : Distinct number_of_rule
rules_distinct = record { same = by_number; above_0 = λ rule. omega (arith, number_of_rule_lem rule) }

check_makes : (s : List ℕ) (rule : Rule) → BrokenFirst s rule → verdict_number (verdict s) ≡ number_of_rule rule
unfolding verdict_number
check_makes s rule (index, given) = ap verdict_number ((given_exactly_when s rule index).1 given)

pub check_due : (s : List ℕ) → Due number_of_rule (verdict_number (verdict s)) (BrokenFirst s)
unfolding verdict_number
check_due s =
    ⊎_elim
    (λ obeys. inl (ap verdict_number ((accepted_exactly_when s).1 obeys)))
    (λ refusal. let (rule, index, given) = refusal in inr (rule, check_makes s rule (index, given), (index, given)))
    (obeys_or_refusal s)

-- 1 to 15: each is given exactly when its rule is the first broken one
pub check_given : (s : List ℕ) (rule : Rule) → (verdict_number (verdict s) ≡ number_of_rule rule) ↔ BrokenFirst s rule
check_given s = due_exactly_when number_of_rule rules_distinct (verdict_number (verdict s)) (BrokenFirst s) (check_due s) (check_makes s)

-- "the entry's index" is that of the rule that is the first broken one
pub check_index : (s : List ℕ) (index : ℕ) → (verdict_indexes (verdict s) ≡ index ∷ []) ↔ ((rule : Rule) × Given s rule index)
unfolding verdict_indexes
check_index s index = (by (verdict s) refl, λ h. ap verdict_indexes ((given_exactly_when s h.0 index).1 h.1))
  where
    by : (v : Verdict) → verdict s ≡ v → verdict_indexes v ≡ index ∷ [] → (rule : Rule) × Given s rule index
    by Accepted e is = absurd (let z : ◌≡◌ {A = ℕ} 0 1 = cc in omega arith)
    by (Refused number other) e is =
        let same : other ≡ index = cc in
        let broken = refused_by_a_rule s number other e in
        (broken.0, subst (Given s broken.0) same broken.2)
