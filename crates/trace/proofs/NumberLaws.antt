-- The numbers of a trace: no two causes have one (`trace_distinct`).
-- Assumes nothing.
use mathlib.Core.Path.{◌≡◌, refl, sym, ◌∙◌, ap}
use mathlib.Core.List.{List, [], ◌∷◌}
use Prim.Native.Nat.{ℕ, ◌-◌, ◌≤◌}
use native.Mathlib.Omega.{arith}
use lib.ListN.{get_or}
use Rattle.accept.specs.declared.verdict.Rule.{Rule}
use Rattle.accept.proofs.CauseLaws.{Distinct}
use Rattle.accept.proofs.Exactly.{number_of_rule_lem, by_number}
use Rattle.caller.specs.Numbers.{Refusal, number_of_step_cause}
use Rattle.caller.proofs.NumberLaws.{number_of_refusal_lem, same_refusal}
use Rattle.trace.specs.Numbers.{TraceCause, window, limit_above, too_few_words, unsound, refused, outermost, full, number_of_trace_cause}

-- the causes that are neither a rule nor a step's own, from 30 on; where a number has none, the one before it is repeated
others : List TraceCause
others = outermost ∷ full ∷ full ∷ full ∷ full ∷ full ∷ full ∷ full ∷ full ∷ full ∷ full ∷ window ∷ limit_above ∷ too_few_words ∷ []

abbrev other_of : ℕ → TraceCause
unfolding others
other_of number = get_or others (number - 30) window

data AtItsNumber (cause : TraceCause) : Type 0 where
  of_section : (rule : Rule) → cause ≡ unsound rule → AtItsNumber cause
  of_step : (refusal : Refusal) → cause ≡ refused refusal → AtItsNumber cause
  of_trace : 30 ≤ number_of_trace_cause cause → other_of (number_of_trace_cause cause) ≡ cause → AtItsNumber cause

at_its_number : (cause : TraceCause) → AtItsNumber cause
unfolding other_of number_of_trace_cause number_of_step_cause
at_its_number window = of_trace (omega arith) refl
at_its_number limit_above = of_trace (omega arith) refl
at_its_number too_few_words = of_trace (omega arith) refl
at_its_number (unsound rule) = of_section rule refl
at_its_number (refused refusal) = of_step refusal refl
at_its_number outermost = of_trace (omega arith) refl
at_its_number full = of_trace (omega arith) refl

same_cause : (cause other : TraceCause) → number_of_trace_cause cause ≡ number_of_trace_cause other → cause ≡ other
unfolding number_of_trace_cause
same_cause cause other e = by (at_its_number cause) (at_its_number other)
  where
    -- the numbers of two causes that are told
    numbers : {a b : TraceCause} → cause ≡ a → other ≡ b → number_of_trace_cause a ≡ number_of_trace_cause b
    numbers is too = sym (ap number_of_trace_cause is) ∙ e ∙ ap number_of_trace_cause too

    by : AtItsNumber cause → AtItsNumber other → cause ≡ other
    by (of_section rule is) (of_section also too) = is ∙ ap unsound (by_number rule also (numbers is too)) ∙ sym too
    by (of_section rule is) (of_step refusal too) = absurd (omega (arith, numbers is too, number_of_rule_lem rule, number_of_refusal_lem refusal))
    by (of_section rule is) (of_trace least found) = absurd (omega (arith, numbers is refl, number_of_rule_lem rule))
    by (of_step refusal is) (of_section rule too) = absurd (omega (arith, numbers is too, number_of_rule_lem rule, number_of_refusal_lem refusal))
    by (of_step refusal is) (of_step also too) = is ∙ ap refused (same_refusal refusal also (numbers is too)) ∙ sym too
    by (of_step refusal is) (of_trace least found) = absurd (omega (arith, numbers is refl, number_of_refusal_lem refusal))
    by (of_trace least found) (of_section rule too) = absurd (omega (arith, numbers refl too, number_of_rule_lem rule))
    by (of_trace least found) (of_step refusal too) = absurd (omega (arith, numbers refl too, number_of_refusal_lem refusal))
    by (of_trace least found) (of_trace also too) = sym found ∙ ap other_of e ∙ too

pub trace_distinct : Distinct number_of_trace_cause
unfolding number_of_trace_cause
trace_distinct = record { same = same_cause; above_0 = above }
  where
    at : (cause : TraceCause) → AtItsNumber cause → 1 ≤ number_of_trace_cause cause
    at cause (of_section rule is) = rw is (omega (arith, number_of_rule_lem rule))
    at cause (of_step refusal is) = rw is (omega (arith, number_of_refusal_lem refusal))
    at cause (of_trace least found) = omega arith

    above : (cause : TraceCause) → 1 ≤ number_of_trace_cause cause
    above cause = at cause (at_its_number cause)
