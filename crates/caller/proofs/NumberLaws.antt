-- The numbers of a step: no two causes have one, and each is given exactly when its cause holds (`step_given`). And a caller has no mark,
-- whatever a lookup finds (`caller-handed`).
-- Assumes nothing.
use mathlib.Core.Path.{◌≡◌, refl, sym, ◌∙◌, ap, subst}
use mathlib.Core.List.{List, [], ◌∷◌}
use mathlib.Core.Logic.{◌⊎◌, inl, inr, ◌↔◌, ⊎_elim}
use Prim.Native.Nat.{ℕ, ◌-◌, ◌≤◌}
use native.Mathlib.Omega.{arith}
use lib.ListN.{get_or}
use Rattle.std.specs.Prelude.{Option, Some, None, Result, Ok, Err}
use Rattle.numbers.specs.Computed.Address.{in_memory}
use Rattle.section.specs.declared.row.Row.{Row}
use Rattle.section.specs.declared.shape.Shape.{Shape}
use Rattle.accept.specs.Given.{number_of_rule}
use Rattle.accept.proofs.CauseLaws.{Distinct, Due, due_exactly_when}
use Rattle.accept.proofs.Exactly.{number_of_rule_lem, by_number}
use Rattle.lookup.specs.Finding.{Finding, finds, refuses}
use Rattle.lookup.specs.Numbers.{Unfound}
use Rattle.lookup.proofs.CoveringLaws.{by_value}
use Rattle.lookup.proofs.NumberLaws.{same_unfound, number_of_unfound_lem}
use Rattle.caller.specs.Cases.{OnStep, Case, CallerCase}
use Rattle.caller.specs.Frame.{asked_of, cfa_of, caller_sp}
use Rattle.caller.specs.Numbers.{Refusal, unfound, signed, cfa_outside, cfa_low, ra_lost, word_outside, number_of_refusal, StepCause, window, unsound, refused, number_of_step_cause, step_number}
use Rattle.caller.specs.Signature.{mask_of}
use Rattle.caller.specs.Computed.Caller.{is_maskless, is_low, is_lost, spot_of, values_of, with_finding, unless_maskless, with_cfa, unless_low, unless_lost, with_values, from_spots, from_cfa, from_row, from_finding, look_at, step_of, step_in}
use Rattle.caller.specs.declared.place.Spot.{Spot}
use Rattle.caller.specs.declared.place.Values.{Values}
use Rattle.caller.specs.declared.place.Needed.{Needed}
use Rattle.caller.specs.declared.registers.Registers.{Registers}
use Rattle.caller.specs.Step.{Step}
use Rattle.caller.specs.Step.{Caller, Unsound, Refused}
use Rattle.caller.specs.declared.registers.Process.{Process}
use Rattle.caller.proofs.StepLaws.{step_exactly_when}

-- ---- no two causes have one number

-- the refusals by a row, from 24 on
by_row : List Refusal
by_row = signed ∷ cfa_outside ∷ cfa_low ∷ ra_lost ∷ word_outside ∷ []

abbrev refusal_of : ℕ → Refusal
unfolding by_row
refusal_of number = get_or by_row (number - 24) signed

-- a refusal is the lookup's, or is found by its number
abbrev AtItsNumber : Refusal → Type 0
AtItsNumber refusal =
    ((why : Unfound) × (refusal ≡ unfound why))
    ⊎ ((24 ≤ number_of_refusal refusal) × (number_of_refusal refusal ≤ 28) × (refusal_of (number_of_refusal refusal) ≡ refusal))

at_its_number : (refusal : Refusal) → AtItsNumber refusal
unfolding refusal_of number_of_refusal
at_its_number (unfound why) = inl (why, refl)
at_its_number signed = inr (omega arith, omega arith, refl)
at_its_number cfa_outside = inr (omega arith, omega arith, refl)
at_its_number cfa_low = inr (omega arith, omega arith, refl)
at_its_number ra_lost = inr (omega arith, omega arith, refl)
at_its_number word_outside = inr (omega arith, omega arith, refl)

-- 21 to 28
pub number_of_refusal_lem : (refusal : Refusal) → (21 ≤ number_of_refusal refusal) × (number_of_refusal refusal ≤ 28)
unfolding number_of_refusal
number_of_refusal_lem refusal =
    ⊎_elim
    (λ h. let (why, is) = h in rw is (omega (arith, number_of_unfound_lem why)))
    (λ h. (omega (arith, h.0), h.1))
    (at_its_number refusal)

pub same_refusal : (refusal other : Refusal) → number_of_refusal refusal ≡ number_of_refusal other → refusal ≡ other
unfolding number_of_refusal
same_refusal refusal other e = by (at_its_number refusal) (at_its_number other)
  where
    by : AtItsNumber refusal → AtItsNumber other → refusal ≡ other
    by (inl (why, is)) (inl (also, too)) =
        is ∙ ap unfound (same_unfound why also (sym (ap number_of_refusal is) ∙ e ∙ ap number_of_refusal too)) ∙ sym too
    by (inl (why, is)) (inr (least, most, found)) =
        absurd (let same = sym (ap number_of_refusal is) ∙ e in omega (arith, same, number_of_unfound_lem why))
    by (inr (least, most, found)) (inl (why, is)) =
        absurd (let same = e ∙ ap number_of_refusal is in omega (arith, same, number_of_unfound_lem why))
    by (inr (least, most, found)) (inr (also, too, here)) = sym found ∙ ap refusal_of e ∙ here

same_cause : (cause other : StepCause) → number_of_step_cause cause ≡ number_of_step_cause other → cause ≡ other
unfolding number_of_step_cause
same_cause window window e = refl
same_cause window (unsound rule) e = absurd (omega (arith, number_of_rule_lem rule, e))
same_cause window (refused refusal) e = absurd (omega (arith, number_of_refusal_lem refusal, e))
same_cause (unsound rule) window e = absurd (omega (arith, number_of_rule_lem rule, e))
same_cause (unsound rule) (unsound other) e = ap unsound (by_number rule other e)
same_cause (unsound rule) (refused refusal) e = absurd (omega (arith, number_of_rule_lem rule, number_of_refusal_lem refusal, e))
same_cause (refused refusal) window e = absurd (omega (arith, number_of_refusal_lem refusal, e))
same_cause (refused refusal) (unsound rule) e = absurd (omega (arith, number_of_rule_lem rule, number_of_refusal_lem refusal, e))
same_cause (refused refusal) (refused other) e = ap refused (same_refusal refusal other e)

pub step_distinct : Distinct number_of_step_cause
unfolding number_of_step_cause
step_distinct = record { same = same_cause; above_0 = above }
  where
    above : (cause : StepCause) → 1 ≤ number_of_step_cause cause
    above window = omega arith
    above (unsound rule) = omega (arith, number_of_rule_lem rule)
    above (refused refusal) = omega (arith, number_of_refusal_lem refusal)

-- ---- by number

module _ (s stack : List ℕ) (process : Process) (registers : Registers) where
  abbrev number : ℕ
  number = step_number (step_in s stack process registers)

  -- what a cause that holds makes of the answer
  step-makes : (cause : StepCause) → OnStep s stack process registers cause → number ≡ number_of_step_cause cause
  unfolding step_number number_of_step_cause
  step-makes window on = ap step_number ((step_exactly_when s stack process registers (Refused registers 41)).1 (refl, inl (refl, on)))
  step-makes (unsound rule) (fits, (index, given)) =
      ap step_number ((step_exactly_when s stack process registers (Unsound registers (number_of_rule rule) index)).1 (refl, (fits, rule, refl, given)))
  step-makes (refused refusal) on =
      ap step_number ((step_exactly_when s stack process registers (Refused registers (number_of_refusal refusal))).1 (refl, inr (refusal, refl, on)))

  -- there is a caller, or a cause holds
  pub caller_or_cause : ((caller : Registers) × CallerCase s stack process registers caller)
      ⊎ ((cause : StepCause) × OnStep s stack process registers cause)
  caller_or_cause = by (step_in s stack process registers) ((step_exactly_when s stack process registers _).0 refl)
    where
      by : (o : Step) → Case s stack process registers o
          → ((caller : Registers) × CallerCase s stack process registers caller) ⊎ ((cause : StepCause) × OnStep s stack process registers cause)
      by (Caller caller) case = inl (caller, case)
      by (Unsound old n index) (same, (fits, rule, is, given)) = inr (unsound rule, (fits, (index, given)))
      by (Refused old n) (same, inl (is, past)) = inr (window, past)
      by (Refused old n) (same, inr (refusal, is, on)) = inr (refused refusal, on)

  pub step_due : Due number_of_step_cause number (OnStep s stack process registers)
  unfolding step_number
  step_due =
      ⊎_elim
      (λ h. inl (ap step_number ((step_exactly_when s stack process registers (Caller h.0)).1 h.1)))
      (λ h. inr (h.0, step-makes h.0 h.1, h.1))
      caller_or_cause

  -- 41, 1 to 15 and 21 to 28: each is given exactly when its cause holds
  pub step_given : (cause : StepCause) → (number ≡ number_of_step_cause cause) ↔ OnStep s stack process registers cause
  step_given = due_exactly_when number_of_step_cause step_distinct number (OnStep s stack process registers) step_due step-makes

-- ---- a caller has no mark, and LR as it was

abbrev HandedOn : Registers → Step → Type 0
HandedOn old (Caller caller) = (caller.first ≡ 0) × (caller.lr ≡ old.lr)
HandedOn old (Unsound registers number index) = Unit {0}
HandedOn old (Refused registers number) = Unit {0}

module _ (shape : Shape) (stack : List ℕ) (process : Process) (registers : Registers) where
  values-handed : (mask cfa : ℕ) (values : Result Values Needed) → HandedOn registers (with_values registers mask cfa values)
  unfolding with_values
  values-handed mask cfa (Err word) = tt
  values-handed mask cfa (Ok values) = (refl, refl)

  spots-handed : (mask cfa : ℕ) (ra fp : Spot) → HandedOn registers (from_spots shape stack process registers mask cfa ra fp)
  unfolding from_spots unless_lost
  spots-handed mask cfa ra fp =
      by_value (is_lost registers ra)
      (λ e. rw (e, unless_lost) tt)
      (λ e. rw (e, unless_lost) (values-handed mask cfa (values_of stack process.stack shape.order registers ra fp)))

  cfa-handed : (row : Row) (cfa : ℕ) → HandedOn registers (from_cfa shape stack process registers row cfa)
  unfolding from_cfa unless_low
  cfa-handed row cfa =
      by_value (is_low registers (caller_sp cfa))
      (λ e. rw (e, unless_low) tt)
      (λ e. rw (e, unless_low) (spots-handed (mask_of shape row process) cfa (spot_of cfa row.ra) (spot_of cfa row.fp)))

  memory-handed : (row : Row) (a : Option ℕ) → HandedOn registers (with_cfa registers a (from_cfa shape stack process registers row))
  unfolding with_cfa
  memory-handed row None = tt
  memory-handed row (Some cfa) = cfa-handed row cfa

  row-handed : (row : Row) → HandedOn registers (from_row shape stack process registers row)
  unfolding from_row unless_maskless
  row-handed row =
      by_value (is_maskless shape row process)
      (λ e. rw (e, unless_maskless) tt)
      (λ e. rw (e, unless_maskless) (memory-handed row (in_memory (cfa_of registers row))))

  finding-handed : (found : Finding) → HandedOn registers (from_finding shape stack process registers found)
  unfolding from_finding with_finding
  finding-handed (finds row number) = row-handed row
  finding-handed (refuses number) = tt

  module _ (look : ℕ → Finding) (caller : Registers) (is : step_of shape look stack process registers ≡ Caller caller) where
    handed : (caller.first ≡ 0) × (caller.lr ≡ registers.lr)
    unfolding step_of
    handed = subst (HandedOn registers) is (finding-handed (look_at look (asked_of registers)))

    pub caller_unmarked : caller.first ≡ 0
    caller_unmarked = handed.0

    pub caller_keeps_lr : caller.lr ≡ registers.lr
    caller_keeps_lr = handed.1
