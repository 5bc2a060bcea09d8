-- The numbers of a step (SPECIFICATION 5.3 to 5.12): why there is no caller, by name, and document 01's number of each cause; and of
-- each answer the number and what it carries.
use Rattle.std.specs.Prelude.{ℕ, List, [], ◌∷◌}
use Rattle.accept.specs.Given.{number_of_rule}
use Rattle.accept.specs.declared.verdict.Rule.{Rule}
use Rattle.lookup.specs.Numbers.{Unfound, number_of_unfound}
use Rattle.caller.specs.declared.registers.Registers.{Registers}
use Rattle.caller.specs.Step.{Step}
use Rattle.caller.specs.Step.{Caller, Unsound, Refused}

-- ---- causes

-- the step's own, 21 to 28, in document 01's order: those of its lookup, and those of the row that it finds
pub data Refusal : Type 0 where
  unfound : Unfound → Refusal
  signed : Refusal
  cfa_outside : Refusal
  cfa_low : Refusal
  ra_lost : Refusal
  word_outside : Refusal

unfoldable pub number_of_refusal : Refusal → ℕ
number_of_refusal (unfound why) = number_of_unfound why
number_of_refusal signed = 24
number_of_refusal cfa_outside = 25
number_of_refusal cfa_low = 26
number_of_refusal ra_lost = 27
number_of_refusal word_outside = 28

-- "41 .. Then 1 to 15.", and then the step's own
pub data StepCause : Type 0 where
  window : StepCause
  unsound : Rule → StepCause
  refused : Refusal → StepCause

unfoldable pub number_of_step_cause : StepCause → ℕ
number_of_step_cause window = 41
number_of_step_cause (unsound rule) = number_of_rule rule
number_of_step_cause (refused refusal) = number_of_refusal refusal

-- ---- answers

-- 0 for a caller
unfoldable pub step_number : Step → ℕ
step_number (Caller caller) = 0
step_number (Unsound old number index) = number
step_number (Refused old number) = number

-- "for 1 to 15 the entry's index"
unfoldable pub step_indexes : Step → List ℕ
step_indexes (Caller caller) = []
step_indexes (Unsound old number index) = index ∷ []
step_indexes (Refused old number) = []

-- "the caller's registers are handed back; a refusal hands back the old ones"
unfoldable pub step_registers : Step → Registers
step_registers (Caller caller) = caller
step_registers (Unsound old number index) = old
step_registers (Refused old number) = old
