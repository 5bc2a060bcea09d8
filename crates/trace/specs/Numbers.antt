-- The numbers of a trace (SPECIFICATION 6.2 to 6.8): why it is refused or ends, by name, and document 01's number of each cause; and
-- of each ending the number and what it carries.
use Rattle.std.specs.Prelude.{ℕ, List, [], ◌∷◌}
use Rattle.accept.specs.Given.{number_of_rule}
use Rattle.accept.specs.declared.verdict.Rule.{Rule}
use Rattle.caller.specs.Numbers as step
use Rattle.caller.specs.Numbers.{Refusal, number_of_refusal, number_of_step_cause}
use Rattle.trace.specs.Ending.{Ending}
use Rattle.trace.specs.Ending.{Outermost, Full, Refused, Shut, Unsound}

-- ---- causes

-- "Before anything else, in order: 41 ..; 42 ..; 43 ..; then 1 to 15."; the step's own, 21 to 28; 30 and 31
pub data TraceCause : Type 0 where
  window : TraceCause
  limit_above : TraceCause
  too_few_words : TraceCause
  unsound : Rule → TraceCause
  refused : Refusal → TraceCause
  outermost : TraceCause
  full : TraceCause

-- 41 is one caller's
unfoldable pub number_of_trace_cause : TraceCause → ℕ
number_of_trace_cause window = number_of_step_cause step.window
number_of_trace_cause limit_above = 42
number_of_trace_cause too_few_words = 43
number_of_trace_cause (unsound rule) = number_of_rule rule
number_of_trace_cause (refused refusal) = number_of_refusal refusal
number_of_trace_cause outermost = 30
number_of_trace_cause full = 31

-- ---- endings

unfoldable pub ending_number : Ending → ℕ
ending_number Outermost = number_of_trace_cause outermost
ending_number Full = number_of_trace_cause full
ending_number (Refused number) = number
ending_number (Shut number) = number
ending_number (Unsound number index) = number

-- "for 1 to 15 the entry's index"
unfoldable pub ending_indexes : Ending → List ℕ
ending_indexes Outermost = []
ending_indexes Full = []
ending_indexes (Refused number) = []
ending_indexes (Shut number) = []
ending_indexes (Unsound number index) = index ∷ []
