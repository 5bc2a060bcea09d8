-- The answer that an explanation is of: of a lookup its outcome, and of a step the caller or the refusal with the old registers.
use Rattle.std.specs.Prelude.{ℕ, get_or, Result, Ok, Err}
use Rattle.lookup.specs.Numbers.{no_function, dispute, no_row}
use Rattle.lookup.specs.Outcome.{Outcome}
use Rattle.lookup.specs.Outcome as outcome
use Rattle.caller.specs.Numbers.{unfound, signed, cfa_outside, cfa_low, ra_lost, word_outside, number_of_refusal, window, number_of_step_cause}
use Rattle.caller.specs.declared.registers.Registers.{Registers}
use Rattle.caller.specs.Step.{Step}
use Rattle.caller.specs.Step.{Caller, Unsound, Refused}
use Rattle.explain.specs.LookupReason.{LookupReason, LookupWhy}
use Rattle.explain.specs.LookupReason as lookup
use Rattle.explain.specs.StepReason.{StepReason, StepWhy}
use Rattle.explain.specs.StepReason as step
use Rattle.explain.specs.declared.why.Coverers.{Coverers}
use Rattle.explain.specs.declared.why.FoundRow.{FoundRow}
use Rattle.explain.specs.declared.why.NotFound.{NotFound}
use Rattle.explain.specs.declared.why.NotFound.TheVariants as missing
use Rattle.explain.specs.declared.why.RowReason.{RowReason}
use Rattle.explain.specs.declared.why.RowReason.TheVariants as row

-- ---- a lookup

-- of a dispute the two lowest, which are the first two that the explanation hands out
unfoldable pub outcome_missing : Coverers → NotFound → Outcome
outcome_missing coverers (missing.NoFunction below above) = outcome.NoFunction
outcome_missing coverers missing.Dispute = outcome.Dispute (get_or coverers.indexes 0 0) (get_or coverers.indexes 1 0)
outcome_missing coverers (missing.NoRow function offset first) = outcome.NoRow function

unfoldable pub outcome_looked : Coverers → Result FoundRow NotFound → Outcome
outcome_looked coverers (Ok found) = outcome.Found found.row found.function found.number
outcome_looked coverers (Err why) = outcome_missing coverers why

unfoldable pub outcome_reason : Coverers → LookupReason → Outcome
outcome_reason coverers (lookup.Unsound number index) = outcome.Unsound number index
outcome_reason coverers (lookup.Accepted why) = outcome_looked coverers why

unfoldable pub outcome_why : LookupWhy → Outcome
outcome_why why = outcome_reason why.coverers why.reason

-- ---- a step

unfoldable pub number_missing : NotFound → ℕ
number_missing (missing.NoFunction below above) = number_of_refusal (unfound no_function)
number_missing missing.Dispute = number_of_refusal (unfound dispute)
number_missing (missing.NoRow function offset first) = number_of_refusal (unfound no_row)

unfoldable pub step_row : Registers → RowReason → Step
step_row registers (row.Caller caller cfa ra) = Caller caller
step_row registers (row.Signed bit mask) = Refused registers (number_of_refusal signed)
step_row registers (row.CfaOutside base offset) = Refused registers (number_of_refusal cfa_outside)
step_row registers (row.CfaLow callersp sp first) = Refused registers (number_of_refusal cfa_low)
step_row registers (row.RaLost first) = Refused registers (number_of_refusal ra_lost)
step_row registers (row.WordOutside word cfa offset lies size) = Refused registers (number_of_refusal word_outside)

unfoldable pub step_reason : Registers → StepReason → Step
step_reason registers (step.Window lies size) = Refused registers (number_of_step_cause window)
step_reason registers (step.Unsound number index) = Unsound registers number index
step_reason registers step.NothingAsked = Refused registers (number_of_refusal (unfound no_function))
step_reason registers (step.NotFound pc why) = Refused registers (number_missing why)
step_reason registers (step.FromRow found reason pc) = step_row registers reason

unfoldable pub step_why_answer : Registers → StepWhy → Step
step_why_answer registers why = step_reason registers why.reason
