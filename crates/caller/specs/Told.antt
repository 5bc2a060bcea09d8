-- What a step's answer is in the document's numbers.
use Rattle.std.specs.Prelude.{ℕ, Result, Ok, Err}
use Rattle.accept.specs.Given.{number_of_rule}
use Rattle.caller.specs.Step.{Step, Caller, Refused}
use Rattle.caller.specs.Step as step
use Rattle.caller.specs.declared.registers.FrameCause.{FrameCause}
use Rattle.caller.specs.declared.registers.FrameCause.TheVariants.{NoFunction, Dispute, NoRow, Signed, CfaOutside, CfaLow, RaLost, WordOutside}
use Rattle.caller.specs.declared.registers.FrameRefusal.{FrameRefusal}
use Rattle.caller.specs.declared.registers.Registers.{Registers}
use Rattle.caller.specs.declared.registers.StepCause.{StepCause}
use Rattle.caller.specs.declared.registers.StepCause.TheVariants.{Window, Unsound, Frame}
use Rattle.caller.specs.declared.registers.StepRefusal.{StepRefusal}

-- ---- of a frame, in a section that was accepted

abbrev pub frame_number : FrameCause → ℕ
frame_number NoFunction = 21
frame_number Dispute = 22
frame_number NoRow = 23
frame_number Signed = 24
frame_number CfaOutside = 25
frame_number CfaLow = 26
frame_number RaLost = 27
frame_number WordOutside = 28

abbrev pub frame_told : Result Registers FrameRefusal → Step
frame_told (Ok registers) = Caller registers
frame_told (Err refusal) = Refused refusal.old (frame_number refusal.cause)

-- ---- of any bytes

abbrev pub cause_number : StepCause → ℕ
cause_number Window = 41
cause_number (Unsound refusal) = number_of_rule refusal.rule
cause_number (Frame cause) = frame_number cause

-- the index that it carries: the entry's for 1 to 15
abbrev pub cause_index : StepCause → ℕ
cause_index Window = 0
cause_index (Unsound refusal) = refusal.index
cause_index (Frame cause) = 0

abbrev pub refusal_told : Registers → StepCause → Step
refusal_told old Window = Refused old (cause_number Window)
refusal_told old (Unsound refusal) = step.Unsound old (number_of_rule refusal.rule) refusal.index
refusal_told old (Frame cause) = Refused old (frame_number cause)

abbrev pub step_told : Result Registers StepRefusal → Step
step_told (Ok registers) = Caller registers
step_told (Err refusal) = refusal_told refusal.old refusal.cause
