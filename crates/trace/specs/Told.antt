-- What a trace's answer is in the document's numbers.
use Rattle.std.specs.Prelude.{ℕ, Result, Ok, Err}
use Rattle.accept.specs.Fault.{Fault, Sound, Breaks}
use Rattle.accept.specs.Given.{number_of_rule}
use Rattle.caller.specs.Told.{frame_number}
use Rattle.trace.specs.Ending.{Ending, Traced}
use Rattle.trace.specs.Ending as ending
use Rattle.trace.specs.declared.answer.DoorFault.{DoorFault}
use Rattle.trace.specs.declared.answer.DoorFault.TheVariants.{Window, Limit, Words}
use Rattle.trace.specs.declared.answer.Ending as code
use Rattle.trace.specs.declared.answer.Ending.TheVariants.{Outermost, Full, Refused}
use Rattle.trace.specs.declared.answer.TraceRefusal.{TraceRefusal}
use Rattle.trace.specs.declared.answer.TraceRefusal.TheVariants.{Shut, Unsound}
use Rattle.trace.specs.declared.answer.Traced as answer

abbrev pub door_number : DoorFault → ℕ
door_number Window = 41
door_number Limit = 42
door_number Words = 43

abbrev pub door_told : Result (Unit {0}) DoorFault → Fault
door_told (Ok done) = Sound
door_told (Err fault) = Breaks (door_number fault)

abbrev pub ending_told : code.Ending → Ending
ending_told Outermost = ending.Outermost
ending_told Full = ending.Full
ending_told (Refused cause) = ending.Refused (frame_number cause)

abbrev pub traced_told : answer.Traced → Traced
traced_told traced = record { ending = ending_told traced.ending; frames = traced.frames }

-- "These write nothing and answer 0 frames with their number, and for 1 to 15 the entry's index."
abbrev pub trace_told : Result answer.Traced TraceRefusal → Traced
trace_told (Ok traced) = traced_told traced
trace_told (Err (Shut fault)) = record { ending = ending.Shut (door_number fault); frames = 0 }
trace_told (Err (Unsound refusal)) = record { ending = ending.Unsound (number_of_rule refusal.rule) refusal.index; frames = 0 }
