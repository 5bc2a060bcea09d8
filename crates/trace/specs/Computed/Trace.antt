-- Document 01, "A trace": the frames that step after step yields, why the walk ends, and what the lent buffer holds after it. When each
-- ending is given, in plain words, is said in Cases.
use Rattle.std.specs.Prelude.{ℕ, zero, suc, ◌*◌, Bool, true, false, not, List, [], ◌∷◌, eqb, ltb, length}
use Rattle.numbers.specs.Computed.Address.{window_fits}
use Rattle.section.specs.Meaning.{shape_of}
use Rattle.accept.specs.Computed.Checks.{first_bad, verdict}
use Rattle.accept.specs.Fault.{Fault, Sound, Breaks}
use Rattle.accept.specs.Verdict.{Verdict}
use Rattle.accept.specs.Verdict as verdict
use Rattle.lookup.specs.Computed.Answers.{look_in}
use Rattle.caller.specs.Computed.Caller.{step_of}
use Rattle.caller.specs.declared.registers.Registers.{Registers}
use Rattle.caller.specs.Step.{Step}
use Rattle.caller.specs.Step as step
use Rattle.caller.specs.declared.registers.Process.{Process}
use Rattle.trace.specs.Frames.{TraceReply, in_force, frame_of, with_mark, all_words, over, traced_as}
use Rattle.trace.specs.Ending.{Ending}
use Rattle.trace.specs.Ending.{Outermost, Full, Refused, Shut, Unsound}
use Rattle.trace.specs.declared.answer.Frame.{Frame}

-- ---- the walk: frames and an ending

pub record Walk : Type 0 where
  pub frames : List Frame
  pub ending : Ending

unfoldable pub ended : Ending → Walk
ended ending = record { frames = []; ending = ending }

unfoldable pub with_frame : Frame → Walk → Walk
with_frame frame rest = record { frames = frame ∷ rest.frames; ending = rest.ending }

-- "RA 0 ends it with 30 (outermost), also in the last allowed frame"
unfoldable pub unless_outermost : ℕ → Walk → Walk
unless_outermost ra rest = elim (eqb ra 0) [ true ↦ ended Outermost | false ↦ rest ]

-- "writes each frame that a step yields"; "A refused step ends it with its own number, 21 to 28." A section that was checked is
-- not refused again.
unfoldable pub onward : Step → (Registers → Walk) → Walk
onward (step.Caller caller) rest = with_frame (frame_of caller) (unless_outermost caller.pc (rest caller))
onward (step.Unsound old number index) rest = ended (Refused number)
onward (step.Refused old number) rest = ended (Refused number)

-- "otherwise a full limit ends it with 31."
unfoldable pub walk_of : (Registers → Step) → ℕ → Registers → Walk
walk_of step zero registers = ended Full
walk_of step (suc left) registers = onward (step registers) (walk_of step left)

-- the walk on a section that was accepted
unfoldable pub checked_walk : List ℕ → List ℕ → Process → ℕ → Registers → Walk
checked_walk s stack process limit registers = walk_of (step_of (shape_of s) (look_in s process.section) stack process) limit registers

-- ---- what is tried first

-- "Before anything else, in order: 41 stack address plus length above 2^64; 42 limit above 256; 43 fewer than 3 words per limit
-- frame"
unfoldable pub door_tests : List ℕ → Process → ℕ → ℕ → List (Bool × ℕ)
door_tests stack process limit words =
    (not (window_fits stack process.stack), 41)
    ∷ (ltb 256 limit, 42)
    ∷ (ltb words (3 * in_force limit), 43)
    ∷ []

unfoldable pub door_fault : List ℕ → Process → ℕ → ℕ → Fault
door_fault stack process limit words = first_bad (door_tests stack process limit words)

-- "These write nothing and answer 0 frames with their number, and for 1 to 15 the entry's index."
unfoldable pub after_door : Fault → Walk → Walk
after_door Sound next = next
after_door (Breaks number) next = ended (Shut number)

unfoldable pub walk_after : Verdict → Walk → Walk
walk_after verdict.Accepted next = next
walk_after (verdict.Refused number index) next = ended (Unsound number index)

unfoldable pub walk_in : List ℕ → List ℕ → Process → Registers → ℕ → ℕ → Walk
walk_in s stack process registers limit words =
    after_door (door_fault stack process limit words)
    (walk_after (verdict s) (checked_walk s stack process (in_force limit) (with_mark registers)))

-- ---- the answer, and the buffer

-- "The answer is the frame count and the ending."
unfoldable pub traced : Walk → List ℕ → TraceReply
traced walk old = traced_as (record { ending = walk.ending; frames = length walk.frames }) (over (all_words walk.frames) old)

-- the answer, and the words of the buffer at exit
unfoldable pub trace_of : List ℕ → List ℕ → Process → Registers → ℕ → List ℕ → TraceReply
trace_of s stack process registers limit old = traced (walk_in s stack process registers limit (length old)) old
