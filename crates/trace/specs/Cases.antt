-- When each ending is given (SPECIFICATION 6.2 to 6.10), as plain propositions over any section, stack, registers, limit and buffer:
-- nothing here says how the walk is made.
use Rattle.std.specs.Prelude.{◌≡◌, List, [], ◌⊎◌, ℕ, suc, ◌*◌, ◌≤◌, ◌<◌, length, get_or}
use Rattle.accept.specs.Given as accept
use Rattle.accept.specs.Given.{number_of_rule, BrokenFirst}
use Rattle.accept.specs.declared.verdict.Rule.{Rule}
use Rattle.accept.specs.Rules.{Obeys}
use Rattle.caller.specs.Cases.{Rule41, OnRefusal, CallerCase}
use Rattle.caller.specs.Numbers.{Refusal, number_of_refusal}
use Rattle.caller.specs.declared.registers.Registers.{Registers}
use Rattle.caller.specs.declared.registers.Process.{Process}
use Rattle.trace.specs.Frames.{in_force, frame_of, with_mark}
use Rattle.trace.specs.Numbers.{TraceCause, window, limit_above, too_few_words, unsound, refused, outermost, full, number_of_trace_cause}
use Rattle.trace.specs.Ending.{Ending}
use Rattle.trace.specs.Ending.{Outermost, Full, Refused, Shut, Unsound}
use Rattle.trace.specs.declared.answer.Frame.{Frame}

-- ---- the door: "Before anything else, in order"

-- "41 stack address plus length above 2^64": `Rule41`, as for one caller

-- "42 limit above 256"
abbrev pub LimitAbove : ℕ → Type 0
LimitAbove limit = 256 < limit

-- "43 fewer than 3 words per limit frame", of the limit in force
abbrev pub TooFewWords : ℕ → List ℕ → Type 0
TooFewWords limit buffer = length buffer < 3 * in_force limit

-- a number is given at the door where its rule holds and no earlier one does
abbrev pub AtDoor : List ℕ → Process → ℕ → List ℕ → ℕ → Type 0
AtDoor stack process limit buffer number =
    ((number ≡ number_of_trace_cause window) × Rule41 stack process)
    ⊎ (((number ≡ number_of_trace_cause limit_above) × (¬ Rule41 stack process) × LimitAbove limit)
    ⊎ ((number ≡ number_of_trace_cause too_few_words) × (¬ Rule41 stack process) × (¬ LimitAbove limit) × TooFewWords limit buffer))

-- none of the three
pub record DoorOpen (stack : List ℕ) (process : Process) (limit : ℕ) (buffer : List ℕ) : Type 0 where
  pub in_memory : ¬ Rule41 stack process
  pub allowed : ¬ LimitAbove limit
  pub room : ¬ TooFewWords limit buffer

-- ---- the walk, over any step: `Yields` says which caller one yields, `Refuses` with which number one is refused

-- what stands past the last frame
abbrev pub no_frame : Frame
no_frame = record { cfa = 0; ra = 0; fp = 0 }

-- "writes each frame that a step yields": frame 0 is the step from the registers at the start, and "every frame comes from the
-- last"; a frame that another follows is not the outermost
pub record Follows (Yields : Registers → Registers → Type 0) (start : Registers) (frames : List Frame) : Type 0 where
  pub at : ℕ → Registers
  pub starts : at 0 ≡ start
  pub steps : (k : ℕ) → k < length frames → Yields (at k) (at (suc k))
  pub written : (k : ℕ) → k < length frames → get_or frames k no_frame ≡ frame_of (at (suc k))
  pub goes_on : (k : ℕ) → suc k < length frames → ¬ ((at (suc k)).pc ≡ 0)

-- after `count` frames, the last of which left the registers `last`: no frame has RA 0
abbrev pub NotOutermost : ℕ → Registers → Type 0
NotOutermost count last = 0 < count → ¬ (last.pc ≡ 0)

-- "RA 0 ends it with 30 (outermost), also in the last allowed frame"
abbrev pub EndsOutermost : ℕ → ℕ → Registers → Type 0
EndsOutermost limit count last = (0 < count) × (count ≤ limit) × (last.pc ≡ 0)

-- "otherwise a full limit ends it with 31."
abbrev pub EndsFull : ℕ → ℕ → Registers → Type 0
EndsFull limit count last = (count ≡ limit) × NotOutermost count last

-- "A refused step ends it"
abbrev pub EndsRefused : (Registers → Type 0) → ℕ → ℕ → Registers → Type 0
EndsRefused RefusedHere limit count last = (count < limit) × NotOutermost count last × RefusedHere last

-- "with its own number"; what is refused before a walk is no walk's ending
abbrev pub Ends : (Registers → ℕ → Type 0) → ℕ → ℕ → Registers → Ending → Type 0
Ends Refuses limit count last Outermost = EndsOutermost limit count last
Ends Refuses limit count last Full = EndsFull limit count last
Ends Refuses limit count last (Refused number) = EndsRefused (λ registers. Refuses registers number) limit count last
Ends Refuses limit count last (Shut number) = ⊥
Ends Refuses limit count last (Unsound number index) = ⊥

-- these frames follow, and after so many of them, with the last registers, this holds
pub record WalkTo (Yields : Registers → Registers → Type 0) (start : Registers) (frames : List Frame) (Holds : ℕ → Registers → Type 0) : Type 0 where
  pub follows : Follows Yields start frames
  pub ends : Holds (length frames) (follows.at (length frames))

abbrev pub WalkCase : (Registers → Registers → Type 0) → (Registers → ℕ → Type 0) → ℕ → Registers → List Frame → Ending → Type 0
WalkCase Yields Refuses limit start frames ending = WalkTo Yields start frames (λ count last. Ends Refuses limit count last ending)

-- ---- the walk of a trace

module _ (s stack : List ℕ) (process : Process) where
  -- a step is refused with its own number
  abbrev pub StepRefuses : Registers → ℕ → Type 0
  StepRefuses registers number = (refusal : Refusal) × (number ≡ number_of_refusal refusal) × OnRefusal s stack process registers refusal

module _ (s stack : List ℕ) (process : Process) (registers : Registers) (limit : ℕ) (buffer : List ℕ) where
  -- nothing is refused before the walk, "The walk starts with the mark set", its frames are these, and it ends so
  pub record WalkMade (frames : List Frame) (Holds : ℕ → Registers → Type 0) : Type 0 where
    pub opened : DoorOpen stack process limit buffer
    pub obeys : Obeys s
    pub walk : WalkTo (CallerCase s stack process) (with_mark registers) frames Holds

  -- ---- every number

  -- what holds where a trace gives the number of this cause
  abbrev pub OnTrace : TraceCause → Type 0
  -- "41 stack address plus length above 2^64; 42 limit above 256; 43 fewer than 3 words per limit frame"
  OnTrace window = Rule41 stack process
  OnTrace limit_above = (¬ Rule41 stack process) × LimitAbove limit
  OnTrace too_few_words = (¬ Rule41 stack process) × (¬ LimitAbove limit) × TooFewWords limit buffer
  -- "then 1 to 15"
  OnTrace (unsound rule) = DoorOpen stack process limit buffer × BrokenFirst s rule
  -- "A refused step ends it with its own number, 21 to 28."
  OnTrace (refused refusal) =
      (frames : List Frame) × WalkMade frames (EndsRefused (λ last. OnRefusal s stack process last refusal) (in_force limit))
  -- "RA 0 ends it with 30 (outermost), also in the last allowed frame"
  OnTrace outermost = (frames : List Frame) × WalkMade frames (EndsOutermost (in_force limit))
  -- "otherwise a full limit ends it with 31."
  OnTrace full = (frames : List Frame) × WalkMade frames (EndsFull (in_force limit))

  -- ---- every ending

  -- a walk with this ending
  abbrev pub WalkEnded : List Frame → Ending → Type 0
  WalkEnded frames ending = WalkMade frames (λ count last. Ends (StepRefuses s stack process) (in_force limit) count last ending)

  -- what holds where a trace has these frames and this ending; "These write nothing and answer 0 frames with their number, and for 1
  -- to 15 the entry's index.": the door, and "then 1 to 15"
  abbrev pub Case : List Frame → Ending → Type 0
  Case frames Outermost = WalkEnded frames Outermost
  Case frames Full = WalkEnded frames Full
  Case frames (Refused number) = WalkEnded frames (Refused number)
  Case frames (Shut number) = (frames ≡ []) × AtDoor stack process limit buffer number
  Case frames (Unsound number index) =
      (frames ≡ []) × DoorOpen stack process limit buffer × (rule : Rule) × (number ≡ number_of_rule rule) × accept.Given s rule index
