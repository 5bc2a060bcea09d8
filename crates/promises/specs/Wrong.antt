-- Document 01, "What each call must say": the wrong calls that are "Shown to break". Each is a property of any four calls, so that it
-- does not matter what the others of the four answer, with calls that have it.
use Rattle.std.specs.Prelude.{◌≡◌, Bool, true, false, List, [], ◌∷◌, ℕ, suc, eqb, length, get_or, take, replicate}
use Rattle.section.specs.declared.row.Row.{Row}
use Rattle.accept.specs.Computed.Checks.{verdict}
use Rattle.accept.specs.Verdict as verdict
use Rattle.lookup.specs.Numbers.{outcome_number}
use Rattle.lookup.specs.Computed.Answers.{lookup_of}
use Rattle.lookup.specs.Outcome.{Found, NoFunction}
use Rattle.caller.specs.Computed.Caller.{step_in}
use Rattle.caller.specs.declared.registers.Registers.{Registers}
use Rattle.caller.specs.declared.registers.Process.{Process}
use Rattle.trace.specs.Cases.{no_frame}
use Rattle.trace.specs.Frames.{traced_as, all_words, over}
use Rattle.trace.specs.Numbers.{ending_number}
use Rattle.trace.specs.Computed.Trace.{walk_in, trace_of}
use Rattle.trace.specs.declared.answer.Frame.{Frame}
use Rattle.promises.specs.Calls.{Calls}

module _ (calls : Calls) where
  -- "a checker that refuses everything"
  abbrev pub RefusesEverything : Type 0
  RefusesEverything = (s : List ℕ) → ¬ (calls.check s ≡ verdict.Accepted)

  -- "a lookup with one fixed row": whatever it finds in a section is this row, at every PC
  abbrev pub OneFixedRow : (List ℕ → Row) → Type 0
  OneFixedRow row = (s : List ℕ) (address pc : ℕ) (found : Row) (i k : ℕ) → (calls.lookup s address pc).outcome ≡ Found found i k → found ≡ row s

  -- "or always 21"
  abbrev pub Always21 : Type 0
  Always21 = (s : List ℕ) (address pc : ℕ) → outcome_number (calls.lookup s address pc).outcome ≡ 21

  -- "a made-up count": one that does not go by the PC, whatever it is for each section
  abbrev pub MadeUpCount : (List ℕ → ℕ) → Type 0
  MadeUpCount count = (s : List ℕ) (address pc : ℕ) → (calls.lookup s address pc).compared ≡ count s

  -- "a trace that writes nothing"
  abbrev pub WritesNothing : Type 0
  WritesNothing =
      (s stack : List ℕ) (process : Process) (registers : Registers) (limit : ℕ) (old : List ℕ)
      → (calls.trace s stack process registers limit old).words ≡ old

  -- "a trace that works out the first frame and repeats .. the others": as many copies of one frame as it says there are
  abbrev pub RepeatsFrames : Type 0
  RepeatsFrames =
      (s stack : List ℕ) (process : Process) (registers : Registers) (limit : ℕ) (old : List ℕ)
      → (frame : Frame)
      × ((calls.trace s stack process registers limit old).words
      ≡ over (all_words (replicate (calls.trace s stack process registers limit old).answer.frames frame)) old)

  -- "or invents the others": they are these, by all that is handed in but the stack
  abbrev pub InventsFrames : (List ℕ → Process → Registers → ℕ → List ℕ → List Frame) → Type 0
  InventsFrames made =
      (s stack : List ℕ) (process : Process) (registers : Registers) (limit : ℕ) (old : List ℕ)
      → (frame : Frame)
      × ((calls.trace s stack process registers limit old).words
      ≡ over (all_words (take (calls.trace s stack process registers limit old).answer.frames (frame ∷ made s process registers limit old))) old)

  -- a trace that writes where it ends with this number; 41 to 43 and 1 to 15 "write nothing"
  abbrev pub WritesOn : ℕ → Type 0
  WritesOn number =
      (s stack : List ℕ) (process : Process) (registers : Registers) (limit : ℕ) (old : List ℕ)
      → ending_number (calls.trace s stack process registers limit old).answer.ending ≡ number
      → ¬ ((calls.trace s stack process registers limit old).words ≡ old)

-- ---- such calls: ours but for one

unfoldable pub refusing_everything : Calls
refusing_everything = record { check = λ s. verdict.Refused 1 0; lookup = lookup_of; step = step_in; trace = trace_of }

-- this row of a section, at every PC
unfoldable pub finding_one_row : (List ℕ → Row) → Calls
finding_one_row row =
    record {
      check = verdict;
      lookup = λ s address pc. record { outcome = Found (row s) 0 0; compared = (lookup_of s address pc).compared };
      step = step_in;
      trace = trace_of;
    }

unfoldable pub answering21 : Calls
answering21 =
    record {
      check = verdict;
      lookup = λ s address pc. record { outcome = NoFunction; compared = (lookup_of s address pc).compared };
      step = step_in;
      trace = trace_of;
    }

unfoldable pub counting_by : (List ℕ → ℕ) → Calls
counting_by count =
    record {
      check = verdict;
      lookup = λ s address pc. record { outcome = (lookup_of s address pc).outcome; compared = count s };
      step = step_in;
      trace = trace_of;
    }

-- the answer is ours, the words are others
unfoldable pub leaving : (List ℕ → List ℕ → Process → Registers → ℕ → List ℕ → List ℕ) → Calls
leaving words =
    record {
      check = verdict;
      lookup = lookup_of;
      step = step_in;
      trace =
          λ s stack process registers limit old.
          traced_as (trace_of s stack process registers limit old).answer (words s stack process registers limit old);
    }

unfoldable pub writing_nothing : Calls
writing_nothing = leaving λ s stack process registers limit old. old

-- the frames of our walk
abbrev pub frames_of : List ℕ → List ℕ → Process → Registers → ℕ → List ℕ → List Frame
frames_of s stack process registers limit old = (walk_in s stack process registers limit (length old)).frames

unfoldable pub repeating_frames : Calls
repeating_frames =
    leaving λ s stack process registers limit old.
    let frames = frames_of s stack process registers limit old in
    over (all_words (replicate (length frames) (get_or frames 0 no_frame))) old

unfoldable pub inventing_frames : (List ℕ → Process → Registers → ℕ → List ℕ → List Frame) → Calls
inventing_frames made =
    leaving λ s stack process registers limit old.
    let frames = frames_of s stack process registers limit old in
    over (all_words (take (length frames) (get_or frames 0 no_frame ∷ made s process registers limit old))) old

-- where our trace ends with this number, the first word is another than it was
unfoldable pub changed_where : Bool → List ℕ → List ℕ → List ℕ
changed_where true old words = over (suc (get_or old 0 0) ∷ []) old
changed_where false old words = words

unfoldable pub writing_on : ℕ → Calls
writing_on number =
    leaving λ s stack process registers limit old.
    changed_where (eqb (ending_number (trace_of s stack process registers limit old).answer.ending) number) old
    (trace_of s stack process registers limit old).words
