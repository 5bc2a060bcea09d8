-- Demand 2: "A section is accepted exactly when it obeys the listed rules. On an accepted section a lookup finds the one function and
-- row, or says that there is no row (23), no function (21, only when none covers) or a dispute (22, only when two or more do). CFA, FP
-- and RA are what the row defines over exact numbers.", and "every frame comes from the last". A predicate of any four calls.
use Rattle.std.specs.Prelude.{◌≡◌, List, [], ◌∷◌, ◌↔◌, ℕ, suc, ◌+◌, ◌*◌, ◌<◌, ℤ, length, get_or}
use Rattle.numbers.specs.Start.{distance}
use Rattle.section.specs.declared.row.Row.{Row}
use Rattle.accept.specs.Rules.{Obeys}
use Rattle.accept.specs.Verdict.{Accepted}
use Rattle.lookup.specs.Cases as lookup
use Rattle.lookup.specs.Numbers.{outcome_indexes, outcome_row}
use Rattle.lookup.specs.Outcome.{Outcome}
use Rattle.caller.specs.Cases.{CallerCase}
use Rattle.caller.specs.InBytes.{CallerInBytes}
use Rattle.caller.specs.declared.registers.Registers.{Registers}
use Rattle.caller.specs.Step.{Caller}
use Rattle.caller.specs.declared.registers.Process.{Process}
use Rattle.trace.specs.Cases as trace
use Rattle.trace.specs.Frames.{TraceReply, with_mark, traced_as, all_words, over}
use Rattle.trace.specs.Ending.{Ending}
use Rattle.trace.specs.declared.answer.Frame.{Frame}
use Rattle.promises.specs.Calls.{Calls}

-- what a trace leaves that has these frames and this ending: the answer, and the frames' words over what the buffer held
unfoldable pub left_by : List Frame → Ending → List ℕ → TraceReply
left_by frames ending old = traced_as (record { ending = ending; frames = length frames }) (over (all_words frames) old)

-- a trace is some frames, of which "every frame comes from the last", and the ending that is theirs
pub record TraceCase (t : TraceReply) (s stack : List ℕ) (process : Process) (registers : Registers) (limit : ℕ) (old : List ℕ) : Type 0 where
  pub frames : List Frame
  pub ending : Ending
  pub case : trace.Case s stack process registers limit old frames ending
  pub left : t ≡ left_by frames ending old

-- the same by the step call of the four: frame 0 is the caller of the registers handed in, with the mark, and each other frame the caller
-- of the one before it; "CFA, RA, FP each" are the CFA that the step's row defines, the caller's PC and its FP
pub record FromTheLast (calls : Calls) (s stack : List ℕ) (process : Process) (registers : Registers) (limit : ℕ) (old : List ℕ) : Type 0 where
  pub at : ℕ → Registers
  pub starts : at 0 ≡ with_mark registers
  pub steps : (k : ℕ) → k < (calls.trace s stack process registers limit old).answer.frames
      → calls.step s stack process (at k) ≡ Caller (at (suc k))
  pub defined : (k : ℕ) → k < (calls.trace s stack process registers limit old).answer.frames → CallerInBytes s stack process (at k) (at (suc k))
  pub written : (k : ℕ) (less : k < (calls.trace s stack process registers limit old).answer.frames)
      → (get_or (calls.trace s stack process registers limit old).words (3 * k) 0 ≡ (defined k less).cfa)
      × (get_or (calls.trace s stack process registers limit old).words (3 * k + 1) 0 ≡ (at (suc k)).pc)
      × (get_or (calls.trace s stack process registers limit old).words (3 * k + 2) 0 ≡ (at (suc k)).fp)

-- what the values of an answer say, on a section that obeys, with d "PC minus section address"
pub record ValuesSay (o : Outcome) (s : List ℕ) (d : ℤ) : Type 0 where
  -- "no index is returned", "the two lowest indexes are returned", "with the function's index"
  pub none : (outcome_indexes o ≡ []) ↔ lookup.NoneCovers s d
  pub one : (i : ℕ) → (outcome_indexes o ≡ i ∷ []) ↔ lookup.OnlyCovers s d i
  pub two : (i j : ℕ) → (outcome_indexes o ≡ i ∷ j ∷ []) ↔ lookup.LowestTwo s d i j
  -- "the row: its number in the function, start, base, offsets and signed bit"
  pub row : (row : Row) (k : ℕ) → (outcome_row o ≡ (k, row) ∷ []) ↔ ((i : ℕ) × lookup.FoundCase s d row i k)

pub record Demand2 (calls : Calls) : Type 0 where
  -- "A section is accepted exactly when it obeys the listed rules."
  pub accepts : (s : List ℕ) → (calls.check s ≡ Accepted) ↔ Obeys s
  -- a row of one function, 21, 22 or 23, each exactly under its case
  pub finds : (s : List ℕ) → Obeys s → (address pc : ℕ) (o : Outcome)
      → ((calls.lookup s address pc).outcome ≡ o) ↔ lookup.Case s (distance address pc) o
  pub values : (s : List ℕ) → Obeys s → (address pc : ℕ) → ValuesSay (calls.lookup s address pc).outcome s (distance address pc)
  -- "The caller has PC = RA, SP = CFA, the new FP, LR unchanged and no mark."
  pub steps : (s stack : List ℕ) (process : Process) (registers caller : Registers)
      → (calls.step s stack process registers ≡ Caller caller) ↔ CallerCase s stack process registers caller
  -- "CFA is base plus first offset.", RA and FP, in the bytes of the row
  pub in_bytes : (s stack : List ℕ) (process : Process) (registers caller : Registers)
      → (calls.step s stack process registers ≡ Caller caller) ↔ CallerInBytes s stack process registers caller
  -- "The walk starts with the mark set and writes each frame that a step yields."
  pub traces : (s stack : List ℕ) (process : Process) (registers : Registers) (limit : ℕ) (old : List ℕ)
      → TraceCase (calls.trace s stack process registers limit old) s stack process registers limit old
  pub from_the_last : (s stack : List ℕ) (process : Process) (registers : Registers) (limit : ℕ) (old : List ℕ)
      → FromTheLast calls s stack process registers limit old
