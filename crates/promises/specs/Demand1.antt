-- Demand 1: on anything that is handed in, "each refusal has a number, is given exactly under its rule, and leaves the buffer as the
-- rules say." A predicate of any four calls; the causes of each call and its numbers stand in the layers. That no call reads outside
-- what was lent and that every call ends is `Returns`.
use Rattle.std.specs.Prelude.{◌≡◌, List, [], ◌∷◌, ◌⊎◌, ◌↔◌, ℕ, ◌*◌, length, drop}
use Rattle.numbers.specs.Start.{distance}
use Rattle.section.specs.declared.row.Row.{Row}
use Rattle.accept.specs.Given.{number_of_rule, verdict_number, verdict_indexes, Given, BrokenFirst}
use Rattle.accept.specs.declared.verdict.Rule.{Rule}
use Rattle.accept.specs.Verdict as verdict
use Rattle.lookup.specs.Cases.{OnLookup}
use Rattle.lookup.specs.Numbers.{LookupCause, number_of_lookup_cause, outcome_number}
use Rattle.lookup.specs.Outcome as outcome
use Rattle.caller.specs.Cases.{WindowFits, OnStep}
use Rattle.caller.specs.Numbers.{StepCause, number_of_step_cause, step_number, step_indexes, step_registers}
use Rattle.caller.specs.declared.registers.Registers.{Registers}
use Rattle.caller.specs.Step as step
use Rattle.caller.specs.declared.registers.Process.{Process}
use Rattle.trace.specs.Cases.{AtDoor, DoorOpen, OnTrace}
use Rattle.trace.specs.Frames.{TraceReply}
use Rattle.trace.specs.Numbers.{TraceCause, number_of_trace_cause, ending_number, ending_indexes}
use Rattle.trace.specs.Ending as ending
use Rattle.promises.specs.Calls.{Calls}

-- a number is that of a cause
abbrev pub HasCause : {Cause : Type 0} → (Cause → ℕ) → ℕ → Type 0
HasCause {Cause} number_of number = (cause : Cause) × (number ≡ number_of cause)

-- ---- one call by itself

-- "A refusal returns its number and the entry's index, 0 for 1 to 8 and 15."
pub record CheckRefuses (calls : Calls) (s : List ℕ) : Type 0 where
  pub given : (rule : Rule) → (verdict_number (calls.check s) ≡ number_of_rule rule) ↔ BrokenFirst s rule
  pub known : (calls.check s ≡ verdict.Accepted) ⊎ HasCause number_of_rule (verdict_number (calls.check s))
  pub carries : (rule : Rule) (index : ℕ) → (calls.check s ≡ verdict.Refused (number_of_rule rule) index) ↔ Given s rule index
  pub indexed : (index : ℕ) → (verdict_indexes (calls.check s) ≡ index ∷ []) ↔ ((rule : Rule) × Given s rule index)

-- "Section refusals carry 0.": no entry was compared
pub record LookupRefuses (calls : Calls) (s : List ℕ) (address pc : ℕ) : Type 0 where
  pub given : (cause : LookupCause)
      → (outcome_number (calls.lookup s address pc).outcome ≡ number_of_lookup_cause cause) ↔ OnLookup s (distance address pc) cause
  pub known : ((row : Row) × (i : ℕ) × (k : ℕ) × ((calls.lookup s address pc).outcome ≡ outcome.Found row i k))
      ⊎ HasCause number_of_lookup_cause (outcome_number (calls.lookup s address pc).outcome)
  pub carries : (rule : Rule) (index : ℕ)
      → ((calls.lookup s address pc).outcome ≡ outcome.Unsound (number_of_rule rule) index) ↔ Given s rule index
  pub no_count : (rule : Rule) (index : ℕ) → Given s rule index → (calls.lookup s address pc).compared ≡ 0

-- "a refusal hands back the old ones with its number, and for 1 to 15 the entry's index"
pub record StepRefuses (calls : Calls) (s stack : List ℕ) (process : Process) (registers : Registers) : Type 0 where
  pub given : (cause : StepCause)
      → (step_number (calls.step s stack process registers) ≡ number_of_step_cause cause) ↔ OnStep s stack process registers cause
  pub known : ((caller : Registers) × (calls.step s stack process registers ≡ step.Caller caller))
      ⊎ HasCause number_of_step_cause (step_number (calls.step s stack process registers))
  pub carries : (rule : Rule) (index : ℕ)
      → (calls.step s stack process registers ≡ step.Unsound registers (number_of_rule rule) index) ↔ (WindowFits stack process × Given s rule index)
  -- an index comes with 1 to 15 alone
  pub indexed : (index : ℕ)
      → (step_indexes (calls.step s stack process registers) ≡ index ∷ []) ↔ (WindowFits stack process × (rule : Rule) × Given s rule index)
  pub old : ((caller : Registers) → ¬ (calls.step s stack process registers ≡ step.Caller caller))
      → step_registers (calls.step s stack process registers) ≡ registers

-- "These write nothing and answer 0 frames"
abbrev pub Nothing : TraceReply → List ℕ → Type 0
Nothing t old = (t.answer.frames ≡ 0) × (t.words ≡ old)

-- the buffer as the rules say
pub record BufferLeft (t : TraceReply) (old : List ℕ) : Type 0 where
  -- "Before anything else, in order: 41 ..; 42 ..; 43 ..; then 1 to 15. These write nothing"
  pub shut : (number : ℕ) → t.answer.ending ≡ ending.Shut number → Nothing t old
  pub unsound : (number index : ℕ) → t.answer.ending ≡ ending.Unsound number index → Nothing t old
  -- "Words after the written frames keep what they held.", three words to a frame
  pub kept : drop (3 * t.answer.frames) t.words ≡ drop (3 * t.answer.frames) old
  pub as_many : length t.words ≡ length old

-- "and for 1 to 15 the entry's index"
pub record TraceRefuses (calls : Calls) (s stack : List ℕ) (process : Process) (registers : Registers) (limit : ℕ) (old : List ℕ) : Type 0 where
  pub given : (cause : TraceCause)
      → (ending_number (calls.trace s stack process registers limit old).answer.ending ≡ number_of_trace_cause cause)
      ↔ OnTrace s stack process registers limit old cause
  pub known : HasCause number_of_trace_cause (ending_number (calls.trace s stack process registers limit old).answer.ending)
  -- a refusal at the door is told from a refused step
  pub at_door : (number : ℕ)
      → ((calls.trace s stack process registers limit old).answer.ending ≡ ending.Shut number) ↔ AtDoor stack process limit old number
  pub carries : (rule : Rule) (index : ℕ)
      → ((calls.trace s stack process registers limit old).answer.ending ≡ ending.Unsound (number_of_rule rule) index)
      ↔ (DoorOpen stack process limit old × Given s rule index)
  -- an index comes with 1 to 15 alone
  pub indexed : (index : ℕ)
      → (ending_indexes (calls.trace s stack process registers limit old).answer.ending ≡ index ∷ [])
      ↔ (DoorOpen stack process limit old × (rule : Rule) × Given s rule index)
  pub leaves : BufferLeft (calls.trace s stack process registers limit old) old

-- ---- all four, on every input

pub record Demand1 (calls : Calls) : Type 0 where
  pub check : (s : List ℕ) → CheckRefuses calls s
  pub lookup : (s : List ℕ) (address pc : ℕ) → LookupRefuses calls s address pc
  pub step : (s stack : List ℕ) (process : Process) (registers : Registers) → StepRefuses calls s stack process registers
  pub trace : (s stack : List ℕ) (process : Process) (registers : Registers) (limit : ℕ) (old : List ℕ)
      → TraceRefuses calls s stack process registers limit old
