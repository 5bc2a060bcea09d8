-- The contracts of the four public functions as they stand beside the code, and what it is for any four calls to keep them. An
-- argument that is lent is (where it lies, its name, what it holds), of which `now` is what it holds. What no machine can hold, as a
-- byte above 255, is among the inputs: no sentence needs a bound. A reply of the code tells an answer in the document's numbers, and no
-- two replies tell the same (`check_determined` and its like).
use Rattle.std.specs.Prelude.{◌≡◌, List, ◌↔◌, ℕ}
use borrow.Fn.Kinds.{Dens, res_t}
use contract.Lifetimes.{Lfts}
use Rattle.accept.specs.Told.{verdict_told}
use Rattle.accept.specs.Verdict.{Verdict}
use Rattle.accept.proofs.section_check.check.Kinds as check-kinds
use Rattle.accept.proofs.section_check.check.Reads as check-reads
use Rattle.lookup.specs.Outcome.{Answer}
use Rattle.lookup.specs.Told.{lookup_told}
use Rattle.lookup.proofs.look.lookup.Kinds as lookup-kinds
use Rattle.lookup.proofs.look.lookup.Reads as lookup-reads
use Rattle.caller.specs.Step.{Step}
use Rattle.caller.specs.Told.{step_told}
use Rattle.caller.proofs.registers.Registers.step.Kinds as step-kinds
use Rattle.caller.proofs.registers.Registers.step.Reads as step-reads
use Rattle.trace.specs.Frames.{TraceReply, traced_as}
use Rattle.trace.specs.Told.{trace_told}
use Rattle.trace.proofs.walk.trace.Kinds as trace-kinds
use Rattle.trace.proofs.walk.trace.Reads as trace-reads
use Rattle.promises.specs.Calls.{Calls}
use Rattle.promises.specs.Determined.{Allows}

-- a reply that tells this answer is allowed
abbrev pub Answered : {Reply Answer : Type 0} → (Reply → Answer) → (Reply → Type 0) → Answer → Type 0
Answered {Reply = Reply} told Allowed answer = (reply : Reply) × (told reply ≡ answer) × Allowed reply

-- ---- what a contract allows, and what a call answers to the same arguments

module _ (κs : Lfts 1) (a : Dens κs check-kinds.ps) where
  abbrev pub CheckAllows : (res_t check-kinds.r κs).Denot → Type 0
  CheckAllows z = Allows check-kinds.ps check-kinds.r check-reads.Learnt κs a z (tt, tt)

  abbrev pub check_reply : Calls → Verdict
  check_reply calls = calls.check a.0.now

module _ (κs : Lfts 1) (a : Dens κs lookup-kinds.ps) where
  abbrev pub LookupAllows : (res_t lookup-kinds.r κs).Denot → Type 0
  LookupAllows z = Allows lookup-kinds.ps lookup-kinds.r lookup-reads.Learnt κs a z (tt, (tt, (tt, tt)))

  abbrev pub lookup_reply : Calls → Answer
  lookup_reply calls = calls.lookup a.0.now a.1.0 a.1.1.0

-- the registers stand first: "Registers go in by value"
module _ (κs : Lfts 2) (a : Dens κs step-kinds.ps) where
  abbrev pub StepAllows : (res_t step-kinds.r κs).Denot → Type 0
  StepAllows z = Allows step-kinds.ps step-kinds.r step-reads.Learnt κs a z (tt, (tt, (tt, (tt, tt))))

  abbrev pub step_reply : Calls → Step
  step_reply calls = calls.step a.1.0.now a.1.1.0.now a.1.1.1.0 a.0

-- a trace's contract allows a reply with the words that the buffer, the last argument, holds at exit
module _ (κs : Lfts 3) (a : Dens κs trace-kinds.ps) where
  abbrev pub TraceAllows : (res_t trace-kinds.r κs).Denot → List ℕ → Type 0
  TraceAllows z words = Allows trace-kinds.ps trace-kinds.r trace-reads.Learnt κs a z (tt, (tt, (tt, (tt, (tt, (words, tt))))))

  abbrev pub trace_reply : Calls → TraceReply
  trace_reply calls =
      calls.trace a.0.now a.1.0.now a.1.1.0 a.1.1.1.0 a.1.1.1.1.0 a.1.1.1.1.1.0.now

-- ---- calls and contracts

-- what these calls answer is allowed, on every input
pub record Keeps (calls : Calls) : Type 0 where
  pub check : (κs : Lfts 1) (a : Dens κs check-kinds.ps) → Answered verdict_told (CheckAllows κs a) (check_reply κs a calls)
  pub lookup : (κs : Lfts 1) (a : Dens κs lookup-kinds.ps) → Answered lookup_told (LookupAllows κs a) (lookup_reply κs a calls)
  pub step : (κs : Lfts 2) (a : Dens κs step-kinds.ps) → Answered step_told (StepAllows κs a) (step_reply κs a calls)
  pub trace : (κs : Lfts 3) (a : Dens κs trace-kinds.ps)
      → Answered trace_told (λ z. TraceAllows κs a z (trace_reply κs a calls).words) (trace_reply κs a calls).answer

-- what is allowed is what these calls answer, and nothing else: on every input the contracts as they stand give the reply
pub record GivenBy (calls : Calls) : Type 0 where
  pub check : (κs : Lfts 1) (a : Dens κs check-kinds.ps) (z : (res_t check-kinds.r κs).Denot) → CheckAllows κs a z ↔ (verdict_told z ≡ check_reply κs a calls)
  pub lookup : (κs : Lfts 1) (a : Dens κs lookup-kinds.ps) (z : (res_t lookup-kinds.r κs).Denot) → LookupAllows κs a z ↔ (lookup_told z ≡ lookup_reply κs a calls)
  pub step : (κs : Lfts 2) (a : Dens κs step-kinds.ps) (z : (res_t step-kinds.r κs).Denot) → StepAllows κs a z ↔ (step_told z ≡ step_reply κs a calls)
  pub trace : (κs : Lfts 3) (a : Dens κs trace-kinds.ps) (z : (res_t trace-kinds.r κs).Denot) (words : List ℕ)
      → TraceAllows κs a z words ↔ (traced_as (trace_told z) words ≡ trace_reply κs a calls)
