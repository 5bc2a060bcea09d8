-- Request 07, why an answer was given. What is promised of an explanation, as a predicate of any call that is handed what a lookup or a step
-- is handed; and what the contracts of our functions allow. Every sentence is of any bytes, accepted or not.
use Rattle.std.specs.Prelude.{◌≡◌, List, ℕ, ◌^◌, ◌<◌, pos, ◌+ℤ◌}
use borrow.Fn.Kinds.{Dens}
use contract.Lifetimes.{Lfts}
use Rattle.numbers.specs.declared.offset.Offset.{Offset}
use Rattle.lookup.specs.Outcome.{Answer}
use Rattle.caller.specs.declared.registers.Process.{Process}
use Rattle.caller.specs.declared.registers.Registers.{Registers}
use Rattle.caller.specs.Step.{Step}
use Rattle.explain.specs.Answers.{outcome_why, step_why_answer}
use Rattle.explain.specs.Why.{WhyLookup, WhyStep, SumIs}
use Rattle.explain.specs.LookupReason.{LookupWhy}
use Rattle.explain.specs.StepReason.{StepWhy}
use Rattle.explain.specs.declared.sums.Sum.{Sum}
use Rattle.explain.proofs.looked.explain_lookup.Kinds as lookup-kinds
use Rattle.explain.proofs.looked.explain_lookup.Reads as lookup-reads
use Rattle.explain.proofs.stepped.explain_step.Kinds as step-kinds
use Rattle.explain.proofs.stepped.explain_step.Reads as step-reads
use Rattle.explain.proofs.sums.sum_of.Kinds as sum-kinds
use Rattle.explain.proofs.sums.sum_of.Reads as sum-reads
use Rattle.promises.specs.Calls.{Calls}
use Rattle.promises.specs.StatedContracts.{Keeps, Answered}
use Rattle.explain.specs.Told.{lookup_why_told, step_why_told}
use Rattle.promises.specs.Determined.{Allows}

-- ---- any calls of this form

pub record ExplainCalls : Type 0 where
  -- of a section, its address and a PC
  pub lookup : List ℕ → ℕ → ℕ → LookupWhy
  -- of a section, a stack window, what is known of the process, and registers
  pub step : List ℕ → List ℕ → Process → Registers → StepWhy
  -- of a base and an offset, how far their sum is from an address
  pub sum : ℕ → Offset → Sum

-- ---- what is promised

-- "The explained fact must be shown to hold of the section and registers, and to imply the answer given.": what is said holds; whatever is
-- said that holds implies the answer, whoever says it; and so what is said is of the answer that is given
pub record Explains (explain : ExplainCalls) (lookup : List ℕ → ℕ → ℕ → Answer) (step : List ℕ → List ℕ → Process → Registers → Step) : Type 0 where
  pub lookup_holds : (s : List ℕ) (address pc : ℕ) → WhyLookup s address pc (explain.lookup s address pc)
  pub lookup_implies : (s : List ℕ) (address pc : ℕ) (why : LookupWhy) → WhyLookup s address pc why → (lookup s address pc).outcome ≡ outcome_why why
  pub lookup_explained : (s : List ℕ) (address pc : ℕ) → (lookup s address pc).outcome ≡ outcome_why (explain.lookup s address pc)
  pub step_holds : (s stack : List ℕ) (process : Process) (registers : Registers)
      → WhyStep s stack process registers (explain.step s stack process registers)
  pub step_implies : (s stack : List ℕ) (process : Process) (registers : Registers) (why : StepWhy) → WhyStep s stack process registers why
      → step s stack process registers ≡ step_why_answer registers why
  pub step_explained : (s stack : List ℕ) (process : Process) (registers : Registers)
      → step s stack process registers ≡ step_why_answer registers (explain.step s stack process registers)
  -- 25 and 28: "by how much the sum is below 0 or above 2^64 - 1, never wrapped", of a base that is an address
  pub sum_exact : (base : ℕ) (offset : Offset) → base < 2 ^ 64 → SumIs (pos base +ℤ offset.by) (explain.sum base offset)

-- ---- the contracts

-- what the calls answer is what the contracts of our functions allow, and nothing else of them is known
pub record KeepsExplain (explain : ExplainCalls) : Type 0 where
  pub lookup : (κs : Lfts 1) (a : Dens κs lookup-kinds.ps)
      → Answered lookup_why_told (λ z. Allows lookup-kinds.ps lookup-kinds.r lookup-reads.Learnt κs a z (tt, (tt, (tt, tt))))
      (explain.lookup a.0.now a.1.0 a.1.1.0)
  pub step : (κs : Lfts 2) (a : Dens κs step-kinds.ps)
      → Answered step_why_told (λ z. Allows step-kinds.ps step-kinds.r step-reads.Learnt κs a z (tt, (tt, (tt, (tt, tt)))))
      (explain.step a.0.now a.1.0.now a.1.1.0 a.1.1.1.0)
  pub sum : (κs : Lfts 0) (a : Dens κs sum-kinds.ps)
      → Allows sum-kinds.ps sum-kinds.r sum-reads.Learnt κs a (explain.sum a.0 a.1.0) (tt, (tt, tt))

abbrev pub ExplainPromised : Type 0
ExplainPromised = (explain : ExplainCalls) (calls : Calls) → KeepsExplain explain → Keeps calls → Explains explain calls.lookup calls.step
