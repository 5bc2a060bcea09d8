-- The exported functions that the demands are of, as a program in C sees them: any four calls that answer flat structs, what the contracts
-- of ours allow, how the structs are read, and what is promised of them: the three demands, of the answers that the structs stand for. The
-- others have files of their own, `FunctionCall` and `RowsCall`.
use Rattle.std.specs.Prelude.{◌≡◌, List, ◌↔◌, ℕ}
use borrow.Fn.Kinds.{Dens, res_t}
use contract.Lifetimes.{Lfts}
use Rattle.suntimpani.specs.Flat.{flat_verdict, flat_answer, flat_step, Handed, handed_as, flat_trace}
use Rattle.suntimpani.specs.Read.{read_verdict, read_answer, read_step, read_trace}
use Rattle.suntimpani.specs.declared.flat.AnswerInC.{AnswerInC}
use Rattle.suntimpani.specs.declared.flat.VerdictInC.{VerdictInC}
use Rattle.suntimpani.specs.declared.walks.StepInC.{StepInC}
use Rattle.suntimpani.proofs.suntimpani_caller.Kinds as step-kinds
use Rattle.suntimpani.proofs.suntimpani_caller.Reads as step-reads
use Rattle.suntimpani.proofs.suntimpani_check.Kinds as check-kinds
use Rattle.suntimpani.proofs.suntimpani_check.Reads as check-reads
use Rattle.suntimpani.proofs.suntimpani_lookup.Kinds as lookup-kinds
use Rattle.suntimpani.proofs.suntimpani_lookup.Reads as lookup-reads
use Rattle.suntimpani.proofs.suntimpani_trace.Kinds as trace-kinds
use Rattle.suntimpani.proofs.suntimpani_trace.Reads as trace-reads
use Rattle.promises.specs.Calls.{CallsOf, Calls}
use Rattle.promises.specs.Determined.{Allows}
use Rattle.promises.specs.Promises.{Demands}
use Rattle.promises.specs.Computed.Ours.{ours}

-- ---- any four flat calls

-- a trace with the words left in the buffer
abbrev pub FlatCalls : Type 0
FlatCalls = CallsOf VerdictInC AnswerInC StepInC Handed

-- what the structs stand for
unfoldable pub read_calls : FlatCalls → Calls
read_calls flat =
    record {
      check = λ s. read_verdict (flat.check s);
      lookup = λ s address pc. read_answer (flat.lookup s address pc);
      step = λ s stack process registers. read_step (flat.step s stack process registers);
      trace = λ s stack process registers limit old. read_trace (flat.trace s stack process registers limit old);
    }

-- and the structs of given calls
unfoldable pub flat_calls : Calls → FlatCalls
flat_calls calls =
    record {
      check = λ s. flat_verdict (calls.check s);
      lookup = λ s address pc. flat_answer (calls.lookup s address pc);
      step = λ s stack process registers. flat_step (calls.step s stack process registers);
      trace = λ s stack process registers limit old. flat_trace (calls.trace s stack process registers limit old);
    }

-- what the contracts of these four exported functions of ours name
unfoldable pub exported : FlatCalls
exported = flat_calls ours

-- ---- what a contract allows, and what a call answers to the same arguments

module _ (κs : Lfts 1) (a : Dens κs check-kinds.ps) where
  abbrev pub FlatCheckAllows : (res_t check-kinds.r κs).Denot → Type 0
  FlatCheckAllows z = Allows check-kinds.ps check-kinds.r check-reads.Learnt κs a z (tt, tt)

  abbrev pub flat_check_reply : FlatCalls → (res_t check-kinds.r κs).Denot
  flat_check_reply flat = flat.check a.0.now

module _ (κs : Lfts 1) (a : Dens κs lookup-kinds.ps) where
  abbrev pub FlatLookupAllows : (res_t lookup-kinds.r κs).Denot → Type 0
  FlatLookupAllows z = Allows lookup-kinds.ps lookup-kinds.r lookup-reads.Learnt κs a z (tt, (tt, (tt, tt)))

  abbrev pub flat_lookup_reply : FlatCalls → (res_t lookup-kinds.r κs).Denot
  flat_lookup_reply flat = flat.lookup a.0.now a.1.0 a.1.1.0

module _ (κs : Lfts 2) (a : Dens κs step-kinds.ps) where
  abbrev pub FlatStepAllows : (res_t step-kinds.r κs).Denot → Type 0
  FlatStepAllows z = Allows step-kinds.ps step-kinds.r step-reads.Learnt κs a z (tt, (tt, (tt, (tt, tt))))

  abbrev pub flat_step_reply : FlatCalls → (res_t step-kinds.r κs).Denot
  flat_step_reply flat = flat.step a.0.now a.1.0.now a.1.1.0 a.1.1.1.0

module _ (κs : Lfts 3) (a : Dens κs trace-kinds.ps) where
  abbrev pub FlatTraceAllows : (res_t trace-kinds.r κs).Denot → List ℕ → Type 0
  FlatTraceAllows z words = Allows trace-kinds.ps trace-kinds.r trace-reads.Learnt κs a z (tt, (tt, (tt, (tt, (tt, (words, tt))))))

  abbrev pub flat_trace_reply : FlatCalls → Handed
  flat_trace_reply flat =
      flat.trace a.0.now a.1.0.now a.1.1.0 a.1.1.1.0 a.1.1.1.1.0 a.1.1.1.1.1.0.now

-- ---- flat calls and contracts

-- what these calls answer is allowed, on every input
pub record FlatKeeps (flat : FlatCalls) : Type 0 where
  pub check : (κs : Lfts 1) (a : Dens κs check-kinds.ps) → FlatCheckAllows κs a (flat_check_reply κs a flat)
  pub lookup : (κs : Lfts 1) (a : Dens κs lookup-kinds.ps) → FlatLookupAllows κs a (flat_lookup_reply κs a flat)
  pub step : (κs : Lfts 2) (a : Dens κs step-kinds.ps) → FlatStepAllows κs a (flat_step_reply κs a flat)
  pub trace : (κs : Lfts 3) (a : Dens κs trace-kinds.ps)
      → FlatTraceAllows κs a (flat_trace_reply κs a flat).answer (flat_trace_reply κs a flat).words

-- what is allowed is what these calls answer, and nothing else
pub record FlatGivenBy (flat : FlatCalls) : Type 0 where
  pub check : (κs : Lfts 1) (a : Dens κs check-kinds.ps) (z : (res_t check-kinds.r κs).Denot)
      → FlatCheckAllows κs a z ↔ (z ≡ flat_check_reply κs a flat)
  pub lookup : (κs : Lfts 1) (a : Dens κs lookup-kinds.ps) (z : (res_t lookup-kinds.r κs).Denot)
      → FlatLookupAllows κs a z ↔ (z ≡ flat_lookup_reply κs a flat)
  pub step : (κs : Lfts 2) (a : Dens κs step-kinds.ps) (z : (res_t step-kinds.r κs).Denot)
      → FlatStepAllows κs a z ↔ (z ≡ flat_step_reply κs a flat)
  pub trace : (κs : Lfts 3) (a : Dens κs trace-kinds.ps) (z : (res_t trace-kinds.r κs).Denot) (words : List ℕ)
      → FlatTraceAllows κs a z words ↔ (handed_as z words ≡ flat_trace_reply κs a flat)

-- ---- what is promised of them

pub record FlatDemands (flat : FlatCalls) : Type 0 where
  -- the three demands, of the answers that the structs stand for
  pub demands : Demands (read_calls flat)
  -- nothing else stands in a struct: a field without meaning in a case is 0
  pub flattened : flat ≡ flat_calls (read_calls flat)

abbrev pub FlatPromised : Type 0
FlatPromised = (flat : FlatCalls) → FlatKeeps flat → FlatDemands flat
