-- The exported code itself: each of the eight functions that C calls returns, as `Returns` says it, and runs on the toolchain's machine to the
-- struct that its contract names, as `Runs` says it, in every environment of the machine that is wired for its code.
-- Assumes nothing.
use mathlib.Core.List.{List, [], ◌∷◌}
use Prim.Native.Nat.{ℕ, ◌<◌, ◌^◌}
use lib.ListN.{length}
use mir.Syntax.{w64}
use mir.Val.{vint}
use prog.AdequacyRun.{start_mem}
use prog.Memory.{Memory}
use prog.Routine.{Env}
use prog.Wired.{Wired}
use Rattle.caller.specs.declared.registers.Registers.{Registers}
use Rattle.caller.specs.declared.registers.Process.{Process}
use Rattle.suntimpani.specs.declared.rows.RowsInC.{RowsInC}
use Rattle.promises.specs.AskCall.{exported_ask}
use Rattle.promises.specs.Exported.{exported}
use Rattle.promises.specs.FunctionCall.{exported_function}
use Rattle.promises.specs.RowsCall.{exported_rows}
use Rattle.promises.specs.Returns.{StandsFor, Returns}
use Rattle.promises.specs.Runs.{Runs, Bytes, whole, process_value, ProcessFits, registers_value, RegistersFit, rows_value, RowsFit, Words, WithBuffer, BufferHas}
use Rattle.promises.proofs.ReturnLaws.{𝓤, 𝓜, 𝓖, reading, met_returns}
use Rattle.promises.proofs.Ran.{check_runs, function_at_runs, rows_of_runs, next_row_runs, lookup_runs, ask_runs, caller_runs, trace_runs}
use Rattle.suntimpani.specs.contracts.flat.VerdictInC as verdict-type
use Rattle.suntimpani.specs.contracts.flat.AnswerInC as answer-type
use Rattle.suntimpani.specs.contracts.functions.FunctionInC as function-type
use Rattle.suntimpani.specs.contracts.rows.RowInC as row_type
use Rattle.suntimpani.specs.contracts.rows.RowsInC as rows-type
use Rattle.suntimpani.specs.contracts.walks.StepInC as step-type
use Rattle.suntimpani.specs.contracts.walks.TracedInC as traced-type
use Rattle.suntimpani_c.proofs.suntimpani_check as c-check
use Rattle.suntimpani_c.proofs.suntimpani_function_at as c-function_at
use Rattle.suntimpani_c.proofs.suntimpani_rows_of as c-rows_of
use Rattle.suntimpani_c.proofs.suntimpani_next_row as c-next_row
use Rattle.suntimpani_c.proofs.suntimpani_lookup as c-lookup
use Rattle.suntimpani_c.proofs.suntimpani_ask as c-ask
use Rattle.suntimpani_c.proofs.suntimpani_caller as c-caller
use Rattle.suntimpani_c.proofs.suntimpani_trace as c-trace

pub suntimpani_check_returns : (γ : Env) → Wired γ c-check.Symbol.code → Returns c-check.Kinds.ps c-check.Kinds.r c-check.Reads.Learnt (γ c-check.Symbol.name)
suntimpani_check_returns γ wired = met_returns (c-check.Met.met 𝓤 𝓖 𝓜 (reading γ) wired)

pub suntimpani_check_runs : (γ : Env) → Wired γ c-check.Symbol.code → (s : List ℕ) → Bytes s
    → Runs (γ c-check.Symbol.name) (whole 0 s ∷ []) (start_mem s []) (λ value after. StandsFor verdict-type.the_row (exported.check s) value)
suntimpani_check_runs γ wired = check_runs (γ c-check.Symbol.name) (suntimpani_check_returns γ wired)

pub suntimpani_function_at_returns : (γ : Env) → Wired γ c-function_at.Symbol.code → Returns c-function_at.Kinds.ps c-function_at.Kinds.r c-function_at.Reads.Learnt (γ c-function_at.Symbol.name)
suntimpani_function_at_returns γ wired = met_returns (c-function_at.Met.met 𝓤 𝓖 𝓜 (reading γ) wired)

pub suntimpani_function_at_runs : (γ : Env) → Wired γ c-function_at.Symbol.code → (s : List ℕ) (index : ℕ) → Bytes s → index < 2 ^ 64
    → Runs (γ c-function_at.Symbol.name) (whole 0 s ∷ vint w64 index ∷ []) (start_mem s [])
    (λ value after. StandsFor function-type.the_row (exported_function s index) value)
suntimpani_function_at_runs γ wired = function_at_runs (γ c-function_at.Symbol.name) (suntimpani_function_at_returns γ wired)

pub suntimpani_rows_of_returns : (γ : Env) → Wired γ c-rows_of.Symbol.code → Returns c-rows_of.Kinds.ps c-rows_of.Kinds.r c-rows_of.Reads.Learnt (γ c-rows_of.Symbol.name)
suntimpani_rows_of_returns γ wired = met_returns (c-rows_of.Met.met 𝓤 𝓖 𝓜 (reading γ) wired)

pub suntimpani_rows_of_runs : (γ : Env) → Wired γ c-rows_of.Symbol.code → (s : List ℕ) (index : ℕ) → Bytes s → index < 2 ^ 64
    → Runs (γ c-rows_of.Symbol.name) (whole 0 s ∷ vint w64 index ∷ []) (start_mem s [])
    (λ value after. StandsFor rows-type.the_row (exported_rows.begin s index) value)
suntimpani_rows_of_runs γ wired = rows_of_runs (γ c-rows_of.Symbol.name) (suntimpani_rows_of_returns γ wired)

pub suntimpani_next_row_returns : (γ : Env) → Wired γ c-next_row.Symbol.code → Returns c-next_row.Kinds.ps c-next_row.Kinds.r c-next_row.Reads.Learnt (γ c-next_row.Symbol.name)
suntimpani_next_row_returns γ wired = met_returns (c-next_row.Met.met 𝓤 𝓖 𝓜 (reading γ) wired)

pub suntimpani_next_row_runs : (γ : Env) → Wired γ c-next_row.Symbol.code → (s : List ℕ) (rows : RowsInC) → Bytes s → RowsFit rows
    → Runs (γ c-next_row.Symbol.name) (whole 0 s ∷ rows_value rows ∷ []) (start_mem s [])
    (λ value after. StandsFor row_type.the_row (exported_rows.next s rows) value)
suntimpani_next_row_runs γ wired = next_row_runs (γ c-next_row.Symbol.name) (suntimpani_next_row_returns γ wired)

pub suntimpani_lookup_returns : (γ : Env) → Wired γ c-lookup.Symbol.code → Returns c-lookup.Kinds.ps c-lookup.Kinds.r c-lookup.Reads.Learnt (γ c-lookup.Symbol.name)
suntimpani_lookup_returns γ wired = met_returns (c-lookup.Met.met 𝓤 𝓖 𝓜 (reading γ) wired)

pub suntimpani_lookup_runs : (γ : Env) → Wired γ c-lookup.Symbol.code → (s : List ℕ) (address pc : ℕ) → Bytes s → address < 2 ^ 64 → pc < 2 ^ 64
    → Runs (γ c-lookup.Symbol.name) (whole 0 s ∷ vint w64 address ∷ vint w64 pc ∷ []) (start_mem s [])
    (λ value after. StandsFor answer-type.the_row (exported.lookup s address pc) value)
suntimpani_lookup_runs γ wired = lookup_runs (γ c-lookup.Symbol.name) (suntimpani_lookup_returns γ wired)

pub suntimpani_ask_returns : (γ : Env) → Wired γ c-ask.Symbol.code → Returns c-ask.Kinds.ps c-ask.Kinds.r c-ask.Reads.Learnt (γ c-ask.Symbol.name)
suntimpani_ask_returns γ wired = met_returns (c-ask.Met.met 𝓤 𝓖 𝓜 (reading γ) wired)

pub suntimpani_ask_runs : (γ : Env) → Wired γ c-ask.Symbol.code → (s : List ℕ) (address pc : ℕ) → Bytes s → address < 2 ^ 64 → pc < 2 ^ 64
    → Runs (γ c-ask.Symbol.name) (whole 0 s ∷ vint w64 address ∷ vint w64 pc ∷ []) (start_mem s [])
    (λ value after. StandsFor answer-type.the_row (exported_ask s address pc) value)
suntimpani_ask_runs γ wired = ask_runs (γ c-ask.Symbol.name) (suntimpani_ask_returns γ wired)

pub suntimpani_caller_returns : (γ : Env) → Wired γ c-caller.Symbol.code → Returns c-caller.Kinds.ps c-caller.Kinds.r c-caller.Reads.Learnt (γ c-caller.Symbol.name)
suntimpani_caller_returns γ wired = met_returns (c-caller.Met.met 𝓤 𝓖 𝓜 (reading γ) wired)

pub suntimpani_caller_runs : (γ : Env) → Wired γ c-caller.Symbol.code → (s stack : List ℕ) (process : Process) (registers : Registers) → Bytes s → Bytes stack → ProcessFits process → RegistersFit registers
    → Runs (γ c-caller.Symbol.name) (whole 0 s ∷ whole 1 stack ∷ process_value process ∷ registers_value registers ∷ []) (start_mem s stack)
    (λ value after. StandsFor step-type.the_row (exported.step s stack process registers) value)
suntimpani_caller_runs γ wired = caller_runs (γ c-caller.Symbol.name) (suntimpani_caller_returns γ wired)

pub suntimpani_trace_returns : (γ : Env) → Wired γ c-trace.Symbol.code → Returns c-trace.Kinds.ps c-trace.Kinds.r c-trace.Reads.Learnt (γ c-trace.Symbol.name)
suntimpani_trace_returns γ wired = met_returns (c-trace.Met.met 𝓤 𝓖 𝓜 (reading γ) wired)

pub suntimpani_trace_runs : (γ : Env) → Wired γ c-trace.Symbol.code → (s stack : List ℕ) (process : Process) (registers : Registers) (limit : ℕ) (old : List ℕ) (σ : Memory)
    → Bytes s → Bytes stack → ProcessFits process → RegistersFit registers → limit < 2 ^ 64 → Words old → WithBuffer s stack old σ
    → Runs (γ c-trace.Symbol.name)
    (whole 0 s ∷ whole 1 stack ∷ process_value process ∷ registers_value registers ∷ vint w64 limit ∷ whole 2 old ∷ []) σ
    (λ value after.
    StandsFor traced-type.the_row (exported.trace s stack process registers limit old).answer value
    × BufferHas after (length old) (exported.trace s stack process registers limit old).words)
suntimpani_trace_runs γ wired = trace_runs (γ c-trace.Symbol.name) (suntimpani_trace_returns γ wired)
