-- The code of each of the four public functions, of `function_at` and `ask`, of the two that explain, of the readers of rows and of lines, and of the eight exported functions,
-- returns: it reads and writes only what is lent, and ends, with a reply that its contract allows. So it does in every environment γ of
-- the machine that is wired for its code: where its name, and that of each function that it calls, means the code of that function.
-- Assumes nothing.
use mathlib.Core.Path.{refl}
use prog.Routine.{Env}
use prog.Wired.{Wired}
use Rattle.accept.proofs.section_check.check as check
use Rattle.listing.proofs.function.function_at as function_at
use Rattle.listing.proofs.lines.cursor_at as cursor_at
use Rattle.listing.proofs.lines.cursor_of as cursor_of
use Rattle.listing.proofs.lines.next_line as next_line
use Rattle.listing.proofs.reader.next_row as next_row
use Rattle.listing.specs.contracts.reader.next_row as next_row-contract
use Rattle.listing.proofs.reader.place_of as place_of
use Rattle.listing.proofs.reader.reader_of as reader_of
use Rattle.listing.specs.contracts.reader.reader_of as reader_of-contract
use Rattle.listing.proofs.rows.row_turn as row_turn
use Rattle.lookup.proofs.look.lookup as lookup
use Rattle.ask.proofs.land.ask as ask
use Rattle.caller.proofs.registers.Registers.step as step
use Rattle.explain.proofs.looked.explain_lookup as explain_lookup
use Rattle.explain.proofs.stepped.explain_step as explain_step
use Rattle.trace.proofs.walk.trace as trace
use Rattle.suntimpani.proofs.suntimpani_check as exported-check
use Rattle.suntimpani.proofs.suntimpani_function_at as exported-function_at
use Rattle.suntimpani.proofs.suntimpani_rows_of as exported-rows_of
use Rattle.suntimpani.proofs.suntimpani_next_row as exported-next_row
use Rattle.suntimpani.proofs.suntimpani_lookup as exported-lookup
use Rattle.suntimpani.proofs.suntimpani_ask as exported-ask
use Rattle.suntimpani.proofs.suntimpani_caller as exported-caller
use Rattle.suntimpani.proofs.suntimpani_trace as exported-trace
use Rattle.promises.specs.ByClauses.{ReturnsBy}
use Rattle.promises.specs.ReaderSays.{reader_clauses, turn_clauses, reader_says, turn_says}
use Rattle.promises.specs.Returns.{Returns}
use Rattle.promises.proofs.ReturnByLaws.{met_returns_by}
use Rattle.promises.proofs.ReturnLaws.{𝓤, 𝓜, 𝓖, reading, met_returns}

-- ---- the public functions

pub check_returns : (γ : Env) → Wired γ check.Symbol.code → Returns check.Kinds.ps check.Kinds.r check.Reads.Learnt (γ check.Symbol.name)
check_returns γ wired = met_returns (check.Met.met 𝓤 𝓖 𝓜 (reading γ) wired)

pub function_at_returns : (γ : Env) → Wired γ function_at.Symbol.code → Returns function_at.Kinds.ps function_at.Kinds.r function_at.Reads.Learnt (γ function_at.Symbol.name)
function_at_returns γ wired = met_returns (function_at.Met.met 𝓤 𝓖 𝓜 (reading γ) wired)

pub lookup_returns : (γ : Env) → Wired γ lookup.Symbol.code → Returns lookup.Kinds.ps lookup.Kinds.r lookup.Reads.Learnt (γ lookup.Symbol.name)
lookup_returns γ wired = met_returns (lookup.Met.met 𝓤 𝓖 𝓜 (reading γ) wired)

pub ask_returns : (γ : Env) → Wired γ ask.Symbol.code → Returns ask.Kinds.ps ask.Kinds.r ask.Reads.Learnt (γ ask.Symbol.name)
ask_returns γ wired = met_returns (ask.Met.met 𝓤 𝓖 𝓜 (reading γ) wired)

pub step_returns : (γ : Env) → Wired γ step.Symbol.code → Returns step.Kinds.ps step.Kinds.r step.Reads.Learnt (γ step.Symbol.name)
step_returns γ wired = met_returns (step.Met.met 𝓤 𝓖 𝓜 (reading γ) wired)

pub trace_returns : (γ : Env) → Wired γ trace.Symbol.code → Returns trace.Kinds.ps trace.Kinds.r trace.Reads.Learnt (γ trace.Symbol.name)
trace_returns γ wired = met_returns (trace.Met.met 𝓤 𝓖 𝓜 (reading γ) wired)

-- ---- why

pub explain_lookup_returns : (γ : Env) → Wired γ explain_lookup.Symbol.code → Returns explain_lookup.Kinds.ps explain_lookup.Kinds.r explain_lookup.Reads.Learnt (γ explain_lookup.Symbol.name)
explain_lookup_returns γ wired = met_returns (explain_lookup.Met.met 𝓤 𝓖 𝓜 (reading γ) wired)

pub explain_step_returns : (γ : Env) → Wired γ explain_step.Symbol.code → Returns explain_step.Kinds.ps explain_step.Kinds.r explain_step.Reads.Learnt (γ explain_step.Symbol.name)
explain_step_returns γ wired = met_returns (explain_step.Met.met 𝓤 𝓖 𝓜 (reading γ) wired)

-- ---- the rows of a function one at a time, and a section as lines

pub place_of_returns : (γ : Env) → Wired γ place_of.Symbol.code → Returns place_of.Kinds.ps place_of.Kinds.r place_of.Reads.Learnt (γ place_of.Symbol.name)
place_of_returns γ wired = met_returns (place_of.Met.met 𝓤 𝓖 𝓜 (reading γ) wired)

pub row_turn_returns : (γ : Env) → Wired γ row_turn.Symbol.code → Returns row_turn.Kinds.ps row_turn.Kinds.r row_turn.Reads.Learnt (γ row_turn.Symbol.name)
row_turn_returns γ wired = met_returns (row_turn.Met.met 𝓤 𝓖 𝓜 (reading γ) wired)

pub cursor_of_returns : (γ : Env) → Wired γ cursor_of.Symbol.code → Returns cursor_of.Kinds.ps cursor_of.Kinds.r cursor_of.Reads.Learnt (γ cursor_of.Symbol.name)
cursor_of_returns γ wired = met_returns (cursor_of.Met.met 𝓤 𝓖 𝓜 (reading γ) wired)

pub cursor_at_returns : (γ : Env) → Wired γ cursor_at.Symbol.code → Returns cursor_at.Kinds.ps cursor_at.Kinds.r cursor_at.Reads.Learnt (γ cursor_at.Symbol.name)
cursor_at_returns γ wired = met_returns (cursor_at.Met.met 𝓤 𝓖 𝓜 (reading γ) wired)

pub next_line_returns : (γ : Env) → Wired γ next_line.Symbol.code → Returns next_line.Kinds.ps next_line.Kinds.r next_line.Reads.Learnt (γ next_line.Symbol.name)
next_line_returns γ wired = met_returns (next_line.Met.met 𝓤 𝓖 𝓜 (reading γ) wired)

-- ---- the row reader, a struct that holds the section

pub reader_of_returns : (γ : Env) → Wired γ reader_of.Symbol.code → ReturnsBy reader_of-contract.ended reader_clauses (γ reader_of.Symbol.name)
reader_of_returns γ wired =
    met_returns_by reader_of-contract.ended reader_clauses (γ reader_of.Symbol.name) reader_says (record { ghost = λ κs a. tt; requires = λ κs a. refl })
    (reader_of.Met.met 𝓤 𝓖 𝓜 (reading γ) wired)

pub next_row_returns : (γ : Env) → Wired γ next_row.Symbol.code → ReturnsBy next_row-contract.ended turn_clauses (γ next_row.Symbol.name)
next_row_returns γ wired =
    met_returns_by next_row-contract.ended turn_clauses (γ next_row.Symbol.name) turn_says (record { ghost = λ κs a. tt; requires = λ κs a. refl })
    (next_row.Met.met 𝓤 𝓖 𝓜 (reading γ) wired)

-- ---- the exported functions

pub exported_check_returns : (γ : Env) → Wired γ exported-check.Symbol.code → Returns exported-check.Kinds.ps exported-check.Kinds.r exported-check.Reads.Learnt (γ exported-check.Symbol.name)
exported_check_returns γ wired = met_returns (exported-check.Met.met 𝓤 𝓖 𝓜 (reading γ) wired)

pub exported_function_at_returns : (γ : Env) → Wired γ exported-function_at.Symbol.code → Returns exported-function_at.Kinds.ps exported-function_at.Kinds.r exported-function_at.Reads.Learnt (γ exported-function_at.Symbol.name)
exported_function_at_returns γ wired = met_returns (exported-function_at.Met.met 𝓤 𝓖 𝓜 (reading γ) wired)

pub exported_rows_of_returns : (γ : Env) → Wired γ exported-rows_of.Symbol.code → Returns exported-rows_of.Kinds.ps exported-rows_of.Kinds.r exported-rows_of.Reads.Learnt (γ exported-rows_of.Symbol.name)
exported_rows_of_returns γ wired = met_returns (exported-rows_of.Met.met 𝓤 𝓖 𝓜 (reading γ) wired)

pub exported_next_row_returns : (γ : Env) → Wired γ exported-next_row.Symbol.code → Returns exported-next_row.Kinds.ps exported-next_row.Kinds.r exported-next_row.Reads.Learnt (γ exported-next_row.Symbol.name)
exported_next_row_returns γ wired = met_returns (exported-next_row.Met.met 𝓤 𝓖 𝓜 (reading γ) wired)

pub exported_lookup_returns : (γ : Env) → Wired γ exported-lookup.Symbol.code → Returns exported-lookup.Kinds.ps exported-lookup.Kinds.r exported-lookup.Reads.Learnt (γ exported-lookup.Symbol.name)
exported_lookup_returns γ wired = met_returns (exported-lookup.Met.met 𝓤 𝓖 𝓜 (reading γ) wired)

pub exported_ask_returns : (γ : Env) → Wired γ exported-ask.Symbol.code → Returns exported-ask.Kinds.ps exported-ask.Kinds.r exported-ask.Reads.Learnt (γ exported-ask.Symbol.name)
exported_ask_returns γ wired = met_returns (exported-ask.Met.met 𝓤 𝓖 𝓜 (reading γ) wired)

pub exported_caller_returns : (γ : Env) → Wired γ exported-caller.Symbol.code → Returns exported-caller.Kinds.ps exported-caller.Kinds.r exported-caller.Reads.Learnt (γ exported-caller.Symbol.name)
exported_caller_returns γ wired = met_returns (exported-caller.Met.met 𝓤 𝓖 𝓜 (reading γ) wired)

pub exported_trace_returns : (γ : Env) → Wired γ exported-trace.Symbol.code → Returns exported-trace.Kinds.ps exported-trace.Kinds.r exported-trace.Reads.Learnt (γ exported-trace.Symbol.name)
exported_trace_returns γ wired = met_returns (exported-trace.Met.met 𝓤 𝓖 𝓜 (reading γ) wired)
