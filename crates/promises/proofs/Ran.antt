-- Each of the eight exported functions, run on the toolchain's machine from a memory that has nothing but what is lent, ends with the struct
-- that its contract names, and a trace leaves the buffer with the words that it names. So `Returns` is not said of nothing.
-- Assumes nothing.
use mathlib.Core.Path.{refl, ap, subst}
use mathlib.Core.List.{List, [], ◌∷◌}
use mathlib.Core.Logic.{∥∥₁_prop, ∥∥₁_elim, ∥∥₁_map}
use Prim.Native.Nat.{ℕ, ◌<◌, ◌^◌}
use native.Mathlib.Omega.{arith}
use base.Fraction.{full_share}
use lib.ListN.{length}
use mir.Syntax.{w64}
use mir.Val.{Val, vint}
use base.Fml.{GName, ftrue}
use base.Logic.{ent, emp}
use prog.AdequacyRun.{start_mem}
use prog.Memory.{Memory}
use prog.Routine.{Routine, Env}
use prog.Wired.{Wired}
use ghost.Atoms.{meaning}
use types.Kit.{‵, raw, ◌⊛◌, ◌$◌, ◌∵◌, !, qed, move, keep, drop, split, split3, fsplit, done}
use contract.Adequate.{start_Satisfies, sat_weaken}
use contract.Lifetimes.{Lfts, Shares}
use denote.Builtin.{u64}
use denote.Plain.{uint_Makes}
use denote.Slice.{finally}
use denote.Steps.{nothing}
use denote.Struct.Laws as struct_laws
use denote.Triple.Clauses.{Lasts, lasts}
use borrow.Fn.Kinds.{Dens, ended_of}
use Rattle.caller.specs.declared.registers.Registers.{Registers}
use Rattle.caller.specs.declared.registers.Process.{Process}
use Rattle.caller.specs.contracts.registers.Registers as registers-type
use Rattle.caller.proofs.registers.Registers.TheLaws as registers-laws
use Rattle.caller.specs.contracts.registers.Process as process-type
use Rattle.caller.proofs.registers.Process.TheLaws as process-laws
use Rattle.suntimpani.specs.Flat.{handed_as}
use Rattle.suntimpani.specs.declared.rows.RowsInC.{RowsInC}
use Rattle.suntimpani.specs.declared.walks.TracedInC.{TracedInC}
use Rattle.suntimpani.specs.contracts.flat.VerdictInC as verdict-type
use Rattle.suntimpani.specs.contracts.flat.AnswerInC as answer-type
use Rattle.suntimpani.specs.contracts.functions.FunctionInC as function-type
use Rattle.suntimpani.specs.contracts.rows.RowInC as row_type
use Rattle.suntimpani.specs.contracts.rows.RowsInC as rows-type
use Rattle.suntimpani.proofs.rows.RowsInC.TheLaws as rows-laws
use Rattle.suntimpani.specs.contracts.walks.StepInC as step-type
use Rattle.suntimpani.specs.contracts.walks.TracedInC as traced-type
use Rattle.suntimpani.proofs.suntimpani_check as exported-check
use Rattle.suntimpani.proofs.suntimpani_function_at as exported-function_at
use Rattle.suntimpani.proofs.suntimpani_rows_of as exported-rows_of
use Rattle.suntimpani.proofs.suntimpani_next_row as exported-next_row
use Rattle.suntimpani.proofs.suntimpani_lookup as exported-lookup
use Rattle.suntimpani.proofs.suntimpani_ask as exported-ask
use Rattle.suntimpani.proofs.suntimpani_caller as exported-caller
use Rattle.suntimpani.proofs.suntimpani_trace as exported-trace
use Rattle.promises.specs.AskCall.{exported_ask}
use Rattle.promises.specs.Exported.{exported}
use Rattle.promises.specs.FunctionCall.{exported_function}
use Rattle.promises.specs.RowsCall.{exported_rows}
use Rattle.promises.specs.Returns.{Assertion, ◌∗◌, ◌has◌, StandsFor, HandedBack, Returns}
use Rattle.promises.specs.Runs.{Runs, Bytes, whole, process_value, ProcessFits, registers_value, RegistersFit, rows_value, RowsFit, Words, WithBuffer, BufferHas}
use Rattle.promises.proofs.BufferLaws.{Buffer, words, words_kept, lends_words, can_be_stored, with_buffer, buffer_has}
use Rattle.promises.proofs.ExportedKept.{exports_give}
use Rattle.promises.proofs.ReturnLaws.{𝓤, H, 𝓜, A}
use Rattle.promises.proofs.Returned.{exported_check_returns, exported_function_at_returns, exported_rows_of_returns, exported_next_row_returns, exported_lookup_returns, exported_ask_returns, exported_caller_returns, exported_trace_returns}
use Rattle.promises.proofs.RunLaws.{W, hold, Ready, nothing_yet, and_value, and_lent, referred, referred_to_write, Block, slice, slice_kept, lends_bytes, run_ends, runs}

-- ---- what is handed in

-- a section and a stack, the stack first, since what is lent is put together from the end
two_blocks : (s stack : List ℕ) → Bytes s → Bytes stack → start_mem s stack has Block 1 stack ∗ Block 0 s ∗ emp 𝓤
two_blocks s stack section-bytes stack-bytes =
    sat_weaken 𝓤 H 𝓜 (start_mem s stack) (qed W (raw (Block 0 s) ∷ raw (Block 1 stack) ∷ []) ∵ nothing ! $ move ! (2 ∷ 1 ∷ []) $ done !)
    (start_Satisfies 𝓤 H 𝓜 s stack section-bytes.0 stack-bytes.0)

-- a section alone
one_block : (s : List ℕ) → Bytes s → start_mem s [] has Block 0 s ∗ emp 𝓤
one_block s bytes = start_Satisfies 𝓤 H 𝓜 s [] bytes.0 tt

-- one more slice of a whole block
and_slice : {σ : Memory} {held owned kept : Assertion} (F : Assertion) (j : ℕ) (s : List ℕ) (b : ℕ) → Bytes s
    → Ready σ held owned kept (Block b s ∗ F)
    → ∥ ((α : ℕ) × (γ : GName) × Ready σ (hold α ∗ held) (slice j s b α γ ∗ owned) (slice_kept j s b α γ ∗ kept) F) ∥₁
and_slice F j s b bytes = and_lent (Block b s) (slice j s b) (slice_kept j s b) (lends_bytes j s b (omega arith, omega arith))

-- a word, and the three structs, which are had for nothing
word : (n : ℕ) → n < 2 ^ 64 → ent 𝓤 (emp 𝓤) (meaning 𝓤 H A (u64.own_val n (vint w64 n ∷ [])))
word n fits = uint_Makes W w64 n (vint w64 n ∷ []) (refl, fits)

the_process : (process : Process) → ProcessFits process → ent 𝓤 (emp 𝓤) (meaning 𝓤 H A ((process-type.the_row).own_val process (process_value process ∷ [])))
the_process process fits = struct_laws.makes process-type.the_type process-laws.the_plain W process (process_value process ∷ []) fits

the_registers : (registers : Registers) → RegistersFit registers
    → ent 𝓤 (emp 𝓤) (meaning 𝓤 H A ((registers-type.the_row).own_val registers (registers_value registers ∷ [])))
the_registers registers fit = struct_laws.makes registers-type.the_type registers-laws.the_plain W registers (registers_value registers ∷ []) fit

the_rows : (rows : RowsInC) → RowsFit rows → ent 𝓤 (emp 𝓤) (meaning 𝓤 H A ((rows-type.the_row).own_val rows (rows_value rows ∷ [])))
the_rows rows fit = struct_laws.makes rows-type.the_type rows-laws.the_plain W rows (rows_value rows ∷ []) fit

-- ---- the runs, of any routine that returns so, and of what the functions' names mean

pub check_runs : (routine : Routine) → Returns exported-check.Kinds.ps exported-check.Kinds.r exported-check.Reads.Learnt routine → (s : List ℕ) → Bytes s
    → Runs routine (whole 0 s ∷ []) (start_mem s []) (λ value after. StandsFor verdict-type.the_row (exported.check s) value)
check_runs routine returns s bytes =
    ∥∥₁_elim (and_slice (emp 𝓤) 0 s 0 bytes (nothing_yet (one_block s bytes))) ∥∥₁_prop λ lent.
    let (α, δ, all) = lent in
    let κs : Lfts 1 = (α ∷ [], tt) in
    let a : Dens κs exported-check.Kinds.ps = (referred 0 s, tt) in
    runs returns κs tt (full_share, tt) a (whole 0 s ∷ [], tt) all (λ z w. (exports_give.check κs a z).0)

pub exported_check_runs : (γ : Env) → Wired γ exported-check.Symbol.code → (s : List ℕ) → Bytes s
    → Runs (γ exported-check.Symbol.name) (whole 0 s ∷ []) (start_mem s []) (λ value after. StandsFor verdict-type.the_row (exported.check s) value)
exported_check_runs γ wired = check_runs (γ exported-check.Symbol.name) (exported_check_returns γ wired)

pub function_at_runs : (routine : Routine) → Returns exported-function_at.Kinds.ps exported-function_at.Kinds.r exported-function_at.Reads.Learnt routine → (s : List ℕ) (index : ℕ) → Bytes s → index < 2 ^ 64
    → Runs routine (whole 0 s ∷ vint w64 index ∷ []) (start_mem s [])
    (λ value after. StandsFor function-type.the_row (exported_function s index) value)
unfolding exported_function
function_at_runs routine returns s index bytes index-fits =
    ∥∥₁_elim (and_slice (emp 𝓤) 0 s 0 bytes (and_value (word index index-fits) (nothing_yet (one_block s bytes)))) ∥∥₁_prop λ lent.
    let (α, δ, all) = lent in
    let κs : Lfts 1 = (α ∷ [], tt) in
    let a : Dens κs exported-function_at.Kinds.ps = (referred 0 s, (index, tt)) in
    runs returns κs tt (full_share, tt) a (whole 0 s ∷ [], (vint w64 index ∷ [], tt)) all (λ z w allowed. allowed)

pub exported_function_at_runs : (γ : Env) → Wired γ exported-function_at.Symbol.code → (s : List ℕ) (index : ℕ) → Bytes s → index < 2 ^ 64
    → Runs (γ exported-function_at.Symbol.name) (whole 0 s ∷ vint w64 index ∷ []) (start_mem s [])
    (λ value after. StandsFor function-type.the_row (exported_function s index) value)
exported_function_at_runs γ wired = function_at_runs (γ exported-function_at.Symbol.name) (exported_function_at_returns γ wired)

pub rows_of_runs : (routine : Routine) → Returns exported-rows_of.Kinds.ps exported-rows_of.Kinds.r exported-rows_of.Reads.Learnt routine → (s : List ℕ) (index : ℕ) → Bytes s → index < 2 ^ 64
    → Runs routine (whole 0 s ∷ vint w64 index ∷ []) (start_mem s [])
    (λ value after. StandsFor rows-type.the_row (exported_rows.begin s index) value)
unfolding exported_rows
rows_of_runs routine returns s index bytes index-fits =
    ∥∥₁_elim (and_slice (emp 𝓤) 0 s 0 bytes (and_value (word index index-fits) (nothing_yet (one_block s bytes)))) ∥∥₁_prop λ lent.
    let (α, δ, all) = lent in
    let κs : Lfts 1 = (α ∷ [], tt) in
    let a : Dens κs exported-rows_of.Kinds.ps = (referred 0 s, (index, tt)) in
    runs returns κs tt (full_share, tt) a (whole 0 s ∷ [], (vint w64 index ∷ [], tt)) all (λ z w allowed. allowed)

pub exported_rows_of_runs : (γ : Env) → Wired γ exported-rows_of.Symbol.code → (s : List ℕ) (index : ℕ) → Bytes s → index < 2 ^ 64
    → Runs (γ exported-rows_of.Symbol.name) (whole 0 s ∷ vint w64 index ∷ []) (start_mem s [])
    (λ value after. StandsFor rows-type.the_row (exported_rows.begin s index) value)
exported_rows_of_runs γ wired = rows_of_runs (γ exported-rows_of.Symbol.name) (exported_rows_of_returns γ wired)

pub next_row_runs : (routine : Routine) → Returns exported-next_row.Kinds.ps exported-next_row.Kinds.r exported-next_row.Reads.Learnt routine → (s : List ℕ) (rows : RowsInC) → Bytes s → RowsFit rows
    → Runs routine (whole 0 s ∷ rows_value rows ∷ []) (start_mem s [])
    (λ value after. StandsFor row_type.the_row (exported_rows.next s rows) value)
unfolding exported_rows
next_row_runs routine returns s rows bytes rows_fit =
    ∥∥₁_elim (and_slice (emp 𝓤) 0 s 0 bytes (and_value (the_rows rows rows_fit) (nothing_yet (one_block s bytes)))) ∥∥₁_prop λ lent.
    let (α, δ, all) = lent in
    let κs : Lfts 1 = (α ∷ [], tt) in
    let a : Dens κs exported-next_row.Kinds.ps = (referred 0 s, (rows, tt)) in
    runs returns κs tt (full_share, tt) a (whole 0 s ∷ [], (rows_value rows ∷ [], tt)) all (λ z w allowed. allowed)

pub exported_next_row_runs : (γ : Env) → Wired γ exported-next_row.Symbol.code → (s : List ℕ) (rows : RowsInC) → Bytes s → RowsFit rows
    → Runs (γ exported-next_row.Symbol.name) (whole 0 s ∷ rows_value rows ∷ []) (start_mem s [])
    (λ value after. StandsFor row_type.the_row (exported_rows.next s rows) value)
exported_next_row_runs γ wired = next_row_runs (γ exported-next_row.Symbol.name) (exported_next_row_returns γ wired)

pub lookup_runs : (routine : Routine) → Returns exported-lookup.Kinds.ps exported-lookup.Kinds.r exported-lookup.Reads.Learnt routine → (s : List ℕ) (address pc : ℕ) → Bytes s → address < 2 ^ 64 → pc < 2 ^ 64
    → Runs routine (whole 0 s ∷ vint w64 address ∷ vint w64 pc ∷ []) (start_mem s [])
    (λ value after. StandsFor answer-type.the_row (exported.lookup s address pc) value)
lookup_runs routine returns s address pc bytes address-fits pc-fits =
    ∥∥₁_elim
    (and_slice (emp 𝓤) 0 s 0 bytes (and_value (word address address-fits) (and_value (word pc pc-fits) (nothing_yet (one_block s bytes)))))
    ∥∥₁_prop λ lent.
    let (α, δ, all) = lent in
    let κs : Lfts 1 = (α ∷ [], tt) in
    let a : Dens κs exported-lookup.Kinds.ps = (referred 0 s, (address, (pc, tt))) in
    runs returns κs tt (full_share, tt) a (whole 0 s ∷ [], (vint w64 address ∷ [], (vint w64 pc ∷ [], tt))) all (λ z w. (exports_give.lookup κs a z).0)

pub exported_lookup_runs : (γ : Env) → Wired γ exported-lookup.Symbol.code → (s : List ℕ) (address pc : ℕ) → Bytes s → address < 2 ^ 64 → pc < 2 ^ 64
    → Runs (γ exported-lookup.Symbol.name) (whole 0 s ∷ vint w64 address ∷ vint w64 pc ∷ []) (start_mem s [])
    (λ value after. StandsFor answer-type.the_row (exported.lookup s address pc) value)
exported_lookup_runs γ wired = lookup_runs (γ exported-lookup.Symbol.name) (exported_lookup_returns γ wired)

pub ask_runs : (routine : Routine) → Returns exported-ask.Kinds.ps exported-ask.Kinds.r exported-ask.Reads.Learnt routine → (s : List ℕ) (address pc : ℕ) → Bytes s → address < 2 ^ 64 → pc < 2 ^ 64
    → Runs routine (whole 0 s ∷ vint w64 address ∷ vint w64 pc ∷ []) (start_mem s [])
    (λ value after. StandsFor answer-type.the_row (exported_ask s address pc) value)
unfolding exported_ask
ask_runs routine returns s address pc bytes address-fits pc-fits =
    ∥∥₁_elim
    (and_slice (emp 𝓤) 0 s 0 bytes (and_value (word address address-fits) (and_value (word pc pc-fits) (nothing_yet (one_block s bytes)))))
    ∥∥₁_prop λ lent.
    let (α, δ, all) = lent in
    let κs : Lfts 1 = (α ∷ [], tt) in
    let a : Dens κs exported-ask.Kinds.ps = (referred 0 s, (address, (pc, tt))) in
    runs returns κs tt (full_share, tt) a (whole 0 s ∷ [], (vint w64 address ∷ [], (vint w64 pc ∷ [], tt))) all (λ z w allowed. allowed)

pub exported_ask_runs : (γ : Env) → Wired γ exported-ask.Symbol.code → (s : List ℕ) (address pc : ℕ) → Bytes s → address < 2 ^ 64 → pc < 2 ^ 64
    → Runs (γ exported-ask.Symbol.name) (whole 0 s ∷ vint w64 address ∷ vint w64 pc ∷ []) (start_mem s [])
    (λ value after. StandsFor answer-type.the_row (exported_ask s address pc) value)
exported_ask_runs γ wired = ask_runs (γ exported-ask.Symbol.name) (exported_ask_returns γ wired)

pub caller_runs : (routine : Routine) → Returns exported-caller.Kinds.ps exported-caller.Kinds.r exported-caller.Reads.Learnt routine → (s stack : List ℕ) (process : Process) (registers : Registers) → Bytes s → Bytes stack → ProcessFits process → RegistersFit registers
    → Runs routine (whole 0 s ∷ whole 1 stack ∷ process_value process ∷ registers_value registers ∷ []) (start_mem s stack)
    (λ value after. StandsFor step-type.the_row (exported.step s stack process registers) value)
caller_runs routine returns s stack process registers section-bytes stack-bytes process-fits registers-fit =
    ∥∥₁_elim
    (and_slice (Block 0 s ∗ emp 𝓤) 1 stack 1 stack-bytes
    (and_value (the_process process process-fits) (and_value (the_registers registers registers-fit) (nothing_yet (two_blocks s stack section-bytes stack-bytes)))))
    ∥∥₁_prop λ stack-lent.
    let (β, ε, second) = stack-lent in
    ∥∥₁_elim (and_slice (emp 𝓤) 0 s 0 section-bytes second) ∥∥₁_prop λ lent.
    let (α, δ, all) = lent in
    let κs : Lfts 2 = (α ∷ [], (β ∷ [], tt)) in
    let a : Dens κs exported-caller.Kinds.ps = (referred 0 s, (referred 1 stack, (process, (registers, tt)))) in
    runs returns κs tt (full_share, (full_share, tt)) a (whole 0 s ∷ [], (whole 1 stack ∷ [], (process_value process ∷ [], (registers_value registers ∷ [], tt)))) all (λ z w. (exports_give.step κs a z).0)

pub exported_caller_runs : (γ : Env) → Wired γ exported-caller.Symbol.code → (s stack : List ℕ) (process : Process) (registers : Registers) → Bytes s → Bytes stack → ProcessFits process → RegistersFit registers
    → Runs (γ exported-caller.Symbol.name) (whole 0 s ∷ whole 1 stack ∷ process_value process ∷ registers_value registers ∷ []) (start_mem s stack)
    (λ value after. StandsFor step-type.the_row (exported.step s stack process registers) value)
exported_caller_runs γ wired = caller_runs (γ exported-caller.Symbol.name) (exported_caller_returns γ wired)

-- ---- the trace

-- there is a memory with a buffer
pub buffer_can_be_stored : (s stack old : List ℕ) → Bytes s → Bytes stack → Words old → ∥ ((σ : Memory) × WithBuffer s stack old σ) ∥₁
buffer_can_be_stored s stack old section-bytes stack-bytes old-words =
    can_be_stored s stack old old-words.0 (Block 1 stack ∗ Block 0 s ∗ emp 𝓤) (two_blocks s stack section-bytes stack-bytes)

-- what a trace hands back, with what the buffer's lender kept, is the buffer
module _ (κs : Lfts 3) (qs : Shares 3) (a : Dens κs exported-trace.Kinds.ps) (w : Lasts (ended_of 3 exported-trace.Kinds.ps exported-trace.Kinds.r) κs a) where
  gives_back : (z : TracedInC) (v : Val) (P Q R : Assertion)
      → ent 𝓤 (HandedBack exported-trace.Kinds.ps exported-trace.Kinds.r κs qs a z v w ∗ (P ∗ Q ∗ R ∗ emp 𝓤) ∗ emp 𝓤)
      (A.lft κs.1.1.0 qs.1.1.0 ∗ meaning 𝓤 H A (finally u64 a.1.1.1.1.1.0.ghost_name w.1.1.1.1.1.0) ∗ R)
  gives_back z v P Q R =
      qed W ((‵ (lasts (ended_of 3 exported-trace.Kinds.ps exported-trace.Kinds.r) κs a w)
      ⊛ (raw (A.lft κs.0 qs.0) ⊛ raw (A.lft κs.1.0 qs.1.0) ⊛ raw (A.lft κs.1.1.0 qs.1.1.0) ⊛ ‵ ftrue)
      ⊛ raw (meaning 𝓤 H A ((traced-type.the_row).own_val z (v ∷ [])))) ∷ (raw P ⊛ raw Q ⊛ raw R ⊛ ‵ ftrue) ∷ ‵ ftrue ∷ []) ∵
      -- nothing is said of the last values of the first five parameters
      split3 ! $ fsplit ! $ drop ! $ fsplit ! $ drop ! $ fsplit ! $ drop ! $ fsplit ! $ drop ! $ fsplit ! $ drop ! $ fsplit ! $ fsplit ! $
      -- [the last words and their number; what is still lent; true; the hold on each lifetime; the reply; what the lenders kept; true]
      move ! (3 ∷ []) $ split3 ! $ move ! (2 ∷ []) $ split ! $ keep ! (0 ∷ 4 ∷ 8 ∷ []) $ move ! (2 ∷ []) $ split3 ! $ move ! (2 ∷ []) $ split ! $
      keep ! (4 ∷ 5 ∷ 0 ∷ []) $ move ! (1 ∷ []) $ fsplit ! $ keep ! (2 ∷ 0 ∷ 3 ∷ []) $ done !

pub trace_runs : (routine : Routine) → Returns exported-trace.Kinds.ps exported-trace.Kinds.r exported-trace.Reads.Learnt routine → (s stack : List ℕ) (process : Process) (registers : Registers) (limit : ℕ) (old : List ℕ) (σ : Memory)
    → Bytes s → Bytes stack → ProcessFits process → RegistersFit registers → limit < 2 ^ 64 → Words old → WithBuffer s stack old σ
    → Runs routine
    (whole 0 s ∷ whole 1 stack ∷ process_value process ∷ registers_value registers ∷ vint w64 limit ∷ whole 2 old ∷ []) σ
    (λ value after.
    StandsFor traced-type.the_row (exported.trace s stack process registers limit old).answer value
    × BufferHas after (length old) (exported.trace s stack process registers limit old).words)
unfolding handed_as
trace_runs routine returns s stack process registers limit old σ section-bytes stack-bytes process-fits registers-fit limit-fits old-words is-stored =
    let blocks : Assertion = Block 1 stack ∗ Block 0 s ∗ emp 𝓤 in
    ∥∥₁_elim
    (and_lent (Buffer (length old) old) (words 2 old) (words_kept 2 old) (lends_words 2 old (omega arith, omega arith))
    (nothing_yet (with_buffer s stack old old-words.0 blocks (two_blocks s stack section-bytes stack-bytes) σ is-stored)))
    ∥∥₁_prop λ Buffer-Lent.
    let (μ, ν, third) = Buffer-Lent in
    ∥∥₁_elim
    (and_slice (Block 0 s ∗ emp 𝓤) 1 stack 1 stack-bytes
    (and_value (the_process process process-fits) (and_value (the_registers registers registers-fit) (and_value (word limit limit-fits) third))))
    ∥∥₁_prop λ stack-lent.
    let (β, ε, second) = stack-lent in
    ∥∥₁_elim (and_slice (emp 𝓤) 0 s 0 section-bytes second) ∥∥₁_prop λ lent.
    let (α, δ, all) = lent in
    let κs : Lfts 3 = (α ∷ [], (β ∷ [], (μ ∷ [], tt))) in
    let qs : Shares 3 = (full_share, (full_share, (full_share, tt))) in
    let a : Dens κs exported-trace.Kinds.ps = (referred 0 s, (referred 1 stack, (process, (registers, (limit, (referred_to_write 2 old ν, tt)))))) in
    ∥∥₁_elim (run_ends returns κs tt qs a (whole 0 s ∷ [], (whole 1 stack ∷ [], (process_value process ∷ [], (registers_value registers ∷ [], (vint w64 limit ∷ [], (whole 2 old ∷ [], tt)))))) all) ∥∥₁_prop λ end.
    let left : List ℕ = end.last.1.1.1.1.1.0 in
    let same = (exports_give.trace κs a end.reply left).0 end.allowed in
    ∥∥₁_map
    (buffer_has (length old) μ ν left end.after _
    (gives_back κs qs a end.last end.reply end.value (slice_kept 0 s 0 α δ) (slice_kept 1 stack 1 β ε) (words_kept 2 old μ ν)) end.left)
    λ loaded. (
      end.fuel,
      end.value,
      end.after,
      end.ends,
      (
        subst (λ z. StandsFor traced-type.the_row z end.value) (ap (λ both. both.answer) same) end.stands_for,
        subst (λ ws. BufferHas end.after (length old) ws) (ap (λ both. both.words) same) loaded,
      ),
    )

pub exported_trace_runs : (γ : Env) → Wired γ exported-trace.Symbol.code → (s stack : List ℕ) (process : Process) (registers : Registers) (limit : ℕ) (old : List ℕ) (σ : Memory)
    → Bytes s → Bytes stack → ProcessFits process → RegistersFit registers → limit < 2 ^ 64 → Words old → WithBuffer s stack old σ
    → Runs (γ exported-trace.Symbol.name)
    (whole 0 s ∷ whole 1 stack ∷ process_value process ∷ registers_value registers ∷ vint w64 limit ∷ whole 2 old ∷ []) σ
    (λ value after.
    StandsFor traced-type.the_row (exported.trace s stack process registers limit old).answer value
    × BufferHas after (length old) (exported.trace s stack process registers limit old).words)
exported_trace_runs γ wired = trace_runs (γ exported-trace.Symbol.name) (exported_trace_returns γ wired)
