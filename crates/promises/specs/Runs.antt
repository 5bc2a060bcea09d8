-- How a call runs on the toolchain's abstract machine (`prog.Machine`), with no word of its logic left in the statement: from a memory
-- that has nothing but what is lent, called with pointers and words, the code is done, with a value and a memory of which something
-- holds. There a read of anything else is stuck, and a run that is stuck is not done.
use Rattle.std.specs.Prelude.{◌≡◌, List, map, ℕ, ◌*◌, ◌^◌, ◌<◌, length}
use Rattle.std.proofs.Math.Option.{some}
use mir.Syntax.{Ty, w8, w64, ty_int, ty_array}
use mir.Val.{Val, vint, vstruct, of_list}
use prog.AdequacyRun.{start_mem}
use prog.Machine.{done}
use prog.Memory.{Memory, load_m, store_m, alloc_m}
use prog.Model.{AllFit}
use prog.Routine.{Routine, step}
use denote.Slice.{slice_val}
use Rattle.caller.specs.declared.registers.Registers.{Registers}
use Rattle.caller.specs.declared.registers.Process.{Process}
use Rattle.caller.specs.contracts.registers.Registers as registers-type
use Rattle.caller.proofs.registers.Registers.TheLaws as registers-laws
use Rattle.caller.specs.contracts.registers.Process as process-type
use Rattle.caller.proofs.registers.Process.TheLaws as process-laws
use Rattle.suntimpani.specs.declared.rows.RowsInC.{RowsInC}
use Rattle.suntimpani.specs.contracts.rows.RowsInC as rows-type
use Rattle.suntimpani.proofs.rows.RowsInC.TheLaws as rows-laws
use Rattle.promises.specs.Returns.{StandsFor}

-- run on these values from σ, the routine is done, with a value and a memory of which this holds
abbrev pub Runs : Routine → List Val → Memory → (Val → Memory → Type 0) → Type 0
Runs routine values σ Holds =
    ∥ ((fuel : ℕ) × (value : Val) × (after : Memory) × (step routine fuel values σ ≡ done (value, after)) × Holds value after) ∥₁

-- ---- bytes to read. The memory `start_mem s stack` has two blocks: block 0 holds the bytes of s, and block 1 those of stack

-- they are bytes, and as few as a block can hold
abbrev pub Bytes : List ℕ → Type 0
Bytes s = AllFit w8 s × (length s < 2 ^ 63)

-- a slice of all that stands in a block: where it begins, and how many there are
abbrev pub whole : ℕ → List ℕ → Val
whole block all = slice_val (block, 0) (length all)

-- ---- the structs that are handed in, as the machine holds them, field by field, and that every number fits its field

abbrev pub process_value : Process → Val
process_value = process-laws.lowered

abbrev pub ProcessFits : Process → Type 0
ProcessFits process = StandsFor process-type.the_row process (process_value process)

abbrev pub registers_value : Registers → Val
registers_value = registers-laws.lowered

abbrev pub RegistersFit : Registers → Type 0
RegistersFit registers = StandsFor registers-type.the_row registers (registers_value registers)

abbrev pub rows_value : RowsInC → Val
rows_value = rows-laws.lowered

abbrev pub RowsFit : RowsInC → Type 0
RowsFit rows = StandsFor rows-type.the_row rows (rows_value rows)

-- ---- words to write, in a third block

abbrev pub Words : List ℕ → Type 0
Words ws = AllFit w64 ws × (length ws * 8 < 2 ^ 63)

abbrev pub buffer_type : ℕ → Ty
buffer_type n = ty_array (ty_int w64) n

abbrev pub words_value : List ℕ → Val
words_value ws = vstruct (of_list (map (vint w64) ws))

-- σ is the memory of a section and a stack with one more block, in which the words old are stored
abbrev pub WithBuffer : List ℕ → List ℕ → List ℕ → Memory → Type 0
WithBuffer s stack old σ =
    store_m (alloc_m (start_mem s stack) (buffer_type (length old))) (buffer_type (length old)) 2 0 (words_value old) ≡ some σ

-- a load of the n words there gives ws
abbrev pub BufferHas : Memory → ℕ → List ℕ → Type 0
BufferHas σ n ws = load_m σ (buffer_type n) 2 0 ≡ some (words_value ws)
