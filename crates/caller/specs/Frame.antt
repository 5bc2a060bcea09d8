-- What a frame's registers say by themselves (SPECIFICATION 5.1, 5.6, 5.11 and 5.13): the mark, the PC that is asked, CFA by a row, and
-- the caller's SP by CFA.
use Rattle.std.specs.Prelude.{ℕ, zero, suc, Bool, true, false, not, eqb, ℤ, pos, ◌+ℤ◌, Option, Some, None}
use Rattle.section.specs.declared.row.Base.{Base}
use Rattle.section.specs.declared.row.Base.TheVariants.{Fp, Sp}
use Rattle.section.specs.declared.row.Row.{Row}
use Rattle.caller.specs.declared.registers.Registers.{Registers}

-- "a first-frame mark": any number but 0
unfoldable pub has_mark : Registers → Bool
has_mark registers = not (eqb registers.first 0)

-- "PC minus 1", which is inside the call that the return address PC stands behind; before PC 0 there is none
unfoldable pub just_before : ℕ → Option ℕ
just_before zero = None
just_before (suc pc) = Some pc

-- request 03, "without the first-frame mark, look up PC minus 1; with it, PC itself": the PC asked, the one that is looked up
unfoldable pub asked_of : Registers → Option ℕ
asked_of registers = elim (has_mark registers) [ true ↦ Some registers.pc | false ↦ just_before registers.pc ]

-- "CFA is base plus first offset.", an exact number
unfoldable pub base_value : Registers → Base → ℕ
base_value registers Fp = registers.fp
base_value registers Sp = registers.sp

unfoldable pub cfa_of : Registers → Row → ℤ
cfa_of registers row = pos (base_value registers row.base) +ℤ row.cfa.by

-- "The caller has .. SP = CFA"
unfoldable pub caller_sp : ℕ → ℕ
caller_sp cfa = cfa

-- and back: the CFA of the frame whose caller has this SP (`cfa_of_caller`)
unfoldable pub cfa_of_sp : ℕ → ℕ
cfa_of_sp sp = sp
