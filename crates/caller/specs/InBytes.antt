-- The caller in the bytes of the row that covers the PC asked, row k of function i (SPECIFICATION 2.9, 5.6 to 5.11 and 5.14): what document
-- 01 says of each machine, with no decoded row between.
use Rattle.std.specs.Prelude.{◌≡◌, true, List, ◌⊎◌, ℕ, ◌+◌, ◌^◌, ◌≤◌, ◌<◌, ℤ, pos, ◌+ℤ◌, ◌-ℤ◌}
use Rattle.section.specs.Entry.{type_of}
use Rattle.section.specs.Header.{layout_of}
use Rattle.section.specs.Meaning.{area_of, shape_of, entry_in, row_place_at}
use Rattle.section.specs.Row.{base_of, count_of, offset_size_of, signed_bit, offset_in}
use Rattle.section.specs.declared.shape.Abi.{Abi}
use Rattle.section.specs.declared.shape.Abi.TheVariants.{Aarch64Big, Aarch64Little, Amd64}
use Rattle.accept.specs.Rules.{row_info_at}
use Rattle.lookup.specs.Cases.{FoundCase, row_of_function}
use Rattle.caller.specs.Cases.{WordIs, NoMark, Aarch64, Rule26, LookedUp}
use Rattle.caller.specs.Frame.{base_value, caller_sp}
use Rattle.caller.specs.Signature.{Cleared}
use Rattle.caller.specs.declared.registers.Registers.{Registers}
use Rattle.caller.specs.declared.registers.Process.{Process}

-- the offset with this number, counted from 0, of row k of function i
abbrev pub offset_of_row : List ℕ → ℕ → ℕ → ℕ → ℤ
offset_of_row s i k number =
    (offset_in (area_of s) (shape_of s).order (offset_size_of (row_info_at s i k)) (row_place_at s i k + 2 ^ type_of (entry_in s i).info + 1) number).by

-- "AArch64 and the row's signed bit is set."
abbrev pub SignedInBytes : List ℕ → ℕ → ℕ → Type 0
SignedInBytes s i k = Aarch64 (layout_of s).abi × (signed_bit (row_info_at s i k) ≡ true)

-- "CFA is base plus first offset. 25 when outside 0 to 2^64 - 1."; "bit 0 is 0 for FP base and 1 for SP base" (`base_of`)
abbrev pub CfaInBytes : List ℕ → Registers → ℕ → ℕ → ℕ → Type 0
CfaInBytes s registers i k cfa = (pos (base_value registers (base_of (row_info_at s i k))) +ℤ offset_of_row s i k 0 ≡ pos cfa) × (cfa < 2 ^ 64)

module _ (s stack : List ℕ) (process : Process) (registers : Registers) where
  -- "AArch64 the word at CFA plus the second offset, or LR when the count is 1 and the mark is set"
  abbrev pub RaOnAarch64 : ℕ → ℕ → ℕ → ℕ → Type 0
  RaOnAarch64 i k cfa ra =
      ((2 ≤ count_of (row_info_at s i k)) × WordIs stack process.stack (shape_of s).order (pos cfa +ℤ offset_of_row s i k 1) ra)
      ⊎ ((count_of (row_info_at s i k) ≡ 1) × ¬ NoMark registers × (ra ≡ registers.lr))

  -- "RA: AMD64 the word at CFA - 8"
  abbrev pub RaInBytes : Abi → ℕ → ℕ → ℕ → ℕ → Type 0
  RaInBytes Aarch64Big i k cfa ra = RaOnAarch64 i k cfa ra
  RaInBytes Aarch64Little i k cfa ra = RaOnAarch64 i k cfa ra
  RaInBytes Amd64 i k cfa ra = WordIs stack process.stack (shape_of s).order (pos cfa -ℤ pos 8) ra

  -- "FP: the word at CFA plus the FP offset when the row has one, else unchanged.": the FP offset has number `(shape_of s).fpindex`, by
  -- "(CFA, FP)" and "(CFA, RA, FP)"
  abbrev pub FpInBytes : ℕ → ℕ → ℕ → ℕ → Type 0
  FpInBytes i k cfa fp =
      (((shape_of s).fpindex < count_of (row_info_at s i k))
      × WordIs stack process.stack (shape_of s).order (pos cfa +ℤ offset_of_row s i k (shape_of s).fpindex) fp)
      ⊎ ((count_of (row_info_at s i k) ≤ (shape_of s).fpindex) × (fp ≡ registers.fp))

  -- "On AArch64, a row with the signed bit has the mask's bits cleared from RA, wherever RA came from; rows without it leave RA as read."
  abbrev pub PcInBytes : ℕ → ℕ → ℕ → ℕ → Type 0
  PcInBytes i k ra pc = (SignedInBytes s i k × Cleared process.mask ra pc) ⊎ ((¬ SignedInBytes s i k) × (pc ≡ ra))

  pub record CallerInBytes (caller : Registers) : Type 0 where
    pub function : ℕ
    pub number : ℕ
    -- 41, 1 to 15 and 21 to 23 are past
    pub found : LookedUp s stack process registers (λ d. FoundCase s d (row_of_function s function number) function number)
    pub not_24 : ¬ (SignedInBytes s function number × (process.mask ≡ 0))
    pub cfa : ℕ
    pub cfa_is : CfaInBytes s registers function number cfa
    pub not_26 : ¬ Rule26 registers cfa
    -- 27 and 28 are past, and these are the values
    pub ra : ℕ
    pub ra_is : RaInBytes (layout_of s).abi function number cfa ra
    pub pc : PcInBytes function number ra caller.pc
    pub fp : FpInBytes function number cfa caller.fp
    pub sp : caller.sp ≡ caller_sp cfa
    pub lr : caller.lr ≡ registers.lr
    pub first : caller.first ≡ 0
