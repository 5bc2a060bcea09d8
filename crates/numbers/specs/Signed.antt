-- Signed fields and offsets (SPECIFICATION 2.1), over exact whole numbers. Document 01: "Reading offset byte f0 as 240" is a slip;
-- it is -16.
use Rattle.std.specs.Prelude.{ℕ, ◌^◌, ◌/◌, true, false, ltb, ℤ, pos, ◌-ℤ◌}
use Rattle.numbers.specs.declared.offset.Offset.{Offset}

-- the signed number that the unsigned n stands for in `width` bytes: n in the lower half, n less 256 ^ width in the upper
unfoldable pub signed_of : ℕ → ℕ → ℤ
signed_of width n = elim (ltb n (256 ^ width / 2)) [ true ↦ pos n | false ↦ pos n -ℤ pos (256 ^ width) ]

-- an offset is a number of its own kind, so that it is never taken for an address
unfoldable pub offset_of : ℕ → ℕ → Offset
offset_of width n = record { by = signed_of width n }
