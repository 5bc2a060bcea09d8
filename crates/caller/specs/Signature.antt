-- Signed return addresses (SPECIFICATION 5.14): which rows have one, by which bits it is signed, and what it is without them.
use Rattle.std.specs.Prelude.{◌≡◌, Bool, true, false, ◌&&◌, ℕ, ◌-◌, ◌/◌, ◌%◌, ◌^◌}
use Rattle.std.specs.Int.Bits.{bit_and}
use Rattle.section.specs.declared.row.Row.{Row}
use Rattle.section.specs.declared.shape.Shape.{Shape}
use Rattle.caller.specs.declared.registers.Process.{Process}

-- "On AArch64, a row with the signed bit": where the machine signs none, no row is signed, whatever its bit
abbrev pub Signed : Shape → Row → Type 0
Signed shape row = (shape.signs ≡ true) × (row.signed ≡ true)

-- the same as a test (`signed_shows`)
unfoldable pub is_signed : Shape → Row → Bool
is_signed shape row = shape.signs && row.signed

-- the bits that are cleared from RA: "the mask's bits"; "rows without it leave RA as read", so of these none
unfoldable pub mask_of : Shape → Row → Process → ℕ
mask_of shape row process = elim (is_signed shape row) [ true ↦ process.mask | false ↦ 0 ]

-- "has the mask's bits cleared from RA": RA less those of its bits that the mask has too (`clear_exactly_when`)
unfoldable pub clear : ℕ → ℕ → ℕ
clear mask ra = ra - bit_and mask ra

-- this process with another mask
abbrev pub with_mask : Process → ℕ → Process
with_mask process mask = record { section = process.section; stack = process.stack; mask = mask }

-- ---- bit by bit

-- bit k of a number, from 0 on, the lowest first
abbrev pub bit : ℕ → ℕ → ℕ
bit n k = n / 2 ^ k % 2

-- this is RA without the mask's bits: no bit of the mask is set in it, and every other bit is RA's
pub record Cleared (mask ra value : ℕ) : Type 0 where
  pub none : (k : ℕ) → bit mask k ≡ 1 → bit value k ≡ 0
  pub others : (k : ℕ) → bit mask k ≡ 0 → bit value k ≡ bit ra k

-- "only signature bits are set" in RA
abbrev pub OnlySignature : ℕ → ℕ → Type 0
OnlySignature mask ra = (k : ℕ) → bit ra k ≡ 1 → bit mask k ≡ 1
