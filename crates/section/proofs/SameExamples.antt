-- Written-out rows and functions that document 01 calls the same, and some that it does not, each by computation.
-- Assumes nothing.
use mathlib.Core.Path.{◌≡◌, refl, ap}
use mathlib.Core.Bool.{false≢true}
use mathlib.Core.List.{List, [], ◌∷◌}
use Prim.Native.Nat.{ℕ, suc}
use native.Mathlib.Omega.{arith}
use lib.IntN.{pos, negsuc}
use lib.ListN.{set}
use Rattle.section.specs.Meaning.{Block, plain, repeated, function_in}
use Rattle.section.specs.Row.{row_of}
use Rattle.section.specs.Same.{offsets_in, SameRow}
use Rattle.section.specs.Shape.{shape}
use Rattle.section.specs.Inner.Opened.{section_opened}
use Rattle.section.specs.declared.row.Place.{Place}
use Rattle.section.specs.declared.row.Place.TheVariants.{Register, AtOffset}
use Rattle.section.specs.declared.shape.Abi.TheVariants.{Aarch64Big, Aarch64Little, Amd64}

-- ---- rows: start 4, FP base, offsets 16 and -16

-- a start of 1 byte and offsets of 1 byte
narrow : List ℕ
narrow = 0x04 ∷ 0x04 ∷ 0x10 ∷ 0xf0 ∷ []

-- a start of 2 bytes and offsets of 4 bytes, 3 bytes further on
wide : List ℕ
wide = 0xaa ∷ 0xaa ∷ 0xaa ∷ 0x04 ∷ 0x00 ∷ 0x44 ∷ 0x10 ∷ 0x00 ∷ 0x00 ∷ 0x00 ∷ 0xf0 ∷ 0xff ∷ 0xff ∷ 0xff ∷ []

-- "field widths .. and place in the row area don't count"
width_and_place : row_of narrow (shape Amd64) 0 0 ≡ row_of wide (shape Amd64) 1 3
unfolding section_opened narrow wide
width_and_place = refl

width_and_place_same : SameRow (shape Amd64) narrow 0 0 wide 1 3
unfolding section_opened offsets_in narrow wide
width_and_place_same = record { start = refl; base = refl; offsets = refl; signed = λ signs. refl }

-- "signed bit (AArch64 only)"
signed_ignored : row_of narrow (shape Amd64) 0 0 ≡ row_of (set narrow 1 0x84) (shape Amd64) 0 0
unfolding section_opened narrow
signed_ignored = refl

signed_counts : ¬ (row_of narrow (shape Aarch64Little) 0 0 ≡ row_of (set narrow 1 0x84) (shape Aarch64Little) 0 0)
unfolding section_opened narrow
signed_counts e = false≢true (ap (λ row. row.signed) e)

-- offset -16 in 1 byte and in 2, in both orders
two_bytes_little : row_of (0x00 ∷ 0x03 ∷ 0xf0 ∷ []) (shape Aarch64Little) 0 0 ≡ row_of (0x00 ∷ 0x23 ∷ 0xf0 ∷ 0xff ∷ []) (shape Aarch64Little) 0 0
unfolding section_opened
two_bytes_little = refl

two_bytes_big : row_of (0x00 ∷ 0x03 ∷ 0xf0 ∷ []) (shape Aarch64Big) 0 0 ≡ row_of (0x00 ∷ 0x23 ∷ 0xff ∷ 0xf0 ∷ []) (shape Aarch64Big) 0 0
unfolding section_opened
two_bytes_big = refl

-- one other offset, -15 for -16; the other base; another start
far_off : Place → ℕ
far_off Register = 0
far_off (AtOffset offset) = elim offset.by [ pos k ↦ k | negsuc k ↦ suc k ]

other_offset : ¬ (row_of narrow (shape Amd64) 0 0 ≡ row_of (set narrow 3 0xf1) (shape Amd64) 0 0)
unfolding section_opened narrow far_off
other_offset e = let far : ◌≡◌ {A = ℕ} 16 15 = ap (λ row. far_off row.fp) e in omega arith

other_base : ¬ (row_of narrow (shape Amd64) 0 0 ≡ row_of (set narrow 1 0x05) (shape Amd64) 0 0)
unfolding section_opened narrow
other_base e = let base = ap (λ row. row.base) e in let z : ◌≡◌ {A = ℕ} 0 1 = cc in omega arith

other_start : ¬ (row_of narrow (shape Amd64) 0 0 ≡ row_of (set narrow 0 0x05) (shape Amd64) 0 0)
unfolding section_opened narrow
other_start e = let start : ◌≡◌ {A = ℕ} 4 5 = ap (λ row. row.start) e in omega arith

-- the counts have to be allowed: of 3 offsets on AMD64, which check 12 refuses, the last is not read
third_unread : row_of (0x00 ∷ 0x07 ∷ 0x08 ∷ 0xf0 ∷ 0x01 ∷ []) (shape Amd64) 0 0 ≡ row_of (0x00 ∷ 0x07 ∷ 0x08 ∷ 0xf0 ∷ 0x02 ∷ []) (shape Amd64) 0 0
unfolding section_opened
third_unread = refl

-- ---- functions: start 0x1000, size 0x20, a plain block, and the row above

-- start as it stands, row starts of 1 byte, and zeros for all that does not count
bare : List ℕ
bare =
    0xe2 ∷ 0xde ∷ 0x02 ∷ 0x00 ∷ 0x03 ∷ 0x00 ∷ 0xf8 ∷ 0x00 ∷ 0x01 ∷ 0x00 ∷ 0x00 ∷ 0x00 ∷ 0x01 ∷ 0x00 ∷ 0x00 ∷ 0x00
    ∷ 0x04 ∷ 0x00 ∷ 0x00 ∷ 0x00 ∷ 0x00 ∷ 0x00 ∷ 0x00 ∷ 0x00 ∷ 0x14 ∷ 0x00 ∷ 0x00 ∷ 0x00
    ∷ 0x00 ∷ 0x10 ∷ 0x00 ∷ 0x00 ∷ 0x20 ∷ 0x00 ∷ 0x00 ∷ 0x00 ∷ 0x00 ∷ 0x00 ∷ 0x00 ∷ 0x00 ∷ 0x01 ∷ 0x00 ∷ 0x00 ∷ 0x00 ∷ 0x00 ∷ 0x00 ∷ 0x00 ∷ 0x00
    ∷ narrow

-- start relative to its own field, row starts of 2 bytes, the key bit, a repeat size on a plain block, and padding
dressed : List ℕ
dressed =
    0xe2 ∷ 0xde ∷ 0x02 ∷ 0x04 ∷ 0x03 ∷ 0x00 ∷ 0xf8 ∷ 0x00 ∷ 0x01 ∷ 0x00 ∷ 0x00 ∷ 0x00 ∷ 0x01 ∷ 0x00 ∷ 0x00 ∷ 0x00
    ∷ 0x0e ∷ 0x00 ∷ 0x00 ∷ 0x00 ∷ 0x00 ∷ 0x00 ∷ 0x00 ∷ 0x00 ∷ 0x14 ∷ 0x00 ∷ 0x00 ∷ 0x00
    ∷ 0xe4 ∷ 0x0f ∷ 0x00 ∷ 0x00 ∷ 0x20 ∷ 0x00 ∷ 0x00 ∷ 0x00 ∷ 0x03 ∷ 0x00 ∷ 0x00 ∷ 0x00 ∷ 0x01 ∷ 0x00 ∷ 0x00 ∷ 0x00 ∷ 0x21 ∷ 0x07 ∷ 0xef ∷ 0xbe
    ∷ wide

-- "field widths, key bit, padding and place in the row area don't count", nor, on a plain block, the repeat size
what_does_not_count : function_in bare 0 ≡ function_in dressed 0
unfolding section_opened narrow wide bare dressed
what_does_not_count = refl

-- "block kind": a repeated block is no plain one; "repeat size (PCMASK only)": 7 is not 8
repeating : ℕ → List ℕ
repeating size = set (set bare 44 0x10) 45 size

size_of_block : Block → ℕ
size_of_block plain = 0
size_of_block (repeated size) = size

other_kind : ¬ (function_in bare 0 ≡ function_in (repeating 7) 0)
unfolding section_opened narrow bare repeating size_of_block
other_kind e = let size : ◌≡◌ {A = ℕ} 0 7 = ap (λ function. size_of_block function.block) e in omega arith

other_repeat : ¬ (function_in (repeating 7) 0 ≡ function_in (repeating 8) 0)
unfolding section_opened narrow bare repeating size_of_block
other_repeat e = let size : ◌≡◌ {A = ℕ} 7 8 = ap (λ function. size_of_block function.block) e in omega arith
