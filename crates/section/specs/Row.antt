-- Document 01, "Section bytes" (SPECIFICATION 2.7 to 2.9): "Row: start (unsigned), one info byte, then the offsets, signed." Rows
-- stand in the row area, a list of its own; `code` is the row type of the function's entry, so that a start has 2 ^ code bytes.
use Rattle.std.specs.Prelude.{ℕ, zero, suc, ◌+◌, ◌*◌, ◌^◌, ◌/◌, ◌%◌, Bool, true, false, ◌&&◌, List, ltb}
use Rattle.numbers.specs.Field.{field_of, byte_of}
use Rattle.numbers.specs.Signed.{offset_of}
use Rattle.numbers.specs.declared.field.Order.{Order}
use Rattle.numbers.specs.declared.offset.Offset.{Offset}
use Rattle.section.specs.Header.{bit_of}
use Rattle.section.specs.declared.row.Base.{Base}
use Rattle.section.specs.declared.row.Base.TheVariants.{Fp, Sp}
use Rattle.section.specs.declared.row.Place.{Place}
use Rattle.section.specs.declared.row.Place.TheVariants.{Register, AtOffset}
use Rattle.section.specs.declared.row.Row.{Row}
use Rattle.section.specs.declared.shape.Shape.{Shape}

-- the info byte of the row at `at`, and its parts: "bit 0 is 0 for FP base and 1 for SP base; bits 1 to 4 the offset count;
-- bits 5 and 6 offset size 0, 1 or 2 for 1, 2 or 4 bytes; bit 7 signed return address"
unfoldable pub info_of : List ℕ → ℕ → ℕ → ℕ
info_of area code at = byte_of area (at + 2 ^ code)

unfoldable pub base_of : ℕ → Base
base_of info = elim (bit_of 0 info) [ true ↦ Sp | false ↦ Fp ]

unfoldable pub count_of : ℕ → ℕ
count_of info = info / 2 % 16

unfoldable pub offset_size_of : ℕ → ℕ
offset_size_of info = info / 32 % 4

unfoldable pub signed_bit : ℕ → Bool
signed_bit info = bit_of 7 info

-- how many bytes the offsets have that an info byte announces
unfoldable pub offsets_length : ℕ → ℕ
offsets_length info = count_of info * 2 ^ offset_size_of info

-- how many bytes the row at `at` has
unfoldable pub row_length : List ℕ → ℕ → ℕ → ℕ
row_length area code at = 2 ^ code + 1 + offsets_length (info_of area code at)

-- where row k of a function stands, by where its first row does: each row follows the one before it
unfoldable pub row_place : List ℕ → ℕ → ℕ → ℕ → ℕ
row_place area code first zero = first
row_place area code first (suc k) = row_place area code first k + row_length area code (row_place area code first k)

-- "start (unsigned)"
unfoldable pub row_start : List ℕ → Order → ℕ → ℕ → ℕ
row_start area order code at = field_of area at (2 ^ code) order

-- the offset with this number, counted from 0, of those of `size` that begin at `from`
unfoldable pub offset_in : List ℕ → Order → ℕ → ℕ → ℕ → Offset
offset_in area order size from k = offset_of (2 ^ size) (field_of area (from + k * 2 ^ size) (2 ^ size) order)

-- "Each saved place is one of two kinds, in a register or at an offset from CFA": at the offset with this number where the
-- row has so many, else in its register
unfoldable pub place_in : List ℕ → Order → ℕ → ℕ → ℕ → Place
place_in area order info from k =
    elim (ltb k (count_of info)) [ true ↦ AtOffset (offset_in area order (offset_size_of info) from k) | false ↦ Register ]

-- RA is at the fixed offset in every row (AMD64), or where the second offset says (AArch64)
unfoldable pub ra_in : List ℕ → Shape → ℕ → ℕ → Place
ra_in area shape info from = elim shape.usesfixed [ true ↦ AtOffset shape.fixedra | false ↦ place_in area shape.order info from 1 ]

-- the row at `at`; "signed bit (0 on AMD64)"
unfoldable pub row_of : List ℕ → Shape → ℕ → ℕ → Row
row_of area shape code at =
    record {
      start = row_start area shape.order code at;
      base = base_of (info_of area code at);
      cfa = offset_in area shape.order (offset_size_of (info_of area code at)) (at + 2 ^ code + 1) 0;
      ra = ra_in area shape (info_of area code at) (at + 2 ^ code + 1);
      fp = place_in area shape.order (info_of area code at) (at + 2 ^ code + 1) shape.fpindex;
      signed = shape.signs && signed_bit (info_of area code at);
    }
