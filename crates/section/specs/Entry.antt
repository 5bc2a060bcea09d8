-- Document 01, "Section bytes" (SPECIFICATION 2.5): a function entry's 20 bytes, what stands where, and its effective start.
use Rattle.std.specs.Prelude.{ℕ, ◌+◌, ◌%◌, Bool, true, false, List, ℤ}
use Rattle.numbers.specs.Field.{field_of, byte_of}
use Rattle.numbers.specs.Start.{start_at}
use Rattle.numbers.specs.declared.field.Order.{Order}
use Rattle.section.specs.Header.{bit_of}
use Rattle.section.specs.declared.entry.Entry.{Entry}

-- "Function entry, 20 bytes: 0 start (i32); 4 size (u32); 8 offset of first row in the row area (u32); 12 number of rows
-- (u32); 16 info; 17 repeat size; 18 padding (u16, ignored)." `place` is where it stands in the section.
unfoldable pub entry_of : List ℕ → Order → ℕ → Entry
entry_of s order place =
    record {
      place = place;
      start = field_of s place 4 order;
      size = field_of s (place + 4) 4 order;
      first = field_of s (place + 8) 4 order;
      rows = field_of s (place + 12) 4 order;
      info = byte_of s (place + 16);
      repeat = byte_of s (place + 17);
    }

-- "Info: bits 0 to 3 row type 0, 1 or 2 for row starts of 1, 2 or 4 bytes"
unfoldable pub type_of : ℕ → ℕ
type_of info = info % 16

-- "bit 4 is 1 for repeated blocks (PCMASK)"
unfoldable pub repeats : ℕ → Bool
repeats info = bit_of 4 info

-- "The effective start counts from the first byte of the section: the start field, plus the field's own position in the
-- section when flag 0x4 is set.": what the start field at a place counts from, and the start of an entry
unfoldable pub position_at : Bool → ℕ → ℕ
position_at relative place = elim relative [ true ↦ place | false ↦ 0 ]

unfoldable pub start_of : Bool → Entry → ℤ
start_of relative entry = start_at entry.start (position_at relative entry.place)
