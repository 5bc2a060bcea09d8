-- Document 01, "Section bytes" (SPECIFICATION 2.2 to 2.4): the header's 28 bytes, what stands where, over any bytes. What everything
-- after check 8 needs of it is `layout_of`.
use Rattle.std.specs.Prelude.{ℕ, ◌+◌, ◌*◌, ◌^◌, ◌/◌, ◌%◌, Bool, true, false, List, eqb}
use Rattle.numbers.specs.Field.{field_of, byte_of}
use Rattle.numbers.specs.Signed.{offset_of}
use Rattle.numbers.specs.declared.field.Order.{Order}
use Rattle.numbers.specs.declared.field.Order.TheVariants.{Little, Big}
use Rattle.section.specs.Shape.{abi_of}
use Rattle.section.specs.declared.header.Layout.{Layout}
use Rattle.section.specs.declared.header.Marks.{Marks}
use Rattle.section.specs.declared.header.Sizes.{Sizes}

-- bit k of a byte
unfoldable pub bit_of : ℕ → ℕ → Bool
bit_of k byte = eqb (byte / 2 ^ k % 2) 1

-- "All numbers are in the section's byte order, which the first two bytes give: e2 de little, de e2 big." So a section is
-- in the order in which they make the magic 0xdee2.
unfoldable pub magic_in : List ℕ → Order → Bool
magic_in s order = eqb (field_of s 0 2 order) 0xdee2

unfoldable pub order_of : List ℕ → Order
order_of s = elim (magic_in s Little) [ true ↦ Little | false ↦ Big ]

-- "2 version; 3 flags; 4 ABI; 5 fixed FP offset (i8); 6 fixed RA offset (i8); 7 auxiliary header length"
unfoldable pub marks_of : List ℕ → Marks
marks_of s =
    record {
      version = byte_of s 2;
      flags = byte_of s 3;
      abi = byte_of s 4;
      fp = offset_of 1 (byte_of s 5);
      ra = offset_of 1 (byte_of s 6);
      auxiliary = byte_of s 7;
    }

-- "8 number of functions n (u32); 12 number of rows (u32); 16 row bytes (u32); 20 function table offset (u32); 24 row area
-- offset (u32)"
unfoldable pub sizes_of : List ℕ → Order → Sizes
sizes_of s order =
    record {
      functions = field_of s 8 4 order;
      rows = field_of s 12 4 order;
      bytes = field_of s 16 4 order;
      tableoffset = field_of s 20 4 order;
      areaoffset = field_of s 24 4 order;
    }

-- What is needed after check 8, by which the function table follows the auxiliary header and the row area follows the
-- table. "Flags: 0x1 sorted, 0x2 frame pointer kept, 0x4 start is relative to its own field."
unfoldable pub layout_from : Marks → Sizes → Layout
layout_from marks sizes =
    record {
      abi = abi_of marks.abi;
      functions = sizes.functions;
      rows = sizes.rows;
      sorted = bit_of 0 marks.flags;
      relative = bit_of 2 marks.flags;
      table = 28 + marks.auxiliary;
      area = 28 + marks.auxiliary + 20 * sizes.functions;
    }

unfoldable pub layout_of : List ℕ → Layout
layout_of s = layout_from (marks_of s) (sizes_of s (order_of s))
