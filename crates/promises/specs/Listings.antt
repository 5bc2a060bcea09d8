-- Written-out sections that list the same functions and differ where "field widths, key bit, padding and place in the row area don't
-- count", and one with a byte changed that counts, all AArch64 little-endian; section S in another order; and two sorted sections in
-- different orders.
use Rattle.std.specs.Prelude.{Bool, true, false, List, [], ◌∷◌, ◌++◌, ℕ, ◌+◌, pos, negsuc, set}
use Rattle.numbers.specs.Field.{field_of}
use Rattle.section.specs.Entry.{type_of}
use Rattle.section.specs.Header.{bit_of, order_of}
use Rattle.section.specs.Meaning.{plain, repeated, Function, entry_in}
use Rattle.section.specs.Row.{offset_size_of}
use Rattle.section.specs.declared.row.Base.TheVariants.{Fp, Sp}
use Rattle.section.specs.declared.row.Place.TheVariants.{Register, AtOffset}
use Rattle.accept.specs.Rules.{row_info_at}

-- ---- the two functions

-- 0x1000 to 0x1020: at first CFA is SP and all is in registers; from 4 on CFA is SP + 32, RA lies at CFA - 24 and is signed, and FP lies
-- at CFA - 32
unfoldable pub plain_function : Function
plain_function =
    record {
      start = pos 0x1000;
      size = 0x20;
      block = plain;
      rows =
          record { start = 0; base = Sp; cfa = record { by = pos 0 }; ra = Register; fp = Register; signed = false }
          ∷ record {
            start = 4;
            base = Sp;
            cfa = record { by = pos 32 };
            ra = AtOffset (record { by = negsuc 23 });
            fp = AtOffset (record { by = negsuc 31 });
            signed = true;
          }
          ∷ [];
    }

-- 0x1100 to 0x1200 in blocks of 16: CFA is FP + 16, and RA lies at CFA - 8
unfoldable pub repeated_function : Function
repeated_function =
    record {
      start = pos 0x1100;
      size = 0x100;
      block = repeated 16;
      rows =
          record { start = 0; base = Fp; cfa = record { by = pos 16 }; ra = AtOffset (record { by = negsuc 7 }); fp = Register; signed = false }
          ∷ [];
    }

-- the repeated function with CFA at FP + 24
unfoldable pub shifted_function : Function
shifted_function =
    record {
      start = pos 0x1100;
      size = 0x100;
      block = repeated 16;
      rows =
          record { start = 0; base = Fp; cfa = record { by = pos 24 }; ra = AtOffset (record { by = negsuc 7 }); fp = Register; signed = false }
          ∷ [];
    }

-- ---- sorted (flag 0x1), starts as they stand, no auxiliary header, 12 row bytes; row starts and offsets of 1 byte, no key bit

unfoldable pub sorted_listing : List ℕ
sorted_listing =
    -- header
    0xe2 ∷ 0xde ∷ 0x02 ∷ 0x01 ∷ 0x02 ∷ 0x00 ∷ 0x00 ∷ 0x00 ∷ 0x02 ∷ 0x00 ∷ 0x00 ∷ 0x00 ∷ 0x03 ∷ 0x00 ∷ 0x00 ∷ 0x00
    ∷ 0x0c ∷ 0x00 ∷ 0x00 ∷ 0x00 ∷ 0x00 ∷ 0x00 ∷ 0x00 ∷ 0x00 ∷ 0x28 ∷ 0x00 ∷ 0x00 ∷ 0x00
    -- entry 0: the plain function, its rows at 0
    ∷ 0x00 ∷ 0x10 ∷ 0x00 ∷ 0x00 ∷ 0x20 ∷ 0x00 ∷ 0x00 ∷ 0x00 ∷ 0x00 ∷ 0x00 ∷ 0x00 ∷ 0x00 ∷ 0x02 ∷ 0x00 ∷ 0x00 ∷ 0x00 ∷ 0x00 ∷ 0x00 ∷ 0x00 ∷ 0x00
    -- entry 1: the repeated function, its row at 8
    ∷ 0x00 ∷ 0x11 ∷ 0x00 ∷ 0x00 ∷ 0x00 ∷ 0x01 ∷ 0x00 ∷ 0x00 ∷ 0x08 ∷ 0x00 ∷ 0x00 ∷ 0x00 ∷ 0x01 ∷ 0x00 ∷ 0x00 ∷ 0x00 ∷ 0x10 ∷ 0x10 ∷ 0x00 ∷ 0x00
    -- the plain function's rows: one offset; three offsets and the signed bit
    ∷ 0x00 ∷ 0x03 ∷ 0x00
    ∷ 0x04 ∷ 0x87 ∷ 0x20 ∷ 0xe8 ∷ 0xe0
    -- the repeated function's row: two offsets
    ∷ 0x00 ∷ 0x04 ∷ 0x10 ∷ 0xf8 ∷ []

-- ---- unsorted, starts relative to their own fields (flag 0x4), 3 bytes of auxiliary header, 31 row bytes; the functions in the other
-- order, with key bit and padding

unfoldable pub other_listing : List ℕ
other_listing =
    -- header, and the auxiliary header
    0xe2 ∷ 0xde ∷ 0x02 ∷ 0x04 ∷ 0x02 ∷ 0x00 ∷ 0x00 ∷ 0x03 ∷ 0x02 ∷ 0x00 ∷ 0x00 ∷ 0x00 ∷ 0x03 ∷ 0x00 ∷ 0x00 ∷ 0x00
    ∷ 0x1f ∷ 0x00 ∷ 0x00 ∷ 0x00 ∷ 0x00 ∷ 0x00 ∷ 0x00 ∷ 0x00 ∷ 0x28 ∷ 0x00 ∷ 0x00 ∷ 0x00
    ∷ 0xaa ∷ 0xbb ∷ 0xcc
    -- entry 0, at 31: the repeated function, row starts of 4 bytes, its row at 2
    ∷ 0xe1 ∷ 0x10 ∷ 0x00 ∷ 0x00 ∷ 0x00 ∷ 0x01 ∷ 0x00 ∷ 0x00 ∷ 0x02 ∷ 0x00 ∷ 0x00 ∷ 0x00 ∷ 0x01 ∷ 0x00 ∷ 0x00 ∷ 0x00 ∷ 0x32 ∷ 0x10 ∷ 0xef ∷ 0xbe
    -- entry 1, at 51: the plain function, row starts of 2 bytes, its rows at 16, and a repeat size, which is ignored
    ∷ 0xcd ∷ 0x0f ∷ 0x00 ∷ 0x00 ∷ 0x20 ∷ 0x00 ∷ 0x00 ∷ 0x00 ∷ 0x10 ∷ 0x00 ∷ 0x00 ∷ 0x00 ∷ 0x02 ∷ 0x00 ∷ 0x00 ∷ 0x00 ∷ 0x21 ∷ 0x07 ∷ 0xfe ∷ 0xca
    -- two unused bytes, and the repeated function's row with offsets of 4 bytes
    ∷ 0xff ∷ 0xff
    ∷ 0x00 ∷ 0x00 ∷ 0x00 ∷ 0x00 ∷ 0x44 ∷ 0x10 ∷ 0x00 ∷ 0x00 ∷ 0x00 ∷ 0xf8 ∷ 0xff ∷ 0xff ∷ 0xff
    -- an unused byte, the plain function's rows with offsets of 2 bytes, and another unused byte
    ∷ 0xee
    ∷ 0x00 ∷ 0x00 ∷ 0x23 ∷ 0x00 ∷ 0x00
    ∷ 0x04 ∷ 0x00 ∷ 0xa7 ∷ 0x20 ∷ 0x00 ∷ 0xe8 ∷ 0xff ∷ 0xe0 ∷ 0xff
    ∷ 0xdd ∷ []

-- ---- the same with the shifted function for the repeated one, by one byte of an offset

unfoldable pub changed_listing : List ℕ
changed_listing = set other_listing 78 0x18

-- ---- section S of document 01 with its two functions in the other order, starts relative to their own fields, the key bit, the signed
-- bit, which is ignored on AMD64, and its last row left out: the second function's row is the first function's first

unfoldable pub shuffled_s : List ℕ
shuffled_s =
    -- header
    0xe2 ∷ 0xde ∷ 0x02 ∷ 0x04 ∷ 0x03 ∷ 0x00 ∷ 0xf8 ∷ 0x00 ∷ 0x02 ∷ 0x00 ∷ 0x00 ∷ 0x00 ∷ 0x03 ∷ 0x00 ∷ 0x00 ∷ 0x00
    ∷ 0x07 ∷ 0x00 ∷ 0x00 ∷ 0x00 ∷ 0x00 ∷ 0x00 ∷ 0x00 ∷ 0x00 ∷ 0x28 ∷ 0x00 ∷ 0x00 ∷ 0x00
    -- entry 0, at 28: S's second function
    ∷ 0x24 ∷ 0x10 ∷ 0x00 ∷ 0x00 ∷ 0x10 ∷ 0x00 ∷ 0x00 ∷ 0x00 ∷ 0x00 ∷ 0x00 ∷ 0x00 ∷ 0x00 ∷ 0x01 ∷ 0x00 ∷ 0x00 ∷ 0x00 ∷ 0x20 ∷ 0x00 ∷ 0x00 ∷ 0x00
    -- entry 1, at 48: S's first function
    ∷ 0xd0 ∷ 0x0f ∷ 0x00 ∷ 0x00 ∷ 0x20 ∷ 0x00 ∷ 0x00 ∷ 0x00 ∷ 0x00 ∷ 0x00 ∷ 0x00 ∷ 0x00 ∷ 0x02 ∷ 0x00 ∷ 0x00 ∷ 0x00 ∷ 0x20 ∷ 0x00 ∷ 0x00 ∷ 0x00
    -- the rows of both
    ∷ 0x00 ∷ 0x83 ∷ 0x08
    ∷ 0x04 ∷ 0x84 ∷ 0x10 ∷ 0xf0 ∷ []

-- ---- two sorted sections that list the same three functions in different orders: two of size 0 stand at one start

-- at 0x1000: of size 0 with no row, of size 0 with the row, and of 0x20 bytes with the row
unfoldable pub zero_rowless : List ℕ
zero_rowless =
    0x00 ∷ 0x10 ∷ 0x00 ∷ 0x00 ∷ 0x00 ∷ 0x00 ∷ 0x00 ∷ 0x00 ∷ 0x00 ∷ 0x00 ∷ 0x00 ∷ 0x00 ∷ 0x00 ∷ 0x00 ∷ 0x00 ∷ 0x00 ∷ 0x00 ∷ 0x00 ∷ 0x00 ∷ 0x00 ∷ []

unfoldable pub zero_with_row : List ℕ
zero_with_row =
    0x00 ∷ 0x10 ∷ 0x00 ∷ 0x00 ∷ 0x00 ∷ 0x00 ∷ 0x00 ∷ 0x00 ∷ 0x00 ∷ 0x00 ∷ 0x00 ∷ 0x00 ∷ 0x01 ∷ 0x00 ∷ 0x00 ∷ 0x00 ∷ 0x00 ∷ 0x00 ∷ 0x00 ∷ 0x00 ∷ []

unfoldable pub sized_entry : List ℕ
sized_entry =
    0x00 ∷ 0x10 ∷ 0x00 ∷ 0x00 ∷ 0x20 ∷ 0x00 ∷ 0x00 ∷ 0x00 ∷ 0x00 ∷ 0x00 ∷ 0x00 ∷ 0x00 ∷ 0x01 ∷ 0x00 ∷ 0x00 ∷ 0x00 ∷ 0x00 ∷ 0x00 ∷ 0x00 ∷ 0x00 ∷ []

-- an AMD64 section with these two entries, the sized one after them, and the row
unfoldable pub zero_listing : List ℕ → List ℕ → List ℕ
zero_listing first second =
    (0xe2 ∷ 0xde ∷ 0x02 ∷ 0x01 ∷ 0x03 ∷ 0x00 ∷ 0xf8 ∷ 0x00 ∷ 0x03 ∷ 0x00 ∷ 0x00 ∷ 0x00 ∷ 0x02 ∷ 0x00 ∷ 0x00 ∷ 0x00
    ∷ 0x03 ∷ 0x00 ∷ 0x00 ∷ 0x00 ∷ 0x00 ∷ 0x00 ∷ 0x00 ∷ 0x00 ∷ 0x3c ∷ 0x00 ∷ 0x00 ∷ 0x00 ∷ [])
    ++ first ++ second ++ sized_entry
    ++ (0x00 ∷ 0x03 ∷ 0x08 ∷ [])

unfoldable pub zeros_listed : List ℕ
zeros_listed = zero_listing zero_rowless zero_with_row

unfoldable pub zeros_exchanged : List ℕ
zeros_exchanged = zero_listing zero_with_row zero_rowless

-- ---- what an entry says that doesn't count

-- "field widths, key bit, padding and place in the row area don't count", and a "repeat size (PCMASK only)"
pub record Uncounted : Type 0 where
  pub type : ℕ
  pub size : ℕ
  pub key : Bool
  pub padding : ℕ
  pub first : ℕ
  pub repeat : ℕ

-- of function i; the offset size is that of its first row
unfoldable pub uncounted : List ℕ → ℕ → Uncounted
uncounted s i =
    record {
      type = type_of (entry_in s i).info;
      size = offset_size_of (row_info_at s i 0);
      key = bit_of 5 (entry_in s i).info;
      padding = field_of s ((entry_in s i).place + 18) 2 (order_of s);
      first = (entry_in s i).first;
      repeat = (entry_in s i).repeat;
    }
