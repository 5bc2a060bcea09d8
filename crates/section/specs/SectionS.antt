-- Document 01, "Numbers to agree on": section S in bytes, the sections that it is changed to, and its two kinds of row.
use Rattle.std.specs.Prelude.{false, List, [], ◌∷◌, ℕ, pos, negsuc, set}
use Rattle.section.specs.declared.row.Base.TheVariants.{Fp, Sp}
use Rattle.section.specs.declared.row.Place.TheVariants.{Register, AtOffset}
use Rattle.section.specs.declared.row.Row.{Row}

-- "Section S, 78 bytes, AMD64, sorted, whole"
unfoldable pub section_s : List ℕ
section_s =
    0xe2 ∷ 0xde ∷ 0x02 ∷ 0x01 ∷ 0x03 ∷ 0x00 ∷ 0xf8 ∷ 0x00 ∷ 0x02 ∷ 0x00 ∷ 0x00 ∷ 0x00 ∷ 0x03 ∷ 0x00 ∷ 0x00 ∷ 0x00
    ∷ 0x0a ∷ 0x00 ∷ 0x00 ∷ 0x00 ∷ 0x00 ∷ 0x00 ∷ 0x00 ∷ 0x00 ∷ 0x28 ∷ 0x00 ∷ 0x00 ∷ 0x00
    ∷ 0x00 ∷ 0x10 ∷ 0x00 ∷ 0x00 ∷ 0x20 ∷ 0x00 ∷ 0x00 ∷ 0x00 ∷ 0x00 ∷ 0x00 ∷ 0x00 ∷ 0x00 ∷ 0x02 ∷ 0x00 ∷ 0x00 ∷ 0x00 ∷ 0x00 ∷ 0x00 ∷ 0x00 ∷ 0x00
    ∷ 0x40 ∷ 0x10 ∷ 0x00 ∷ 0x00 ∷ 0x10 ∷ 0x00 ∷ 0x00 ∷ 0x00 ∷ 0x07 ∷ 0x00 ∷ 0x00 ∷ 0x00 ∷ 0x01 ∷ 0x00 ∷ 0x00 ∷ 0x00 ∷ 0x00 ∷ 0x00 ∷ 0x00 ∷ 0x00
    ∷ 0x00 ∷ 0x03 ∷ 0x08 ∷ 0x04 ∷ 0x04 ∷ 0x10 ∷ 0xf0 ∷ 0x00 ∷ 0x03 ∷ 0x08 ∷ []

-- K8: "S with second start 0x101f"
unfoldable pub overlapping_s : List ℕ
overlapping_s = set section_s 48 0x1f

-- K9: "the same with flags 00"
unfoldable pub unsorted_s : List ℕ
unsorted_s = set overlapping_s 3 0x00

-- the row that both functions begin with: CFA is SP + 8, and RA lies at CFA - 8
unfoldable pub at_entry : Row
at_entry = record { start = 0; base = Sp; cfa = record { by = pos 8 }; ra = AtOffset (record { by = negsuc 7 }); fp = Register; signed = false }

-- the first function's second row: CFA is FP + 16, and FP lies at CFA - 16
unfoldable pub with_frame : Row
with_frame =
    record {
      start = 4;
      base = Fp;
      cfa = record { by = pos 16 };
      ra = AtOffset (record { by = negsuc 7 });
      fp = AtOffset (record { by = negsuc 15 });
      signed = false;
    }
