-- Request 01: a function by its index. "The header's checks 1 to 8 alone, then one entry": what is said of an index, on any bytes.
use Rattle.std.specs.Prelude.{ℕ, ◌+◌, true, false, List, ltb}
use Rattle.section.specs.Entry.{type_of}
use Rattle.section.specs.Header.{layout_of}
use Rattle.section.specs.Meaning.{Block, plain, repeated, entry_in, block_of, function_start}
use Rattle.accept.specs.Computed.Checks.{header_fault}
use Rattle.accept.specs.Fault.{Fault, Sound, Breaks}
use Rattle.listing.specs.Described.{Described, Unsound, Unknown, Function}
use Rattle.listing.specs.declared.function.Facts.{Facts}
use Rattle.listing.specs.declared.function.Kind.{Kind}
use Rattle.listing.specs.declared.function.Kind.TheVariants.{Plain, Repeated}
use Rattle.listing.specs.declared.rows.RowPlace.{RowPlace}

-- a block as the code has it
unfoldable pub kind_of : Block → Kind
kind_of plain = Plain
kind_of (repeated size) = Repeated size

-- where the rows of function i begin: at its first row offset in the row area, counted here from the section's first byte
unfoldable pub rows_place : List ℕ → ℕ → RowPlace
rows_place s i =
    record {
      abi = (layout_of s).abi;
      code = type_of (entry_in s i).info;
      at = (layout_of s).area + (entry_in s i).first;
      left = (entry_in s i).rows;
    }

-- what the entry with this index says, as it stands
unfoldable pub facts_of : List ℕ → ℕ → Facts
facts_of s i =
    record {
      start = record { by = function_start s i };
      size = (entry_in s i).size;
      kind = kind_of (block_of (entry_in s i));
      rows = rows_place s i;
    }

unfoldable pub described_in : List ℕ → ℕ → Described
described_in s i = elim (ltb i (layout_of s).functions) [ true ↦ Function (facts_of s i) | false ↦ Unknown ]

unfoldable pub described_by : Fault → List ℕ → ℕ → Described
described_by Sound s i = described_in s i
described_by (Breaks number) s i = Unsound number

unfoldable pub described_of : List ℕ → ℕ → Described
described_of s i = described_by (header_fault s) s i
