-- Rows one at a time as flat structs: where a reader stands, and one turn of it. Fields without meaning in a case are 0.
use Rattle.std.specs.Prelude.{ℕ, Option, Some, None}
use Rattle.section.specs.declared.row.Row.{Row}
use Rattle.section.specs.declared.shape.Abi.{Abi}
use Rattle.section.specs.declared.shape.Abi.TheVariants.{Aarch64Big, Aarch64Little, Amd64}
use Rattle.listing.specs.declared.rows.RowPlace.{RowPlace}
use Rattle.listing.specs.declared.rows.RowTurn.{RowTurn}
use Rattle.suntimpani.specs.Flat.{base_number, place_kind, place_offset, flag, empty_row}
use Rattle.suntimpani.specs.declared.rows.RowInC.{RowInC}
use Rattle.suntimpani.specs.declared.rows.RowsInC.{RowsInC}

-- ---- where a reader stands

-- the header's code
unfoldable pub abi_number : Abi → ℕ
abi_number Aarch64Big = 1
abi_number Aarch64Little = 2
abi_number Amd64 = 3

unfoldable pub flat_place : RowPlace → RowsInC
flat_place place = record { abi = abi_number place.abi; code = place.code; at = place.at; left = place.left }

-- ---- a turn: 1 and the row, or 0 and no row, and where the reader then stands

unfoldable pub flat_next : ℕ → Row → RowPlace → RowInC
flat_next more row place =
    record {
      more = more;
      start = row.start;
      base = base_number row.base;
      cfa = row.cfa.by;
      raplace = place_kind row.ra;
      ra = (place_offset row.ra).by;
      fpplace = place_kind row.fp;
      fp = (place_offset row.fp).by;
      signedra = flag row.signed;
      rest = flat_place place;
    }

unfoldable pub flat_yield : Option Row → RowPlace → RowInC
flat_yield (Some row) place = flat_next 1 row place
flat_yield None place = flat_next 0 empty_row place

unfoldable pub flat_turn : RowTurn → RowInC
flat_turn turn = flat_yield turn.next turn.place
