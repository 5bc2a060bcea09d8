-- One turn of a row reader, on any bytes and from any place: the row that stands there, if a whole one does, and the next place.
use Rattle.std.specs.Prelude.{ℕ, zero, suc, ◌+◌, ◌-◌, ◌^◌, Bool, true, false, ◌&&◌, List, [], ◌∷◌, leb, length, Some, None}
use Rattle.section.specs.Row.{info_of, count_of, offset_size_of, row_length, row_of}
use Rattle.section.specs.Shape.{shape}
use Rattle.section.specs.declared.row.Row.{Row}
use Rattle.section.specs.declared.shape.Shape.{Shape}
use Rattle.section.specs.declared.shape.Abi.TheVariants.{Amd64}
use Rattle.listing.specs.declared.rows.RowPlace.{RowPlace}
use Rattle.listing.specs.declared.rows.RowTurn.{RowTurn}

-- an info byte names a size of offsets, and at least one
unfoldable pub names_offsets : ℕ → Bool
names_offsets info = leb (offset_size_of info) 2 && leb 1 (count_of info)

-- the start and the info byte of a row at `at` are inside
unfoldable pub has_fixed : List ℕ → ℕ → ℕ → Bool
has_fixed s code at = leb code 2 && leb (at + 2 ^ code + 1) (length s)

-- a whole row stands at `at`
unfoldable pub can_read : List ℕ → ℕ → ℕ → Bool
can_read s code at = has_fixed s code at && (names_offsets (info_of s code at) && leb (at + row_length s code at) (length s))

-- there is a row to yield
unfoldable pub has_row : List ℕ → RowPlace → Bool
has_row s place = leb 1 place.left && can_read s place.code place.at

-- the place past the row at a place
unfoldable pub passed : List ℕ → RowPlace → RowPlace
passed s place =
    record {
      abi = place.abi;
      code = place.code;
      at = place.at + row_length s place.code place.at;
      left = place.left - 1;
    }

-- the same place, with no row left
unfoldable pub ended : RowPlace → RowPlace
ended place = record { abi = place.abi; code = place.code; at = place.at; left = 0 }

-- a place with no row left, of any section
unfoldable pub nothing_left : RowPlace
nothing_left = record { abi = Amd64; code = 0; at = 0; left = 0 }

unfoldable pub row_turn : List ℕ → RowPlace → RowTurn
row_turn s place =
    elim (has_row s place) [
      | true ↦ record { next = Some (row_of s (shape place.abi) place.code place.at); place = passed s place }
      | false ↦ record { next = None; place = ended place }
    ]

-- the rows that are left: at most `left` from a place on; one that is not whole ends them
unfoldable pub rows_from : List ℕ → Shape → ℕ → ℕ → ℕ → List Row
rows_from s shape code zero at = []
rows_from s shape code (suc left) at =
    elim (can_read s code at) [
      | true ↦ row_of s shape code at ∷ rows_from s shape code left (at + row_length s code at)
      | false ↦ []
    ]

unfoldable pub rows_left : List ℕ → RowPlace → List Row
rows_left s place = rows_from s (shape place.abi) place.code place.left place.at
