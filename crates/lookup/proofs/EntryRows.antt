-- The rows of an entry that is sound: where the walk over them stops, there is the last row at or below o.
-- Assumes nothing.
use mathlib.Core.Path.{◌≡◌, refl}
use mathlib.Core.List.{List}
use Prim.Native.Nat.{ℕ, ◌-◌, ◌<◌}
use native.Mathlib.Omega.{arith}
use Rattle.std.specs.Prelude.{Some, None}
use Rattle.section.specs.Entry.{type_of}
use Rattle.section.specs.Meaning.{listed, row_in}
use Rattle.section.specs.Row.{row_place, row_start, row_of}
use Rattle.section.specs.Inner.Reading.{Readable}
use Rattle.section.specs.declared.entry.Entry.{Entry}
use Rattle.section.specs.declared.shape.Shape.{Shape}
use Rattle.accept.specs.Computed.Checks.{entry_fault}
use Rattle.accept.specs.Fault.{Sound}
use Rattle.accept.proofs.RowLaws.{entry_readable, entry_rising}
use Rattle.lookup.specs.Computed.Rows.{last_row}
use Rattle.lookup.specs.Inner.Search.{stop_of}
use Rattle.lookup.specs.declared.rows.Stop.{Stop}
use Rattle.lookup.proofs.LastRowLaws.{leads, leading_none, leading_last}

module _ (area : List ℕ) (shape : Shape) (entry : Entry) (o : ℕ) where
  abbrev pub entry_stop : Stop
  entry_stop = stop_of area shape.order (type_of entry.info) entry.first entry.rows o

  abbrev start : ℕ → ℕ
  start k = row_start area shape.order (type_of entry.info) (row_place area (type_of entry.info) entry.first k)

  start_is : (k : ℕ) → k < entry.rows → start k ≡ (row_in area shape entry k).start
  unfolding row_in row_of
  start_is k lt = refl

  module _ (sound : entry_fault area shape entry ≡ Sound) where
    pub stop_none : entry_stop.rows ≡ 0 → last_row o 0 (listed (row_in area shape entry) entry.rows 0) ≡ None
    unfolding stop_of
    stop_none e = leading_none start o entry.rows (entry_rising area shape entry sound) (row_in area shape entry) start_is e

    pub stop_last : 0 < entry_stop.rows
        → last_row o 0 (listed (row_in area shape entry) entry.rows 0)
        ≡ Some (record { row = row_of area shape (type_of entry.info) entry_stop.place; number = entry_stop.rows - 1 })
    unfolding stop_of row_in
    stop_last lt = leading_last start o entry.rows (entry_rising area shape entry sound) (row_in area shape entry) start_is lt

    pub stop_readable : 0 < entry_stop.rows → Readable area (type_of entry.info) entry_stop.place
    unfolding stop_of
    stop_readable lt =
        let within = (leads start o entry.rows (entry_rising area shape entry sound)).within in
        entry_readable area shape entry sound _ (omega arith)
