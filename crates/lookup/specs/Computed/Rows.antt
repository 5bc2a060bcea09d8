-- Document 01, "Finding the row": the row of the one function that covers.
use Rattle.std.specs.Prelude.{ℕ, suc, ◌%◌, true, false, List, [], ◌∷◌, leb, ℤ, ◌-ℤ◌, Option, Some, None}
use Rattle.numbers.specs.Inner.Held.{natural}
use Rattle.section.specs.Meaning.{Block, plain, repeated, Function}
use Rattle.section.specs.declared.row.Row.{Row}
use Rattle.lookup.specs.declared.rows.Hit.{Hit}

-- "let o be d minus its start, or that taken modulo repeat size for PCMASK"
unfoldable pub in_block : Block → ℕ → ℕ
in_block plain past = past
in_block (repeated size) past = past % size

-- o; where the function covers, d minus its start is not below 0
unfoldable pub offset_within : ℤ → Function → ℕ
offset_within d f = in_block f.block (natural (d -ℤ f.start))

-- what a later row says counts before what an earlier one does
unfoldable pub or_else : Option Hit → Option Hit → Option Hit
or_else (Some later) earlier = Some later
or_else None earlier = earlier

-- "The row is the last whose start is at most o"; the first of the list has number k
unfoldable pub last_row : ℕ → ℕ → List Row → Option Hit
last_row o k [] = None
last_row o k (row ∷ rows) = or_else (last_row o (suc k) rows) (elim (leb row.start o) [ true ↦ Some (record { row = row; number = k }) | false ↦ None ])

unfoldable pub row_for : ℤ → Function → Option Hit
row_for d f = last_row (offset_within d f) 0 f.rows
