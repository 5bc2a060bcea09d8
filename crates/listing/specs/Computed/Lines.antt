-- One turn of a listing, on any bytes and from any cursor, and the lines that are left.
use Rattle.std.specs.Prelude.{ℕ, zero, suc, ◌+◌, ◌-◌, Bool, true, false, ◌&&◌, List, [], ◌∷◌, ◌++◌, map, leb, ltb, length, Option, Some, None}
use Rattle.section.specs.Header.{layout_of}
use Rattle.section.specs.declared.header.Layout.{Layout}
use Rattle.section.specs.declared.row.Row.{Row}
use Rattle.accept.specs.Computed.Checks.{verdict}
use Rattle.accept.specs.Verdict.{Verdict, Accepted, Refused}
use Rattle.listing.specs.Functions.{facts_of}
use Rattle.listing.specs.Computed.Turns.{ended, nothing_left, row_turn, rows_left}
use Rattle.listing.specs.declared.function.Facts.{Facts}
use Rattle.listing.specs.declared.lines.Cursor.{Cursor}
use Rattle.listing.specs.declared.lines.FunctionLine.{FunctionLine}
use Rattle.listing.specs.declared.lines.Line.{Line}
use Rattle.listing.specs.declared.lines.Line.TheVariants.{OfFunction, OfRow}
use Rattle.listing.specs.declared.lines.LineTurn.{LineTurn}
use Rattle.listing.specs.declared.rows.RowPlace.{RowPlace}

-- ---- one turn

unfoldable pub cursor_over : ℕ → ℕ → Cursor
cursor_over index left = record { index = index; left = left; rows = nothing_left }

unfoldable pub stopped : Cursor → LineTurn
stopped cursor =
    record {
      next = None;
      cursor = record { index = cursor.index; left = 0; rows = ended cursor.rows };
    }

-- the line of the function with this index
unfoldable pub function_line : ℕ → Facts → FunctionLine
function_line index facts = record { index = index; start = facts.start; size = facts.size; kind = facts.kind }

unfoldable pub line_at : Cursor → Facts → LineTurn
line_at cursor facts =
    record {
      next = Some (OfFunction (function_line cursor.index facts));
      cursor = record { index = cursor.index + 1; left = cursor.left - 1; rows = facts.rows };
    }

-- an entry with this index lies in a section of so many bytes
unfoldable pub has_entry : Layout → ℕ → ℕ → Bool
has_entry layout all index = leb layout.area all && (leb layout.area 0xffffffff && ltb index layout.functions)

-- in a section with a whole header
unfoldable pub entry_turn : List ℕ → Cursor → LineTurn
entry_turn s cursor =
    elim (has_entry (layout_of s) (length s) cursor.index) [
      | true ↦ line_at cursor (facts_of s cursor.index)
      | false ↦ stopped cursor
    ]

unfoldable pub function_turn : List ℕ → Cursor → LineTurn
function_turn s cursor = elim (leb 1 cursor.left && leb 28 (length s)) [ true ↦ entry_turn s cursor | false ↦ stopped cursor ]

-- a row's line where one is left, else the next function's
unfoldable pub line_by : List ℕ → Cursor → RowPlace → Option Row → LineTurn
line_by s cursor place (Some decoded) =
    record {
      next = Some (OfRow decoded);
      cursor = record { index = cursor.index; left = cursor.left; rows = place };
    }
line_by s cursor place None = function_turn s cursor

unfoldable pub line_turn : List ℕ → Cursor → LineTurn
line_turn s cursor = line_by s cursor (row_turn s cursor.rows).place (row_turn s cursor.rows).next

-- ---- where a listing begins

unfoldable pub cursor_by : Verdict → Cursor → Cursor
cursor_by Accepted cursor = cursor
cursor_by (Refused number index) cursor = cursor_over 0 0

unfoldable pub cursor_of : List ℕ → Cursor
cursor_of s = cursor_by (verdict s) (cursor_over 0 (layout_of s).functions)

unfoldable pub cursor_at : List ℕ → ℕ → Cursor
cursor_at s index = cursor_by (verdict s) (cursor_over index 1)

-- ---- the lines that are left

-- the line of a function and those of its rows, and what follows
unfoldable pub lines_with : List ℕ → ℕ → Facts → List Line → List Line
lines_with s index facts rest = OfFunction (function_line index facts) ∷ (map OfRow (rows_left s facts.rows) ++ rest)

-- function `index` can be read
unfoldable pub is_there : List ℕ → ℕ → Bool
is_there s index = leb 28 (length s) && has_entry (layout_of s) (length s) index

-- at most `left` functions from an index on; one that cannot be read ends them
unfoldable pub lines_from : List ℕ → ℕ → ℕ → List Line
lines_from s zero index = []
lines_from s (suc left) index =
    elim (is_there s index) [ true ↦ lines_with s index (facts_of s index) (lines_from s left (suc index)) | false ↦ [] ]

unfoldable pub lines_left : List ℕ → Cursor → List Line
lines_left s cursor = map OfRow (rows_left s cursor.rows) ++ lines_from s cursor.left cursor.index
