-- Request 01, "A listing our support desk can read": "every function and row of an accepted section, in section order, one line each:
-- index, effective start, size, then row start, base register and offsets .. A refused section prints the refusal number and index
-- alone." Over the meaning of a section (`functions_of`).
use Rattle.std.specs.Prelude.{ℕ, zero, suc, true, false, List, [], ◌∷◌, ◌++◌, map, eqb, Option, Some, None}
use Rattle.section.specs.Meaning.{Function, functions_of}
use Rattle.section.specs.declared.row.Row.{Row}
use Rattle.accept.specs.Computed.Checks.{verdict}
use Rattle.accept.specs.Verdict.{Verdict, Accepted, Refused}
use Rattle.listing.specs.Functions.{kind_of}
use Rattle.listing.specs.declared.lines.FunctionLine.{FunctionLine}
use Rattle.listing.specs.declared.lines.Line.{Line}
use Rattle.listing.specs.declared.lines.Line.TheVariants.{OfFunction, OfRow}

-- ---- the lines

-- a function's line: its index, effective start and size, and its block
unfoldable pub function_line_of : ℕ → Function → FunctionLine
function_line_of index function =
    record { index = index; start = record { by = function.start }; size = function.size; kind = kind_of function.block }

-- below it one line for each of its rows, in order
unfoldable pub lines_of_function : ℕ → Function → List Line
lines_of_function index function = OfFunction (function_line_of index function) ∷ map OfRow function.rows

-- functions in order, the first with this index
unfoldable pub lines_of : ℕ → List Function → List Line
lines_of index [] = []
lines_of index (function ∷ functions) = lines_of_function index function ++ lines_of (suc index) functions

-- a section's listing: all its lines, or the refusal
pub data Listing : Type 0 where
  refused : ℕ → ℕ → Listing
  lines : List Line → Listing

unfoldable pub listing_by : Verdict → List Function → Listing
listing_by Accepted functions = lines (lines_of 0 functions)
listing_by (Refused number index) functions = refused number index

unfoldable pub listing_of : List ℕ → Listing
listing_of s = listing_by (verdict s) (functions_of s)

-- ---- what stands in lines

-- the functions' lines among them
unfoldable pub function_lines : List Line → List FunctionLine
function_lines [] = []
function_lines (OfFunction first ∷ rest) = first ∷ function_lines rest
function_lines (OfRow first ∷ rest) = function_lines rest

-- the rows up to the next function's line
unfoldable pub rows_ahead : List Line → List Row
rows_ahead [] = []
rows_ahead (OfFunction first ∷ rest) = []
rows_ahead (OfRow first ∷ rest) = first ∷ rows_ahead rest

-- the rows below the line of the function with this index
unfoldable pub rows_below : ℕ → List Line → List Row
rows_below index [] = []
rows_below index (OfFunction first ∷ rest) = elim (eqb first.index index) [ true ↦ rows_ahead rest | false ↦ rows_below index rest ]
rows_below index (OfRow first ∷ rest) = rows_below index rest

-- ---- one at a time: what a call yields of those that are left, "and then say that there are no more"

unfoldable pub next_row : List Row → Option Row
next_row [] = None
next_row (first ∷ rest) = Some first

unfoldable pub next_line : List Line → Option Line
next_line [] = None
next_line (first ∷ rest) = Some first

-- where a reader stands after so many calls, each of which moves it on
unfoldable pub after : {P : Type 0} → (P → P) → ℕ → P → P
after on zero place = place
after on (suc k) place = on (after on k place)
