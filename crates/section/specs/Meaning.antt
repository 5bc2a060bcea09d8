-- The meaning of a section: the list of its functions, in the order in which it lists them. What document 01 says does not
-- count (field widths, key bit, padding, place in the row area, the repeat size of a plain block, the signed bit on AMD64)
-- is left out, so that two functions, or two rows, are the same exactly when they are equal (`function_same`, `row_same`).
use Rattle.std.specs.Prelude.{ℕ, zero, suc, ◌+◌, ◌*◌, true, false, List, [], ◌∷◌, ℤ, pos, ◌+ℤ◌, drop}
use Rattle.section.specs.Entry.{entry_of, type_of, repeats, start_of}
use Rattle.section.specs.Header.{layout_of, order_of}
use Rattle.section.specs.Row.{row_of, row_place}
use Rattle.section.specs.Shape.{shape}
use Rattle.section.specs.declared.entry.Entry.{Entry}
use Rattle.section.specs.declared.row.Row.{Row}
use Rattle.section.specs.declared.shape.Shape.{Shape}

-- a block is plain, or repeated by a size
pub data Block : Type 0 where
  plain : Block
  repeated : ℕ → Block

-- "Two functions are the same when effective start, size, block kind, repeat size (PCMASK only) and the rows in order agree."
pub record Function : Type 0 where
  pub start : ℤ
  pub size : ℕ
  pub block : Block
  pub rows : List Row

-- f at `count` numbers, from k on
unfoldable pub listed : {A : Type 0} → (ℕ → A) → ℕ → ℕ → List A
listed f zero k = []
listed f (suc count) k = f k ∷ listed f count (suc k)

-- the row area, a list of its own: after check 8 it is what follows the function table
unfoldable pub area_of : List ℕ → List ℕ
area_of s = drop (layout_of s).area s

unfoldable pub shape_of : List ℕ → Shape
shape_of s = shape (layout_of s).abi

-- entry i of a section
unfoldable pub entry_in : List ℕ → ℕ → Entry
entry_in s i = entry_of s (order_of s) ((layout_of s).table + 20 * i)

unfoldable pub block_of : Entry → Block
block_of entry = elim (repeats entry.info) [ true ↦ repeated entry.repeat | false ↦ plain ]

-- the effective start of function i, and where it ends: "start plus size"
abbrev pub function_start : List ℕ → ℕ → ℤ
function_start s i = start_of (layout_of s).relative (entry_in s i)

abbrev pub function_end : List ℕ → ℕ → ℤ
function_end s i = function_start s i +ℤ pos (entry_in s i).size

-- where row k of function i stands in the row area
abbrev pub row_place_at : List ℕ → ℕ → ℕ → ℕ
row_place_at s i k = row_place (area_of s) (type_of (entry_in s i).info) (entry_in s i).first k

-- row k of an entry
unfoldable pub row_in : List ℕ → Shape → Entry → ℕ → Row
row_in area shape entry k = row_of area shape (type_of entry.info) (row_place area (type_of entry.info) entry.first k)

unfoldable pub function_in : List ℕ → ℕ → Function
function_in s i =
    record {
      start = function_start s i;
      size = (entry_in s i).size;
      block = block_of (entry_in s i);
      rows = listed (row_in (area_of s) (shape_of s) (entry_in s i)) (entry_in s i).rows 0;
    }

unfoldable pub functions_of : List ℕ → List Function
functions_of s = listed (function_in s) (layout_of s).functions 0
