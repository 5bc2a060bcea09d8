-- Which bytes the scan of one function looks at (SPECIFICATION 4.12). Request 02: "the scan decodes all offsets of rows that don't match.
-- Skip over them by their length." `count` rows begin at `first` of the row area, each after the one before it, and o is the offset that
-- their starts are compared with. Any row area will do.
use Rattle.std.specs.Prelude.{ℕ, ◌+◌, ◌*◌, ◌^◌, ◌≤◌, ◌<◌, List, ℤ}
use Rattle.numbers.specs.Agree.{InSpan, AgreeOn}
use Rattle.numbers.specs.declared.field.Order.{Order}
use Rattle.section.specs.Entry.{type_of}
use Rattle.section.specs.Header.{layout_of}
use Rattle.section.specs.Meaning.{area_of, shape_of, entry_in}
use Rattle.section.specs.Row.{row_length, row_place, row_start}
use Rattle.lookup.specs.Cases.{Covers, OffsetIs}

-- where row k starts in the code that it describes
abbrev pub start_in : List ℕ → Order → ℕ → ℕ → ℕ → ℕ
start_in area order code first k = row_start area order code (row_place area code first k)

-- row k is passed: it and every row before it start at or below o
abbrev pub RowPassed : List ℕ → Order → ℕ → ℕ → ℕ → ℕ → ℕ → Type 0
RowPassed area order code first count o k = (k < count) × ((j : ℕ) → j ≤ k → start_in area order code first j ≤ o)

-- row k is found: the last that is passed
abbrev pub LastPassed : List ℕ → Order → ℕ → ℕ → ℕ → ℕ → ℕ → Type 0
LastPassed area order code first count o k =
    RowPassed area order code first count o k × ((j : ℕ) → RowPassed area order code first count o j → j ≤ k)

-- the scan stops at row k: the first that starts above o
abbrev pub StopsAt : List ℕ → Order → ℕ → ℕ → ℕ → ℕ → ℕ → Type 0
StopsAt area order code first count o k =
    (k < count) × (o < start_in area order code first k) × ((j : ℕ) → j < k → start_in area order code first j ≤ o)

-- byte p of the row area is looked at
pub data LookedAt (area : List ℕ) (order : Order) (code first count o p : ℕ) : Type 0 where
  -- of each row passed: its start and its info byte, which tells its length
  of_passed : (k : ℕ) → RowPassed area order code first count o k → InSpan (row_place area code first k) (2 ^ code + 1) p
      → LookedAt area order code first count o p
  -- of the row found: all
  of_found : (k : ℕ) → LastPassed area order code first count o k
      → InSpan (row_place area code first k) (row_length area code (row_place area code first k)) p → LookedAt area order code first count o p
  -- of the row that it stops at: its start
  of_stop : (k : ℕ) → StopsAt area order code first count o k → InSpan (row_place area code first k) (2 ^ code) p
      → LookedAt area order code first count o p

-- ---- a whole section

-- two sections agree on what a lookup at d looks at once it has checked them: the header, the function table and, of the rows of each
-- function that covers, what the scan looks at
pub record LookAlike (s t : List ℕ) (d : ℤ) : Type 0 where
  pub header : AgreeOn (InSpan 0 28) s t
  pub table : AgreeOn (InSpan (layout_of s).table (20 * (layout_of s).functions)) s t
  pub rows : (i o : ℕ) → Covers s d i → OffsetIs s d i o
      → AgreeOn (LookedAt (area_of s) (shape_of s).order (type_of (entry_in s i).info) (entry_in s i).first (entry_in s i).rows o) (area_of s) (area_of t)
