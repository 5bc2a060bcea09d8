-- Document 01: "Two functions are the same when .." and "Two rows are the same when .." (SPECIFICATION 4.9 and 4.10), said of the
-- bytes, number by number. That the decoded meaning says the same of them is `row_same` and `function_same` of proofs/SameLaws.
use Rattle.std.specs.Prelude.{◌≡◌, true, List, ℕ, ◌+◌, ◌^◌, ◌≤◌, ◌<◌}
use Rattle.numbers.specs.declared.field.Order.{Order}
use Rattle.numbers.specs.declared.offset.Offset.{Offset}
use Rattle.section.specs.Entry.{type_of, repeats}
use Rattle.section.specs.Meaning.{listed, area_of, shape_of, entry_in, function_start, row_place_at}
use Rattle.section.specs.Row.{info_of, base_of, count_of, offset_size_of, signed_bit, row_start, offset_in}
use Rattle.section.specs.declared.shape.Shape.{Shape}

-- "Counts allowed: AMD64 1 or 2 (CFA, FP); AArch64 1 to 3 (CFA, RA, FP)."
abbrev pub Allowed : Shape → ℕ → Type 0
Allowed shape info = (1 ≤ count_of info) × (count_of info ≤ shape.most)

-- "one info byte, then the offsets, signed": all that an info byte announces, in order, from where the first begins
unfoldable pub offsets_in : List ℕ → Order → ℕ → ℕ → List Offset
offsets_in area order info from = listed (offset_in area order (offset_size_of info) from) (count_of info) 0

-- those of the row at `at`
abbrev pub row_offsets : List ℕ → Order → ℕ → ℕ → List Offset
row_offsets area order code at = offsets_in area order (info_of area code at) (at + 2 ^ code + 1)

-- "Two rows are the same when start, base, offsets and signed bit (AArch64 only) agree as numbers": the row at `at` of one
-- row area and the row at `at'` of another, or of the same
pub record SameRow (shape : Shape) (area : List ℕ) (code at : ℕ) (area' : List ℕ) (code' at' : ℕ) : Type 0 where
  pub start : row_start area shape.order code at ≡ row_start area' shape.order code' at'
  pub base : base_of (info_of area code at) ≡ base_of (info_of area' code' at')
  pub offsets : row_offsets area shape.order code at ≡ row_offsets area' shape.order code' at'
  pub signed : shape.signs ≡ true → signed_bit (info_of area code at) ≡ signed_bit (info_of area' code' at')

-- every row of function i has a count allowed
abbrev pub AllowedRows : List ℕ → ℕ → Type 0
AllowedRows s i = (k : ℕ) → k < (entry_in s i).rows → Allowed (shape_of s) (info_of (area_of s) (type_of (entry_in s i).info) (row_place_at s i k))

-- "Two functions are the same when effective start, size, block kind, repeat size (PCMASK only) and the rows in order agree":
-- function i of one section and function j of another, or of the same; both of one ABI, whose shape is that of the first
pub record SameFunction (s : List ℕ) (i : ℕ) (t : List ℕ) (j : ℕ) : Type 0 where
  pub start : function_start s i ≡ function_start t j
  pub size : (entry_in s i).size ≡ (entry_in t j).size
  pub kind : repeats (entry_in s i).info ≡ repeats (entry_in t j).info
  pub repeat : repeats (entry_in s i).info ≡ true → (entry_in s i).repeat ≡ (entry_in t j).repeat
  pub count : (entry_in s i).rows ≡ (entry_in t j).rows
  pub rows : (k : ℕ) → k < (entry_in s i).rows
      → SameRow (shape_of s) (area_of s) (type_of (entry_in s i).info) (row_place_at s i k) (area_of t) (type_of (entry_in t j).info) (row_place_at t j k)
