-- Which bytes checks 11 to 13 of one function's rows look at (SPECIFICATION 3.20): of each row that is tried its start and its info byte.
-- What its offsets are is never looked at, only how long they are, which the info byte tells. `count` rows begin at `first` of the row area,
-- whose length is looked at too. Any row area will do.
use Rattle.std.specs.Prelude.{◌≡◌, List, ℕ, ◌+◌, ◌*◌, ◌^◌, ◌<◌, length}
use Rattle.numbers.specs.Agree.{InSpan, AgreeOn}
use Rattle.section.specs.Entry.{type_of}
use Rattle.section.specs.Header.{layout_of}
use Rattle.section.specs.Meaning.{area_of, shape_of, entry_in}
use Rattle.section.specs.Row.{row_place}
use Rattle.section.specs.declared.shape.Shape.{Shape}
use Rattle.accept.specs.Computed.Checks.{row_fault_in}
use Rattle.accept.specs.Fault.{Sound}

-- row k is tried: no row before it has a fault
abbrev pub RowTried : List ℕ → Shape → ℕ → ℕ → ℕ → ℕ → Type 0
RowTried area shape code first count k = (k < count) × ((j : ℕ) → j < k → row_fault_in area shape code first j ≡ Sound)

-- byte p of the row area is looked at
pub record TriedAt (area : List ℕ) (shape : Shape) (code first count p : ℕ) : Type 0 where
  pub row : ℕ
  pub tried : RowTried area shape code first count row
  pub span : InSpan (row_place area code first row) (2 ^ code + 1) p

-- ---- a whole section

-- two sections of one length agree on what the checks look at: the header, the function table and, of the rows of each function, what is
-- tried of them
pub record CheckAlike (s t : List ℕ) : Type 0 where
  pub long : length s ≡ length t
  pub header : AgreeOn (InSpan 0 28) s t
  pub table : AgreeOn (InSpan (layout_of s).table (20 * (layout_of s).functions)) s t
  pub rows : (i : ℕ) → i < (layout_of s).functions
      → AgreeOn (TriedAt (area_of s) (shape_of s) (type_of (entry_in s i).info) (entry_in s i).first (entry_in s i).rows) (area_of s) (area_of t)
