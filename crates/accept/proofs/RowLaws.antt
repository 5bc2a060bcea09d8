-- What it means that a row, all rows of a function, or an entry has no fault, over a row area and a shape, and what a reader of
-- the rows may then rely on: each row can be read, and their starts rise.
-- Assumes nothing.
use mathlib.Core.Path.{◌≡◌}
use mathlib.Core.Bool.{true, false}
use mathlib.Core.List.{List}
use mathlib.Core.Logic.Iff
use mathlib.Core.Logic.{◌↔◌}
use Prim.Native.Nat.{ℕ, suc, ◌+◌, ◌^◌, ◌≤◌, ◌<◌}
use native.Mathlib.Omega.{arith}
use lib.Dec.{eqb}
use lib.ListN.{length}
use borrow.Author.Tests.{eqb-true, eqb-false}
use Rattle.section.specs.Entry.{type_of, repeats}
use Rattle.section.specs.Header.{bit_of}
use Rattle.section.specs.Row.{info_of, count_of, offset_size_of, row_length, row_place, row_start}
use Rattle.section.specs.Inner.Reading.{Readable}
use Rattle.section.specs.declared.entry.Entry.{Entry}
use Rattle.section.specs.declared.shape.Shape.{Shape}
use Rattle.accept.specs.Computed.Checks.{first_bad, wrong_entry_info, entry_tests, wrong_row_info, row_tests, row_fault, low_of, row_fault_in, rows_fault, entry_fault}
use Rattle.accept.specs.Fault.{Sound}
use Rattle.accept.proofs.Decides.{Decides, not_below, positive, unset, none_of, where_set}
use Rattle.accept.proofs.FaultLaws.{end, line, table_sound, and_sound, fault_sound, each_sound}
use Rattle.accept.proofs.InOrder.{in_order}

-- ---- one row

size_decides : (info : ℕ) → Decides (eqb (offset_size_of info) 3) (offset_size_of info ≤ 2)
unfolding offset_size_of
size_decides info =
    record {
      holds = λ e. let far : ¬ (offset_size_of info ≡ 3) = eqb-false (offset_size_of info) 3 e in omega arith;
      broken = λ e le. let same : offset_size_of info ≡ 3 = eqb-true (offset_size_of info) 3 e in omega arith;
    }

-- 12
pub row_info_decides : (most info : ℕ) → Decides (wrong_row_info most info) ((offset_size_of info ≤ 2) × (1 ≤ count_of info) × (count_of info ≤ most))
unfolding wrong_row_info
row_info_decides most info = none_of (size_decides info) (positive (count_of info)) (not_below most (count_of info))

-- the row at `at`, of those that may start at `low` or above it, is sound
pub record RowSound (area : List ℕ) (shape : Shape) (code at low : ℕ) : Type 0 where
  pub fixed : at + 2 ^ code + 1 ≤ length area
  pub info : (offset_size_of (info_of area code at) ≤ 2) × (1 ≤ count_of (info_of area code at)) × (count_of (info_of area code at) ≤ shape.most)
  pub whole : at + row_length area code at ≤ length area
  pub above : low ≤ row_start area shape.order code at

pub row_sound : (area : List ℕ) (shape : Shape) (code at low : ℕ) → (row_fault area shape code at low ≡ Sound) ↔ RowSound area shape code at low
unfolding row_fault row_tests
row_sound area shape code at low =
    let info = row_info_decides shape.most (info_of area code at) in
    Iff.trans (table_sound (line (not_below _ _) (line info (line (not_below _ _) (line (not_below _ _) end))))) (
      λ h. record { fixed = h.0; info = h.1.0; whole = h.1.1.0; above = h.1.1.1.0 },
      λ r. (r.fixed, (r.info, (r.whole, (r.above, tt)))),
    )

pub readable : {area : List ℕ} {shape : Shape} {code at low : ℕ} → code ≤ 2 → RowSound area shape code at low → Readable area code at
readable le row = record { type = le; fixed = row.fixed; size = row.info.0; some = row.info.1; whole = row.whole }

-- ---- all rows of a function

pub rows_sound : (area : List ℕ) (shape : Shape) (code first count : ℕ)
    → (rows_fault area shape code first count ≡ Sound)
    ↔ ((k : ℕ) → k < count → RowSound area shape code (row_place area code first k) (low_of area shape.order code first k))
unfolding rows_fault row_fault_in
rows_sound area shape code first count =
    Iff.trans (fault_sound _) (each_sound (row_fault_in area shape code first) count (λ k. row_sound area shape code _ _))

-- ---- one entry, without the one before it

-- 9
pub entry_info_decides : (info : ℕ) → Decides (wrong_entry_info info) ((bit_of 6 info ≡ false) × (bit_of 7 info ≡ false) × (type_of info ≤ 2))
unfolding wrong_entry_info
entry_info_decides info = none_of (unset (bit_of 6 info)) (unset (bit_of 7 info)) (not_below 2 (type_of info))

-- what it is before its rows are tried
abbrev pub OwnRules : List ℕ → Entry → Type 0
OwnRules area entry =
    ((bit_of 6 entry.info ≡ false) × (bit_of 7 entry.info ≡ false) × (type_of entry.info ≤ 2))
    × (repeats entry.info ≡ true → 0 < entry.repeat)
    × (entry.first ≤ length area)

pub own_rules_hold : (area : List ℕ) (entry : Entry) → first_bad (entry_tests area entry) ≡ Sound → OwnRules area entry
unfolding entry_tests
own_rules_hold area entry right =
    let h = (table_sound (line (entry_info_decides entry.info) (line (where_set (positive entry.repeat)) (line (not_below _ _) end)))).0 right in
    (h.0, h.1.0, h.1.1.0)

pub record EntrySound (area : List ℕ) (shape : Shape) (entry : Entry) : Type 0 where
  pub info : (bit_of 6 entry.info ≡ false) × (bit_of 7 entry.info ≡ false) × (type_of entry.info ≤ 2)
  pub repeat : repeats entry.info ≡ true → 0 < entry.repeat
  pub first : entry.first ≤ length area
  pub rows : (k : ℕ)
      → k < entry.rows
      → RowSound area shape (type_of entry.info) (row_place area (type_of entry.info) entry.first k)
      (low_of area shape.order (type_of entry.info) entry.first k)

pub entry_sound : (area : List ℕ) (shape : Shape) (entry : Entry) → (entry_fault area shape entry ≡ Sound) ↔ EntrySound area shape entry
unfolding entry_fault entry_tests
entry_sound area shape entry =
    let tests = table_sound (line (entry_info_decides entry.info) (line (where_set (positive entry.repeat)) (line (not_below _ _) end))) in
    let rows = rows_sound area shape (type_of entry.info) entry.first entry.rows in (
      λ e.
          let both = (and_sound _ _).0 e in
          let own = tests.0 both.0 in
          record { info = own.0; repeat = own.1.0; first = own.1.1.0; rows = rows.0 both.1 },
      λ h. (and_sound _ _).1 (tests.1 (h.info, (h.repeat, (h.first, tt))), rows.1 h.rows),
    )

-- ---- what a reader of the rows relies on

pub entry_readable : (area : List ℕ) (shape : Shape) (entry : Entry) → entry_fault area shape entry ≡ Sound → (k : ℕ) → k < entry.rows
    → Readable area (type_of entry.info) (row_place area (type_of entry.info) entry.first k)
entry_readable area shape entry e k lt =
    let sound = (entry_sound area shape entry).0 e in
    readable sound.info.2 (sound.rows k lt)

-- not only neighbours
pub entry_rising : (area : List ℕ) (shape : Shape) (entry : Entry) → entry_fault area shape entry ≡ Sound → (j k : ℕ) → j < k → k < entry.rows
    → row_start area shape.order (type_of entry.info) (row_place area (type_of entry.info) entry.first j)
    < row_start area shape.order (type_of entry.info) (row_place area (type_of entry.info) entry.first k)
unfolding low_of
entry_rising area shape entry e =
    let sound = (entry_sound area shape entry).0 e in
    in_order _ (λ i j k p q. omega arith) entry.rows (λ i lt. (sound.rows (suc i) lt).above)
