-- The rows that a reader has left where it begins are those of the function, as the section's meaning has them; and its place never
-- leaves the section.
-- Assumes nothing.
use mathlib.Core.Path.{◌≡◌, refl, sym}
use mathlib.Core.Bool.{Bool, true, false}
use mathlib.Core.List.{List}
use Prim.Native.Nat.{ℕ, zero, suc, ◌+◌, ◌≤◌, ◌<◌}
use native.Mathlib.Omega.{arith}
use lib.ListN.{length, drop, length-drop}
use borrow.Author.Tests.{le-leb}
use Rattle.section.specs.Entry.{type_of}
use Rattle.section.specs.Header.{layout_of}
use Rattle.section.specs.Meaning.{listed, area_of, shape_of, entry_in, row_in, function_in}
use Rattle.section.specs.Row.{row_length, row_place, row_of}
use Rattle.section.specs.declared.shape.Shape.{Shape}
use Rattle.section.specs.Inner.Reading.{Readable}
use Rattle.accept.specs.Rules.{function_count, row_count, Obeys}
use Rattle.accept.proofs.AcceptedLaws.{area_inside, row_readable}
use Rattle.listing.specs.Functions.{rows_place}
use Rattle.listing.specs.Computed.Turns.{names_offsets, has_fixed, can_read, has_row, passed, ended, row_turn, rows_from, rows_left}
use Rattle.listing.specs.declared.rows.RowPlace.{RowPlace}
use Rattle.listing.proofs.TurnLaws as turn
use Rattle.listing.proofs.WholeLaws.{info_same, length_same, row_same}

-- what can be read in the row area can be read in the section
in_section : (s : List ℕ) (area code at : ℕ) → Readable (drop area s) code at → Readable s code (area + at)
in_section s area code at readable =
    let long = length-drop area s in
    let fixed = readable.fixed in
    let whole = readable.whole in
    let same = length_same s area code at in
    record {
      type = readable.type;
      fixed = omega arith;
      size = rw (info_same s area code at) at readable.size;
      some = rw (info_same s area code at) at readable.some;
      whole = omega arith;
    }

can_be_read : (s : List ℕ) (code at : ℕ) → Readable s code at → can_read s code at ≡ true
unfolding can_read has_fixed names_offsets
can_be_read s code at readable =
    rw (le-leb code 2 readable.type, le-leb _ _ readable.fixed, le-leb _ 2 readable.size, le-leb 1 _ readable.some, le-leb _ _ readable.whole)

-- past row k stands the next one
next_place : (s : List ℕ) (area code first k at : ℕ) → at ≡ area + row_place (drop area s) code first k
    → at + row_length s code at ≡ area + row_place (drop area s) code first (suc k)
unfolding row_place
next_place s area code first k at is =
    let long : row_length s code at ≡ row_length (drop area s) code (row_place (drop area s) code first k) = rw is (sym (length_same s area code (row_place (drop area s) code first k))) in
    rw long (omega arith)

-- from row k of a function on, so many rows
rows_are : (s : List ℕ) (area : ℕ) (shape : Shape) (code first n k at : ℕ) → at ≡ area + row_place (drop area s) code first k
    → ((j : ℕ) → j < k + n → Readable (drop area s) code (row_place (drop area s) code first j))
    → rows_from s shape code n at ≡ listed (λ j. row_of (drop area s) shape code (row_place (drop area s) code first j)) n k
unfolding rows_from listed
rows_are s area shape code first zero k at is readable = refl
rows_are s area shape code first (suc n) k at is readable =
    let place = row_place (drop area s) code first k in
    let there : can_read s code at ≡ true = rw is (can_be_read s code (area + place) (in_section s area code place (readable k (omega arith)))) in
    let row : row_of s shape code at ≡ row_of (drop area s) shape code place = rw is (sym (row_same s area shape code place)) in
    let rest = rows_are s area shape code first n (suc k) (at + row_length s code at) (next_place s area code first k at is) (λ j less. readable j (omega arith)) in
    rw (there, rows_from) (rw (row, rest))

-- the rows of function i
pub function_rows : (s : List ℕ) → Obeys s → (i : ℕ) → i < function_count s → rows_left s (rows_place s i) ≡ (function_in s i).rows
unfolding rows_left rows_place function_in row_in row_place area_of shape_of row_count
function_rows s obeys i lt =
    rows_are s (layout_of s).area (shape_of s) (type_of (entry_in s i).info) (entry_in s i).first (entry_in s i).rows 0 _ refl
    (λ j less. row_readable obeys i j lt (omega arith))

-- ---- the place

-- a turn keeps the place inside
turned : (s : List ℕ) (place : RowPlace) (there : Bool) → has_row s place ≡ there
    → (row_turn s place).place.at ≡ elim there [ true ↦ place.at + row_length s place.code place.at | false ↦ place.at ]
unfolding row_turn passed ended
turned s place true e = rw (e, row_turn)
turned s place false e = rw (e, row_turn)

pub stays_inside : (s : List ℕ) (place : RowPlace) → place.at ≤ length s → (row_turn s place).place.at ≤ length s
stays_inside s place inside = by_row_lem (has_row s place) refl
  where
    by_row_lem : (there : Bool) → has_row s place ≡ there → (row_turn s place).place.at ≤ length s
    by_row_lem true e = rw (turned s place true e) (turn.row_readable s place e).whole
    by_row_lem false e = rw (turned s place false e) inside

-- a function's rows begin inside
pub begins_inside : (s : List ℕ) → Obeys s → (i : ℕ) → i < function_count s → (rows_place s i).at ≤ length s
unfolding rows_place area_of
begins_inside s obeys i lt =
    let first = (obeys.entries i lt).first in
    let long = length-drop (layout_of s).area s in
    omega (arith, area_inside obeys.header)
