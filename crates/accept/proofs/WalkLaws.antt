-- The walk over the rows of a function, turn by turn: where the next row stands, the least start that it may have, and that
-- what is left to try decides as the whole does.
-- Assumes nothing.
use mathlib.Core.Path.{◌≡◌, refl, sym, ◌∙◌, ap}
use mathlib.Core.List.{List}
use Prim.Native.Nat.{ℕ, ◌+◌, ◌-◌, ◌≤◌, ◌<◌}
use native.Mathlib.Nat.{sub-zero}
use native.Mathlib.Numerals.{add-one}
use native.Mathlib.Omega.{arith}
use lib.ListN.{length}
use Rattle.std.proofs.Common.{Ok, Err}
use Rattle.section.specs.Row.{row_place, row_start}
use Rattle.section.specs.declared.shape.Shape.{Shape}
use Rattle.accept.specs.Computed.Checks.{fault_of, first_of, row_fault, low_of, row_fault_in, rows_fault}
use Rattle.accept.specs.Fault.{Fault, Sound, Breaks}
use Rattle.accept.specs.Inner.Passed.{unless_broken, row_passed}
use Rattle.accept.specs.declared.row_check.RowPassed.{RowPassed}
use Rattle.accept.proofs.FaultLaws.{left_goes_on, left_stops, left_ends}
use Rattle.accept.proofs.RowLaws.{row_sound}

-- ---- what is found where nothing is broken

pub broken_by : {A : Type 0} {number : ℕ} (fault : Fault) (found : A) → Err number ≡ unless_broken fault found → fault ≡ Breaks number
unfolding unless_broken
broken_by Sound found e = cc
broken_by (Breaks other) found e = cc

pub found_by : {A : Type 0} {other : A} (fault : Fault) (found : A) → Ok other ≡ unless_broken fault found → (fault ≡ Sound) × (other ≡ found)
unfolding unless_broken
found_by Sound found e = (refl, cc)
found_by (Breaks number) found e = cc

-- ---- turn by turn

-- k rows are behind; the next stands at `at` and may start at `low`
pub record RowsPassed (area : List ℕ) (shape : Shape) (code first count at low k : ℕ) : Type 0 where
  pub place : at ≡ row_place area code first k
  pub least : low ≡ low_of area shape.order code first k
  pub inside : at ≤ length area
  pub within : k ≤ count
  pub rest : first_of (row_fault_in area shape code first) (count - k) k ≡ first_of (row_fault_in area shape code first) count 0

pub walk_begins : (area : List ℕ) (shape : Shape) (code first count : ℕ) → first ≤ length area → RowsPassed area shape code first count first 0 0
unfolding row_place low_of
walk_begins area shape code first count le = record { place = refl; least = refl; inside = le; within = omega arith; rest = rw sub-zero }

-- the fault of the row that is next, by its number
here : {area : List ℕ} {shape : Shape} {code first count at low k : ℕ} → RowsPassed area shape code first count at low k
    → row_fault_in area shape code first k ≡ row_fault area shape code at low
unfolding row_fault_in
here w = rw (w.place, w.least)

pub walk_goes_on : {area : List ℕ} {shape : Shape} {code first count at low k : ℕ} → RowsPassed area shape code first count at low k → k < count
    → {passed : RowPassed} → Ok passed ≡ row_passed area shape code at low
    → RowsPassed area shape code first count passed.next (passed.start + 1) (k + 1)
unfolding row_place low_of row_passed
walk_goes_on {area} {shape} {code} {first} {count} {at} {low} {k} w lt {passed} e =
    let found = found_by _ _ e in
    let sound = found.0 in
    rw (found.1, add-one k, add-one (row_start area shape.order code at))
    (record {
      place = rw w.place;
      least = rw w.place;
      inside = ((row_sound area shape code at low).0 sound).whole;
      within = lt;
      rest = sym (left_goes_on _ count k lt (here w ∙ sound)) ∙ w.rest;
    })

pub passed_start : (area : List ℕ) (shape : Shape) (code at low : ℕ) {passed : RowPassed} → Ok passed ≡ row_passed area shape code at low
    → (passed.start ≡ row_start area shape.order code at) × (low ≤ passed.start)
unfolding row_passed
passed_start area shape code at low e =
    let found = found_by _ _ e in
    rw found.1 (refl, ((row_sound area shape code at low).0 found.0).above)

pub walk_stops : {area : List ℕ} {shape : Shape} {code first count at low k number : ℕ} → RowsPassed area shape code first count at low k → k < count
    → Err number ≡ row_passed area shape code at low → Breaks number ≡ rows_fault area shape code first count
unfolding rows_fault fault_of row_passed
walk_stops {count = count} {k = k} w lt e = ap fault_of (sym (left_stops _ count k lt (here w ∙ broken_by _ _ e)) ∙ w.rest)

pub walk_ends : {area : List ℕ} {shape : Shape} {code first count at low k : ℕ} → RowsPassed area shape code first count at low k → count ≤ k
    → Sound ≡ rows_fault area shape code first count
unfolding rows_fault fault_of
walk_ends {count = count} {k = k} w le = ap fault_of (sym (left_ends _ count k le) ∙ w.rest)
