-- What a row reader yields: each turn takes the first of the rows that are left, and after the last it says so for ever.
-- Assumes nothing.
use mathlib.Core.Path.{◌≡◌, refl}
use mathlib.Core.Bool.{Bool, true, false}
use mathlib.Core.List.{List}
use Prim.Native.Nat.{ℕ, zero, suc, ◌-◌}
use native.Mathlib.Omega.{arith}
use lib.ListN.{drop}
use borrow.Author.Tests.{le-leb}
use Rattle.section.specs.declared.shape.Abi.{Abi}
use Rattle.listing.specs.Listing.{next_row}
use Rattle.listing.specs.Computed.Turns.{can_read, has_row, passed, ended, row_turn, rows_from, rows_left}
use Rattle.listing.specs.declared.rows.RowPlace.{RowPlace}
use Rattle.listing.specs.declared.rows.RowTurn.{RowTurn}

-- what a turn does to the rows that are left
pub record Yields (s : List ℕ) (place : RowPlace) (turn : RowTurn) : Type 0 where
  pub next : turn.next ≡ next_row (rows_left s place)
  pub rest : rows_left s turn.place ≡ drop 1 (rows_left s place)

abbrev placed : Abi → ℕ → ℕ → ℕ → RowPlace
placed abi code at left = record { abi = abi; code = code; at = at; left = left }

yields_at : (s : List ℕ) (abi : Abi) (code at left : ℕ) (whole : Bool) → can_read s code at ≡ whole
    → Yields s (placed abi code at left) (row_turn s (placed abi code at left))
unfolding row_turn has_row rows_left rows_from ended passed next_row
yields_at s abi code at zero whole e = record { next = refl; rest = refl }
yields_at s abi code at (suc left) true e =
    let there : has_row s (placed abi code at (suc left)) ≡ true = rw (le-leb 1 (suc left) (omega arith)) e in
    let fewer : suc left - 1 ≡ left = omega arith in
    record { next = rw (there, row_turn) (rw (e, rows_from)); rest = rw (there, row_turn) (rw (e, rows_from) (rw fewer)) }
yields_at s abi code at (suc left) false e =
    let none : has_row s (placed abi code at (suc left)) ≡ false = rw (le-leb 1 (suc left) (omega arith)) e in
    record { next = rw (none, row_turn) (rw (e, rows_from)); rest = rw (none, row_turn) (rw (e, rows_from)) }

pub turn_yields : (s : List ℕ) (place : RowPlace) → Yields s place (row_turn s place)
turn_yields s place = yields_at s place.abi place.code place.at place.left (can_read s place.code place.at) refl
