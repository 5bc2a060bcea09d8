-- What a listing yields: each turn takes the first of the lines that are left, and after the last it says so for ever.
-- Assumes nothing.
use mathlib.Core.Path.{◌≡◌, refl, sym, ◌∙◌, ap}
use mathlib.Core.Bool.{Bool, true, false}
use mathlib.Core.List.{List, [], ◌∷◌, ◌++◌, map}
use Prim.Native.Nat.{ℕ, zero, suc, ◌+◌, ◌-◌}
use native.Mathlib.Omega.{arith}
use lib.Dec.{leb}
use lib.ListN.{length, drop}
use borrow.Author.Tests.{le-leb}
use Rattle.std.specs.Prelude.{Some, None}
use Rattle.section.specs.Header.{layout_of}
use Rattle.section.specs.declared.row.Row.{Row}
use Rattle.listing.specs.Listing.{next_row, next_line}
use Rattle.listing.specs.Computed.Lines.{stopped, line_at, has_entry, entry_turn, function_turn, line_by, line_turn, lines_with, is_there, lines_from, lines_left}
use Rattle.listing.specs.Computed.Turns.{ended, row_turn, rows_from, rows_left}
use Rattle.listing.specs.declared.lines.Cursor.{Cursor}
use Rattle.listing.specs.declared.lines.Line.{Line}
use Rattle.listing.specs.declared.lines.Line.TheVariants.{OfRow}
use Rattle.listing.specs.declared.lines.LineTurn.{LineTurn}
use Rattle.listing.specs.declared.rows.RowPlace.{RowPlace}
use Rattle.listing.proofs.RowsLeft.{turn_yields}

-- what a turn does to the lines that are left, which are these
pub record LineYields (s : List ℕ) (lines : List Line) (turn : LineTurn) : Type 0 where
  pub next : turn.next ≡ next_line lines
  pub rest : lines_left s turn.cursor ≡ drop 1 lines

-- none is left where a listing stopped
stopped_yields : (s : List ℕ) (cursor : Cursor) → LineYields s [] (stopped cursor)
unfolding stopped lines_left lines_from rows_left rows_from ended next_line
stopped_yields s cursor = record { next = refl; rest = refl }

abbrev standing : ℕ → ℕ → RowPlace → Cursor
standing index left rows = record { index = index; left = left; rows = rows }

no_function_lem : (s : List ℕ) (index : ℕ) (rows : RowPlace) → LineYields s (lines_from s 0 index) (function_turn s (standing index 0 rows))
unfolding function_turn lines_from
no_function_lem s index rows = stopped_yields s (standing index 0 rows)

-- a function's line, by whether it can be read
there_yields : (s : List ℕ) (index left : ℕ) (rows : RowPlace) (long there : Bool) → leb 28 (length s) ≡ long
    → has_entry (layout_of s) (length s) index ≡ there
    → LineYields s (lines_from s (suc left) index) (function_turn s (standing index (suc left) rows))
unfolding function_turn entry_turn is_there lines_from lines_with line_at lines_left next_line
there_yields s index left rows false there e f =
    rw (le-leb 1 (suc left) (omega arith), e, function_turn) (rw (e, lines_from) (stopped_yields s (standing index (suc left) rows)))
there_yields s index left rows true false e f =
    rw (le-leb 1 (suc left) (omega arith), e, function_turn) (rw (f, entry_turn) (rw (e, f, lines_from) (stopped_yields s (standing index (suc left) rows))))
there_yields s index left rows true true e f =
    let fewer : suc left - 1 ≡ left = omega arith in
    let next : index + 1 ≡ suc index = omega arith in
    rw (le-leb 1 (suc left) (omega arith), e, function_turn) (rw (f, entry_turn) (rw (e, f, lines_from) (record { next = refl; rest = rw (fewer, next) })))

function_yields : (s : List ℕ) (index left : ℕ) (rows : RowPlace) → LineYields s (lines_from s left index) (function_turn s (standing index left rows))
function_yields s index zero rows = no_function_lem s index rows
function_yields s index (suc left) rows = there_yields s index left rows (leb 28 (length s)) (has_entry (layout_of s) (length s) index) refl refl

-- by the rows that are left
by_rows : (s : List ℕ) (cursor : Cursor) (rows : List Row) → rows_left s cursor.rows ≡ rows
    → LineYields s (map OfRow rows ++ lines_from s cursor.left cursor.index) (line_turn s cursor)
unfolding line_turn line_by lines_left next_row next_line
by_rows s cursor [] e =
    let yields = turn_yields s cursor.rows in
    let none = yields.next ∙ ap next_row e in
    rw none (function_yields s cursor.index cursor.left cursor.rows)
by_rows s cursor (row ∷ rows) e =
    let yields = turn_yields s cursor.rows in
    let one = yields.next ∙ ap next_row e in
    let left : rows_left s (row_turn s cursor.rows).place ≡ rows = yields.rest ∙ ap (drop 1) e in
    rw one (record { next = refl; rest = rw left })

pub line_yields : (s : List ℕ) (cursor : Cursor) → LineYields s (lines_left s cursor) (line_turn s cursor)
unfolding lines_left
line_yields s cursor = by_rows s cursor (rows_left s cursor.rows) refl

-- ---- what a caller learns from what a turn yields

first_of : (lines : List Line) (first : Line) → Some first ≡ next_line lines → lines ≡ first ∷ drop 1 lines
unfolding next_line
first_of [] first e = absurd (let z : ◌≡◌ {A = ℕ} 0 1 = cc in omega arith)
first_of (other ∷ rest) first e = cc

none_of : (lines : List Line) → None ≡ next_line lines → lines ≡ []
unfolding next_line
none_of [] e = refl
none_of (other ∷ rest) e = absurd (let z : ◌≡◌ {A = ℕ} 0 1 = cc in omega arith)

pub yield_line : (s : List ℕ) (cursor : Cursor) (turn : LineTurn) (first : Line) → turn ≡ line_turn s cursor → turn.next ≡ Some first
    → lines_left s cursor ≡ first ∷ lines_left s turn.cursor
yield_line s cursor turn first is one =
    let yields = line_yields s cursor in
    let next = sym one ∙ ap (λ t. t.next) is ∙ yields.next in
    let rest = ap (λ t. lines_left s t.cursor) is ∙ yields.rest in
    first_of (lines_left s cursor) first next ∙ ap (λ more. first ∷ more) (sym rest)

pub yield_none : (s : List ℕ) (cursor : Cursor) (turn : LineTurn) → turn ≡ line_turn s cursor → turn.next ≡ None → lines_left s cursor ≡ []
yield_none s cursor turn is none = none_of (lines_left s cursor) (sym none ∙ ap (λ t. t.next) is ∙ (line_yields s cursor).next)
