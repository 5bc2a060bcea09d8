-- One call after another: call k takes element k of what is left at the start, so that each is yielded once and then no more; and the
-- place never leaves the section.
-- Assumes nothing.
use mathlib.Core.Path.{◌≡◌, refl, ap, ◌∙◌}
use mathlib.Core.List.{List}
use Prim.Native.Nat.{ℕ, zero, suc, ◌+◌, ◌≤◌}
use native.Mathlib.Omega.{arith}
use lib.ListN.{length, drop}
use lib.Seq.{drop-drop}
use Rattle.listing.specs.Listing.{next_row, next_line, after}
use Rattle.listing.specs.Computed.Lines.{line_turn, lines_left}
use Rattle.listing.specs.Computed.Turns.{row_turn, rows_left}
use Rattle.listing.specs.declared.lines.Cursor.{Cursor}
use Rattle.listing.specs.declared.rows.RowPlace.{RowPlace}
use Rattle.listing.proofs.LinesLeft.{line_yields}
use Rattle.listing.proofs.RowMeaning.{stays_inside}
use Rattle.listing.proofs.RowsLeft.{turn_yields}

-- where each call drops one of what is left, k calls drop k
pub left_after : {P A : Type 0} (on : P → P) (left : P → List A) → ((p : P) → left (on p) ≡ drop 1 (left p))
    → (k : ℕ) (p : P) → left (after on k p) ≡ drop k (left p)
unfolding after
left_after on left one zero p = refl
left_after on left one (suc k) p =
    let more : k + 1 ≡ suc k = omega arith in
    one (after on k p) ∙ ap (drop 1) (left_after on left one k p) ∙ drop-drop 1 k (left p) ∙ ap (λ n. drop n (left p)) more

-- ---- rows

abbrev pub rows_on : List ℕ → RowPlace → RowPlace
rows_on s place = (row_turn s place).place

pub row_after : (s : List ℕ) (place : RowPlace) (k : ℕ) → (row_turn s (after (rows_on s) k place)).next ≡ next_row (drop k (rows_left s place))
row_after s place k =
    (turn_yields s (after (rows_on s) k place)).next ∙ ap next_row (left_after (rows_on s) (rows_left s) (λ p. (turn_yields s p).rest) k place)

pub inside_after : (s : List ℕ) (place : RowPlace) → place.at ≤ length s → (k : ℕ) → (after (rows_on s) k place).at ≤ length s
unfolding after
inside_after s place inside zero = inside
inside_after s place inside (suc k) = stays_inside s (after (rows_on s) k place) (inside_after s place inside k)

-- ---- lines

abbrev pub lines_on : List ℕ → Cursor → Cursor
lines_on s cursor = (line_turn s cursor).cursor

pub line_after_lem : (s : List ℕ) (cursor : Cursor) (k : ℕ) → (line_turn s (after (lines_on s) k cursor)).next ≡ next_line (drop k (lines_left s cursor))
line_after_lem s cursor k =
    (line_yields s (after (lines_on s) k cursor)).next ∙ ap next_line (left_after (lines_on s) (lines_left s) (λ c. (line_yields s c).rest) k cursor)
