-- A listing is read back: each function stands in it once, in order, with exactly its rows below it, so that equal listings are of
-- equal functions.
-- Assumes nothing.
use mathlib.Core.Path.{◌≡◌, refl, sym, ◌∙◌, ap}
use mathlib.Core.Bool.{Bool, true, false}
use mathlib.Core.List.{List, [], ◌∷◌, ◌++◌, map}
use mathlib.Core.Logic.{◌↔◌}
use Prim.Native.Nat.{ℕ, zero, suc, ◌+◌, ◌≤◌, ◌<◌}
use native.Mathlib.Omega.{arith}
use lib.Dec.{eqb}
use borrow.Author.Tests.{eqb-true, eqb-false}
use Rattle.section.specs.Meaning.{Block, plain, repeated, Function, listed}
use Rattle.section.specs.declared.row.Row.{Row}
use Rattle.listing.specs.Functions.{kind_of}
use Rattle.listing.specs.Listing.{function_line_of, lines_of_function, lines_of, function_lines, rows_ahead, rows_below}
use Rattle.listing.specs.declared.function.Kind.{Kind}
use Rattle.listing.specs.declared.function.Kind.TheVariants.{Plain, Repeated}
use Rattle.listing.specs.declared.lines.Line.{Line}
use Rattle.listing.specs.declared.lines.Line.TheVariants.{OfFunction, OfRow}

-- ---- past the rows of a function

pub lines_past : (rows : List Row) (rest : List Line) → function_lines (map OfRow rows ++ rest) ≡ function_lines rest
unfolding function_lines
lines_past [] rest = refl
lines_past (row ∷ rows) rest = lines_past rows rest

below_past : (index : ℕ) (rows : List Row) (rest : List Line) → rows_below index (map OfRow rows ++ rest) ≡ rows_below index rest
unfolding rows_below
below_past index [] rest = refl
below_past index (row ∷ rows) rest = below_past index rows rest

ahead_past : (rows : List Row) (rest : List Line) → rows_ahead rest ≡ [] → rows_ahead (map OfRow rows ++ rest) ≡ rows
unfolding rows_ahead
ahead_past [] rest none = none
ahead_past (row ∷ rows) rest none = ap (λ more. row ∷ more) (ahead_past rows rest none)

-- functions begin with a function's line
pub none_ahead : (k : ℕ) (functions : List Function) → rows_ahead (lines_of k functions) ≡ []
unfolding rows_ahead lines_of lines_of_function
none_ahead k [] = refl
none_ahead k (function ∷ functions) = refl

-- ---- each function once, in order

pub lines_once : (f : ℕ → Function) (n k : ℕ) → function_lines (lines_of k (listed f n k)) ≡ listed (λ i. function_line_of i (f i)) n k
unfolding function_lines lines_of lines_of_function listed
lines_once f zero k = refl
lines_once f (suc n) k =
    ap (λ more. function_line_of k (f k) ∷ more) (lines_past (f k).rows (lines_of (suc k) (listed f n (suc k))) ∙ lines_once f n (suc k))

-- ---- below it exactly its rows

above : (k i : ℕ) → k ≤ i → (k ≡ i → ⊥) → suc k ≤ i
above k i low other = omega (arith, other)

below_first : (f : ℕ → Function) (n k i : ℕ) (same : Bool) → eqb k i ≡ same
    → (same ≡ false → rows_below i (lines_of (suc k) (listed f n (suc k))) ≡ (f i).rows)
    → rows_below i (lines_of k (listed f (suc n) k)) ≡ (f i).rows
unfolding rows_below lines_of lines_of_function function_line_of listed
below_first f n k i true e later =
    rw (e, rows_below)
    (ahead_past (f k).rows (lines_of (suc k) (listed f n (suc k))) (none_ahead (suc k) (listed f n (suc k))) ∙ ap (λ j. (f j).rows) (eqb-true k i e))
below_first f n k i false e later = rw (e, rows_below) (below_past i (f k).rows (lines_of (suc k) (listed f n (suc k))) ∙ later refl)

pub rows_below_lem : (f : ℕ → Function) (n k i : ℕ) → k ≤ i → i < k + n → rows_below i (lines_of k (listed f n k)) ≡ (f i).rows
rows_below_lem f zero k i low high = absurd (omega arith)
rows_below_lem f (suc n) k i low high =
    below_first f n k i (eqb k i) refl
    (λ other. rows_below_lem f n (suc k) i (above k i low (eqb-false k i other)) (omega arith))

-- ---- read back

block_in : Kind → Block
block_in Plain = plain
block_in (Repeated size) = repeated size

block_back : (block : Block) → block_in (kind_of block) ≡ block
unfolding block_in kind_of
block_back plain = refl
block_back (repeated size) = refl

functions_in : List Line → List Function
functions_in [] = []
functions_in (OfFunction first ∷ rest) =
    record { start = first.start.by; size = first.size; block = block_in first.kind; rows = rows_ahead rest } ∷ functions_in rest
functions_in (OfRow first ∷ rest) = functions_in rest

functions_past : (rows : List Row) (rest : List Line) → functions_in (map OfRow rows ++ rest) ≡ functions_in rest
unfolding functions_in
functions_past [] rest = refl
functions_past (row ∷ rows) rest = functions_past rows rest

functions_back : (k : ℕ) (functions : List Function) → functions_in (lines_of k functions) ≡ functions
unfolding functions_in lines_of lines_of_function function_line_of
functions_back k [] = refl
functions_back k (function ∷ functions) =
    let ahead = ahead_past function.rows (lines_of (suc k) functions) (none_ahead (suc k) functions) in
    let past = functions_past function.rows (lines_of (suc k) functions) ∙ functions_back (suc k) functions in
    rw (ahead, past, block_back function.block)

-- equal lines are of equal functions, and the other way round
pub same_functions : (k : ℕ) (fs gs : List Function) → (lines_of k fs ≡ lines_of k gs) ↔ (fs ≡ gs)
same_functions k fs gs = (λ e. sym (functions_back k fs) ∙ ap functions_in e ∙ functions_back k gs, λ e. ap (lines_of k) e)
