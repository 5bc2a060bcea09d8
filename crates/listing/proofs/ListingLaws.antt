-- The lines that are left where a listing begins are those of the section's meaning.
-- Assumes nothing.
use mathlib.Core.Path.{◌≡◌, refl, ◌∙◌, ap}
use mathlib.Core.Bool.{true, false}
use mathlib.Core.List.{List, [], ◌++◌, append-nil}
use Prim.Native.Nat.{ℕ, zero, suc, ◌+◌, ◌≤◌, ◌<◌}
use native.Mathlib.Omega.{arith}
use lib.ListN.{length}
use borrow.Author.Tests.{le-leb, lt-ltb, le-ltb}
use Rattle.section.specs.Header.{layout_of}
use Rattle.section.specs.Meaning.{listed, function_in, functions_of}
use Rattle.accept.specs.Rules.{function_count, Obeys}
use Rattle.accept.specs.Computed.Checks.{verdict}
use Rattle.accept.specs.Verdict.{Accepted, Refused}
use Rattle.accept.proofs.AcceptedLaws.{area_inside}
use Rattle.accept.proofs.Exactly.{accepted_exactly_when}
use Rattle.listing.specs.Functions.{facts_of}
use Rattle.listing.specs.Listing.{function_line_of, lines_of_function, lines_of}
use Rattle.listing.specs.Computed.Lines.{cursor_over, function_line, has_entry, cursor_by, cursor_of, cursor_at, lines_with, is_there, lines_from, lines_left}
use Rattle.listing.specs.Computed.Turns.{nothing_left, rows_from, rows_left}
use Rattle.listing.proofs.RowMeaning.{function_rows}

-- ---- so many functions from an index on

-- function i of an accepted section can be read, and no other
there : (s : List ℕ) → Obeys s → (i : ℕ) → i < function_count s → is_there s i ≡ true
unfolding is_there has_entry function_count
there s obeys i lt =
    let long = obeys.header.rule1 in
    let most = obeys.header.rule2 in
    let inside = area_inside obeys.header in
    rw (le-leb 28 (length s) long, le-leb (layout_of s).area (length s) inside, le-leb (layout_of s).area 0xffffffff (omega arith)) (lt-ltb i (layout_of s).functions lt)

not_there : (s : List ℕ) → Obeys s → (i : ℕ) → function_count s ≤ i → is_there s i ≡ false
unfolding is_there has_entry function_count
not_there s obeys i le =
    let long = obeys.header.rule1 in
    let most = obeys.header.rule2 in
    let inside = area_inside obeys.header in
    rw (le-leb 28 (length s) long, le-leb (layout_of s).area (length s) inside, le-leb (layout_of s).area 0xffffffff (omega arith)) (le-ltb i (layout_of s).functions le)

lines_of_one : (s : List ℕ) → Obeys s → (i n : ℕ) → i < function_count s
    → lines_from s (suc n) i ≡ lines_of_function i (function_in s i) ++ lines_from s n (suc i)
unfolding lines_from lines_with lines_of_function function_line function_line_of facts_of function_in
lines_of_one s obeys i n lt = rw (there s obeys i lt, lines_from) (rw (function_rows s obeys i lt))

lines_are : (s : List ℕ) → Obeys s → (n k : ℕ) → k + n ≤ function_count s → lines_from s n k ≡ lines_of k (listed (function_in s) n k)
unfolding lines_from lines_of listed
lines_are s obeys zero k le = refl
lines_are s obeys (suc n) k le =
    lines_of_one s obeys k n (omega arith) ∙ ap (λ rest. lines_of_function k (function_in s k) ++ rest) (lines_are s obeys n (suc k) (omega arith))

-- ---- where a listing begins

begun : (s : List ℕ) (index left : ℕ) → lines_left s (cursor_over index left) ≡ lines_from s left index
unfolding lines_left cursor_over nothing_left rows_left rows_from
begun s index left = refl

pub all_lines : (s : List ℕ) → verdict s ≡ Accepted → lines_left s (cursor_over 0 (layout_of s).functions) ≡ lines_of 0 (functions_of s)
unfolding functions_of function_count
all_lines s e = begun s 0 (layout_of s).functions ∙ lines_are s ((accepted_exactly_when s).0 e) (layout_of s).functions 0 (omega arith)

pub cursor_lines : (s : List ℕ) → verdict s ≡ Accepted → lines_left s (cursor_of s) ≡ lines_of 0 (functions_of s)
unfolding cursor_of cursor_by
cursor_lines s e = rw e (all_lines s e)

pub cursor_refused : (s : List ℕ) (number index : ℕ) → verdict s ≡ Refused number index → lines_left s (cursor_of s) ≡ []
unfolding cursor_of cursor_by lines_from
cursor_refused s number index e = rw e (begun s 0 0)

pub at_lines : (s : List ℕ) → verdict s ≡ Accepted → (i : ℕ) → i < function_count s → lines_left s (cursor_at s i) ≡ lines_of_function i (function_in s i)
unfolding cursor_at cursor_by lines_from
at_lines s e i lt =
    rw e (begun s i 1 ∙ lines_of_one s ((accepted_exactly_when s).0 e) i 0 lt ∙ append-nil (lines_of_function i (function_in s i)))

pub at_past : (s : List ℕ) → verdict s ≡ Accepted → (i : ℕ) → function_count s ≤ i → lines_left s (cursor_at s i) ≡ []
unfolding cursor_at cursor_by lines_from
at_past s e i le = rw e (begun s i 1 ∙ rw (not_there s ((accepted_exactly_when s).0 e) i le, lines_from))

pub at_refused : (s : List ℕ) (number index : ℕ) → verdict s ≡ Refused number index → (i : ℕ) → lines_left s (cursor_at s i) ≡ []
unfolding cursor_at cursor_by lines_from
at_refused s number index e i = rw e (begun s 0 0)
