-- Where a row reader begins: at the rows of the function where there is one, and elsewhere with none left. It is a place in the section.
-- Assumes nothing.
use mathlib.Core.Path.{◌≡◌, ◌∙◌, ap}
use mathlib.Core.List.{List, []}
use Prim.Native.Nat.{ℕ, ◌≤◌, ◌<◌}
use native.Mathlib.Omega.{arith}
use lib.ListN.{length}
use borrow.Author.Tests.{lt-ltb, le-ltb}
use Rattle.section.specs.Header.{layout_of}
use Rattle.section.specs.Meaning.{function_in}
use Rattle.accept.specs.Rules.{function_count, Obeys}
use Rattle.accept.specs.Computed.Checks.{verdict}
use Rattle.accept.specs.Verdict.{Refused}
use Rattle.accept.proofs.Exactly.{accepted_exactly_when, header_exactly_when}
use Rattle.listing.specs.Functions.{rows_place, facts_of, described_in, described_by, described_of}
use Rattle.listing.specs.Computed.Reader.{place_in, place_by, place_of}
use Rattle.listing.specs.Computed.Turns.{nothing_left, rows_from, rows_left}
use Rattle.listing.proofs.RowMeaning.{function_rows, begins_inside}

pub place_is : (s : List ℕ) → Obeys s → (i : ℕ) → i < function_count s → place_of s i ≡ rows_place s i
unfolding place_of place_by place_in described_of described_by described_in facts_of function_count
place_is s obeys i lt =
    rw ((accepted_exactly_when s).1 obeys, (header_exactly_when s).1 obeys.header) (rw (lt-ltb i (layout_of s).functions lt, described_in))

pub place_past : (s : List ℕ) → Obeys s → (i : ℕ) → function_count s ≤ i → place_of s i ≡ nothing_left
unfolding place_of place_by place_in described_of described_by described_in function_count
place_past s obeys i le =
    rw ((accepted_exactly_when s).1 obeys, (header_exactly_when s).1 obeys.header) (rw (le-ltb i (layout_of s).functions le, described_in))

pub place_refused : (s : List ℕ) (number fault : ℕ) → verdict s ≡ Refused number fault → (i : ℕ) → place_of s i ≡ nothing_left
unfolding place_of place_by
place_refused s number fault e i = rw e

-- ---- what is left there

pub rows_left_lem : (s : List ℕ) → Obeys s → (i : ℕ) → i < function_count s → rows_left s (place_of s i) ≡ (function_in s i).rows
rows_left_lem s obeys i lt = ap (rows_left s) (place_is s obeys i lt) ∙ function_rows s obeys i lt

pub none_left : (s : List ℕ) (i : ℕ) → place_of s i ≡ nothing_left → rows_left s (place_of s i) ≡ []
unfolding nothing_left rows_left rows_from
none_left s i nowhere = rw nowhere

-- ---- and it is inside

pub is_inside : (s : List ℕ) → Obeys s → (i : ℕ) → i < function_count s → (place_of s i).at ≤ length s
is_inside s obeys i lt = rw (place_is s obeys i lt) (begins_inside s obeys i lt)

pub nowhere_inside : (s : List ℕ) (i : ℕ) → place_of s i ≡ nothing_left → (place_of s i).at ≤ length s
unfolding nothing_left
nowhere_inside s i nowhere = rw nowhere (omega arith)
