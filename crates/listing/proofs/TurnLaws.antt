-- What the tests of a turn tell: where there is a row to yield, its bytes are inside and can be read.
-- Assumes nothing.
use mathlib.Core.Path.{◌≡◌, refl}
use mathlib.Core.Bool.{Bool, true, false, ◌&&◌, false≢true}
use mathlib.Core.List.{List}
use Prim.Native.Nat.{ℕ, ◌+◌, ◌^◌, ◌≤◌}
use lib.ListN.{length}
use borrow.Author.Tests.{leb-true}
use Rattle.section.specs.Row.{info_of}
use Rattle.section.specs.Inner.Reading.{Readable}
use Rattle.listing.specs.Computed.Turns.{names_offsets, has_fixed, can_read, has_row}
use Rattle.listing.specs.declared.rows.RowPlace.{RowPlace}

-- both of two tests
pub both_true : (a b : Bool) → a && b ≡ true → (a ≡ true) × (b ≡ true)
both_true true true e = (refl, refl)
both_true true false e = (refl, e)
both_true false b e = absurd (false≢true e)

-- ---- what they tell

pub fixed_inside : (s : List ℕ) (code at : ℕ) → has_fixed s code at ≡ true → (code ≤ 2) × (at + 2 ^ code + 1 ≤ length s)
unfolding has_fixed
fixed_inside s code at e = let two = both_true _ _ e in (leb-true _ _ two.0, leb-true _ _ two.1)

pub read_readable : (s : List ℕ) (code at : ℕ) → can_read s code at ≡ true → Readable s code at
unfolding can_read names_offsets
read_readable s code at e =
    let parts = both_true (has_fixed s code at) _ e in
    let fixed = fixed_inside s code at parts.0 in
    let rest = both_true (names_offsets (info_of s code at)) _ parts.1 in
    let named = both_true _ _ rest.0 in
    record { type = fixed.0; fixed = fixed.1; size = leb-true _ _ named.0; some = leb-true _ _ named.1; whole = leb-true _ _ rest.1 }

pub row_there : (s : List ℕ) (place : RowPlace) → has_row s place ≡ true → (1 ≤ place.left) × (can_read s place.code place.at ≡ true)
unfolding has_row
row_there s place e = let two = both_true _ _ e in (leb-true _ _ two.0, two.1)

pub row_readable : (s : List ℕ) (place : RowPlace) → has_row s place ≡ true → Readable s place.code place.at
row_readable s place e = read_readable s _ _ (row_there s place e).1
