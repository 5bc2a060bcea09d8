-- What each reading of a row looks at: its start at the start alone, its length at the info byte, and the row at its own bytes. Two row
-- areas that agree there have the same, whatever else they hold. Assumes nothing.
use mathlib.Core.Path.{◌≡◌, refl, ap}
use mathlib.Core.Bool.{Bool, true, false}
use mathlib.Core.List.{List}
use Prim.Native.Nat.{ℕ, ◌+◌, ◌*◌, ◌^◌, ◌<◌}
use native.Mathlib.Omega.{arith}
use lib.Dec.{ltb}
use borrow.Author.Tests.{ltb-true}
use Rattle.numbers.specs.Agree.{InSpan, AgreeOn}
use Rattle.numbers.specs.Signed.{offset_of}
use Rattle.numbers.specs.declared.field.Order.{Order}
use Rattle.numbers.proofs.AgreeLaws.{field_agrees, byte_agrees}
use Rattle.section.specs.Row.{info_of, count_of, offset_size_of, row_length, row_start, offset_in, place_in, ra_in, row_of}
use Rattle.section.specs.declared.row.Place.{Place}
use Rattle.section.specs.declared.row.Place.TheVariants.{AtOffset}
use Rattle.section.specs.declared.shape.Shape.{Shape}
use Rattle.section.proofs.OffsetLaws.{offset_within_lem}

module _ (area other : List ℕ) (code at : ℕ) where
  pub start_agrees : (order : Order) → AgreeOn (InSpan at (2 ^ code)) area other → row_start area order code at ≡ row_start other order code at
  unfolding row_start
  start_agrees order same = field_agrees area other at (2 ^ code) order same

  pub info_agrees : AgreeOn (InSpan at (2 ^ code + 1)) area other → info_of area code at ≡ info_of other code at
  unfolding info_of
  info_agrees same = byte_agrees area other (at + 2 ^ code) (λ p said. same p (omega arith, omega arith))

  pub length_agrees : AgreeOn (InSpan at (2 ^ code + 1)) area other → row_length area code at ≡ row_length other code at
  unfolding row_length
  length_agrees same = rw (info_agrees same)

  -- the row itself. Where its info byte announces no offset there is none for CFA: then its own bytes do not make it
  module _ (some : 0 < count_of (info_of area code at)) (same : AgreeOn (InSpan at (row_length area code at)) area other) where
    abbrev info : ℕ
    info = info_of area code at

    abbrev from : ℕ
    from = at + 2 ^ code + 1

    pub fixed_agrees : AgreeOn (InSpan at (2 ^ code + 1)) area other
    unfolding row_length
    fixed_agrees p said = same p (omega arith, omega arith)

    offset-agrees : (order : Order) (k : ℕ) → k < count_of info
        → offset_in area order (offset_size_of info) from k ≡ offset_in other order (offset_size_of info) from k
    unfolding offset_in row_length
    offset-agrees order k less =
        let inside = offset_within_lem info k less in
        ap (offset_of (2 ^ offset_size_of info))
        (field_agrees area other (from + k * 2 ^ offset_size_of info) (2 ^ offset_size_of info) order (λ p said. same p (omega arith, omega arith)))

    place_agrees : (order : Order) (k : ℕ) → place_in area order info from k ≡ place_in other order info from k
    unfolding place_in
    place_agrees order k = by (ltb k (count_of info)) refl
      where
        by : (less : Bool) → ltb k (count_of info) ≡ less → place_in area order info from k ≡ place_in other order info from k
        by true e = rw (e, place_in) (ap AtOffset (offset-agrees order k (ltb-true k (count_of info) e)))
        by false e = rw (e, place_in)

    ra-agrees : (shape : Shape) → ra_in area shape info from ≡ ra_in other shape info from
    unfolding ra_in
    ra-agrees shape =
        ap (λ (place : Place). elim shape.usesfixed [ true ↦ AtOffset shape.fixedra | false ↦ place ]) (place_agrees shape.order 1)

    pub row_agrees : (shape : Shape) → row_of area shape code at ≡ row_of other shape code at
    unfolding row_of
    row_agrees shape =
        let start = start_agrees shape.order (λ p said. fixed_agrees p (omega arith, omega arith)) in
        let cfa = offset-agrees shape.order 0 some in
        rw (start, ← info_agrees fixed_agrees, cfa, ra-agrees shape, place_agrees shape.order shape.fpindex)
