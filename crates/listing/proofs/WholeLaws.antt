-- A row is the same whether it is read in the row area or in the section that the area is the end of: only where places count from
-- differs. Assumes nothing.
use mathlib.Core.Path.{◌≡◌, refl, ap}
use mathlib.Core.Bool.{true, false}
use mathlib.Core.List.{List}
use Prim.Native.Nat.{ℕ, ◌+◌, ◌*◌, ◌^◌}
use native.Mathlib.Omega.{arith}
use lib.Dec.{ltb}
use lib.ListN.{drop}
use lib.Seq.{drop-drop}
use Rattle.numbers.specs.Field.{field_of, byte_of}
use Rattle.numbers.specs.declared.field.Order.{Order}
use Rattle.numbers.specs.declared.offset.Offset.{Offset}
use Rattle.section.specs.Row.{info_of, count_of, offset_size_of, row_length, row_start, offset_in, place_in, ra_in, row_of}
use Rattle.section.specs.declared.row.Place.{Place}
use Rattle.section.specs.declared.row.Place.TheVariants.{Register, AtOffset}
use Rattle.section.specs.declared.shape.Shape.{Shape}

module _ (s : List ℕ) (area : ℕ) where
  field-same : (at there width : ℕ) (order : Order) → there ≡ area + at → field_of (drop area s) at width order ≡ field_of s there width order
  unfolding field_of
  field-same at there width order is = rw (drop-drop at area s, is)

  pub info_same : (code at : ℕ) → info_of (drop area s) code at ≡ info_of s code (area + at)
  unfolding info_of byte_of
  info_same code at = field-same (at + 2 ^ code) (area + at + 2 ^ code) 1 _ (omega arith)

  pub length_same : (code at : ℕ) → row_length (drop area s) code at ≡ row_length s code (area + at)
  unfolding row_length
  length_same code at = rw (info_same code at)

  offset-same : (order : Order) (size from there k : ℕ) → there ≡ area + from → offset_in (drop area s) order size from k ≡ offset_in s order size there k
  unfolding offset_in
  offset-same order size from there k is = rw (field-same (from + k * 2 ^ size) (there + k * 2 ^ size) (2 ^ size) order (omega (arith, is)))

  place_same : (order : Order) (info from there k : ℕ) → there ≡ area + from → place_in (drop area s) order info from k ≡ place_in s order info there k
  unfolding place_in
  place_same order info from there k is =
      ap (λ (offset : Offset). elim (ltb k (count_of info)) [ true ↦ AtOffset offset | false ↦ Register ]) (offset-same order (offset_size_of info) from there k is)

  ra-same : (shape : Shape) (info from there : ℕ) → there ≡ area + from → ra_in (drop area s) shape info from ≡ ra_in s shape info there
  unfolding ra_in
  ra-same shape info from there is =
      ap (λ (place : Place). elim shape.usesfixed [ true ↦ AtOffset shape.fixedra | false ↦ place ]) (place_same shape.order info from there 1 is)

  pub row_same : (shape : Shape) (code at : ℕ) → row_of (drop area s) shape code at ≡ row_of s shape code (area + at)
  unfolding row_of row_start
  row_same shape code at =
      let start = field-same at (area + at) (2 ^ code) shape.order refl in
      let info = info_of s code (area + at) in
      let behind : area + at + 2 ^ code + 1 ≡ area + (at + 2 ^ code + 1) = omega arith in
      let cfa = offset-same shape.order (offset_size_of info) (at + 2 ^ code + 1) (area + at + 2 ^ code + 1) 0 behind in
      let ra = ra-same shape info (at + 2 ^ code + 1) (area + at + 2 ^ code + 1) behind in
      let fp = place_same shape.order info (at + 2 ^ code + 1) (area + at + 2 ^ code + 1) shape.fpindex behind in
      rw (info_same code at, start, cfa, ra, fp)
