-- Two lists that agree on the places of a part, or of a field, have the same part and the same field there, whatever their lengths.
-- Assumes nothing.
use mathlib.Core.Path.{◌≡◌, refl, ap}
use mathlib.Core.List.{List}
use Prim.Native.Nat.{ℕ, zero, suc, ◌+◌}
use native.Mathlib.Omega.{arith}
use lib.ListN.{take, drop}
use lib.Seq.{take-add, drop-drop}
use Rattle.numbers.specs.Agree.{InSpan, AgreeOn}
use Rattle.numbers.specs.Field.{number_in, field_of, byte_of}
use Rattle.numbers.specs.declared.field.Order.{Order}
use Rattle.numbers.specs.declared.field.Order.TheVariants.{Little}

module _ (bytes other : List ℕ) where
  -- of what the two have from a place on, so much is the same
  pub part_agrees : (at width : ℕ) → AgreeOn (InSpan at width) bytes other → take width (drop at bytes) ≡ take width (drop at other)
  part_agrees at zero same = refl
  part_agrees at (suc width) same =
      let one : suc width ≡ 1 + width = omega arith in
      let here : take 1 (drop at bytes) ≡ take 1 (drop at other) = same at (omega arith, omega arith) in
      let rest = part_agrees (at + 1) width (λ p said. same p (omega arith, omega arith)) in
      rw (one, take-add 1 width (drop at bytes), take-add 1 width (drop at other), drop-drop 1 at bytes, drop-drop 1 at other, here, rest)

  pub field_agrees : (at width : ℕ) (order : Order) → AgreeOn (InSpan at width) bytes other
      → field_of bytes at width order ≡ field_of other at width order
  unfolding field_of
  field_agrees at width order same = ap (number_in order) (part_agrees at width same)

  pub byte_agrees : (at : ℕ) → AgreeOn (InSpan at 1) bytes other → byte_of bytes at ≡ byte_of other at
  unfolding byte_of
  byte_agrees at same = field_agrees at 1 Little same
