-- `offset::offset_of` is right by the half that the number lies in.
-- Assumes nothing.
use mathlib.Core.Path.{◌≡◌}
use Prim.Native.Nat.{◌<◌, ◌≤◌, ◌/◌}
use native.Mathlib.Omega.{arith}
use lib.IntN.{pos, ◌-ℤ◌}
use mir.Syntax.{w64}
use mir.Val.{SFits, to_z}
use mir.Facts.{to_z-of_z}
use Rattle.numbers.proofs.SignedLaws.{as_signed, less_fits, offset_is, signed_low, signed_high}
use Rattle.numbers.proofs.offset.offset_of.Goals as goal
use Rattle.numbers.proofs.offset.offset_of.Goals.{Else-n-full}

pub returns-then-n-full : goal.returns-then-n-full
returns-then-n-full c =
    let n = c.args.number in
    let test : n < c.full_of-full.result / 2 = c.if-n-full.true in
    rw (as_signed n (omega arith)) (offset_is _ n (signed_low _ n (rw c.full_of-full.ensures at test)))

-- what the code computes in the upper half
upper : (c : Else-n-full) → to_z w64 c.args.number -ℤ to_z w64 c.full_of-full.result
    ≡ pos c.args.number -ℤ pos c.full_of-full.result
upper c = rw (as_signed c.args.number (omega arith), as_signed c.full_of-full.result (omega arith))

upper_fits : (c : Else-n-full) → SFits w64 (pos c.args.number -ℤ pos c.full_of-full.result)
upper_fits c = less_fits c.args.number c.full_of-full.result (omega arith) (omega arith)

pub overflow_sub-result : goal.overflow_sub-result
overflow_sub-result c = rw (upper c) (upper_fits c)

pub returns-else-n-full : goal.returns-else-n-full
returns-else-n-full c =
    let n = c.args.number in
    let test : c.full_of-full.result / 2 ≤ n = c.if-n-full.false in
    rw (upper c, to_z-of_z (upper_fits c), c.full_of-full.ensures)
    (offset_is _ n (signed_high _ n (rw c.full_of-full.ensures at test)))
