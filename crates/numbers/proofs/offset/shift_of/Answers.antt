-- `offset::shift_of` is right by the sign: -1 less a negative offset is never negative, and one more is how far it goes down.
-- Assumes nothing.
use mathlib.Core.Path.{sym, ap}
use borrow.Author.Rules.{rules}
use native.Mathlib.Omega.{arith}
use Rattle.numbers.specs.Inner.Shift.{shift_of}
use Rattle.numbers.proofs.SignedLaws.{Below, Above, below, above}
use Rattle.numbers.proofs.offset.shift_of.Goals as goal
use Rattle.numbers.proofs.offset.shift_of.Goals.{Else-by-lt0, Then-by-lt0}

down : (c : Then-by-lt0) → Below c.args.offset.by
down c = below _ (search rules) c.if-by-lt0.true

up : (c : Else-by-lt0) → Above c.args.offset.by
up c = above _ (search rules) c.if-by-lt0.false

pub overflow_sub-result : goal.overflow_sub-result
overflow_sub-result c = rw (down c).turned (record { sfits = (down c).small })

pub overflow_cast-result : goal.overflow_cast-result
overflow_cast-result c =
    let k = (down c).small in
    rw (down c).back (tt, record { fits = omega arith })

pub overflow_add-result : goal.overflow_add-result
overflow_add-result c =
    let k = (down c).small in
    rw (down c).back (record { fits = omega arith })

pub returns-then-by-lt0 : goal.returns-then-by-lt0
unfolding shift_of
returns-then-by-lt0 c = rw (down c).back (sym (ap shift_of (down c).is))

pub returns-else-by-lt0 : goal.returns-else-by-lt0
unfolding shift_of
returns-else-by-lt0 c = rw (up c).back (sym (ap shift_of (up c).is))
