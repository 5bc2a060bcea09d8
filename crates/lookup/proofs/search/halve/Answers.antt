-- `search::halve` follows the halving rule turn by turn: what is left of the halving gives the whole landing.
-- Assumes nothing.
use native.Mathlib.Numerals.{add-one}
use native.Mathlib.Omega.{arith}
use Prim.Native.Nat.{◌+◌, ◌/◌}
use Rattle.numbers.proofs.HeldLaws.{from_start, before_start}
use Rattle.lookup.proofs.HalvingTurns.{halving_begins, middle_within, goes_up, goes_down, halving_ends}
use Rattle.lookup.proofs.search.halve.Goals as goal

pub loop-low-init : goal.loop-low-init
loop-low-init c = halving_begins _ c.args.table.sound.header

pub overflow_add-middle : goal.overflow_add-middle
overflow_add-middle c =
    let loop = c.loop-low in
    omega (arith, loop.invariant.ordered, loop.invariant.within, loop.invariant.few)

pub overflow_add-compared : goal.overflow_add-compared
overflow_add-compared c = let loop = c.loop-low in omega (arith, loop.invariant.spent, loop.invariant.few, c.loop-low-test.true)

pub rank_at-requires : goal.rank_at-requires
rank_at-requires c = middle_within c.loop-low.invariant c.loop-low-test.true

pub overflow_add-low : goal.overflow_add-low
overflow_add-low c =
    omega (arith, middle_within c.loop-low.invariant c.loop-low-test.true, c.loop-low.invariant.few)

pub loop-low-preserved-then-rank_at-bound : goal.loop-low-preserved-then-rank_at-bound
loop-low-preserved-then-rank_at-bound c =
    rw (add-one ((c.loop-low.low + c.loop-low.high) / 2), add-one c.loop-low.compared)
    (goes_up c.loop-low.invariant c.loop-low-test.true λ z near.
    from_start c.rank_at.ensures near (omega (arith, c.if-rank_at-bound.true, c.bound_of-bound.ensures)))

pub loop-low-preserved : goal.loop-low-preserved
loop-low-preserved c =
    rw (add-one c.loop-low.compared)
    (goes_down c.loop-low.invariant c.loop-low-test.true λ z near.
    before_start c.rank_at.ensures near (omega (arith, c.if-rank_at-bound.false, c.bound_of-bound.ensures)))

pub returns : goal.returns
returns c =
    let loop = c.loop-low in
    record { value = halving_ends loop.invariant c.loop-low-test.false; range = omega (arith, loop.invariant.ordered, loop.invariant.within) }
