-- `measure::digest_of` folds the answers in one by one: the digest of the PCs left, from the digest so far, is the digest of all.
-- Assumes nothing.
use native.Mathlib.Numerals.{add-one}
use native.Mathlib.Omega.{arith}
use Prim.Native.Nat.{ℕ}
use lib.ListN.{drop_of_length-le}
use lib.Seq.{drop-cons}
use mathlib.Core.Path.{◌∙◌, ap}
use Rattle.measure.specs.Digest.{weight, digest_from}
use Rattle.measure.proofs.digest_of.Goals as goal

pub loop-pc-preserved : goal.loop-pc-preserved
unfolding digest_from
loop-pc-preserved c =
    let loop = c.loop-pc in
    let left = rw (drop-cons {A = ℕ} _ loop.pc-index 0 c.loop-pc-test.true) at loop.invariant.1 in
    (omega arith, rw (add-one loop.pc-index, c.weight_of.ensures.value ∙ ap weight c.look-answer.ensures) left)

pub returns : goal.returns
unfolding digest_from
returns c = rw (drop_of_length-le _ c.loop-pc-test.false) at c.loop-pc.invariant.1
