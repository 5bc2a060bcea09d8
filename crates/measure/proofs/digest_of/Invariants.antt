-- `measure::digest_of` folds the answers in one by one: the digest of the PCs left, from the digest so far, is the digest of all.
-- Assumes nothing.
use mathlib.Core.Path.{◌≡◌}
use Prim.Native.Nat.{◌<◌, ◌^◌}
use lib.ListN.{drop}
use Rattle.measure.specs.Digest.{digest_from}
use Rattle.measure.proofs.digest_of.Given as goal

abbrev pub invariant-loop-pc : goal.invariant-loop-pc
invariant-loop-pc l =
    (l.digest < 2 ^ 32) × (digest_from l.section l.address l.digest (drop l.pc-index l.pcs) ≡ digest_from l.section l.address 0 l.pcs)
