-- `coverers::all_covering` tries function after function.
-- Assumes nothing.
use Rattle.explain.proofs.CoversLaws.{count_kept}
use Rattle.explain.proofs.EachLaws.{each_next}
use Rattle.explain.proofs.coverers.all_covering.Goals as goal

pub loop-i-preserved : goal.loop-i-preserved
loop-i-preserved c = (
  rw c.with_if-known.ensures (count_kept _ _ _ c.loop-i.invariant.0),
  each_next _ _ _ c.loop-i-test.true (rw (← c.covers_pc-covers.ensures) c.with_if-known.ensures) c.loop-i.invariant.1,
)
