-- `nearby::best_in` tries function after function.
-- Assumes nothing.
use mathlib.Core.Path.{◌∙◌, ap}
use Rattle.explain.specs.Inner.Keys.{nearest_of}
use Rattle.explain.proofs.EachLaws.{each_next}
use Rattle.explain.proofs.KeyLaws.{better_small}
use Rattle.explain.proofs.nearby.best_in.Goals as goal

pub loop-i-preserved : goal.loop-i-preserved
loop-i-preserved c =
    let bounded = c.loop-i.invariant.0 in (
      rw c.better_of-best.ensures (better_small _ _ _ bounded (c.key_at.ensures.range c.requires)),
      λ z near.
          each_next _ _ _ c.loop-i-test.true
          (ap (nearest_of _) c.better_of-best.ensures ∙ c.key_at.ensures.i_value z _ near bounded)
          (c.loop-i.invariant.1 z near),
    )
