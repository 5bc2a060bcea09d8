-- `search::covers_at` compares with the start and the size of entry i.
-- Assumes nothing.
use native.Mathlib.Omega.{arith}
use Rattle.section.specs.Meaning.{function_in}
use Rattle.lookup.specs.Computed.Covering.{covers}
use Rattle.lookup.proofs.search.covers_at.Goals as goal

pub overflow_add-start : goal.overflow_add-start
overflow_add-start c = omega (arith, c.rank_at-start.ensures.room)

pub returns : goal.returns
unfolding covers function_in
returns c z near = rw c.size_at.ensures at (c.is_within.ensures _ z c.rank_at-start.ensures near)
