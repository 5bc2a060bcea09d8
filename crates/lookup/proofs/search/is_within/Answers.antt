-- `search::is_within` compares once: before the start, d is farther past it than any size.
-- Assumes nothing.
use borrow.Author.Rules.{rules}
use Rattle.lookup.proofs.HeldTests.{within}
use Rattle.lookup.proofs.search.is_within.Goals as goal

pub returns : goal.returns
returns c f z held near = rw c.past_start.ensures (within held near _ (search rules))
