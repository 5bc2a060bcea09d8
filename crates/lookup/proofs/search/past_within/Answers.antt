-- `search::past_within` compares once: before the start, d is farther past it than any size.
-- Assumes nothing.
use borrow.Author.Rules.{rules}
use mathlib.Core.Path.{◌∙◌, ap}
use Rattle.std.proofs.Common.{Some}
use Rattle.lookup.proofs.HeldTests.{past_by, past_none}
use Rattle.lookup.proofs.search.past_within.Goals as goal

pub returns-then-past-size : goal.returns-then-past-size
returns-then-past-size c f z held near size =
    ap Some c.past_start-past.ensures
    ∙ past_by f held near (rw size (search rules)) (rw (c.past_start-past.ensures, ← size) at c.if-past-size.true)

pub returns-else-past-size : goal.returns-else-past-size
returns-else-past-size c f z held near size =
    past_none f held near (rw size (search rules)) (rw (c.past_start-past.ensures, ← size) at c.if-past-size.false)
