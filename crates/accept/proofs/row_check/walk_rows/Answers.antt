-- `row_check::walk_rows` walks the rows: each turn passes the next one, and what is left decides as the whole does.
-- Assumes nothing.
use Rattle.accept.proofs.WalkLaws.{walk_begins, walk_goes_on, walk_stops, walk_ends}
use Rattle.accept.proofs.row_check.walk_rows.Goals as goal

pub loop-k-init : goal.loop-k-init
loop-k-init c = walk_begins _ _ _ _ _ c.requires.1

pub returns-in-Err : goal.returns-in-Err
returns-in-Err c = walk_stops c.loop-k.invariant c.loop-k-test.true c.in-Err.ensures

pub loop-k-preserved : goal.loop-k-preserved
loop-k-preserved c = walk_goes_on c.loop-k.invariant c.loop-k-test.true c.in-Ok.ensures

pub returns : goal.returns
returns c = walk_ends c.loop-k.invariant c.loop-k-test.false
