-- `make_walks` ends, since each walk leaves less of them.
use Rattle.std.proofs.Common.{length}
use Rattle.replay.proofs.walks.make_walks.Given as goal

abbrev pub decreases-loop-head : goal.decreases-loop-head
decreases-loop-head g l = length l.rest
