-- `row_check::walk_rows` walks the rows: each turn tries the next one, and what is left decides as the whole does.
-- Assumes nothing.
use Rattle.accept.proofs.WalkLaws.{RowsPassed}
use Rattle.accept.proofs.row_check.walk_rows.Given as goal

abbrev pub invariant-loop-k : goal.invariant-loop-k
invariant-loop-k l = RowsPassed l.area l.shape l.code l.first l.count l.at l.low l.k
