-- `rows::walk_rows` walks the rows: each turn tries the next one, as a check does, and remembers it where it starts at or below o.
-- Assumes nothing.
use Rattle.accept.proofs.WalkLaws.{RowsPassed}
use Rattle.ask.proofs.WalkLaws.{StopSoFar}
use Rattle.ask.proofs.rows.walk_rows.Given as goal

abbrev pub invariant-loop-k : goal.invariant-loop-k
invariant-loop-k l =
    RowsPassed l.area l.shape l.code l.first l.count l.at l.low l.k × StopSoFar l.area l.shape.order l.code l.first l.o l.low l.k l.stop
