-- `section_check::check_each` walks the entries: each turn tries the next one, and what is left decides as the whole does.
-- Assumes nothing.
use Rattle.accept.proofs.TurnLaws.{Turned}
use Rattle.accept.proofs.section_check.check_each.Given as goal

abbrev pub invariant-loop-i : goal.invariant-loop-i
invariant-loop-i l = Turned l.section l.low l.rows l.i
