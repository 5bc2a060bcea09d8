-- `rows::pass_rows` passes row after row while they start at or below o.
-- Assumes nothing.
use mathlib.Core.Path.{◌≡◌}
use Rattle.lookup.specs.Inner.Search.{told_by}
use Rattle.lookup.proofs.PassedLaws.{Passed}
use Rattle.lookup.proofs.rows.pass_rows.Given as goal

-- what is told is what its info byte tells
abbrev pub invariant-loop-k : goal.invariant-loop-k
invariant-loop-k l =
    Passed l.area l.order l.code l.first l.count l.o l.place l.at l.k × (l.told ≡ told_by l.code l.told.info)
