-- `looked::row_place` goes from row to row.
-- Assumes nothing.
use mathlib.Core.Path.{◌≡◌}
use Rattle.section.specs.Row.{row_place}
use Rattle.explain.proofs.looked.row_place.Given as goal

abbrev pub invariant-loop-j : goal.invariant-loop-j
invariant-loop-j l = l.at ≡ row_place l.area l.code l.first l.j
