-- `without_padding` takes a zero off a turn: what is left has the same bytes behind its own zeros.
-- Assumes nothing.
use mathlib.Core.Path.{◌≡◌}
use lib.ListN.{length, drop}
use Rattle.digits.specs.Digits.{padding}
use Rattle.digits.proofs.without_padding.Given as goal

abbrev pub invariant-loop-rest : goal.invariant-loop-rest
invariant-loop-rest l = drop (padding l.rest) l.rest ≡ drop (padding l.text) l.text

abbrev pub decreases-loop-rest : goal.decreases-loop-rest
decreases-loop-rest l = length l.rest
