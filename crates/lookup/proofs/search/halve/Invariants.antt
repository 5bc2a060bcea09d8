-- `search::halve` follows the halving rule turn by turn: what is left of the halving gives the whole landing.
-- Assumes nothing.
use Prim.Native.Nat.{◌-◌}
use Rattle.lookup.proofs.HalvingTurns.{Halved}
use Rattle.lookup.proofs.search.halve.Given as goal

abbrev pub invariant-loop-low : goal.invariant-loop-low
invariant-loop-low l = Halved l.table.section.now l.table.layout.functions l.d l.low l.high l.compared

abbrev pub decreases-loop-low : goal.decreases-loop-low
decreases-loop-low l = l.high - l.low
