-- `nearby::best_in` tries function after function.
-- Assumes nothing.
use mathlib.Core.Path.{◌≡◌}
use Prim.Native.Nat.{◌-◌, ◌^◌, ◌≤◌}
use lib.IntN.{ℤ}
use Rattle.std.specs.Prelude.{None}
use Rattle.numbers.specs.Inner.Held.{Near}
use Rattle.section.specs.Meaning.{entry_in, function_start}
use Rattle.explain.specs.Computed.Each.{each}
use Rattle.explain.specs.Computed.Nearest.{tried}
use Rattle.explain.specs.Inner.Keys.{nearest_of}
use Rattle.explain.proofs.nearby.best_in.Given as goal

abbrev pub invariant-loop-i : goal.invariant-loop-i
invariant-loop-i l =
    (l.best.key ≤ 2 ^ 34)
    × ((z : ℤ)
    → Near z l.d
    → each (λ known j. tried l.side z (function_start l.table.section.now j) (entry_in l.table.section.now j).size j known) (l.table.layout.functions - l.i) l.i (nearest_of l.side l.best)
    ≡ each (λ known j. tried l.side z (function_start l.table.section.now j) (entry_in l.table.section.now j).size j known) l.table.layout.functions 0 None)
