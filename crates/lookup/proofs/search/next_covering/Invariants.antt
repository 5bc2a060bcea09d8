-- `search::next_covering` passes by functions that do not cover: the first that does is the same from each of them on.
-- Assumes nothing.
use mathlib.Core.Path.{◌≡◌}
use Prim.Native.Nat.{◌-◌}
use lib.IntN.{ℤ}
use Rattle.numbers.specs.Inner.Held.{Near}
use Rattle.section.specs.Meaning.{function_in}
use Rattle.lookup.specs.Computed.Covering.{covers}
use Rattle.lookup.specs.Inner.Search.{first_where}
use Rattle.lookup.proofs.search.next_covering.Given as goal

abbrev pub invariant-loop-i : goal.invariant-loop-i
invariant-loop-i l =
    (z : ℤ)
    → Near z l.d
    → first_where (λ j. covers z (function_in l.table.section.now j)) (l.table.layout.functions - l.i) l.i
    ≡ first_where (λ j. covers z (function_in l.table.section.now j)) (l.table.layout.functions - l.from) l.from
