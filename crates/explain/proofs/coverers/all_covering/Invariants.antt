-- `coverers::all_covering` tries function after function.
-- Assumes nothing.
use mathlib.Core.Path.{◌≡◌}
use Prim.Native.Nat.{◌-◌, ◌≤◌}
use Rattle.numbers.specs.Start.{distance}
use Rattle.section.specs.Meaning.{function_in}
use Rattle.lookup.specs.Computed.Covering.{covers}
use Rattle.explain.specs.Computed.Coverers.{no_coverers, with_if}
use Rattle.explain.specs.Computed.Each.{each}
use Rattle.explain.proofs.coverers.all_covering.Given as goal

-- as many are known as there were functions, at most
abbrev pub invariant-loop-i : goal.invariant-loop-i
invariant-loop-i l =
    (l.known.count ≤ l.i)
    × (each (λ known j. with_if (covers (distance l.address l.pc) (function_in l.section j)) j known) (l.layout.functions - l.i) l.i l.known
    ≡ each (λ known j. with_if (covers (distance l.address l.pc) (function_in l.section j)) j known) l.layout.functions 0 no_coverers)
