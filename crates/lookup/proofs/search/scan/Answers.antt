-- `search::scan` looks for the first function that covers, and for the next after it.
-- Assumes nothing.
use native.Mathlib.Numerals.{add-one}
use native.Mathlib.Omega.{arith}
use mathlib.Core.Path.{◌≡◌, sym, ◌∙◌}
use Prim.Native.Nat.{suc, ◌-◌, ◌<◌}
use lib.IntN.{ℤ}
use Rattle.numbers.specs.Inner.Held.{Near}
use Rattle.section.specs.Header.{layout_of}
use Rattle.section.specs.Meaning.{function_in}
use Rattle.lookup.specs.Computed.Covering.{covers}
use Rattle.lookup.specs.Inner.Search.{first_where}
use Rattle.lookup.proofs.ScanLaws.{scan_none, scan_one, scan_two}
use Rattle.lookup.proofs.search.scan.Goals as goal
use Rattle.lookup.proofs.search.scan.Goals.{After-next_covering-first, After-next_covering-second, Else-first-table}

-- what was found first, and next
first : (c : After-next_covering-first) (z : ℤ)
    → Near z c.args.d
    → first_where (λ i. covers z (function_in c.args.table.section.now i)) ((layout_of c.args.table.section.now).functions - 0) 0
    ≡ c.next_covering-first.result
first c z near = sym (rw c.args.table.sound.header.layout_is at (c.next_covering-first.ensures.value z near))

pub returns-then-first-table : goal.returns-then-first-table
returns-then-first-table c z near =
    sym (scan_none _ z (first (goal.at.returns-then-first-table c).After-next_covering-first z near ∙ (rw c.args.table.sound.header.layout_is at c.if-first-table.true)))

below : (c : Else-first-table)
    → c.next_covering-first.result < (layout_of c.args.table.section.now).functions
below c =
    rw (← c.args.table.sound.header.layout_is) (omega (arith, c.next_covering-first.ensures.range, c.if-first-table.false))

second : (c : After-next_covering-second) (z : ℤ)
    → Near z c.args.d
    → first_where (λ i. covers z (function_in c.args.table.section.now i))
    ((layout_of c.args.table.section.now).functions - suc c.next_covering-first.result)
    (suc c.next_covering-first.result)
    ≡ c.next_covering-second.result
second c z near =
    sym (rw (c.args.table.sound.header.layout_is, add-one c.next_covering-first.result) at (c.next_covering-second.ensures.value z near))

pub returns-then-second-table : goal.returns-then-second-table
returns-then-second-table c z near =
    let none = rw c.args.table.sound.header.layout_is at c.if-second-table.true in
    sym (scan_one _ z _ (first (goal.at.returns-then-second-table c).After-next_covering-first z near) (below (goal.at.returns-then-second-table c).Else-first-table) (second (goal.at.returns-then-second-table c).After-next_covering-second z near ∙ none))

pub returns : goal.returns
returns c z near =
    let less : c.next_covering-second.result < (layout_of c.args.table.section.now).functions =
    rw (← c.args.table.sound.header.layout_is) (omega (arith, c.next_covering-second.ensures.range, c.if-second-table.false)) in
    sym (scan_two _ z _ _ (first (goal.at.returns c).After-next_covering-first z near) (below (goal.at.returns c).Else-first-table) (second (goal.at.returns c).After-next_covering-second z near) less)
