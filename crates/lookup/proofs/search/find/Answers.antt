-- `search::find` halves a sorted section and looks at the function landed on, and scans any other.
-- Assumes nothing.
use Rattle.numbers.specs.Start.{distance}
use Rattle.numbers.specs.Inner.Held.{Near}
use Rattle.section.proofs.ListedLaws.{functions_length}
use Rattle.lookup.specs.Halving.{compared}
use Rattle.lookup.specs.Inner.Search.{cover_by, search_of}
use Rattle.lookup.proofs.search.find.Goals as goal
use Rattle.lookup.proofs.search.find.Goals.{After-near_of-d}

-- d holds the distance
held : (c : After-near_of-d)
    → Near (distance c.args.address c.args.pc) c.near_of-d.result
held c = record { is = c.near_of-d.ensures }

pub returns-then-layout : goal.returns-then-layout
unfolding search_of cover_by compared
returns-then-layout c =
    let near = held (goal.at.returns-then-layout c).After-near_of-d in
    rw c.if-layout.true
    (rw (c.landed_on.ensures _ near, c.halve-landing.ensures.value _ near, c.table_in-table.ensures.section))

pub returns : goal.returns
unfolding search_of cover_by compared
returns c =
    let near = held (goal.at.returns c).After-near_of-d in
    rw c.if-layout.false
    (rw (c.scan.ensures _ near, c.table_in-table.ensures.section, functions_length, ← c.requires.layout_is))
