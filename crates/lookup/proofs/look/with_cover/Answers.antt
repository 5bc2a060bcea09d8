-- `look::with_cover` looks for a row where one function covers.
-- Assumes nothing.
use mathlib.Core.Path.{sym, ◌∙◌}
use Rattle.numbers.specs.Start.{distance}
use Rattle.section.proofs.ListedLaws.{functions_get}
use Rattle.lookup.specs.Halving.{empty_function}
use Rattle.lookup.specs.Computed.Answers.{with_cover}
use Rattle.lookup.specs.Inner.Requires.{RowAsked}
use Rattle.lookup.proofs.LookLaws.{row_asked}
use Rattle.lookup.proofs.look.with_cover.Goals as goal
use Rattle.lookup.proofs.look.with_cover.Goals.{In-One}

asked : (c : In-One)
    → RowAsked c.args.section.now c.args.layout c.in-One.i
    (distance c.args.address c.args.pc)
asked c =
    row_asked _ c.requires.0 (sym c.requires.1 ∙ c.in-One.is)

pub row_for-requires : goal.row_for-requires
row_for-requires c = asked c

pub returns-in-Nobody : goal.returns-in-Nobody
unfolding with_cover
returns-in-Nobody c = rw c.in-Nobody.is

pub returns-in-One : goal.returns-in-One
unfolding with_cover
returns-in-One c =
    let listed = rw c.requires.0.layout_is at (asked (goal.at.returns-in-One c).In-One).inside in
    rw c.in-One.is (rw (functions_get _ _ empty_function listed, c.with_row.ensures, c.row_for.ensures))

pub returns-in-Two : goal.returns-in-Two
unfolding with_cover
returns-in-Two c = rw c.in-Two.is
