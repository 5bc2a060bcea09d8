-- `land::in_function` reads the entry and seeks the row in the row area, which is what follows the table.
-- Assumes nothing.
use borrow.Author.Rules.{rules}
use mathlib.Core.Path.{◌≡◌, ◌∙◌, ap}
use Prim.Native.Nat.{◌≤◌, ◌-◌}
use lib.ListN.{length, take, drop}
use Rattle.section.specs.Meaning.{area_of, shape_of}
use Rattle.section.proofs.AreaLaws.{to_the_end}
use Rattle.accept.proofs.AcceptedLaws.{area_inside}
use Rattle.lookup.proofs.TableLaws.{header_obeys}
use Rattle.ask.specs.Inner.Parts.{past_function}
use Rattle.ask.proofs.land.in_function.Goals as goal
use Rattle.ask.proofs.land.in_function.Goals.{After-shape_of, Start}

pub order_at-requires : goal.order_at-requires
order_at-requires c = (header_obeys c.requires.0).rule1

-- ---- the row area
area_within : (c : Start) → c.args.layout.area ≤ length c.args.section.now
area_within c = rw c.requires.0.layout_is (area_inside (header_obeys c.requires.0))

pub slice_bounds-seek_row-count : goal.slice_bounds-seek_row-count
slice_bounds-seek_row-count c = area_within (goal.at.slice_bounds-seek_row-count c).Start

pub slice_bounds-seek_row-start : goal.slice_bounds-seek_row-start
slice_bounds-seek_row-start c = let within = area_within (goal.at.slice_bounds-seek_row-start c).Start in search rules

area_is : (c : Start)
    → take (length c.args.section.now - c.args.layout.area) (drop c.args.layout.area c.args.section.now)
    ≡ area_of c.args.section.now
unfolding area_of
area_is c = to_the_end _ c.args.layout.area ∙ ap (λ l. drop l.area c.args.section.now) c.requires.0.layout_is

shape_is : (c : After-shape_of) → c.shape_of.result ≡ shape_of c.args.section.now
unfolding shape_of
shape_is c = rw c.requires.0.layout_is at c.shape_of.ensures

pub returns : goal.returns
unfolding past_function
returns c =
    let sought = rw (area_is (goal.at.returns c).Start, shape_is (goal.at.returns c).After-shape_of, c.entry_in-entry.ensures) at c.seek_row.ensures in
    rw sought at c.with_sought.ensures
