-- `section_check::check_entries` opens the section: what it hands on are the section's own parts.
-- Assumes nothing.
use borrow.Author.Rules.{rules}
use mathlib.Core.Path.{◌∙◌, ap}
use Prim.Native.Nat.{◌≤◌}
use lib.ListN.{length, drop}
use Rattle.section.specs.Meaning.{area_of, shape_of}
use Rattle.section.proofs.AreaLaws.{to_the_end}
use Rattle.accept.specs.Rules.{HeaderObeys}
use Rattle.accept.proofs.AcceptedLaws.{area_inside}
use Rattle.accept.proofs.Exactly.{header_exactly_when}
use Rattle.accept.proofs.section_check.check_entries.Goals as goal
use Rattle.accept.proofs.section_check.check_entries.Goals.{After-layout_at-layout, Start}

-- the header obeys
header : (c : Start) → HeaderObeys c.args.section.now
header c = (header_exactly_when _).0 c.requires

header_at_after_layout_at_layout : (c : After-layout_at-layout) → HeaderObeys c.args.section.now
header_at_after_layout_at_layout c = (header_exactly_when _).0 c.requires

area_within : (c : After-layout_at-layout) → c.layout_at-layout.result.area ≤ length c.args.section.now
area_within c = rw c.layout_at-layout.ensures (area_inside (header_at_after_layout_at_layout c))

pub layout_at-layout-requires : goal.layout_at-layout-requires
layout_at-layout-requires c = (header (goal.at.layout_at-layout-requires c).Start).rule1

pub slice_bounds-check_each-count : goal.slice_bounds-check_each-count
slice_bounds-check_each-count c = area_within c

pub slice_bounds-check_each-start : goal.slice_bounds-check_each-start
slice_bounds-check_each-start c = let within = area_within c in search rules

pub order_at-requires : goal.order_at-requires
order_at-requires c = (header (goal.at.order_at-requires c).Start).rule1

pub check_each-requires : goal.check_each-requires
unfolding area_of shape_of
check_each-requires c =
    record {
      sound = c.requires;
      area_is = to_the_end c.args.section.now c.layout_at-layout.result.area ∙ ap (λ l. drop l.area c.args.section.now) c.layout_at-layout.ensures;
      layout_is = c.layout_at-layout.ensures;
      shape_is = rw c.layout_at-layout.ensures at c.shape_of.ensures;
      order_is = c.order_at.ensures;
    }
