-- `look::row_for` scans the rows of the entry, which is sound, up to the offset of d in its function.
-- Assumes nothing.
use borrow.Author.Rules.{rules}
use mathlib.Core.Path.{◌≡◌, ◌∙◌, ap}
use Prim.Native.Nat.{◌≤◌, ◌-◌}
use lib.ListN.{length, take, drop}
use Rattle.section.specs.Meaning.{area_of, shape_of, function_in}
use Rattle.section.proofs.AreaLaws.{to_the_end}
use Rattle.accept.proofs.AcceptedLaws.{area_inside}
use Rattle.lookup.specs.Computed.Rows.{row_for}
use Rattle.lookup.specs.Inner.Reached.{reached_in}
use Rattle.lookup.proofs.LookLaws.{accepted_header, fault_free}
use Rattle.lookup.proofs.TableLaws.{header_obeys}
use Rattle.lookup.proofs.look.row_for.Goals as goal
use Rattle.lookup.proofs.look.row_for.Goals.{After-shape_of, Start}

-- ---- the entry and its rows
area_within : (c : Start) → c.args.layout.area ≤ length c.args.section.now
area_within c = rw c.requires.section.layout_is (area_inside (header_obeys (accepted_header c.requires.section)))

pub slice_bounds-scan_rows-count : goal.slice_bounds-scan_rows-count
slice_bounds-scan_rows-count c = area_within (goal.at.slice_bounds-scan_rows-count c).Start

pub slice_bounds-scan_rows-start : goal.slice_bounds-scan_rows-start
slice_bounds-scan_rows-start c = let within = area_within (goal.at.slice_bounds-scan_rows-start c).Start in search rules

area_is : (c : Start)
    → take (length c.args.section.now - c.args.layout.area) (drop c.args.layout.area c.args.section.now)
    ≡ area_of c.args.section.now
unfolding area_of
area_is c = to_the_end _ c.args.layout.area ∙ ap (λ l. drop l.area c.args.section.now) c.requires.section.layout_is

shape_is : (c : After-shape_of)
    → c.shape_of.result ≡ shape_of c.args.section.now
unfolding shape_of
shape_is c = rw c.requires.section.layout_is at c.shape_of.ensures

pub scan_rows-requires : goal.scan_rows-requires
unfolding reached_in
scan_rows-requires c =
    rw (area_is (goal.at.scan_rows-requires c).Start, shape_is (goal.at.scan_rows-requires c).After-shape_of, c.reached_in-reached.ensures) (fault_free c.requires)

pub returns : goal.returns
unfolding row_for function_in reached_in
returns c =
    rw (area_is (goal.at.returns c).Start, shape_is (goal.at.returns c).After-shape_of, c.reached_in-reached.ensures) at c.scan_rows.ensures
