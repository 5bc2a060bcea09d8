-- `table::entry_in` reads the entry at its place, which lies in the section.
-- Assumes nothing.
use native.Mathlib.Omega.{arith}
use Rattle.section.specs.Meaning.{entry_in}
use Rattle.lookup.proofs.TableLaws.{entry_room, entry_place}
use Rattle.lookup.proofs.table.entry_in.Goals as goal

pub overflow_add-layout : goal.overflow_add-layout
overflow_add-layout c = let pre = c.requires in omega (arith, entry_place pre.0.header _ pre.1)

pub overflow_cast-layout : goal.overflow_cast-layout
overflow_cast-layout c = let pre = c.requires in omega (arith, entry_place pre.0.header _ pre.1)

pub entry_at-requires : goal.entry_at-requires
entry_at-requires c = let pre = c.requires in entry_room pre.0.header _ pre.1

pub returns : goal.returns
unfolding entry_in
returns c = let pre = c.requires in rw (pre.0.order_is, pre.0.header.layout_is) at c.entry_at.ensures
