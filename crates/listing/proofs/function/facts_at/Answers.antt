-- `function::facts_at` reads the entry at its place, which lies in the section.
-- Assumes nothing.
use native.Mathlib.Omega.{arith}
use Rattle.listing.proofs.FunctionLaws.{entry_room}
use Rattle.listing.proofs.function.facts_at.Goals as goal

pub overflow_add-layout : goal.overflow_add-layout
overflow_add-layout c = let there = c.requires in omega (arith, (entry_room there).0, there.small)

pub overflow_cast-layout : goal.overflow_cast-layout
overflow_cast-layout c = let there = c.requires in omega (arith, (entry_room there).0, there.small)

pub entry_at-entry-requires : goal.entry_at-entry-requires
entry_at-entry-requires c = let room = entry_room c.requires in omega arith
