-- `search::size_at` reads the size field of entry i, which lies in the section.
-- Assumes nothing.
use native.Mathlib.Omega.{arith}
use Rattle.lookup.proofs.TableLaws.{entry_room, entry_place, size_field}
use Rattle.lookup.proofs.search.size_at.Goals as goal

pub overflow_add-at : goal.overflow_add-at
overflow_add-at c = omega (arith, entry_place c.args.table.sound.header _ c.requires)

pub overflow_add-at-2 : goal.overflow_add-at-2
overflow_add-at-2 c = omega (arith, entry_place c.args.table.sound.header _ c.requires)

pub u32_at-requires : goal.u32_at-requires
u32_at-requires c = omega (arith, entry_room c.args.table.sound.header _ c.requires)

pub returns : goal.returns
returns c = size_field c.args.table.sound _ c.u32_at.ensures
