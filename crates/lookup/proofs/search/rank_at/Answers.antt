-- `search::rank_at` reads the start field of entry i, which lies in the section, and adds its place under flag 0x4.
-- Assumes nothing.
use borrow.Author.Rules.{rules}
use native.Mathlib.Omega.{arith}
use mathlib.Core.Path.{◌≡◌}
use Prim.Native.Nat.{◌+◌, ◌*◌, ◌<◌, ◌^◌}
use Rattle.section.specs.Entry.{position_at}
use Rattle.numbers.specs.Inner.Held.{rank}
use Rattle.numbers.proofs.HeldLaws.{held_rank}
use Rattle.lookup.proofs.TableLaws.{entry_room, entry_place, position_below, field_held}
use Rattle.lookup.proofs.search.rank_at.Goals as goal
use Rattle.lookup.proofs.search.rank_at.Goals.{then-table, else-table}

pub overflow_add-place : goal.overflow_add-place
overflow_add-place c = omega (arith, entry_place c.args.table.sound.header _ c.requires)

pub u32_at-requires : goal.u32_at-requires
u32_at-requires c = omega (arith, entry_room c.args.table.sound.header _ c.requires)

-- what the start field counts from
position_is : (c : goal.After-row_known-1)
    → c.if-table.position ≡ position_at c.args.table.layout.relative (c.args.table.layout.table + 20 * c.args.i)
unfolding position_at
position_is c =
    elim c.if-table.branch [
      | then-table w ↦ rw w.if-table.true w.position-is
      | else-table w ↦ rw w.if-table.false w.position-is
    ]

-- which is a small number, as the place is
small : (c : goal.After-row_known-1) → c.if-table.position < 2 ^ 32
small c =
    omega (
      arith,
      position_is c,
      position_below c.args.table.layout.relative (c.args.table.layout.table + 20 * c.args.i),
      entry_place c.args.table.sound.header _ c.requires,
    )

pub overflow_add-result : goal.overflow_add-result
overflow_add-result c = omega (arith, c.rank_of.ensures.range, small c)

pub returns : goal.returns
returns c =
    let held = held_rank c.u32_at.result c.if-table.position (search rules) (small c) in
    let same : c.rank_of.result + c.if-table.position + 2147483648
    ≡ rank c.u32_at.result + 2147483648 + c.if-table.position = omega (arith, c.rank_of.ensures.value) in
    field_held c.args.table.sound _ c.u32_at.ensures (position_is c) (rw same held)
