-- `look::reached_in` takes the entry, and the offset of d from its start.
-- Assumes nothing.
use native.Mathlib.Omega.{arith}
use Prim.Native.Nat.{◌<◌, ◌^◌}
use Rattle.numbers.specs.Start.{distance}
use Rattle.numbers.specs.Inner.Held.{Held, Near}
use Rattle.section.specs.Meaning.{entry_in, function_start}
use Rattle.accept.proofs.RowLaws.{entry_sound}
use Rattle.lookup.specs.Inner.Reached.{reached_in}
use Rattle.lookup.proofs.LookLaws.{accepted_header, past_start_lem, offset_held, fault_free}
use Rattle.lookup.proofs.TableLaws.{header_obeys, start_held}
use Rattle.lookup.proofs.look.reached_in.Goals as goal
use Rattle.lookup.proofs.look.reached_in.Goals.{After-entry_in-entry, After-near_of, After-start_of}

pub order_at-requires : goal.order_at-requires
order_at-requires c = (header_obeys (accepted_header c.requires.section)).rule1

pub entry_in-entry-requires : goal.entry_in-entry-requires
entry_in-entry-requires c =
    let pre = c.requires in
    (record { header = accepted_header pre.section; order_is = c.order_at.ensures }, pre.inside)

-- ---- d and the start of function i, as they are held
near : (c : After-near_of)
    → Near (distance c.args.address c.args.pc) c.near_of.result
near c = record { is = c.near_of.ensures }

held : (c : After-start_of)
    → Held (function_start c.args.section.now c.args.i)
    c.start_of.result
held c =
    start_held (accepted_header c.requires.section) _ c.entry_in-entry.ensures c.start_of.ensures.range

small : (c : After-entry_in-entry)
    → (entry_in c.args.section.now c.args.i).size < 2 ^ 32
small c = rw (← c.entry_in-entry.ensures) (omega (arith, c.entry_in-entry.type_inv))

pub overflow_sub-past : goal.overflow_sub-past
overflow_sub-past c =
    past_start_lem _ _ c.requires.within (held c) (near (goal.at.overflow_sub-past c).After-near_of) (small (goal.at.overflow_sub-past c).After-entry_in-entry)

pub block_offset-requires : goal.block_offset-requires
block_offset-requires c =
    rw c.entry_in-entry.ensures ((entry_sound _ _ _).0 (fault_free c.requires)).repeat

pub returns : goal.returns
unfolding reached_in
returns c =
    let offset = offset_held _ _ c.requires.within (held (goal.at.returns c).After-start_of) (near (goal.at.returns c).After-near_of) (small (goal.at.returns c).After-entry_in-entry) in
    rw (c.block_offset.ensures, c.entry_in-entry.ensures, ← offset)
