-- `rows::seek_row` tries the entry, and then walks its rows.
-- Assumes nothing.
use mathlib.Core.Path.{◌≡◌, sym, ◌∙◌, ap}
use Rattle.std.proofs.Common.{Ok}
use Rattle.section.specs.Entry.{type_of}
use Rattle.section.specs.Meaning.{block_of}
use Rattle.accept.proofs.RowLaws.{own_rules_hold}
use Rattle.lookup.specs.Computed.Rows.{in_block}
use Rattle.ask.specs.Inner.Parts.{walk_of}
use Rattle.ask.proofs.SoughtLaws.{sought_wrong, sought_faulty, stop_can_be_read, sought_whole}
use Rattle.ask.proofs.rows.seek_row.Goals as goal
use Rattle.ask.proofs.rows.seek_row.Goals.{In-Ok}

pub returns-in-Err : goal.returns-in-Err
returns-in-Err c = sought_wrong _ _ _ c.in-Err.ensures _

pub block_offset-o-requires : goal.block_offset-o-requires
block_offset-o-requires c = (own_rules_hold _ _ (sym c.in_default.ensures)).1

pub walk_typed-requires : goal.walk_typed-requires
walk_typed-requires c =
    let own = own_rules_hold _ _ (sym c.in_default.ensures) in
    (rw c.type_of-code.ensures own.0.2, own.2)

-- where the walk ended, of an entry that breaks nothing
whole : (c : In-Ok)
    → Ok c.in-Ok.stop ≡ walk_of c.args.area.now c.args.shape (type_of c.args.entry.info) c.args.entry.first c.args.entry.rows (in_block (block_of c.args.entry) c.args.past)
whole c = rw (c.type_of-code.ensures, c.block_offset-o.ensures) at c.in-Ok.ensures

pub sought_at-requires : goal.sought_at-requires
sought_at-requires c = rw c.type_of-code.ensures (stop_can_be_read _ _ _ c.in_default.ensures _ _ (whole c))

pub returns-in-Err-walk_typed : goal.returns-in-Err-walk_typed
returns-in-Err-walk_typed c =
    sought_faulty _ _ _ c.in_default.ensures _ (rw (c.type_of-code.ensures, c.block_offset-o.ensures) at c.in-Err-walk_typed.ensures)

pub returns-in-Ok : goal.returns-in-Ok
returns-in-Ok c =
    ap Ok (rw c.type_of-code.ensures at c.sought_at.ensures)
    ∙ sought_whole _ _ _ c.in_default.ensures _ _ (whole (goal.at.returns-in-Ok c).In-Ok)
