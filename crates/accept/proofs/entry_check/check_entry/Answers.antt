-- `entry_check::check_entry` goes on to the rows where the entry's own table finds nothing.
-- Assumes nothing.
use mathlib.Core.Path.{sym}
use Rattle.accept.proofs.RowLaws.{own_rules_hold}
use Rattle.accept.proofs.entry_check.check_entry.Goals as goal

pub check_rows-requires : goal.check_rows-requires
check_rows-requires c =
    let own = own_rules_hold _ _ (sym c.in_default.ensures) in
    (rw c.type_of.ensures own.0.2, own.2)
