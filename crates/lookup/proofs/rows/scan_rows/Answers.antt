-- `rows::scan_rows` answers with the row at which the walk stops.
-- Assumes nothing.
use native.Mathlib.Omega.{arith}
use mathlib.Core.Path.{◌≡◌, sym}
use Prim.Native.Nat.{◌<◌}
use Rattle.accept.proofs.RowLaws.{entry_sound, entry_readable}
use Rattle.lookup.proofs.EntryRows.{entry_stop, stop_none, stop_last, stop_readable}
use Rattle.lookup.proofs.rows.scan_rows.Goals as goal
use Rattle.lookup.proofs.rows.scan_rows.Goals.{After-stop_at-stop, Else-stop-eq0}

pub stop_at-stop-requires : goal.stop_at-stop-requires
stop_at-stop-requires c =
    rw c.type_of-code.ensures (entry_readable _ _ _ c.requires, ((entry_sound _ _ _).0 c.requires).info.2)

-- where the walk stopped
stopped : (c : After-stop_at-stop)
    → c.stop_at-stop.result
    ≡ entry_stop c.args.area.now c.args.shape
    c.args.entry c.args.o
stopped c = rw c.type_of-code.ensures at c.stop_at-stop.ensures

stopped_at_else_stop_eq0 : (c : Else-stop-eq0)
    → c.stop_at-stop.result
    ≡ entry_stop c.args.area.now c.args.shape
    c.args.entry c.args.o
stopped_at_else_stop_eq0 c = rw c.type_of-code.ensures at c.stop_at-stop.ensures

some : (c : Else-stop-eq0)
    → 0
    < (entry_stop c.args.area.now c.args.shape
    c.args.entry c.args.o).rows
some c = rw (← stopped_at_else_stop_eq0 c) (omega (arith, c.if-stop-eq0.false))

pub returns-then-stop-eq0 : goal.returns-then-stop-eq0
returns-then-stop-eq0 c =
    sym (stop_none _ _ _ _ c.requires (rw (stopped (goal.at.returns-then-stop-eq0 c).After-stop_at-stop) at c.if-stop-eq0.true))

pub row_at-requires : goal.row_at-requires
row_at-requires c =
    rw (c.type_of-code.ensures, stopped (goal.at.row_at-requires c).After-stop_at-stop) (stop_readable _ _ _ _ c.requires (some c))

pub returns : goal.returns
returns c =
    rw (c.row_at.ensures, c.type_of-code.ensures, stopped (goal.at.returns c).After-stop_at-stop)
    (sym (stop_last _ _ _ _ c.requires (some (goal.at.returns c).Else-stop-eq0)))
