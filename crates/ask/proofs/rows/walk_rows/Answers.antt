-- `rows::walk_rows` walks the rows: each turn passes the next one, as a check does, and remembers it where it starts at or below o.
-- Assumes nothing.
use native.Mathlib.Omega.{arith}
use mathlib.Core.Path.{◌≡◌, ◌∙◌, ap}
use Rattle.section.specs.Row.{row_start}
use Rattle.accept.proofs.WalkLaws.{walk_begins, walk_goes_on, walk_stops, walk_ends, passed_start}
use Rattle.ask.proofs.WalkLaws.{stop_begins, stop_goes_on, stop_ends, walk_faulty, walk_whole}
use Rattle.ask.proofs.rows.walk_rows.Goals as goal

pub loop-k-init : goal.loop-k-init
loop-k-init c = (walk_begins _ _ _ _ _ c.requires.1, stop_begins _ _ _ _ _)

pub returns-in-Err : goal.returns-in-Err
returns-in-Err c = walk_faulty _ _ _ _ _ _ (walk_stops c.loop-k.invariant.0 c.loop-k-test.true c.in-Err.ensures)

pub loop-k-preserved : goal.loop-k-preserved
loop-k-preserved c =
    let inv = c.loop-k.invariant in
    let start = passed_start _ _ _ _ _ c.in-Ok.ensures in (
      walk_goes_on inv.0 c.loop-k-test.true c.in-Ok.ensures,
      rw c.stop_after-stop.ensures (stop_goes_on _ _ _ _ _ _ _ _ inv.1 _ (start.0 ∙ ap (row_start _ _ _) inv.0.place) start.1 _ inv.0.place),
    )

pub returns : goal.returns
returns c =
    let inv = c.loop-k.invariant in
    let last : c.loop-k.k ≡ c.args.count = omega (arith, inv.0.within, c.loop-k-test.false) in
    walk_whole _ _ _ _ _ _ (walk_ends inv.0 c.loop-k-test.false) (stop_ends _ _ _ _ _ _ _ _ (rw last at inv.1))
