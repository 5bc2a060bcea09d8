-- `rows::stop_at` passes the rows of each type on to the walk that is compiled for their width.
-- Assumes nothing.
use native.Mathlib.Omega.{arith}
use mathlib.Core.Path.{◌≡◌}
use Rattle.lookup.proofs.rows.stop_at.Goals as goal
use Rattle.lookup.proofs.rows.stop_at.Goals.{In_default}

-- the last type
last : (c : In_default) → c.args.code ≡ 2
last c = omega (arith, c.requires.1)

pub pass_rows-requires : goal.pass_rows-requires
pass_rows-requires c = (rw c.in-0.is at c.requires.0, omega arith)

pub pass_rows-requires-in-1 : goal.pass_rows-requires-in-1
pass_rows-requires-in-1 c = (rw c.in-1.is at c.requires.0, omega arith)

pub pass_rows-requires-in_default : goal.pass_rows-requires-in_default
pass_rows-requires-in_default c = (rw (last c) at c.requires.0, omega arith)

pub returns-in-0 : goal.returns-in-0
returns-in-0 c = rw c.in-0.is c.pass_rows.ensures

pub returns-in-1 : goal.returns-in-1
returns-in-1 c = rw c.in-1.is c.pass_rows-in-1.ensures

pub returns-in_default : goal.returns-in_default
returns-in_default c = rw (last (goal.at.returns-in_default c).In_default) c.pass_rows-in_default.ensures
