-- `rows::past_row` adds the row's length: the row is inside, so that the sum is too.
-- Assumes nothing.
use native.Mathlib.Omega.{arith}
use Rattle.listing.proofs.TurnLaws.{row_there, row_readable}
use Rattle.listing.proofs.rows.past_row.Goals as goal

pub row_length-requires : goal.row_length-requires
row_length-requires c = let readable = row_readable _ _ c.requires in (readable.type, readable.fixed)

pub overflow_add-result : goal.overflow_add-result
overflow_add-result c = rw c.row_length.ensures (omega (arith, (row_readable _ _ c.requires).whole))

pub overflow_sub-result : goal.overflow_sub-result
overflow_sub-result c = omega (arith, (row_there _ _ c.requires).0)
