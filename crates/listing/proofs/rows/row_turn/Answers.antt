-- `rows::row_turn` decodes the row where there is one: it can be read.
-- Assumes nothing.
use mathlib.Core.Path.{sym}
use Rattle.listing.proofs.TurnLaws.{row_readable}
use Rattle.listing.proofs.rows.row_turn.Goals as goal

pub decoded_at-requires : goal.decoded_at-requires
decoded_at-requires c = row_readable _ _ (sym c.if-has_row.ensures)
