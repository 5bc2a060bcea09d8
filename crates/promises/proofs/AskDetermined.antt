-- Every public function of `ask` determines its reply: two replies that its own contract allows for one input are equal.
-- Assumes nothing.
use mathlib.Core.Path.{refl, sym, ◌∙◌}
use Rattle.accept.proofs.ToldLaws.{rows_told_once}
use Rattle.ask.proofs.land.ask.Kinds as ask-kinds
use Rattle.ask.proofs.land.ask.Reads as ask-reads
use Rattle.ask.proofs.rows.seek_row.Kinds as seek_row-kinds
use Rattle.ask.proofs.rows.seek_row.Reads as seek_row-reads
use Rattle.ask.proofs.ToldLaws.{ask_told_once}
use Rattle.promises.specs.Determined.{Determined}

pub seek_row_determined : Determined seek_row-kinds.ps seek_row-kinds.r seek_row-reads.Learnt
seek_row_determined κs a z z' w w' p q = (rows_told_once _ _ (p ∙ sym q), refl)

pub ask_determined : Determined ask-kinds.ps ask-kinds.r ask-reads.Learnt
ask_determined κs a z z' w w' p q = (ask_told_once _ _ (p ∙ sym q), refl)
