-- `digit` of `reading` determines its reply: two that its own contract allows for one byte are equal.
-- Assumes nothing.
use mathlib.Core.Path.{refl, sym, ◌∙◌}
use Rattle.reading.proofs.digit.Kinds as digit-kinds
use Rattle.reading.proofs.digit.Reads as digit-reads
use Rattle.promises.specs.Determined.{Determined}

pub digit_determined : Determined digit-kinds.ps digit-kinds.r digit-reads.Learnt
digit_determined κs a z z' w w' p q = (p ∙ sym q, refl)
