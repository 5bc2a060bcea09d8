-- Each public function of `digits` determines its reply: two that its own contract allows for one text are equal.
-- Assumes nothing.
use mathlib.Core.Path.{refl, sym, ◌∙◌}
use Rattle.digits.proofs.parse.Kinds as parse-kinds
use Rattle.digits.proofs.parse.Reads as parse-reads
use Rattle.digits.proofs.parse_decimal.Kinds as parse_decimal-kinds
use Rattle.digits.proofs.parse_decimal.Reads as parse_decimal-reads
use Rattle.promises.specs.Determined.{Determined}

pub parse_determined : Determined parse-kinds.ps parse-kinds.r parse-reads.Learnt
parse_determined κs a z z' w w' p q = (p ∙ sym q, refl)

pub parse_decimal_determined : Determined parse_decimal-kinds.ps parse_decimal-kinds.r parse_decimal-reads.Learnt
parse_decimal_determined κs a z z' w w' p q = (p ∙ sym q, refl)
