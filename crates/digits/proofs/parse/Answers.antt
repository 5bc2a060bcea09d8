-- `parse` takes a leading 0x off, by the first two bytes.
-- Assumes nothing.
use borrow.Author.Rules.{rules}
use mathlib.Core.Path.{◌∙◌}
use Rattle.digits.proofs.DigitLaws.{hex_small, hex_capital, hex_short, hex_other, hex_unmarked}
use Rattle.digits.proofs.parse.Goals as goal
use Rattle.digits.proofs.parse.Goals.{in_default-via-then-text-lt2, in_default-via-else-text-lt2+in-48+in_default-1, in_default-via-else-text-lt2+in_default-1}

pub returns-in-48 : goal.returns-in-48
returns-in-48 c = c.number_of.ensures ∙ search (rules, hex_small, hex_capital)

pub returns-in_default : goal.returns-in_default
returns-in_default c =
    c.number_of-in_default.ensures
    ∙ elim c.in_default.branch [
      | in_default-via-then-text-lt2 w ↦ hex_short _ (search rules)
      | in_default-via-else-text-lt2+in-48+in_default-1 w ↦ hex_unmarked _ (search rules) (search rules) (search rules)
      | in_default-via-else-text-lt2+in_default-1 w ↦ hex_other _ (search rules)
    ]
