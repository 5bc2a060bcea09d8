-- `without_padding` takes a zero off a turn: what is left has the same bytes behind its own zeros.
-- Assumes nothing.
use borrow.Author.Rules.{rules}
use mathlib.Core.Path.{◌∙◌}
use Rattle.digits.proofs.DigitLaws.{zero_off, last_left, other_left}
use Rattle.digits.proofs.without_padding.Goals as goal

pub loop-rest-preserved : goal.loop-rest-preserved
loop-rest-preserved c = zero_off _ (search rules) (search rules) ∙ c.loop-rest.invariant

pub returns-in_default : goal.returns-in_default
returns-in_default c = last_left _ (search rules) ∙ c.loop-rest.invariant

pub returns-in_default-2 : goal.returns-in_default-2
returns-in_default-2 c = other_left _ (search rules) (search rules) ∙ c.loop-rest.invariant
