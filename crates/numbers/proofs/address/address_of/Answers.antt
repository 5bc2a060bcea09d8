-- `address::address_of` is no address where the way down is longer than the base.
-- Assumes nothing.
use mathlib.Core.Path.{sym, ◌∙◌}
use Rattle.numbers.proofs.AddressLaws.{down_outside}
use Rattle.numbers.proofs.address.address_of.Goals as goal

pub returns-else-k-base-2 : goal.returns-else-k-base-2
returns-else-k-base-2 c = down_outside _ _ (sym c.shift_of.ensures ∙ c.in-Down.is) c.if-k-base-2.false
