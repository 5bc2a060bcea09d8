-- What a lookup finds without its indexes: the row with its number in the function, or the refusal's number. A step and a trace
-- know a section through this alone, and it is what does not depend on the order in which a section lists its functions.
use Rattle.std.specs.Prelude.{ℕ}
use Rattle.section.specs.declared.row.Row.{Row}
use Rattle.lookup.specs.Numbers.{no_function, dispute, no_row, number_of_unfound}
use Rattle.lookup.specs.Outcome.{Outcome}
use Rattle.lookup.specs.Outcome.{Found, Unsound, NoFunction, Dispute, NoRow}

pub data Finding : Type 0 where
  finds : Row → ℕ → Finding
  refuses : ℕ → Finding

unfoldable pub finding_of : Outcome → Finding
finding_of (Found row function number) = finds row number
finding_of (Unsound number index) = refuses number
finding_of NoFunction = refuses (number_of_unfound no_function)
finding_of (Dispute first second) = refuses (number_of_unfound dispute)
finding_of (NoRow function) = refuses (number_of_unfound no_row)
