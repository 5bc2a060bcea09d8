-- What an asked address is answered: the row of the function landed on, or why there is none. Each case carries what request 05 says that it
-- carries.
use Rattle.std.specs.Prelude.{ℕ}
use Rattle.section.specs.declared.row.Row.{Row}

pub data AskAnswer : Type 0 where
  -- the function landed on, the entries compared, and the row with its number in the function
  Found : (function compared number : ℕ) → Row → AskAnswer
  -- 1 to 8: the header breaks the rule of this number
  Unsound : (number : ℕ) → AskAnswer
  -- 45: the section does not have the sorted flag
  Unsorted : AskAnswer
  -- 21: no function was landed on, or it does not cover
  NoFunction : (compared : ℕ) → AskAnswer
  -- 23: the function landed on has no row there
  NoRow : (function compared : ℕ) → AskAnswer
  -- 44: the function landed on covers and breaks one of 9 to 13
  Damaged : (function compared : ℕ) → AskAnswer
