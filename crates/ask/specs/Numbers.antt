-- The numbers of an asked address (SPECIFICATION 4.14 to 4.19): why no row is answered, by name, and the number of each cause; and of each answer the
-- number and what it carries.
use Rattle.std.specs.Prelude.{ℕ, ◌≡◌, List, [], ◌∷◌}
use Rattle.section.specs.declared.row.Row.{Row}
use Rattle.accept.specs.Given.{number_of_rule}
use Rattle.accept.specs.declared.verdict.Rule.{Rule}
use Rattle.lookup.specs.Numbers as lookup
use Rattle.lookup.specs.Numbers.{number_of_unfound, outcome_number, outcome_indexes, outcome_row}
use Rattle.lookup.specs.Outcome.{Answer}
use Rattle.ask.specs.AskAnswer.{AskAnswer, Found, Unsound, Unsorted, NoFunction, NoRow, Damaged}

-- ---- causes

-- "21, 23 or the row", "44", "45"
pub data Unanswered : Type 0 where
  no_function : Unanswered
  no_row : Unanswered
  damaged : Unanswered
  unsorted : Unanswered

unfoldable pub number_of_unanswered : Unanswered → ℕ
number_of_unanswered no_function = number_of_unfound lookup.no_function
number_of_unanswered no_row = number_of_unfound lookup.no_row
number_of_unanswered damaged = 44
number_of_unanswered unsorted = 45

-- "Header faults answer 1 to 8": a rule of the header, and no other
pub data AskCause : Type 0 where
  unsound : Rule → AskCause
  unanswered : Unanswered → AskCause

unfoldable pub number_of_ask_cause : AskCause → ℕ
number_of_ask_cause (unsound rule) = number_of_rule rule
number_of_ask_cause (unanswered why) = number_of_unanswered why

-- ---- answers

-- 0 where a row was found, else the number of the cause
unfoldable pub ask_number : AskAnswer → ℕ
ask_number (Found function compared number row) = 0
ask_number (Unsound number) = number
ask_number Unsorted = number_of_unanswered unsorted
ask_number (NoFunction compared) = number_of_unanswered no_function
ask_number (NoRow function compared) = number_of_unanswered no_row
ask_number (Damaged function compared) = number_of_unanswered damaged

-- the index of the function landed on, where it covers
unfoldable pub ask_indexes : AskAnswer → List ℕ
ask_indexes (Found function compared number row) = function ∷ []
ask_indexes (Unsound number) = []
ask_indexes Unsorted = []
ask_indexes (NoFunction compared) = []
ask_indexes (NoRow function compared) = function ∷ []
ask_indexes (Damaged function compared) = function ∷ []

-- the row and its number in the function, where one was found
unfoldable pub ask_row : AskAnswer → List (ℕ × Row)
ask_row (Found function compared number row) = (number, row) ∷ []
ask_row (Unsound number) = []
ask_row Unsorted = []
ask_row (NoFunction compared) = []
ask_row (NoRow function compared) = []
ask_row (Damaged function compared) = []

-- the number of entries compared: "all with count 0" where nothing was
unfoldable pub ask_compared : AskAnswer → ℕ
ask_compared (Found function compared number row) = compared
ask_compared (Unsound number) = 0
ask_compared Unsorted = 0
ask_compared (NoFunction compared) = compared
ask_compared (NoRow function compared) = compared
ask_compared (Damaged function compared) = compared

-- "its row, refusal and count equal the full answer": the same number, index, row and count as a lookup's
pub record SameAnswer (asked : AskAnswer) (looked : Answer) : Type 0 where
  pub number : ask_number asked ≡ outcome_number looked.outcome
  pub indexes : ask_indexes asked ≡ outcome_indexes looked.outcome
  pub row : ask_row asked ≡ outcome_row looked.outcome
  pub compared : ask_compared asked ≡ looked.compared
