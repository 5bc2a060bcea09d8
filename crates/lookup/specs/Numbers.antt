-- The numbers of a lookup (SPECIFICATION 4.3 to 4.7): why nothing is found, by name, and document 01's number of each cause; and of
-- each answer the number and what it carries.
use Rattle.std.specs.Prelude.{ℕ, List, [], ◌∷◌}
use Rattle.section.specs.declared.row.Row.{Row}
use Rattle.accept.specs.Given.{number_of_rule}
use Rattle.accept.specs.declared.verdict.Rule.{Rule}
use Rattle.lookup.specs.Outcome.{Outcome}
use Rattle.lookup.specs.Outcome.{Found, Unsound, NoFunction, Dispute, NoRow}

-- ---- causes

-- "21: no function covers", "22: two or more do", "23 when there is none"
pub data Unfound : Type 0 where
  no_function : Unfound
  dispute : Unfound
  no_row : Unfound

unfoldable pub number_of_unfound : Unfound → ℕ
number_of_unfound no_function = 21
number_of_unfound dispute = 22
number_of_unfound no_row = 23

-- "A lookup first makes the section checks, 1 to 15."
pub data LookupCause : Type 0 where
  unsound : Rule → LookupCause
  unfound : Unfound → LookupCause

unfoldable pub number_of_lookup_cause : LookupCause → ℕ
number_of_lookup_cause (unsound rule) = number_of_rule rule
number_of_lookup_cause (unfound why) = number_of_unfound why

-- ---- answers

-- 0 where a row was found, else the number of the cause
unfoldable pub outcome_number : Outcome → ℕ
outcome_number (Found row function number) = 0
outcome_number (Unsound number index) = number
outcome_number NoFunction = number_of_unfound no_function
outcome_number (Dispute first second) = number_of_unfound dispute
outcome_number (NoRow function) = number_of_unfound no_row

-- the indexes, in document 01's order
unfoldable pub outcome_indexes : Outcome → List ℕ
outcome_indexes (Found row function number) = function ∷ []
outcome_indexes (Unsound number index) = index ∷ []
outcome_indexes NoFunction = []
outcome_indexes (Dispute first second) = first ∷ second ∷ []
outcome_indexes (NoRow function) = function ∷ []

-- the row and its number in the function, where one was found
unfoldable pub outcome_row : Outcome → List (ℕ × Row)
outcome_row (Found row function number) = (number, row) ∷ []
outcome_row (Unsound number index) = []
outcome_row NoFunction = []
outcome_row (Dispute first second) = []
outcome_row (NoRow function) = []
