-- The cases of a lookup's answer, with the number of a rule that the section breaks (SPECIFICATION 4.3 to 4.7).
use Rattle.std.specs.Prelude.{ℕ}
use Rattle.section.specs.declared.row.Row.{Row}

-- the row with its function and its number in it; the number of a broken rule and the entry's index; nobody; the two lowest of those that
-- cover; the function that has no row there
pub data Outcome : Type 0 where
  Found : Row → ℕ → ℕ → Outcome
  Unsound : ℕ → ℕ → Outcome
  NoFunction : Outcome
  Dispute : ℕ → ℕ → Outcome
  NoRow : ℕ → Outcome

-- an outcome, and the number of entries compared
pub record Answer : Type 0 where
  pub outcome : Outcome
  pub compared : ℕ
