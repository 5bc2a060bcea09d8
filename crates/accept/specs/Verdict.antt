-- What the check of a whole section comes to: accepted, or the number of the first broken rule and the entry's index, 0 for 1 to 8 and 15.
use Rattle.std.specs.Prelude.{ℕ}

pub data Verdict : Type 0 where
  Accepted : Verdict
  Refused : ℕ → ℕ → Verdict
