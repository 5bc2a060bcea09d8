-- The cases of a trace's ending, with the numbers of refusals (SPECIFICATION 6.2 to 6.8).
use Rattle.std.specs.Prelude.{ℕ}

-- the last frame's RA is 0; the limit is full; the next step is refused with a number; refused at the door; or the number of a broken
-- rule and the entry's index
pub data Ending : Type 0 where
  Outermost : Ending
  Full : Ending
  Refused : ℕ → Ending
  Shut : ℕ → Ending
  Unsound : ℕ → ℕ → Ending

-- the ending, and how many frames were written
pub record Traced : Type 0 where
  pub ending : Ending
  pub frames : ℕ
