-- What the check of a part comes to: nothing is broken, or the number of the first rule that is.
use Rattle.std.specs.Prelude.{ℕ}

pub data Fault : Type 0 where
  Sound : Fault
  Breaks : ℕ → Fault
