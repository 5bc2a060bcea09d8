-- What is said of an index: the number of a broken rule of the header, that there is no such function, or what its entry says.
use Rattle.std.specs.Prelude.{ℕ}
use Rattle.listing.specs.declared.function.Facts.{Facts}

pub data Described : Type 0 where
  Unsound : ℕ → Described
  Unknown : Described
  Function : Facts → Described
