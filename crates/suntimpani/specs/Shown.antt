-- What C is shown of a function with an index: all that is said of it but where its rows stand and how they are written, which is for a
-- reader of rows.
use Rattle.std.specs.Prelude.{ℕ, ℤ}
use Rattle.listing.specs.Described.{Described, Unsound, Unknown, Function}
use Rattle.listing.specs.declared.function.Facts.{Facts}
use Rattle.listing.specs.declared.function.Kind.{Kind}

-- `rows` is how many there are
pub record ShownFunction : Type 0 where
  pub start : ℤ
  pub size : ℕ
  pub rows : ℕ
  pub kind : Kind

pub data Shown : Type 0 where
  unsound : ℕ → Shown
  unknown : Shown
  known : ShownFunction → Shown

unfoldable pub shown_facts : Facts → ShownFunction
shown_facts facts = record { start = facts.start.by; size = facts.size; rows = facts.rows.left; kind = facts.kind }

unfoldable pub shown_of : Described → Shown
shown_of (Unsound number) = unsound number
shown_of Unknown = unknown
shown_of (Function facts) = known (shown_facts facts)
