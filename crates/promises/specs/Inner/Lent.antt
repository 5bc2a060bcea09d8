-- A slice that is lent to a function: its elements, and where they lie, of which no `requires` speaks.
use Rattle.std.specs.Prelude.{ℕ, List}
use Rattle.std.specs.Borrow.{GName, Bor, MutBor}

-- block and offset of the first element, and the name under which the elements are tracked where they may be written
pub record Lies : Type 0 where
  pub place : ℕ × ℕ
  pub name : GName

abbrev pub lent : Lies → List ℕ → Bor (List ℕ)
lent lies elements = record { ref_ptr = lies.place; now = elements }

-- the same to be written
abbrev pub lent_to_write : Lies → List ℕ → MutBor (List ℕ)
lent_to_write lies elements = record { ref_ptr = lies.place; ghost_name = lies.name; now = elements }
