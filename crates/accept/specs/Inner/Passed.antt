-- One turn of a walk over rows: what is known of a row that breaks nothing.
use Rattle.std.specs.Prelude.{ℕ, ◌+◌, List, Result, Ok, Err}
use Rattle.section.specs.Row.{row_length, row_start}
use Rattle.section.specs.declared.shape.Shape.{Shape}
use Rattle.accept.specs.Computed.Checks.{row_fault}
use Rattle.accept.specs.Fault.{Fault, Sound, Breaks}
use Rattle.accept.specs.declared.row_check.RowPassed.{RowPassed}

-- what is found where nothing is broken, else the number of the broken rule
unfoldable pub unless_broken : {A : Type 0} → Fault → A → Result A ℕ
unless_broken Sound found = Ok found
unless_broken (Breaks number) found = Err number

-- the row at `at`, which may start at `low` or above it: where it starts, and where the next one stands
unfoldable pub row_passed : List ℕ → Shape → ℕ → ℕ → ℕ → Result RowPassed ℕ
row_passed area shape code at low =
    unless_broken (row_fault area shape code at low)
    (record { start = row_start area shape.order code at; next = at + row_length area code at })
