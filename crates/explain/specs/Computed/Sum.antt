-- The exact sum of a base and an offset: an address, or "by how much the sum is below 0 or above 2^64 - 1, never wrapped". What it is
-- over whole numbers is said in Why (`SumIs`).
use Rattle.std.specs.Prelude.{ℕ, ◌+◌, ◌-◌, ◌^◌, true, false, leb, ℤ}
use Rattle.numbers.specs.Inner.Shift.{shift_of}
use Rattle.numbers.specs.declared.offset.Shift.{Shift}
use Rattle.numbers.specs.declared.offset.Shift.TheVariants.{Up, Down}
use Rattle.explain.specs.declared.sums.Sum.{Sum}
use Rattle.explain.specs.declared.sums.Sum.TheVariants.{At, Below, Above}

unfoldable pub sum_up : ℕ → ℕ → Sum
sum_up base by = elim (leb by (2 ^ 64 - 1 - base)) [ true ↦ At (base + by) | false ↦ Above (by - (2 ^ 64 - 1 - base)) ]

unfoldable pub sum_down : ℕ → ℕ → Sum
sum_down base by = elim (leb by base) [ true ↦ At (base - by) | false ↦ Below (by - base) ]

unfoldable pub sum_by : ℕ → Shift → Sum
sum_by base (Up by) = sum_up base by
sum_by base (Down by) = sum_down base by

unfoldable pub sum_of : ℕ → ℤ → Sum
sum_of base by = sum_by base (shift_of by)
