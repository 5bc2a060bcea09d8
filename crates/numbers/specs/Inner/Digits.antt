-- For the readers' own use: where the digits of a field stand.
use Rattle.std.specs.Prelude.{ℕ, ◌+◌, ◌-◌}
use Rattle.numbers.specs.declared.field.Order.{Order}
use Rattle.numbers.specs.declared.field.Order.TheVariants.{Little, Big}

-- the place of digit k, the least being 0, of the number of `width` bytes that begins at `at`
unfoldable pub digit_place : Order → ℕ → ℕ → ℕ → ℕ
digit_place Little at width k = at + k
digit_place Big at width k = at + (width - 1 - k)
