-- Document 01, "Section bytes" (SPECIFICATION 2.1): all numbers are in the section's byte order. One definition, over the list, the
-- place, the width and the order, is what every reader of a number is held to.
use Rattle.std.specs.Prelude.{ℕ, ◌+◌, ◌*◌, List, [], ◌∷◌, reverse, take, drop}
use Rattle.numbers.specs.declared.field.Order.{Order}
use Rattle.numbers.specs.declared.field.Order.TheVariants.{Little, Big}

-- the number whose digits to the base 256 are these bytes, the least first
unfoldable pub digits : List ℕ → ℕ
digits [] = 0
digits (byte ∷ bytes) = byte + 256 * digits bytes

-- the number that bytes make in an order: little has the least digit first, big has it last
unfoldable pub number_in : Order → List ℕ → ℕ
number_in Little bytes = digits bytes
number_in Big bytes = digits (reverse bytes)

-- the unsigned number of `width` bytes that begins at place `at`
unfoldable pub field_of : List ℕ → ℕ → ℕ → Order → ℕ
field_of bytes at width order = number_in order (take width (drop at bytes))

-- one byte is the same number in either order
unfoldable pub byte_of : List ℕ → ℕ → ℕ
byte_of bytes at = field_of bytes at 1 Little
