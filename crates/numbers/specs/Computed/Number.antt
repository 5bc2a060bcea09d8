-- What `number_at` answers on any place and any code.
use Rattle.std.specs.Prelude.{ℕ, ◌+◌, ◌^◌, List, true, false, leb, length, Result, Ok, Err}
use Rattle.numbers.specs.Field.{field_of}
use Rattle.numbers.specs.declared.field.NumberError.{NumberError}
use Rattle.numbers.specs.declared.field.NumberError.TheVariants.{Outside, NoWidth}
use Rattle.numbers.specs.declared.field.Order.{Order}

-- a number by the code of its width, 0, 1, 2, 3 for 1, 2, 4, 8 bytes, where it is wholly inside
unfoldable pub number_of : List ℕ → ℕ → ℕ → Order → Result ℕ NumberError
number_of bytes at code order =
    elim (leb code 3)
    [ true ↦ elim (leb (at + 2 ^ code) (length bytes)) [ true ↦ Ok (field_of bytes at (2 ^ code) order) | false ↦ Err Outside ] | false ↦ Err NoWidth ]
