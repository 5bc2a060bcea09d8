-- One name that opens every definition of this crate: `unfolding numbers_opened` lets an example written out in numbers compute,
-- here and in the crates above.
use Rattle.numbers.specs.Field.{digits, number_in, field_of, byte_of}
use Rattle.numbers.specs.Signed.{signed_of, offset_of}
use Rattle.numbers.specs.Start.{start_at, distance}
use Rattle.numbers.specs.Computed.Address.{in_memory, address_of, window_fits, wholly, word_of}
use Rattle.numbers.specs.Computed.Number.{number_of}
use Rattle.numbers.specs.Inner.Digits.{digit_place}
use Rattle.numbers.specs.Inner.Held.{rank, natural, raised, near}
use Rattle.numbers.specs.Inner.Shift.{shift_of}

unfoldable pub numbers_opened : Unit {0}
unfolding in_memory address_of window_fits wholly word_of digits number_in field_of byte_of digit_place number_of start_at rank distance natural raised near signed_of offset_of shift_of
numbers_opened = tt
