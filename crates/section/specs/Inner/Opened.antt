-- One name that opens every definition of this crate and of `numbers`: `unfolding section_opened` lets an example written out
-- in bytes compute, here and in the crates above.
use Rattle.numbers.specs.Inner.Opened.{numbers_opened}
use Rattle.section.specs.Entry.{entry_of, type_of, repeats, position_at, start_of}
use Rattle.section.specs.Header.{bit_of, magic_in, order_of, marks_of, sizes_of, layout_from, layout_of}
use Rattle.section.specs.Meaning.{listed, area_of, shape_of, entry_in, block_of, row_in, function_in, functions_of}
use Rattle.section.specs.Row.{info_of, base_of, count_of, offset_size_of, signed_bit, offsets_length, row_length, row_place, row_start, offset_in, place_in, ra_in, row_of}
use Rattle.section.specs.Same.{offsets_in}
use Rattle.section.specs.Shape.{known_abi, abi_of, aarch64_shape, amd64_shape, shape}

unfoldable pub section_opened : Unit {0}
unfolding numbers_opened entry_of type_of repeats position_at start_of bit_of magic_in order_of marks_of sizes_of layout_from layout_of listed area_of shape_of entry_in block_of row_in function_in functions_of info_of base_of count_of offset_size_of signed_bit offsets_length row_length row_place row_start offset_in place_in ra_in row_of offsets_in known_abi abi_of aarch64_shape amd64_shape shape
section_opened = tt
