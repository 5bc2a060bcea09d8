-- Each function of this crate with its code and the code of all that it calls, for a look-up of the machine that finds the functions
-- (`prog.Linked`). So there is an environment in which a function's name means its code. Written by tools/linked.py.
-- Assumes nothing.
use mathlib.Core.Path.{◌≡◌}
use mathlib.Core.Bool.{false}
use mathlib.Core.List.{◌∷◌}
use mir.Syntax.{Symbol}
use prog.Linked.{Entry, Entries}
use prog.LinkedThreads.{HasT}
use Rattle.numbers.proofs.Linked as numbers
use Rattle.section.proofs.TheLinks.section-header-bit_of as link-header-bit_of
use Rattle.section.proofs.TheLinks.section-entry-does_repeat as link-entry-does_repeat
use Rattle.section.proofs.TheLinks.section-entry-entry_at as link-entry-entry_at
use Rattle.section.proofs.TheLinks.section-entry-position_at as link-entry-position_at
use Rattle.section.proofs.TheLinks.section-entry-exact_start as link-entry-exact_start
use Rattle.section.proofs.TheLinks.section-entry-start_of as link-entry-start_of
use Rattle.section.proofs.TheLinks.section-entry-type_of as link-entry-type_of
use Rattle.section.proofs.TheLinks.section-header-fixed_at as link-header-fixed_at
use Rattle.section.proofs.TheLinks.section-header-marks_at as link-header-marks_at
use Rattle.section.proofs.TheLinks.section-header-magic_in as link-header-magic_in
use Rattle.section.proofs.TheLinks.section-header-order_at as link-header-order_at
use Rattle.section.proofs.TheLinks.section-header-sizes_at as link-header-sizes_at
use Rattle.section.proofs.TheLinks.section-shape-abi_of as link-shape-abi_of
use Rattle.section.proofs.TheLinks.section-header-layout_at as link-header-layout_at
use Rattle.section.proofs.TheLinks.section-row-base_of as link-row-base_of
use Rattle.section.proofs.TheLinks.section-row-count_of as link-row-count_of
use Rattle.section.proofs.TheLinks.section-row-info_at as link-row-info_at
use Rattle.section.proofs.TheLinks.section-row-is_signed as link-row-is_signed
use Rattle.section.proofs.TheLinks.section-row-offset_in as link-row-offset_in
use Rattle.section.proofs.TheLinks.section-row-offset_size_of as link-row-offset_size_of
use Rattle.section.proofs.TheLinks.section-row-offsets_length as link-row-offsets_length
use Rattle.section.proofs.TheLinks.section-row-place_in as link-row-place_in
use Rattle.section.proofs.TheLinks.section-row-ra_in as link-row-ra_in
use Rattle.section.proofs.TheLinks.section-row-row_at as link-row-row_at
use Rattle.section.proofs.TheLinks.section-row-row_length as link-row-row_length
use Rattle.section.proofs.TheLinks.section-row-row_start_at as link-row-row_start_at
use Rattle.section.proofs.TheLinks.section-shape-aarch64 as link-shape-aarch64
use Rattle.section.proofs.TheLinks.section-shape-amd64 as link-shape-amd64
use Rattle.section.proofs.TheLinks.section-shape-shape_of as link-shape-shape_of

-- the functions with their code, before more
abbrev pub entries : Entries → Entries
entries more =
    ("section::header::bit_of", link-header-bit_of.entry) ∷
    ("section::entry::does_repeat", link-entry-does_repeat.entry) ∷
    ("section::entry::entry_at", link-entry-entry_at.entry) ∷
    ("section::entry::position_at", link-entry-position_at.entry) ∷
    ("section::entry::exact_start", link-entry-exact_start.entry) ∷
    ("section::entry::start_of", link-entry-start_of.entry) ∷
    ("section::entry::type_of", link-entry-type_of.entry) ∷
    ("section::header::fixed_at", link-header-fixed_at.entry) ∷
    ("section::header::marks_at", link-header-marks_at.entry) ∷
    ("section::header::magic_in", link-header-magic_in.entry) ∷
    ("section::header::order_at", link-header-order_at.entry) ∷
    ("section::header::sizes_at", link-header-sizes_at.entry) ∷
    ("section::shape::abi_of", link-shape-abi_of.entry) ∷
    ("section::header::layout_at", link-header-layout_at.entry) ∷
    ("section::row::base_of", link-row-base_of.entry) ∷
    ("section::row::count_of", link-row-count_of.entry) ∷
    ("section::row::info_at", link-row-info_at.entry) ∷
    ("section::row::is_signed", link-row-is_signed.entry) ∷
    ("section::row::offset_in", link-row-offset_in.entry) ∷
    ("section::row::offset_size_of", link-row-offset_size_of.entry) ∷
    ("section::row::offsets_length", link-row-offsets_length.entry) ∷
    ("section::row::place_in", link-row-place_in.entry) ∷
    ("section::row::ra_in", link-row-ra_in.entry) ∷
    ("section::row::row_at", link-row-row_at.entry) ∷
    ("section::row::row_length", link-row-row_length.entry) ∷
    ("section::row::row_start_at", link-row-row_start_at.entry) ∷
    ("section::shape::aarch64", link-shape-aarch64.entry) ∷
    ("section::shape::amd64", link-shape-amd64.entry) ∷
    ("section::shape::shape_of", link-shape-shape_of.entry) ∷
    more

-- a look-up finds them
pub record Finds (look : Symbol → Entry) : Type 0 where
  pub header_bit_of : look "section::header::bit_of" ≡ link-header-bit_of.entry
  pub entry_does_repeat : look "section::entry::does_repeat" ≡ link-entry-does_repeat.entry
  pub entry_entry_at : look "section::entry::entry_at" ≡ link-entry-entry_at.entry
  pub entry_position_at : look "section::entry::position_at" ≡ link-entry-position_at.entry
  pub entry_exact_start : look "section::entry::exact_start" ≡ link-entry-exact_start.entry
  pub entry_start_of : look "section::entry::start_of" ≡ link-entry-start_of.entry
  pub entry_type_of : look "section::entry::type_of" ≡ link-entry-type_of.entry
  pub header_fixed_at : look "section::header::fixed_at" ≡ link-header-fixed_at.entry
  pub header_marks_at : look "section::header::marks_at" ≡ link-header-marks_at.entry
  pub header_magic_in : look "section::header::magic_in" ≡ link-header-magic_in.entry
  pub header_order_at : look "section::header::order_at" ≡ link-header-order_at.entry
  pub header_sizes_at : look "section::header::sizes_at" ≡ link-header-sizes_at.entry
  pub shape_abi_of : look "section::shape::abi_of" ≡ link-shape-abi_of.entry
  pub header_layout_at : look "section::header::layout_at" ≡ link-header-layout_at.entry
  pub row_base_of : look "section::row::base_of" ≡ link-row-base_of.entry
  pub row_count_of : look "section::row::count_of" ≡ link-row-count_of.entry
  pub row_info_at : look "section::row::info_at" ≡ link-row-info_at.entry
  pub row_is_signed : look "section::row::is_signed" ≡ link-row-is_signed.entry
  pub row_offset_in : look "section::row::offset_in" ≡ link-row-offset_in.entry
  pub row_offset_size_of : look "section::row::offset_size_of" ≡ link-row-offset_size_of.entry
  pub row_offsets_length : look "section::row::offsets_length" ≡ link-row-offsets_length.entry
  pub row_place_in : look "section::row::place_in" ≡ link-row-place_in.entry
  pub row_ra_in : look "section::row::ra_in" ≡ link-row-ra_in.entry
  pub row_row_at : look "section::row::row_at" ≡ link-row-row_at.entry
  pub row_row_length : look "section::row::row_length" ≡ link-row-row_length.entry
  pub row_row_start_at : look "section::row::row_start_at" ≡ link-row-row_start_at.entry
  pub shape_aarch64 : look "section::shape::aarch64" ≡ link-shape-aarch64.entry
  pub shape_amd64 : look "section::shape::amd64" ≡ link-shape-amd64.entry
  pub shape_shape_of : look "section::shape::shape_of" ≡ link-shape-shape_of.entry

module _ (look : Symbol → Entry) (in_numbers : numbers.Finds look) (here : Finds look) where
  pub header_bit_of : HasT look false link-header-bit_of.code
  header_bit_of = link-header-bit_of.has look false here.header_bit_of

  pub entry_does_repeat : HasT look false link-entry-does_repeat.code
  entry_does_repeat = link-entry-does_repeat.has look false here.entry_does_repeat header_bit_of

  pub entry_entry_at : HasT look false link-entry-entry_at.code
  entry_entry_at = link-entry-entry_at.has look false here.entry_entry_at (numbers.field_u32_at look in_numbers) (numbers.field_u8_at look in_numbers)

  pub entry_position_at : HasT look false link-entry-position_at.code
  entry_position_at = link-entry-position_at.has look false here.entry_position_at

  pub entry_exact_start : HasT look false link-entry-exact_start.code
  entry_exact_start = link-entry-exact_start.has look false here.entry_exact_start (numbers.held_start_at look in_numbers) entry_position_at

  pub entry_start_of : HasT look false link-entry-start_of.code
  entry_start_of = link-entry-start_of.has look false here.entry_start_of (numbers.held_held_start look in_numbers) entry_position_at

  pub entry_type_of : HasT look false link-entry-type_of.code
  entry_type_of = link-entry-type_of.has look false here.entry_type_of

  pub header_fixed_at : HasT look false link-header-fixed_at.code
  header_fixed_at = link-header-fixed_at.has look false here.header_fixed_at (numbers.field_u8_at look in_numbers) (numbers.offset_offset_of look in_numbers)

  pub header_marks_at : HasT look false link-header-marks_at.code
  header_marks_at = link-header-marks_at.has look false here.header_marks_at (numbers.field_u8_at look in_numbers) header_fixed_at

  pub header_magic_in : HasT look false link-header-magic_in.code
  header_magic_in = link-header-magic_in.has look false here.header_magic_in (numbers.field_u16_at look in_numbers)

  pub header_order_at : HasT look false link-header-order_at.code
  header_order_at = link-header-order_at.has look false here.header_order_at header_magic_in

  pub header_sizes_at : HasT look false link-header-sizes_at.code
  header_sizes_at = link-header-sizes_at.has look false here.header_sizes_at (numbers.field_u32_at look in_numbers)

  pub shape_abi_of : HasT look false link-shape-abi_of.code
  shape_abi_of = link-shape-abi_of.has look false here.shape_abi_of

  pub header_layout_at : HasT look false link-header-layout_at.code
  header_layout_at = link-header-layout_at.has look false here.header_layout_at header_bit_of header_marks_at header_order_at header_sizes_at shape_abi_of

  pub row_base_of : HasT look false link-row-base_of.code
  row_base_of = link-row-base_of.has look false here.row_base_of header_bit_of

  pub row_count_of : HasT look false link-row-count_of.code
  row_count_of = link-row-count_of.has look false here.row_count_of

  pub row_info_at : HasT look false link-row-info_at.code
  row_info_at = link-row-info_at.has look false here.row_info_at (numbers.field_u8_at look in_numbers) (numbers.field_width_of look in_numbers)

  pub row_is_signed : HasT look false link-row-is_signed.code
  row_is_signed = link-row-is_signed.has look false here.row_is_signed header_bit_of

  pub row_offset_in : HasT look false link-row-offset_in.code
  row_offset_in = link-row-offset_in.has look false here.row_offset_in (numbers.field_width_of look in_numbers) (numbers.offset_offset_at look in_numbers)

  pub row_offset_size_of : HasT look false link-row-offset_size_of.code
  row_offset_size_of = link-row-offset_size_of.has look false here.row_offset_size_of

  pub row_offsets_length : HasT look false link-row-offsets_length.code
  row_offsets_length = link-row-offsets_length.has look false here.row_offsets_length (numbers.field_width_of look in_numbers) row_count_of row_offset_size_of

  pub row_place_in : HasT look false link-row-place_in.code
  row_place_in = link-row-place_in.has look false here.row_place_in row_count_of row_offset_in row_offset_size_of

  pub row_ra_in : HasT look false link-row-ra_in.code
  row_ra_in = link-row-ra_in.has look false here.row_ra_in row_place_in

  pub row_row_at : HasT look false link-row-row_at.code
  row_row_at = link-row-row_at.has look false here.row_row_at (numbers.field_field_at look in_numbers) (numbers.field_width_of look in_numbers) row_base_of row_info_at row_is_signed row_offset_in row_offset_size_of row_place_in row_ra_in

  pub row_row_length : HasT look false link-row-row_length.code
  row_row_length = link-row-row_length.has look false here.row_row_length (numbers.field_width_of look in_numbers) row_info_at row_offsets_length

  pub row_row_start_at : HasT look false link-row-row_start_at.code
  row_row_start_at = link-row-row_start_at.has look false here.row_row_start_at (numbers.field_field_at look in_numbers)

  pub shape_aarch64 : HasT look false link-shape-aarch64.code
  shape_aarch64 = link-shape-aarch64.has look false here.shape_aarch64

  pub shape_amd64 : HasT look false link-shape-amd64.code
  shape_amd64 = link-shape-amd64.has look false here.shape_amd64

  pub shape_shape_of : HasT look false link-shape-shape_of.code
  shape_shape_of = link-shape-shape_of.has look false here.shape_shape_of shape_aarch64 shape_amd64
