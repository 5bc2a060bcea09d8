-- Each function of this crate with its code and the code of all that it calls, for a look-up of the machine that finds the functions
-- (`prog.Linked`). So there is an environment in which a function's name means its code. Written by tools/linked.py.
-- Assumes nothing.
use mathlib.Core.Path.{◌≡◌}
use mathlib.Core.Bool.{false}
use mathlib.Core.List.{◌∷◌}
use mir.Syntax.{Symbol}
use prog.Linked.{Entry, Entries}
use prog.LinkedThreads.{HasT}
use Rattle.numbers.proofs.Linked as numbers
use Rattle.section.proofs.Linked as section
use Rattle.accept.proofs.Linked as accept
use Rattle.listing.proofs.TheLinks.listing-function-kind_of as link-function-kind_of
use Rattle.listing.proofs.TheLinks.listing-function-facts_at as link-function-facts_at
use Rattle.listing.proofs.TheLinks.listing-function-described_in as link-function-described_in
use Rattle.listing.proofs.TheLinks.listing-function-function_at as link-function-function_at
use Rattle.listing.proofs.TheLinks.listing-rows-nowhere as link-rows-nowhere
use Rattle.listing.proofs.TheLinks.listing-lines-cursor_over as link-lines-cursor_over
use Rattle.listing.proofs.TheLinks.listing-lines-cursor_at as link-lines-cursor_at
use Rattle.listing.proofs.TheLinks.listing-lines-cursor_of as link-lines-cursor_of
use Rattle.listing.proofs.TheLinks.listing-lines-has_entry as link-lines-has_entry
use Rattle.listing.proofs.TheLinks.listing-lines-line_at as link-lines-line_at
use Rattle.listing.proofs.TheLinks.listing-rows-ended_at as link-rows-ended_at
use Rattle.listing.proofs.TheLinks.listing-lines-stopped_at as link-lines-stopped_at
use Rattle.listing.proofs.TheLinks.listing-lines-entry_turn as link-lines-entry_turn
use Rattle.listing.proofs.TheLinks.listing-lines-function_turn as link-lines-function_turn
use Rattle.listing.proofs.TheLinks.listing-rows-decoded_at as link-rows-decoded_at
use Rattle.listing.proofs.TheLinks.listing-rows-has_fixed as link-rows-has_fixed
use Rattle.listing.proofs.TheLinks.listing-rows-names_offsets as link-rows-names_offsets
use Rattle.listing.proofs.TheLinks.listing-rows-can_read as link-rows-can_read
use Rattle.listing.proofs.TheLinks.listing-rows-has_row as link-rows-has_row
use Rattle.listing.proofs.TheLinks.listing-rows-past_row as link-rows-past_row
use Rattle.listing.proofs.TheLinks.listing-rows-row_turn as link-rows-row_turn
use Rattle.listing.proofs.TheLinks.listing-lines-next_line as link-lines-next_line
use Rattle.listing.proofs.TheLinks.listing-reader-next_row as link-reader-next_row
use Rattle.listing.proofs.TheLinks.listing-reader-place_in as link-reader-place_in
use Rattle.listing.proofs.TheLinks.listing-reader-place_of as link-reader-place_of
use Rattle.listing.proofs.TheLinks.listing-reader-reader_of as link-reader-reader_of

-- the functions with their code, before more
abbrev pub entries : Entries → Entries
entries more =
    ("listing::function::kind_of", link-function-kind_of.entry) ∷
    ("listing::function::facts_at", link-function-facts_at.entry) ∷
    ("listing::function::described_in", link-function-described_in.entry) ∷
    ("listing::function::function_at", link-function-function_at.entry) ∷
    ("listing::rows::nowhere", link-rows-nowhere.entry) ∷
    ("listing::lines::cursor_over", link-lines-cursor_over.entry) ∷
    ("listing::lines::cursor_at", link-lines-cursor_at.entry) ∷
    ("listing::lines::cursor_of", link-lines-cursor_of.entry) ∷
    ("listing::lines::has_entry", link-lines-has_entry.entry) ∷
    ("listing::lines::line_at", link-lines-line_at.entry) ∷
    ("listing::rows::ended_at", link-rows-ended_at.entry) ∷
    ("listing::lines::stopped_at", link-lines-stopped_at.entry) ∷
    ("listing::lines::entry_turn", link-lines-entry_turn.entry) ∷
    ("listing::lines::function_turn", link-lines-function_turn.entry) ∷
    ("listing::rows::decoded_at", link-rows-decoded_at.entry) ∷
    ("listing::rows::has_fixed", link-rows-has_fixed.entry) ∷
    ("listing::rows::names_offsets", link-rows-names_offsets.entry) ∷
    ("listing::rows::can_read", link-rows-can_read.entry) ∷
    ("listing::rows::has_row", link-rows-has_row.entry) ∷
    ("listing::rows::past_row", link-rows-past_row.entry) ∷
    ("listing::rows::row_turn", link-rows-row_turn.entry) ∷
    ("listing::lines::next_line", link-lines-next_line.entry) ∷
    ("listing::reader::next_row", link-reader-next_row.entry) ∷
    ("listing::reader::place_in", link-reader-place_in.entry) ∷
    ("listing::reader::place_of", link-reader-place_of.entry) ∷
    ("listing::reader::reader_of", link-reader-reader_of.entry) ∷
    more

-- a look-up finds them
pub record Finds (look : Symbol → Entry) : Type 0 where
  pub function_kind_of : look "listing::function::kind_of" ≡ link-function-kind_of.entry
  pub function_facts_at : look "listing::function::facts_at" ≡ link-function-facts_at.entry
  pub function_described_in : look "listing::function::described_in" ≡ link-function-described_in.entry
  pub function_function_at : look "listing::function::function_at" ≡ link-function-function_at.entry
  pub rows_nowhere : look "listing::rows::nowhere" ≡ link-rows-nowhere.entry
  pub lines_cursor_over : look "listing::lines::cursor_over" ≡ link-lines-cursor_over.entry
  pub lines_cursor_at : look "listing::lines::cursor_at" ≡ link-lines-cursor_at.entry
  pub lines_cursor_of : look "listing::lines::cursor_of" ≡ link-lines-cursor_of.entry
  pub lines_has_entry : look "listing::lines::has_entry" ≡ link-lines-has_entry.entry
  pub lines_line_at : look "listing::lines::line_at" ≡ link-lines-line_at.entry
  pub rows_ended_at : look "listing::rows::ended_at" ≡ link-rows-ended_at.entry
  pub lines_stopped_at : look "listing::lines::stopped_at" ≡ link-lines-stopped_at.entry
  pub lines_entry_turn : look "listing::lines::entry_turn" ≡ link-lines-entry_turn.entry
  pub lines_function_turn : look "listing::lines::function_turn" ≡ link-lines-function_turn.entry
  pub rows_decoded_at : look "listing::rows::decoded_at" ≡ link-rows-decoded_at.entry
  pub rows_has_fixed : look "listing::rows::has_fixed" ≡ link-rows-has_fixed.entry
  pub rows_names_offsets : look "listing::rows::names_offsets" ≡ link-rows-names_offsets.entry
  pub rows_can_read : look "listing::rows::can_read" ≡ link-rows-can_read.entry
  pub rows_has_row : look "listing::rows::has_row" ≡ link-rows-has_row.entry
  pub rows_past_row : look "listing::rows::past_row" ≡ link-rows-past_row.entry
  pub rows_row_turn : look "listing::rows::row_turn" ≡ link-rows-row_turn.entry
  pub lines_next_line : look "listing::lines::next_line" ≡ link-lines-next_line.entry
  pub reader_next_row : look "listing::reader::next_row" ≡ link-reader-next_row.entry
  pub reader_place_in : look "listing::reader::place_in" ≡ link-reader-place_in.entry
  pub reader_place_of : look "listing::reader::place_of" ≡ link-reader-place_of.entry
  pub reader_reader_of : look "listing::reader::reader_of" ≡ link-reader-reader_of.entry

module _ (look : Symbol → Entry) (in_numbers : numbers.Finds look) (in_section : section.Finds look) (in_accept : accept.Finds look) (here : Finds look) where
  pub function_kind_of : HasT look false link-function-kind_of.code
  function_kind_of = link-function-kind_of.has look false here.function_kind_of (section.entry_does_repeat look in_numbers in_section)

  pub function_facts_at : HasT look false link-function-facts_at.code
  function_facts_at = link-function-facts_at.has look false here.function_facts_at function_kind_of (section.entry_entry_at look in_numbers in_section) (section.entry_exact_start look in_numbers in_section) (section.entry_type_of look in_numbers in_section) (section.header_order_at look in_numbers in_section)

  pub function_described_in : HasT look false link-function-described_in.code
  function_described_in = link-function-described_in.has look false here.function_described_in function_facts_at

  pub function_function_at : HasT look false link-function-function_at.code
  function_function_at = link-function-function_at.has look false here.function_function_at (accept.header_check_check_header look in_numbers in_section in_accept) function_described_in (section.header_layout_at look in_numbers in_section)

  pub rows_nowhere : HasT look false link-rows-nowhere.code
  rows_nowhere = link-rows-nowhere.has look false here.rows_nowhere

  pub lines_cursor_over : HasT look false link-lines-cursor_over.code
  lines_cursor_over = link-lines-cursor_over.has look false here.lines_cursor_over rows_nowhere

  pub lines_cursor_at : HasT look false link-lines-cursor_at.code
  lines_cursor_at = link-lines-cursor_at.has look false here.lines_cursor_at (accept.section_check_check look in_numbers in_section in_accept) lines_cursor_over

  pub lines_cursor_of : HasT look false link-lines-cursor_of.code
  lines_cursor_of = link-lines-cursor_of.has look false here.lines_cursor_of (accept.section_check_check look in_numbers in_section in_accept) lines_cursor_over (section.header_layout_at look in_numbers in_section)

  pub lines_has_entry : HasT look false link-lines-has_entry.code
  lines_has_entry = link-lines-has_entry.has look false here.lines_has_entry

  pub lines_line_at : HasT look false link-lines-line_at.code
  lines_line_at = link-lines-line_at.has look false here.lines_line_at

  pub rows_ended_at : HasT look false link-rows-ended_at.code
  rows_ended_at = link-rows-ended_at.has look false here.rows_ended_at

  pub lines_stopped_at : HasT look false link-lines-stopped_at.code
  lines_stopped_at = link-lines-stopped_at.has look false here.lines_stopped_at rows_ended_at

  pub lines_entry_turn : HasT look false link-lines-entry_turn.code
  lines_entry_turn = link-lines-entry_turn.has look false here.lines_entry_turn function_facts_at lines_has_entry lines_line_at lines_stopped_at (section.header_layout_at look in_numbers in_section)

  pub lines_function_turn : HasT look false link-lines-function_turn.code
  lines_function_turn = link-lines-function_turn.has look false here.lines_function_turn lines_entry_turn lines_stopped_at

  pub rows_decoded_at : HasT look false link-rows-decoded_at.code
  rows_decoded_at = link-rows-decoded_at.has look false here.rows_decoded_at (section.row_row_at look in_numbers in_section) (section.shape_shape_of look in_numbers in_section)

  pub rows_has_fixed : HasT look false link-rows-has_fixed.code
  rows_has_fixed = link-rows-has_fixed.has look false here.rows_has_fixed (numbers.field_width_of look in_numbers)

  pub rows_names_offsets : HasT look false link-rows-names_offsets.code
  rows_names_offsets = link-rows-names_offsets.has look false here.rows_names_offsets (section.row_count_of look in_numbers in_section) (section.row_offset_size_of look in_numbers in_section)

  pub rows_can_read : HasT look false link-rows-can_read.code
  rows_can_read = link-rows-can_read.has look false here.rows_can_read rows_has_fixed rows_names_offsets (section.row_info_at look in_numbers in_section) (section.row_row_length look in_numbers in_section)

  pub rows_has_row : HasT look false link-rows-has_row.code
  rows_has_row = link-rows-has_row.has look false here.rows_has_row rows_can_read

  pub rows_past_row : HasT look false link-rows-past_row.code
  rows_past_row = link-rows-past_row.has look false here.rows_past_row (section.row_row_length look in_numbers in_section)

  pub rows_row_turn : HasT look false link-rows-row_turn.code
  rows_row_turn = link-rows-row_turn.has look false here.rows_row_turn rows_decoded_at rows_ended_at rows_has_row rows_past_row

  pub lines_next_line : HasT look false link-lines-next_line.code
  lines_next_line = link-lines-next_line.has look false here.lines_next_line lines_function_turn rows_row_turn

  pub reader_next_row : HasT look false link-reader-next_row.code
  reader_next_row = link-reader-next_row.has look false here.reader_next_row rows_row_turn

  pub reader_place_in : HasT look false link-reader-place_in.code
  reader_place_in = link-reader-place_in.has look false here.reader_place_in rows_nowhere

  pub reader_place_of : HasT look false link-reader-place_of.code
  reader_place_of = link-reader-place_of.has look false here.reader_place_of (accept.section_check_check look in_numbers in_section in_accept) function_function_at reader_place_in rows_nowhere

  pub reader_reader_of : HasT look false link-reader-reader_of.code
  reader_reader_of = link-reader-reader_of.has look false here.reader_reader_of reader_place_of
