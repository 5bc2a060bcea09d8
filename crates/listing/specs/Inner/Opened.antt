-- One name that opens every definition of this crate and of those below it: `unfolding listing_opened` lets the listing of a section written
-- out in bytes compute, here and in the crates above.
use Rattle.accept.specs.Inner.Opened.{accept_opened}
use Rattle.listing.specs.Functions.{kind_of, rows_place, facts_of, described_in, described_by, described_of}
use Rattle.listing.specs.Listing.{function_line_of, lines_of_function, lines_of, listing_by, listing_of, function_lines, rows_ahead, rows_below, next_row, next_line, after}
use Rattle.listing.specs.Computed.Lines.{cursor_over, stopped, function_line, line_at, has_entry, entry_turn, function_turn, line_by, line_turn, cursor_by, cursor_of, cursor_at, lines_with, is_there, lines_from, lines_left}
use Rattle.listing.specs.Computed.Reader.{place_in, place_by, place_of}
use Rattle.listing.specs.Computed.Turns.{names_offsets, has_fixed, can_read, has_row, passed, ended, nothing_left, row_turn, rows_from, rows_left}

unfoldable pub listing_opened : Unit {0}
unfolding accept_opened kind_of rows_place facts_of described_in described_by described_of function_line_of lines_of_function lines_of listing_by listing_of function_lines rows_ahead rows_below next_row next_line after cursor_over stopped function_line line_at has_entry entry_turn function_turn line_by line_turn cursor_by cursor_of cursor_at lines_with is_there lines_from lines_left place_in place_by place_of names_offsets has_fixed can_read has_row passed ended nothing_left row_turn rows_from rows_left
listing_opened = tt
