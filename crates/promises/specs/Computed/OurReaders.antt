-- Our own readers of rows and of lines: what the contracts of the public functions name. No promise speaks of them.
use Rattle.listing.specs.Computed.Lines.{line_turn, cursor_of, cursor_at}
use Rattle.listing.specs.Computed.Reader.{place_of}
use Rattle.listing.specs.Computed.Turns.{row_turn}
use Rattle.promises.specs.ListingCall.{RowCalls, LineCalls, row_calls_of, line_calls_of}

abbrev pub our_rows : RowCalls
our_rows = row_calls_of place_of row_turn

abbrev pub our_lines : LineCalls
our_lines = line_calls_of cursor_of cursor_at line_turn
