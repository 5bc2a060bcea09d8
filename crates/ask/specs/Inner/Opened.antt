-- One name that opens every definition of this crate and of those below it: `unfolding ask_opened` lets the answer on a section written out
-- in bytes compute, here and in the crates above.
use Rattle.lookup.specs.Inner.Opened.{lookup_opened}
use Rattle.ask.specs.Compared.{middles, entries_compared}
use Rattle.ask.specs.Numbers.{number_of_unanswered, number_of_ask_cause, ask_number, ask_indexes, ask_row, ask_compared}
use Rattle.ask.specs.Computed.Ask.{ask_after, with_row, checked_row, in_function, where_landed, ask_in, ask_of}
use Rattle.ask.specs.Inner.Parts.{stop_after, walk_of, sought_at, sought_in, with_sought, past_function}

unfoldable pub ask_opened : Unit {0}
unfolding lookup_opened middles entries_compared number_of_unanswered number_of_ask_cause ask_number ask_indexes ask_row ask_compared ask_after with_row checked_row in_function where_landed ask_in ask_of stop_after walk_of sought_at sought_in with_sought past_function
ask_opened = tt
