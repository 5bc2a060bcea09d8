-- One name that opens every definition of this crate and of those below it: `unfolding lookup_opened` lets the answer on a
-- section written out in bytes compute, here and in the crates above.
use Rattle.accept.specs.Inner.Opened.{accept_opened}
use Rattle.lookup.specs.Finding.{finding_of}
use Rattle.lookup.specs.Halving.{halve, empty_function, starts_at_most, landing, compared}
use Rattle.lookup.specs.Numbers.{outcome_number, outcome_indexes, outcome_row, number_of_unfound, number_of_lookup_cause}
use Rattle.lookup.specs.Computed.Answers.{with_row, with_cover, outcome, answer, answer_of, answer_after, lookup_of, look_in}
use Rattle.lookup.specs.Computed.Covering.{covers, covering_from, covering, cover_of}
use Rattle.lookup.specs.Computed.Rows.{in_block, offset_within, or_else, last_row, row_for}
use Rattle.lookup.specs.Inner.Reached.{reached_in}
use Rattle.lookup.specs.Inner.Search.{past_start, past_in, first_where, landed_on, cover_by, search_of, leading, stop_of, starts_by, told_by}

unfoldable pub lookup_opened : Unit {0}
unfolding accept_opened with_row with_cover outcome answer answer_of answer_after lookup_of outcome_number outcome_indexes outcome_row number_of_unfound number_of_lookup_cause covers covering_from covering cover_of finding_of look_in halve empty_function starts_at_most landing compared in_block offset_within or_else last_row row_for reached_in past_start past_in first_where landed_on cover_by search_of leading stop_of starts_by told_by
lookup_opened = tt
