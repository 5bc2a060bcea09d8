-- One name that opens every definition of this crate and of those below it: `unfolding explain_opened` lets an explanation on bytes that
-- are written out compute, here and in the crates above.
use Rattle.caller.specs.Inner.Opened.{caller_opened}
use Rattle.explain.specs.Answers.{outcome_missing, outcome_looked, outcome_reason, outcome_why, number_missing, step_row, step_reason, step_why_answer}
use Rattle.explain.specs.Computed.Coverers.{no_coverers, placed, with_index, with_if, coverers_in}
use Rattle.explain.specs.Computed.Each.{each}
use Rattle.explain.specs.Computed.Lookup.{start_in, by_scan, in_function, alone_why, no_function_why, by_cover, looked_of, why_after, lookup_why}
use Rattle.explain.specs.Computed.Nearest.{edge_of, on_side, is_nearer, tried, nearest_in}
use Rattle.explain.specs.Computed.Step.{fetched_at, fetched_of, outside_why, caller_why, with_ra, from_words, from_high, from_cfa_why, by_address, from_row_why, by_reason, by_looked, unlooked_why, asked_why, checked_why, step_why}
use Rattle.explain.specs.Computed.Sum.{sum_up, sum_down, sum_by, sum_of}
use Rattle.explain.specs.Inner.Keys.{side_key, key_by, better, held_of, nearest_of}

unfoldable pub explain_opened : Unit {0}
unfolding caller_opened outcome_missing outcome_looked outcome_reason outcome_why number_missing step_row step_reason step_why_answer no_coverers placed with_index with_if coverers_in each start_in by_scan in_function alone_why no_function_why by_cover looked_of why_after lookup_why edge_of on_side is_nearer tried nearest_in fetched_at fetched_of outside_why caller_why with_ra from_words from_high from_cfa_why by_address from_row_why by_reason by_looked unlooked_why asked_why checked_why step_why sum_up sum_down sum_by sum_of side_key key_by better held_of nearest_of
explain_opened = tt
