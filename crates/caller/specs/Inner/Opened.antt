-- One name that opens every definition of this crate and of those below it: `unfolding caller_opened` lets a step on bytes that
-- are written out compute, here and in the crates above.
use Rattle.lookup.specs.Inner.Opened.{lookup_opened}
use Rattle.caller.specs.Frame.{has_mark, just_before, asked_of, base_value, cfa_of, caller_sp, cfa_of_sp}
use Rattle.caller.specs.Numbers.{number_of_refusal, number_of_step_cause, step_number, step_indexes, step_registers}
use Rattle.caller.specs.Signature.{is_signed, mask_of, clear}
use Rattle.caller.specs.Computed.Caller.{is_maskless, is_low, spot_at, spot_of, is_lost, value_of, both_of, values_of, if_fits, step_after, look_at, with_finding, unless_maskless, with_cfa, unless_low, unless_lost, with_values, from_spots, from_cfa, from_row, from_finding, step_of, step_in}

unfoldable pub caller_opened : Unit {0}
unfolding lookup_opened has_mark just_before asked_of base_value cfa_of caller_sp cfa_of_sp number_of_refusal number_of_step_cause step_number step_indexes step_registers is_signed mask_of clear is_maskless is_low spot_at spot_of is_lost value_of both_of values_of if_fits step_after look_at with_finding unless_maskless with_cfa unless_low unless_lost with_values from_spots from_cfa from_row from_finding step_of step_in
caller_opened = tt
