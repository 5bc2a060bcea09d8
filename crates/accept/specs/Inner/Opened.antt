-- One name that opens every definition of this crate and of those below it: `unfolding accept_opened` lets the verdict on a
-- section written out in bytes compute, here and in the crates above.
use Rattle.section.specs.Inner.Opened.{section_opened}
use Rattle.accept.specs.Given.{verdict_number, verdict_indexes}
use Rattle.accept.specs.Computed.Checks.{first_bad, and_then, given_at, then_try, first_of, fault_of, same_order, wrong_abi, same_offset, wrong_fixed, wrong_sizes, header_tests, header_fault, wrong_entry_info, entry_tests, wrong_row_info, row_tests, row_fault, low_of, row_fault_in, rows_fault, entry_fault, out_of_order, turn_fault, rows_below, sum_fault, entries_verdict, verdict}
use Rattle.accept.specs.Inner.Passed.{unless_broken, row_passed}

unfoldable pub accept_opened : Unit {0}
unfolding section_opened first_bad and_then given_at then_try first_of fault_of same_order wrong_abi same_offset wrong_fixed wrong_sizes header_tests header_fault wrong_entry_info entry_tests wrong_row_info row_tests row_fault low_of row_fault_in rows_fault entry_fault out_of_order turn_fault rows_below sum_fault entries_verdict verdict verdict_number verdict_indexes unless_broken row_passed
accept_opened = tt
