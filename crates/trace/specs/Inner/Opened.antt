-- One name that opens every definition of this crate and of those below it: `unfolding trace_opened` lets a trace on bytes that are
-- written out compute, here and in the crates above.
use Rattle.caller.specs.Inner.Opened.{caller_opened}
use Rattle.trace.specs.Frames.{in_force, frame_of, words_of, with_mark, all_words, over, traced_as}
use Rattle.trace.specs.Numbers.{number_of_trace_cause, ending_number, ending_indexes}
use Rattle.trace.specs.Computed.Trace.{ended, with_frame, unless_outermost, onward, walk_of, checked_walk, door_tests, door_fault, after_door, walk_after, walk_in, traced, trace_of}
use Rattle.trace.specs.Inner.Writing.{next_from, put}

unfoldable pub trace_opened : Unit {0}
unfolding caller_opened in_force frame_of words_of ended with_frame unless_outermost onward walk_of with_mark next_from checked_walk door_tests door_fault after_door walk_after walk_in all_words over put traced_as traced trace_of number_of_trace_cause ending_number ending_indexes
trace_opened = tt
