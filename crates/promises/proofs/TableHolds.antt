-- K1 to K12 of document 01, one statement over the whole table, and beside it the three AArch64 examples and those of requests 03, 04 and 06: by
-- computing what the contracts of our four functions name.
-- Assumes nothing.
use mathlib.Core.Path.{refl}
use Prim.Native.Nat.{ℕ}
use Rattle.section.specs.SectionS.{section_s, overlapping_s, unsorted_s, at_entry, with_frame}
use Rattle.trace.specs.Inner.Opened.{trace_opened}
use Rattle.promises.specs.Table.{reply_to, Holds, loaded, at, stack_window, crashed, agreed, table, little_leaf, big_leaf, in_leaf, of_leaf, aarch64_table, adjacent_s, late_s, repeated_s, below_s, call_window, called, of_call, lying_at, by_entry, by_frame, last_call_table, sealed_rows, little_sealed, big_sealed, signed_s, sealed_window, sealed, of_sealed, from_sealed, usual_mask, signed_table, deep_window, deep_words, of_deep, full_at, shut_with, limit_table}
use Rattle.promises.specs.Computed.Ours.{ours}

pub table_holds : (mask lr first a b c d e f : ℕ) → Holds ours (table mask lr first a b c d e f)
unfolding trace_opened section_s overlapping_s unsorted_s at_entry with_frame ours reply_to loaded at stack_window crashed agreed table
table_holds mask lr first a b c d e f =
    (refl, (refl, (refl, (refl, (refl, (refl, (refl, (refl, (refl, (refl, (refl, (refl, (refl, (refl, (refl, (refl, tt))))))))))))))))

pub aarch64_holds : (mask : ℕ) → Holds ours (aarch64_table mask)
unfolding trace_opened ours reply_to loaded stack_window agreed little_leaf big_leaf in_leaf of_leaf aarch64_table
aarch64_holds mask = (refl, (refl, (refl, (refl, (refl, (refl, tt))))))

pub last_calls_hold : Holds ours last_call_table
unfolding trace_opened section_s at_entry ours reply_to loaded at agreed adjacent_s late_s repeated_s below_s call_window called of_call lying_at by_entry by_frame last_call_table
last_calls_hold =
    (refl, (refl, (refl, (refl, (refl, (refl, (refl, (refl, (refl, (refl, (refl, (refl, (refl, (refl, (refl, (refl, (refl, tt)))))))))))))))))

pub signed_rows_hold : (a b c d e f : ℕ) → Holds ours (signed_table a b c d e f)
unfolding trace_opened section_s ours reply_to loaded agreed sealed_rows little_sealed big_sealed signed_s sealed_window sealed of_sealed from_sealed usual_mask signed_table
signed_rows_hold a b c d e f =
    (refl, (refl, (refl, (refl, (refl, (refl, (refl, (refl, (refl, (refl, (refl, (refl, (refl, tt)))))))))))))

pub limits_hold : Holds ours limit_table
unfolding trace_opened section_s ours reply_to loaded crashed agreed deep_window deep_words of_deep full_at shut_with limit_table
limits_hold = (refl, (refl, (refl, (refl, (refl, (refl, tt))))))
