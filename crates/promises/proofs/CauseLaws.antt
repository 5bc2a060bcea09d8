-- The numbers of each call are all there are: every cause stands in its call's list, and these are the lists' numbers. That no two causes
-- of a call have one number is `rules_distinct`, `lookup_distinct`, `ask_distinct`, `step_distinct` and `trace_distinct` of the layers.
-- Assumes nothing.
use mathlib.Core.Path.{◌≡◌, refl}
use mathlib.Core.List.{List, [], ◌∷◌, map, Mem, mem-cons_self, mem-cons_of_mem, mem-append_left, mem-append_right, mem-map_of_mem}
use Prim.Native.Nat.{ℕ, zero, suc, ◌≤◌, ◌<◌}
use native.Mathlib.Omega.{arith}
use lib.IntN.{ℤ}
use lib.ListN.{length, get_or}
use Rattle.accept.specs.Given.{number_of_rule}
use Rattle.accept.specs.declared.verdict.Rule.{Rule}
use Rattle.accept.specs.declared.verdict.Rule.TheVariants.{Short, Long, Magic, Version, Flags, Abi, Fixed, Sizes, EntryInfo, RepeatSize, RowsInside, RowInfo, RowsRising, Sorted, RowSum}
use Rattle.lookup.specs.Numbers as lookup
use Rattle.lookup.specs.Numbers.{Unfound, no_function, dispute, no_row, number_of_unfound, LookupCause, number_of_lookup_cause}
use Rattle.ask.specs.Cases.{OnAsk}
use Rattle.ask.specs.Numbers as ask
use Rattle.ask.specs.Numbers.{AskCause, number_of_unanswered, number_of_ask_cause}
use Rattle.caller.specs.Numbers as step
use Rattle.caller.specs.Numbers.{Refusal, unfound, signed, cfa_outside, cfa_low, ra_lost, word_outside, number_of_refusal, StepCause, number_of_step_cause}
use Rattle.trace.specs.Numbers.{TraceCause, window, limit_above, too_few_words, unsound, refused, outermost, full, number_of_trace_cause}
use Rattle.promises.specs.Refusals.{every_rule, every_unfound, every_lookup_cause, every_header_rule, every_ask_cause, every_refusal, every_step_cause, every_trace_cause}

-- ---- every cause is listed

at_place : {A : Type 0} (l : List A) (k : ℕ) (default : A) → k < length l → Mem (get_or l k default) l
at_place [] k default lt = absurd (omega arith)
at_place (x ∷ l) zero default lt = mem-cons_self
at_place (x ∷ l) (suc k) default lt = mem-cons_of_mem x (at_place l k default (omega arith))

pub every_rule_lem : (rule : Rule) → Mem rule every_rule
unfolding every_rule
every_rule_lem Short = at_place every_rule 0 Short (omega arith)
every_rule_lem Long = at_place every_rule 1 Short (omega arith)
every_rule_lem Magic = at_place every_rule 2 Short (omega arith)
every_rule_lem Version = at_place every_rule 3 Short (omega arith)
every_rule_lem Flags = at_place every_rule 4 Short (omega arith)
every_rule_lem Abi = at_place every_rule 5 Short (omega arith)
every_rule_lem Fixed = at_place every_rule 6 Short (omega arith)
every_rule_lem Sizes = at_place every_rule 7 Short (omega arith)
every_rule_lem EntryInfo = at_place every_rule 8 Short (omega arith)
every_rule_lem RepeatSize = at_place every_rule 9 Short (omega arith)
every_rule_lem RowsInside = at_place every_rule 10 Short (omega arith)
every_rule_lem RowInfo = at_place every_rule 11 Short (omega arith)
every_rule_lem RowsRising = at_place every_rule 12 Short (omega arith)
every_rule_lem Sorted = at_place every_rule 13 Short (omega arith)
every_rule_lem RowSum = at_place every_rule 14 Short (omega arith)

every_unfound_lem : (why : Unfound) → Mem why every_unfound
unfolding every_unfound
every_unfound_lem no_function = at_place every_unfound 0 no_function (omega arith)
every_unfound_lem dispute = at_place every_unfound 1 no_function (omega arith)
every_unfound_lem no_row = at_place every_unfound 2 no_function (omega arith)

pub every_lookup_cause_lem : (cause : LookupCause) → Mem cause every_lookup_cause
unfolding every_lookup_cause
every_lookup_cause_lem (lookup.unsound rule) = mem-append_left _ (mem-map_of_mem lookup.unsound (every_rule_lem rule))
every_lookup_cause_lem (lookup.unfound why) = mem-append_right (map lookup.unsound every_rule) (mem-map_of_mem lookup.unfound (every_unfound_lem why))

-- a rule that the header can break is one of 1 to 8
every_header_rule_lem : (rule : Rule) → number_of_rule rule ≤ 8 → Mem rule every_header_rule
unfolding every_header_rule number_of_rule
every_header_rule_lem Short le = at_place every_header_rule 0 Short (omega arith)
every_header_rule_lem Long le = at_place every_header_rule 1 Short (omega arith)
every_header_rule_lem Magic le = at_place every_header_rule 2 Short (omega arith)
every_header_rule_lem Version le = at_place every_header_rule 3 Short (omega arith)
every_header_rule_lem Flags le = at_place every_header_rule 4 Short (omega arith)
every_header_rule_lem Abi le = at_place every_header_rule 5 Short (omega arith)
every_header_rule_lem Fixed le = at_place every_header_rule 6 Short (omega arith)
every_header_rule_lem Sizes le = at_place every_header_rule 7 Short (omega arith)
every_header_rule_lem EntryInfo le = absurd (omega arith)
every_header_rule_lem RepeatSize le = absurd (omega arith)
every_header_rule_lem RowsInside le = absurd (omega arith)
every_header_rule_lem RowInfo le = absurd (omega arith)
every_header_rule_lem RowsRising le = absurd (omega arith)
every_header_rule_lem Sorted le = absurd (omega arith)
every_header_rule_lem RowSum le = absurd (omega arith)

-- so every cause that can hold of an asked address is listed
unanswereds : List AskCause
unanswereds = map ask.unanswered (ask.no_function ∷ ask.no_row ∷ ask.damaged ∷ ask.unsorted ∷ [])

by_answer : (k : ℕ) → k < 4 → Mem (get_or unanswereds k (ask.unanswered ask.no_function)) every_ask_cause
unfolding every_ask_cause unanswereds
by_answer k lt = mem-append_right (map ask.unsound every_header_rule) (at_place unanswereds k (ask.unanswered ask.no_function) lt)

pub every_ask_cause_lem : (s : List ℕ) (d : ℤ) (cause : AskCause) → OnAsk s d cause → Mem cause every_ask_cause
unfolding every_ask_cause unanswereds
every_ask_cause_lem s d (ask.unsound rule) on = mem-append_left _ (mem-map_of_mem ask.unsound (every_header_rule_lem rule on.0))
every_ask_cause_lem s d (ask.unanswered ask.no_function) on = by_answer 0 (omega arith)
every_ask_cause_lem s d (ask.unanswered ask.no_row) on = by_answer 1 (omega arith)
every_ask_cause_lem s d (ask.unanswered ask.damaged) on = by_answer 2 (omega arith)
every_ask_cause_lem s d (ask.unanswered ask.unsorted) on = by_answer 3 (omega arith)

-- the refusals by a row
by_row : List Refusal
by_row = signed ∷ cfa_outside ∷ cfa_low ∷ ra_lost ∷ word_outside ∷ []

by_row_lem : (k : ℕ) → k < 5 → Mem (get_or by_row k signed) every_refusal
unfolding every_refusal by_row
by_row_lem k lt = mem-append_right (map unfound every_unfound) (at_place by_row k signed lt)

pub every_refusal_lem : (refusal : Refusal) → Mem refusal every_refusal
unfolding every_refusal by_row
every_refusal_lem (unfound why) = mem-append_left _ (mem-map_of_mem unfound (every_unfound_lem why))
every_refusal_lem signed = by_row_lem 0 (omega arith)
every_refusal_lem cfa_outside = by_row_lem 1 (omega arith)
every_refusal_lem cfa_low = by_row_lem 2 (omega arith)
every_refusal_lem ra_lost = by_row_lem 3 (omega arith)
every_refusal_lem word_outside = by_row_lem 4 (omega arith)

pub every_step_cause_lem : (cause : StepCause) → Mem cause every_step_cause
unfolding every_step_cause
every_step_cause_lem step.window = mem-append_right (map step.unsound every_rule) (mem-append_right (map step.refused every_refusal) mem-cons_self)
every_step_cause_lem (step.unsound rule) = mem-append_left _ (mem-map_of_mem step.unsound (every_rule_lem rule))
every_step_cause_lem (step.refused refusal) =
    mem-append_right (map step.unsound every_rule) (mem-append_left _ (mem-map_of_mem step.refused (every_refusal_lem refusal)))

-- a trace's alone
others : List TraceCause
others = outermost ∷ full ∷ window ∷ limit_above ∷ too_few_words ∷ []

other : (k : ℕ) → k < 5 → Mem (get_or others k window) every_trace_cause
unfolding every_trace_cause others
other k lt = mem-append_right (map unsound every_rule) (mem-append_right (map refused every_refusal) (at_place others k window lt))

pub every_trace_cause_lem : (cause : TraceCause) → Mem cause every_trace_cause
unfolding every_trace_cause others
every_trace_cause_lem window = other 2 (omega arith)
every_trace_cause_lem limit_above = other 3 (omega arith)
every_trace_cause_lem too_few_words = other 4 (omega arith)
every_trace_cause_lem (unsound rule) = mem-append_left _ (mem-map_of_mem unsound (every_rule_lem rule))
every_trace_cause_lem (refused refusal) =
    mem-append_right (map unsound every_rule) (mem-append_left _ (mem-map_of_mem refused (every_refusal_lem refusal)))
every_trace_cause_lem outermost = other 0 (omega arith)
every_trace_cause_lem full = other 1 (omega arith)

-- ---- and these are their numbers

pub lookup_numbers : map number_of_lookup_cause every_lookup_cause
    ≡ 1 ∷ 2 ∷ 3 ∷ 4 ∷ 5 ∷ 6 ∷ 7 ∷ 8 ∷ 9 ∷ 10 ∷ 11 ∷ 12 ∷ 13 ∷ 14 ∷ 15 ∷ 21 ∷ 22 ∷ 23 ∷ []
unfolding every_rule every_unfound every_lookup_cause number_of_rule number_of_unfound number_of_lookup_cause
lookup_numbers = refl

pub ask_numbers : map number_of_ask_cause every_ask_cause ≡ 1 ∷ 2 ∷ 3 ∷ 4 ∷ 5 ∷ 6 ∷ 7 ∷ 8 ∷ 21 ∷ 23 ∷ 44 ∷ 45 ∷ []
unfolding every_header_rule every_ask_cause number_of_rule number_of_unfound number_of_unanswered number_of_ask_cause
ask_numbers = refl

pub step_numbers : map number_of_step_cause every_step_cause
    ≡ 1 ∷ 2 ∷ 3 ∷ 4 ∷ 5 ∷ 6 ∷ 7 ∷ 8 ∷ 9 ∷ 10 ∷ 11 ∷ 12 ∷ 13 ∷ 14 ∷ 15 ∷ 21 ∷ 22 ∷ 23 ∷ 24 ∷ 25 ∷ 26 ∷ 27 ∷ 28 ∷ 41 ∷ []
unfolding every_rule every_unfound every_refusal every_step_cause number_of_rule number_of_unfound number_of_refusal number_of_step_cause
step_numbers = refl

-- 1 to 15, 21 to 28, 30, 31 and 41 to 43: every number of document 01
pub every_number : map number_of_trace_cause every_trace_cause
    ≡ 1 ∷ 2 ∷ 3 ∷ 4 ∷ 5 ∷ 6 ∷ 7 ∷ 8 ∷ 9 ∷ 10 ∷ 11 ∷ 12 ∷ 13 ∷ 14 ∷ 15
    ∷ 21 ∷ 22 ∷ 23 ∷ 24 ∷ 25 ∷ 26 ∷ 27 ∷ 28 ∷ 30 ∷ 31 ∷ 41 ∷ 42 ∷ 43 ∷ []
unfolding every_rule every_unfound every_refusal every_trace_cause number_of_rule number_of_unfound number_of_refusal number_of_step_cause number_of_trace_cause
every_number = refl
