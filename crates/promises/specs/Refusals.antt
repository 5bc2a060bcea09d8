-- Every number, call by call: the causes of each call, in the order of their numbers. When each is given stands in the layers: `Given` of the
-- crate accept for a check, `OnLookup`, `OnStep` and `OnTrace` for the others, each nested in the one before, and `OnAsk`.
use Rattle.std.specs.Prelude.{List, [], ◌∷◌, ◌++◌, map}
use Rattle.accept.specs.declared.verdict.Rule.{Rule}
use Rattle.accept.specs.declared.verdict.Rule.TheVariants.{Short, Long, Magic, Version, Flags, Abi, Fixed, Sizes, EntryInfo, RepeatSize, RowsInside, RowInfo, RowsRising, Sorted, RowSum}
use Rattle.lookup.specs.Numbers as lookup
use Rattle.lookup.specs.Numbers.{Unfound, no_function, dispute, no_row, LookupCause}
use Rattle.ask.specs.Numbers as ask
use Rattle.ask.specs.Numbers.{AskCause}
use Rattle.caller.specs.Numbers as step
use Rattle.caller.specs.Numbers.{Refusal, unfound, signed, cfa_outside, cfa_low, ra_lost, word_outside, StepCause}
use Rattle.trace.specs.Numbers.{TraceCause, window, limit_above, too_few_words, unsound, refused, outermost, full}

-- a check's: 1 to 15
unfoldable pub every_rule : List Rule
every_rule =
    Short ∷ Long ∷ Magic ∷ Version ∷ Flags ∷ Abi ∷ Fixed ∷ Sizes ∷ EntryInfo ∷ RepeatSize ∷ RowsInside ∷ RowInfo ∷ RowsRising ∷ Sorted ∷ RowSum
    ∷ []

-- 21 to 23
unfoldable pub every_unfound : List Unfound
every_unfound = no_function ∷ dispute ∷ no_row ∷ []

-- a lookup's: 1 to 15, 21 to 23
unfoldable pub every_lookup_cause : List LookupCause
every_lookup_cause = map lookup.unsound every_rule ++ map lookup.unfound every_unfound

-- the header's: 1 to 8
unfoldable pub every_header_rule : List Rule
every_header_rule = Short ∷ Long ∷ Magic ∷ Version ∷ Flags ∷ Abi ∷ Fixed ∷ Sizes ∷ []

-- an asked address's: 1 to 8, 21, 23, 44, 45
unfoldable pub every_ask_cause : List AskCause
every_ask_cause =
    map ask.unsound every_header_rule
    ++ map ask.unanswered (ask.no_function ∷ ask.no_row ∷ ask.damaged ∷ ask.unsorted ∷ [])

-- a step's own: 21 to 28
unfoldable pub every_refusal : List Refusal
every_refusal = map unfound every_unfound ++ (signed ∷ cfa_outside ∷ cfa_low ∷ ra_lost ∷ word_outside ∷ [])

-- a step's: 1 to 15, 21 to 28, 41
unfoldable pub every_step_cause : List StepCause
every_step_cause = map step.unsound every_rule ++ (map step.refused every_refusal ++ (step.window ∷ []))

-- a trace's, and all that document 01 has: 1 to 15, 21 to 28, 30, 31, 41 to 43
unfoldable pub every_trace_cause : List TraceCause
every_trace_cause = map unsound every_rule ++ (map refused every_refusal ++ (outermost ∷ full ∷ window ∷ limit_above ∷ too_few_words ∷ []))
