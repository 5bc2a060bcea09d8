-- The rows of one entry by themselves, of a PC that is `past` the function's start, as one walk checks them and looks through them: what
-- `in_function` says of the function's own entry comes to this (`past_answer`).
use Rattle.std.specs.Prelude.{ℕ, ◌-◌, true, false, List, leb, eqb, Option, Some, None, Result, Ok, Err}
use Rattle.section.specs.Meaning.{listed, area_of, shape_of, entry_in, block_of, row_in}
use Rattle.section.specs.Row.{row_of}
use Rattle.section.specs.declared.entry.Entry.{Entry}
use Rattle.section.specs.declared.shape.Shape.{Shape}
use Rattle.accept.specs.Computed.Checks.{rows_fault, entry_fault}
use Rattle.accept.specs.Inner.Passed.{unless_broken}
use Rattle.lookup.specs.Computed.Rows.{in_block, last_row}
use Rattle.lookup.specs.declared.rows.Hit.{Hit}
use Rattle.lookup.specs.declared.rows.Stop.{Stop}
use Rattle.lookup.specs.Inner.Search.{stop_of}
use Rattle.ask.specs.AskAnswer.{AskAnswer, Damaged}
use Rattle.ask.specs.Computed.Ask.{with_row}

-- ---- an entry's rows

-- the stop after one more row, the last of so many, which stands at `at`
unfoldable pub stop_after : Stop → ℕ → ℕ → ℕ → ℕ → Stop
stop_after stop rows at start o = elim (leb start o) [ true ↦ record { rows = rows; place = at } | false ↦ stop ]

unfoldable pub walk_of : List ℕ → Shape → ℕ → ℕ → ℕ → ℕ → Result Stop ℕ
walk_of area shape code first count o = unless_broken (rows_fault area shape code first count) (stop_of area shape.order code first count o)

-- ---- what they come to

unfoldable pub sought_at : List ℕ → Shape → ℕ → Stop → Option Hit
sought_at area shape code stop =
    elim (eqb stop.rows 0) [ true ↦ None | false ↦ Some (record { row = row_of area shape code stop.place; number = stop.rows - 1 }) ]

unfoldable pub sought_in : List ℕ → Shape → Entry → ℕ → Result (Option Hit) ℕ
sought_in area shape entry past =
    unless_broken (entry_fault area shape entry) (last_row (in_block (block_of entry) past) 0 (listed (row_in area shape entry) entry.rows 0))

unfoldable pub with_sought : ℕ → ℕ → Result (Option Hit) ℕ → AskAnswer
with_sought i compared (Err number) = Damaged i compared
with_sought i compared (Ok found) = with_row i compared found

-- function i, of a PC that is so far past its start
unfoldable pub past_function : List ℕ → ℕ → ℕ → ℕ → AskAnswer
past_function s i past compared = with_sought i compared (sought_in (area_of s) (shape_of s) (entry_in s i) past)
