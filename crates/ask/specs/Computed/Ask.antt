-- Request 05: "Add a lookup that reads only the header, the entries the halving rule compares, and the rows of the one function it lands
-- on", in the request's own order. When each answer is given, in plain words, is said in Cases.
use Rattle.std.specs.Prelude.{ℕ, zero, suc, true, false, List, ℤ, Option, Some, None}
use Rattle.numbers.specs.Start.{distance}
use Rattle.section.specs.Header.{layout_of}
use Rattle.section.specs.Meaning.{area_of, shape_of, entry_in, function_in, functions_of}
use Rattle.accept.specs.Computed.Checks.{header_fault, entry_fault}
use Rattle.accept.specs.Fault.{Fault, Sound, Breaks}
use Rattle.lookup.specs.Halving.{landing}
use Rattle.lookup.specs.Computed.Covering.{covers}
use Rattle.lookup.specs.Computed.Rows.{row_for}
use Rattle.lookup.specs.declared.rows.Hit.{Hit}
use Rattle.ask.specs.AskAnswer.{AskAnswer, Found, Unsound, Unsorted, NoFunction, NoRow, Damaged}

-- "Header faults answer 1 to 8"
unfoldable pub ask_after : Fault → AskAnswer → AskAnswer
ask_after (Breaks number) next = Unsound number
ask_after Sound next = next

-- "Otherwise it answers .. 23 or the row by the usual rules on what it read"
unfoldable pub with_row : ℕ → ℕ → Option Hit → AskAnswer
with_row i compared None = NoRow i compared
with_row i compared (Some hit) = Found i compared hit.number hit.row

-- "If the function landed on covers d and breaks 9 to 13, it answers 44 with its index and the count."
unfoldable pub checked_row : Fault → ℕ → ℕ → Option Hit → AskAnswer
checked_row (Breaks number) i compared scan = Damaged i compared
checked_row Sound i compared scan = with_row i compared scan

unfoldable pub in_function : List ℕ → ℤ → ℕ → ℕ → AskAnswer
in_function s d i compared = checked_row (entry_fault (area_of s) (shape_of s) (entry_in s i)) i compared (row_for d (function_in s i))

-- "the one function it lands on (entry low - 1, if low ended above 0)"; "21" where there is none or it does not cover
unfoldable pub where_landed : List ℕ → ℤ → ℕ → ℕ → AskAnswer
where_landed s d compared zero = NoFunction compared
where_landed s d compared (suc i) = elim (covers d (function_in s i)) [ true ↦ in_function s d i compared | false ↦ NoFunction compared ]

-- "and then a section without the sorted flag 45"; "the entries the halving rule compares"
unfoldable pub ask_in : List ℕ → ℤ → AskAnswer
ask_in s d =
    elim (layout_of s).sorted [
      | true ↦ where_landed s d (landing d (functions_of s)).compared (landing d (functions_of s)).low
      | false ↦ Unsorted
    ]

-- d is "PC minus section address"
unfoldable pub ask_of : List ℕ → ℕ → ℕ → AskAnswer
ask_of s address pc = ask_after (header_fault s) (ask_in s (distance address pc))
