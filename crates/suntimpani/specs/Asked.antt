-- The answer of an asked address as the flat struct of a lookup, and how it is read back. Fields without meaning in a case are 0.
use Rattle.std.specs.Prelude.{true, false, eqb, get_or}
use Rattle.ask.specs.AskAnswer.{AskAnswer, Found, Unsound, Unsorted, NoFunction, NoRow, Damaged}
use Rattle.ask.specs.Numbers.{ask_number, ask_indexes, ask_row, ask_compared}
use Rattle.suntimpani.specs.Flat.{empty_row, flat_row}
use Rattle.suntimpani.specs.Read.{read_row}
use Rattle.suntimpani.specs.declared.flat.AnswerInC.{AnswerInC}

-- its number, its index, its count, and its row with its number
unfoldable pub flat_asked : AskAnswer → AnswerInC
flat_asked answer =
    let indexes = ask_indexes answer in
    let found = get_or (ask_row answer) 0 (0, empty_row) in
    flat_row (ask_number answer) (get_or indexes 0 0) (get_or indexes 1 0) (ask_compared answer) found.0 found.1

-- number 0 is found, 21, 23, 44 and 45 have their own cases, and every other number is the header's
unfoldable pub read_asked : AnswerInC → AskAnswer
read_asked asked =
    elim (eqb asked.number 0) [
      | true ↦ Found asked.function asked.compared asked.row (read_row asked)
      | false ↦ elim (eqb asked.number 21) [
        | true ↦ NoFunction asked.compared
        | false ↦ elim (eqb asked.number 23) [
          | true ↦ NoRow asked.function asked.compared
          | false ↦ elim (eqb asked.number 44) [
            | true ↦ Damaged asked.function asked.compared
            | false ↦ elim (eqb asked.number 45) [
              | true ↦ Unsorted
              | false ↦ Unsound asked.number
            ]
          ]
        ]
      ]
    ]
