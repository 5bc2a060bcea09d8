-- When each answer is given (SPECIFICATION 4.13 to 4.19), as plain propositions over any bytes s, accepted or not, and d, "PC minus section
-- address". `Covers`, `OffsetIs` and what is said of rows are those of a lookup.
use Rattle.std.specs.Prelude.{◌≡◌, true, false, List, ℕ, suc, ◌<◌, ℤ}
use Rattle.section.specs.Header.{layout_of}
use Rattle.section.specs.Meaning.{functions_of}
use Rattle.section.specs.declared.row.Row.{Row}
use Rattle.accept.specs.Given.{number_of_rule, HeaderBreaks}
use Rattle.accept.specs.declared.verdict.Rule.{Rule}
use Rattle.accept.specs.Rules.{row_count, Rule9, Rule10, Rule11First, HeaderObeys, RowObeys}
use Rattle.lookup.specs.Cases.{Covers, OffsetIs, LastAtMost, NoneAtMost, row_of_function}
use Rattle.lookup.specs.Halving.{landing}
use Rattle.ask.specs.AskAnswer.{AskAnswer, Found, Unsound, Unsorted, NoFunction, NoRow, Damaged}
use Rattle.ask.specs.Numbers.{Unanswered, no_function, no_row, damaged, unsorted, AskCause, unsound, unanswered}

-- ---- the section

-- it can be asked: the header obeys 1 to 8, and the sorted flag is set
abbrev pub CanBeAsked : List ℕ → Type 0
CanBeAsked s = HeaderObeys s × ((layout_of s).sorted ≡ true)

-- "a section without the sorted flag"
abbrev pub NotSorted : List ℕ → Type 0
NotSorted s = HeaderObeys s × ((layout_of s).sorted ≡ false)

-- ---- the function landed on

-- "the one function it lands on (entry low - 1, if low ended above 0)" is function i
abbrev pub LandsOn : List ℕ → ℤ → ℕ → Type 0
LandsOn s d i = (landing d (functions_of s)).low ≡ suc i

-- function i is landed on in a section that can be asked, and covers
pub record LandsIn (s : List ℕ) (d : ℤ) (i : ℕ) : Type 0 where
  pub asked : CanBeAsked s
  pub landed : LandsOn s d i
  pub covered : Covers s d i

-- it obeys 9 to 13, the rules of an entry by itself
pub record OwnRulesHold (s : List ℕ) (i : ℕ) : Type 0 where
  pub rule9 : Rule9 s i
  pub rule10 : Rule10 s i
  pub first : Rule11First s i
  pub rows : (k : ℕ) → k < row_count s i → RowObeys s i k

-- ---- the answers that a function is landed on for, or none

-- the row: the function landed on covers, obeys 9 to 13, has a row at or below o, and the row is the last such
pub record RowCase (s : List ℕ) (d : ℤ) (row : Row) (i k : ℕ) : Type 0 where
  pub lands : LandsIn s d i
  pub sound : OwnRulesHold s i
  pub offset : ℕ
  pub offset_is : OffsetIs s d i offset
  pub last : LastAtMost s i offset k
  pub row_is : row ≡ row_of_function s i k

-- 23: it covers, obeys 9 to 13, and has no such row
pub record NoRowCase (s : List ℕ) (d : ℤ) (i : ℕ) : Type 0 where
  pub lands : LandsIn s d i
  pub sound : OwnRulesHold s i
  pub offset : ℕ
  pub offset_is : OffsetIs s d i offset
  pub none : NoneAtMost s i offset

-- 44: "the function landed on covers d and breaks 9 to 13"
pub record DamagedCase (s : List ℕ) (d : ℤ) (i : ℕ) : Type 0 where
  pub lands : LandsIn s d i
  pub broken : ¬ OwnRulesHold s i

-- 21: no function is landed on, or it does not cover
pub record NoFunctionCase (s : List ℕ) (d : ℤ) : Type 0 where
  pub asked : CanBeAsked s
  pub none : (i : ℕ) → LandsOn s d i → ¬ Covers s d i

-- ---- every answer

-- "the count"
abbrev pub compared_in : List ℕ → ℤ → ℕ
compared_in s d = (landing d (functions_of s)).compared

-- what holds of s and d where this is the answer
abbrev pub AskCase : List ℕ → ℤ → AskAnswer → Type 0
AskCase s d (Found i compared k row) = RowCase s d row i k × (compared ≡ compared_in s d)
AskCase s d (Unsound number) = (rule : Rule) × (number ≡ number_of_rule rule) × HeaderBreaks s rule
AskCase s d Unsorted = NotSorted s
AskCase s d (NoFunction compared) = NoFunctionCase s d × (compared ≡ compared_in s d)
AskCase s d (NoRow i compared) = NoRowCase s d i × (compared ≡ compared_in s d)
AskCase s d (Damaged i compared) = DamagedCase s d i × (compared ≡ compared_in s d)

-- ---- every number

abbrev pub UnansweredCase : List ℕ → ℤ → Unanswered → Type 0
UnansweredCase s d no_function = NoFunctionCase s d
UnansweredCase s d no_row = (i : ℕ) × NoRowCase s d i
UnansweredCase s d damaged = (i : ℕ) × DamagedCase s d i
UnansweredCase s d unsorted = NotSorted s

-- what holds where the number of this cause is given
abbrev pub OnAsk : List ℕ → ℤ → AskCause → Type 0
OnAsk s d (unsound rule) = HeaderBreaks s rule
OnAsk s d (unanswered why) = UnansweredCase s d why
