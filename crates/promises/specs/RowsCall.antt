-- The rows of a function one at a time, as a program in C sees them: a first call says where the reader of them begins, and each further
-- one yields a row and where the reader then stands. What is promised, as a predicate of any two such calls, of any bytes and of any
-- numbers that are handed in; and what the contracts of our two exported functions allow.
use Rattle.std.specs.Prelude.{◌≡◌, List, ℕ, ◌<◌, drop, Some, None}
use borrow.Fn.Kinds.{Dens}
use contract.Lifetimes.{Lfts}
use Rattle.section.specs.Meaning.{function_in}
use Rattle.section.specs.declared.row.Row.{Row}
use Rattle.accept.specs.Rules.{function_count, Obeys}
use Rattle.listing.specs.Functions.{rows_place, described_of}
use Rattle.listing.specs.Listing.{next_row, after}
use Rattle.listing.specs.Computed.Reader.{place_in}
use Rattle.listing.specs.Computed.Turns.{passed, ended, nothing_left, row_turn, rows_left}
use Rattle.suntimpani.specs.FlatRows.{flat_place, flat_turn}
use Rattle.suntimpani.specs.Read.{read_rows, read_next, read_turn}
use Rattle.suntimpani.specs.declared.rows.RowInC.{RowInC}
use Rattle.suntimpani.specs.declared.rows.RowsInC.{RowsInC}
use Rattle.suntimpani.proofs.suntimpani_next_row.Kinds as next-kinds
use Rattle.suntimpani.proofs.suntimpani_next_row.Reads as next-reads
use Rattle.suntimpani.proofs.suntimpani_rows_of.Kinds as rows_kinds
use Rattle.suntimpani.proofs.suntimpani_rows_of.Reads as rows-reads
use Rattle.promises.specs.Determined.{Allows}
use Rattle.promises.specs.FunctionCall.{HasFunction}

-- ---- any two calls of this form

pub record FlatRowCalls : Type 0 where
  pub begin : List ℕ → ℕ → RowsInC
  pub next : List ℕ → RowsInC → RowInC

-- what the contracts of our two exported functions name
unfoldable pub exported_rows : FlatRowCalls
exported_rows =
    record {
      begin = λ s index. flat_place (place_in (described_of s index));
      next = λ s rows. flat_turn (row_turn s (read_rows rows));
    }

-- ---- one call after the other

-- where the reader stands after so many calls
abbrev pub rest_after : FlatRowCalls → List ℕ → ℕ → RowsInC → RowsInC
rest_after calls s k rows = after (λ from. (calls.next s from).rest) k rows

-- what call k says, counted from 0, of the rows of the function with this index
unfoldable pub row_told : FlatRowCalls → List ℕ → ℕ → ℕ → RowInC
row_told calls s index k = calls.next s (rest_after calls s k (calls.begin s index))

-- ---- what is promised of one call, of any bytes and from any numbers

pub record NextTold (s : List ℕ) (rows : RowsInC) (answer : RowInC) : Type 0 where
  -- it yields the first of the rows that are left; one that does not lie whole in the section ends them
  pub first : read_next answer ≡ next_row (rows_left s (read_rows rows))
  -- and leaves the others
  pub others : rows_left s (read_rows answer.rest) ≡ drop 1 (rows_left s (read_rows rows))
  -- the reader then stands past the row; where there was none, where it stood, with none left
  pub past_row : (row : Row) → read_next answer ≡ Some row → answer.rest ≡ flat_place (passed s (read_rows rows))
  pub at_end : read_next answer ≡ None → answer.rest ≡ flat_place (ended (read_rows rows))
  -- nothing else stands in the struct: a field without meaning is 0
  pub flattened : answer ≡ flat_turn (read_turn answer)

-- ---- and of the two

pub record TellsRows (calls : FlatRowCalls) : Type 0 where
  -- the first call says what the entry says, as it stands; where there is no such function, none is left
  pub begun : (s : List ℕ) (index : ℕ) → HasFunction s index → calls.begin s index ≡ flat_place (rows_place s index)
  pub unbegun : (s : List ℕ) (index : ℕ) → ¬ HasFunction s index → calls.begin s index ≡ flat_place nothing_left
  pub next : (s : List ℕ) (rows : RowsInC) → NextTold s rows (calls.next s rows)
  -- there are no more: asked again, it says so again
  pub none_after : (s : List ℕ) (rows : RowsInC) → (calls.next s rows).more ≡ 0 → (calls.next s (calls.next s rows).rest).more ≡ 0
  -- in an accepted section the rows of a function come once each, in order, and then no more, however often it is asked
  pub told : (s : List ℕ) → Obeys s → (index : ℕ) → index < function_count s → (k : ℕ)
      → read_next (row_told calls s index k) ≡ next_row (drop k (function_in s index).rows)
  -- where there is no such function, there is no row
  pub untold : (s : List ℕ) (index : ℕ) → ¬ HasFunction s index → (k : ℕ) → (row_told calls s index k).more ≡ 0

-- ---- the contracts

-- what the calls answer is what the contracts of our exported functions allow, and nothing else of them is known
pub record KeepsFlatRows (calls : FlatRowCalls) : Type 0 where
  pub begin : (κs : Lfts 1) (a : Dens κs rows_kinds.ps)
      → Allows rows_kinds.ps rows_kinds.r rows-reads.Learnt κs a (calls.begin a.0.now a.1.0) (tt, (tt, tt))
  pub next : (κs : Lfts 1) (a : Dens κs next-kinds.ps)
      → Allows next-kinds.ps next-kinds.r next-reads.Learnt κs a (calls.next a.0.now a.1.0) (tt, (tt, tt))

abbrev pub FlatRowsPromised : Type 0
FlatRowsPromised = (calls : FlatRowCalls) → KeepsFlatRows calls → TellsRows calls
