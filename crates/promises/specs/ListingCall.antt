-- The request: "every function and row of an accepted section, in section order, one line each: index, effective start, size, then row
-- start, base register and offsets .. a row reader that holds the section's bytes and its place. It must yield each function's rows once
-- each and then say that there are no more. A refused section prints the refusal number and index alone." What is promised of a listing, of
-- a reader of rows and of a reader of lines: predicates of any such calls, over any bytes; and what the contracts of ours allow.
use Rattle.section.specs.declared.row.Row.{Row}
use Rattle.std.specs.Prelude.{◌≡◌, List, [], ◌↔◌, ℕ, suc, ◌≤◌, ◌<◌, length, drop, Option, None}
use borrow.Fn.Kinds.{Dens}
use contract.Lifetimes.{Lfts}
use Rattle.std.specs.Borrow.{Bor}
use denote.Triple.Clauses.{at_exit}
use Rattle.section.specs.Meaning.{listed, function_in, functions_of}
use Rattle.accept.specs.Given.{number_of_rule, Given}
use Rattle.accept.specs.declared.verdict.Rule.{Rule}
use Rattle.accept.specs.Rules.{function_count, Obeys}
use Rattle.listing.specs.Listing.{Listing, refused, lines, function_line_of, lines_of_function, function_lines, rows_ahead, rows_below, next_row, next_line, after}
use Rattle.listing.specs.declared.lines.Cursor.{Cursor}
use Rattle.listing.specs.declared.lines.Line.{Line}
use Rattle.listing.specs.declared.lines.LineTurn.{LineTurn}
use Rattle.listing.specs.declared.reader.RowReader.{RowReader}
use Rattle.listing.specs.declared.rows.RowPlace.{RowPlace}
use Rattle.listing.specs.declared.rows.RowTurn.{RowTurn}
use Rattle.listing.proofs.lines.cursor_at.Kinds as one-kinds
use Rattle.listing.proofs.lines.cursor_at.Reads as one-reads
use Rattle.listing.proofs.lines.cursor_of.Kinds as cursor-kinds
use Rattle.listing.proofs.lines.cursor_of.Reads as cursor-reads
use Rattle.listing.proofs.lines.next_line.Kinds as line-kinds
use Rattle.listing.proofs.lines.next_line.Reads as line-reads
use Rattle.listing.specs.contracts.reader.next_row as move
use Rattle.listing.proofs.reader.place_of.Kinds as place-kinds
use Rattle.listing.proofs.reader.place_of.Reads as place-reads
use Rattle.listing.specs.contracts.reader.reader_of as make
use Rattle.listing.proofs.rows.row_turn.Kinds as turn-kinds
use Rattle.listing.proofs.rows.row_turn.Reads as turn-reads
use Rattle.promises.specs.Determined.{Allows}
use Rattle.promises.specs.ReaderSays.{reader_says, turn_says}
use Rattle.promises.specs.Inner.Lent.{Lies}

-- ---- a listing

-- the lines of an accepted section
pub record LinesSay (s : List ℕ) (all : List Line) : Type 0 where
  -- "every function .. in section order, one line each: index, effective start, size", and its block
  pub functions : function_lines all ≡ listed (λ i. function_line_of i (function_in s i)) (function_count s) 0
  -- "every .. row": below a function's line stand its rows, in order and no others
  pub rows : (i : ℕ) → i < function_count s → rows_below i all ≡ (function_in s i).rows
  -- and above the first function's line none
  pub first : rows_ahead all ≡ []

pub record Lists (listing : List ℕ → Listing) : Type 0 where
  -- "A refused section prints the refusal number and index alone."
  pub refuses : (s : List ℕ) (rule : Rule) (index : ℕ) → (listing s ≡ refused (number_of_rule rule) index) ↔ Given s rule index
  pub accepts : (s : List ℕ) → Obeys s → (all : List Line) × (listing s ≡ lines all) × LinesSay s all
  -- nothing of the section's meaning is lost, and nothing else is told
  pub same : (s t : List ℕ) → Obeys s → Obeys t → (listing s ≡ listing t) ↔ (functions_of s ≡ functions_of t)

-- ---- a reader of rows: where it begins on a section and an index, what a call yields, where it then stands, and its place in the section

pub record RowCalls : Type 1 where
  pub Place : Type 0
  pub start : List ℕ → ℕ → Place
  pub next : List ℕ → Place → Option Row
  pub on : List ℕ → Place → Place
  pub at : Place → ℕ

-- there is such a function: the section is accepted, and the index is below the number of its functions
abbrev pub HasRows : List ℕ → ℕ → Type 0
HasRows s i = Obeys s × (i < function_count s)

-- what its calls yield, by their number, from 0 on
pub record YieldsRows (s : List ℕ) (i : ℕ) (yielded : ℕ → Option Row) : Type 0 where
  -- "It must yield each function's rows once each and then say that there are no more.", for ever
  pub rows : HasRows s i → (k : ℕ) → yielded k ≡ next_row (drop k (function_in s i).rows)
  -- where there is no such function it says so from the first call on
  pub none : ¬ HasRows s i → (k : ℕ) → yielded k ≡ None

-- where it stands after k calls
abbrev pub place_after : (calls : RowCalls) → List ℕ → ℕ → ℕ → calls.Place
place_after calls s i k = after (calls.on s) k (calls.start s i)

pub record ReadsRows (calls : RowCalls) : Type 0 where
  pub yields : (s : List ℕ) (i : ℕ) → YieldsRows s i (λ k. calls.next s (place_after calls s i k))
  -- its place never leaves the section
  pub inside : (s : List ℕ) (i k : ℕ) → calls.at (place_after calls s i k) ≤ length s

-- ---- a reader of lines: where it begins, on a section and on one function of it, what a call yields, and where it then stands

pub record LineCalls : Type 1 where
  pub Place : Type 0
  pub start : List ℕ → Place
  pub one : List ℕ → ℕ → Place
  pub next : List ℕ → Place → Option Line
  pub on : List ℕ → Place → Place

-- what its call k yields, from a place on
abbrev pub line_after : (calls : LineCalls) → List ℕ → calls.Place → ℕ → Option Line
line_after calls s place k = calls.next s (after (calls.on s) k place)

pub record ReadsLines (listing : List ℕ → Listing) (calls : LineCalls) : Type 0 where
  -- the lines of the listing once each, and then no more, for ever; none of a refused section
  pub yields : (s : List ℕ) (all : List Line) → listing s ≡ lines all → (k : ℕ) → line_after calls s (calls.start s) k ≡ next_line (drop k all)
  pub none : (s : List ℕ) (number index : ℕ) → listing s ≡ refused number index → (k : ℕ) → line_after calls s (calls.start s) k ≡ None
  -- one function's line and those of its rows, and none where there is no such function
  pub of_one : (s : List ℕ) (i : ℕ) → HasRows s i → (k : ℕ) → line_after calls s (calls.one s i) k ≡ next_line (drop k (lines_of_function i (function_in s i)))
  pub none_of_one : (s : List ℕ) (i : ℕ) → ¬ HasRows s i → (k : ℕ) → line_after calls s (calls.one s i) k ≡ None

-- ---- the contracts

-- calls that answer what the contracts of our functions allow, and nothing else of them is known

pub record KeepsRows (start : List ℕ → ℕ → RowPlace) (turn : List ℕ → RowPlace → RowTurn) : Type 0 where
  pub starts : (κs : Lfts 1) (a : Dens κs place-kinds.ps)
      → Allows place-kinds.ps place-kinds.r place-reads.Learnt κs a (start a.0.now a.1.0) (tt, (tt, tt))
  pub turns : (κs : Lfts 1) (a : Dens κs turn-kinds.ps)
      → Allows turn-kinds.ps turn-kinds.r turn-reads.Learnt κs a (turn a.0.now a.1.0) (tt, (tt, tt))

pub record KeepsLines (start : List ℕ → Cursor) (one : List ℕ → ℕ → Cursor) (turn : List ℕ → Cursor → LineTurn) : Type 0 where
  pub starts : (κs : Lfts 1) (a : Dens κs cursor-kinds.ps)
      → Allows cursor-kinds.ps cursor-kinds.r cursor-reads.Learnt κs a (start a.0.now) (tt, tt)
  pub ones : (κs : Lfts 1) (a : Dens κs one-kinds.ps)
      → Allows one-kinds.ps one-kinds.r one-reads.Learnt κs a (one a.0.now a.1.0) (tt, (tt, tt))
  pub turns : (κs : Lfts 1) (a : Dens κs line-kinds.ps)
      → Allows line-kinds.ps line-kinds.r line-reads.Learnt κs a (turn a.0.now a.1.0) (tt, (tt, tt))

abbrev pub row_calls_of : (List ℕ → ℕ → RowPlace) → (List ℕ → RowPlace → RowTurn) → RowCalls
row_calls_of start turn =
    record {
      Place = RowPlace;
      start = start;
      next = λ s place. (turn s place).next;
      on = λ s place. (turn s place).place;
      at = λ place. place.at;
    }

abbrev pub line_calls_of : (List ℕ → Cursor) → (List ℕ → ℕ → Cursor) → (List ℕ → Cursor → LineTurn) → LineCalls
line_calls_of start one turn =
    record {
      Place = Cursor;
      start = start;
      one = one;
      next = λ s cursor. (turn s cursor).next;
      on = λ s cursor. (turn s cursor).cursor;
    }

abbrev pub RowsPromised : Type 0
RowsPromised = (start : List ℕ → ℕ → RowPlace) (turn : List ℕ → RowPlace → RowTurn) → KeepsRows start turn → ReadsRows (row_calls_of start turn)

abbrev pub LinesPromised : (List ℕ → Listing) → Type 0
LinesPromised listing =
    (start : List ℕ → Cursor) (one : List ℕ → ℕ → Cursor) (turn : List ℕ → Cursor → LineTurn)
    → KeepsLines start one turn
    → ReadsLines listing (line_calls_of start one turn)

-- "a row reader that holds the section's bytes and its place": the readers that the contract of `reader_of` allows first and that of
-- `next_row` then leaves, call after call, and what these calls yield
pub record Called (section : Bor (List ℕ)) (i : ℕ) (readers : ℕ → RowReader) (yielded : ℕ → Option Row) : Type 0 where
  pub within : Lfts 1
  pub during : ℕ → Lfts 2
  pub process : ℕ → Lies
  pub made : reader_says.Learnt within (section, (i, tt)) (readers 0) (at_exit make.ended within (section, (i, tt)) (tt, (tt, tt)))
  pub turns : (k : ℕ)
      → turn_says.Learnt (during k) (record { ref_ptr = (process k).place; ghost_name = (process k).name; now = readers k }, tt) (yielded k)
      (at_exit move.ended (during k) (record { ref_ptr = (process k).place; ghost_name = (process k).name; now = readers k }, tt) (readers (suc k), tt))

pub record ReaderReads (section : Bor (List ℕ)) (i : ℕ) (readers : ℕ → RowReader) (yielded : ℕ → Option Row) : Type 0 where
  pub yields : YieldsRows section.now i yielded
  pub holds : (k : ℕ) → (readers k).section ≡ section
  pub inside : (k : ℕ) → (readers k).place.at ≤ length section.now

abbrev pub ReaderPromised : Type 0
ReaderPromised =
    (section : Bor (List ℕ)) (i : ℕ) (readers : ℕ → RowReader) (yielded : ℕ → Option Row)
    → Called section i readers yielded
    → ReaderReads section i readers yielded
