-- What is promised of the rows of a function, one at a time, holds of every two calls that keep the contracts of our exported functions: a
-- turn takes the first of the rows that are left, and those that are left where the reader begins are the function's. It holds of no
-- other two: calls that meet it answer alike, on every input.
-- Assumes nothing.
use mathlib.Core.Path.{◌≡◌, refl, sym, ◌∙◌, ap, subst, fun_ext}
use mathlib.Core.Bool.{Bool, true, false, false≢true}
use mathlib.Core.List.{List, [], ◌∷◌}
use Prim.Native.Nat.{ℕ, ◌<◌}
use native.Mathlib.Omega.{arith}
use lib.Dec.{ltb}
use lib.ListN.{drop}
use lib.Seq.{drop-nil}
use borrow.Author.Tests.{ltb-true, lt-ltb}
use Rattle.std.specs.Prelude.{Option, Some, None}
use Rattle.section.specs.Header.{layout_of}
use Rattle.section.specs.Meaning.{function_in}
use Rattle.section.specs.Row.{row_of}
use Rattle.section.specs.Shape.{shape}
use Rattle.section.specs.declared.row.Row.{Row}
use Rattle.accept.specs.Rules.{function_count, Obeys}
use Rattle.accept.specs.Computed.Checks.{header_fault}
use Rattle.accept.specs.Fault.{Fault, Sound, Breaks}
use Rattle.accept.proofs.Exactly.{header_exactly_when}
use Rattle.accept.proofs.HeaderLaws.{breaks_not_obeys}
use Rattle.listing.specs.Described.{Described, Unknown, Function}
use Rattle.listing.specs.Functions.{rows_place, facts_of, described_in, described_by, described_of}
use Rattle.listing.specs.Listing.{next_row}
use Rattle.listing.specs.Computed.Reader.{place_in}
use Rattle.listing.specs.Computed.Turns.{has_row, passed, ended, nothing_left, row_turn, rows_from, rows_left}
use Rattle.listing.specs.declared.rows.RowPlace.{RowPlace}
use Rattle.listing.specs.declared.rows.RowTurn.{RowTurn}
use Rattle.listing.proofs.AfterLaws.{left_after}
use Rattle.listing.proofs.RowMeaning.{function_rows}
use Rattle.listing.proofs.RowsLeft.{turn_yields}
use Rattle.suntimpani.specs.FlatRows.{flat_place, flat_next, flat_yield, flat_turn}
use Rattle.suntimpani.specs.Read.{read_rows, read_next, read_turn}
use Rattle.suntimpani.specs.declared.rows.RowInC.{RowInC}
use Rattle.suntimpani.specs.declared.rows.RowsInC.{RowsInC}
use Rattle.suntimpani.proofs.Lossless.{place_read_back, turn_read_back}
use Rattle.promises.specs.FunctionCall.{HasFunction}
use Rattle.promises.specs.RowsCall.{FlatRowCalls, exported_rows, rest_after, row_told, NextTold, TellsRows, KeepsFlatRows, FlatRowsPromised}
use Rattle.promises.specs.Inner.Lent.{lent}
use Rattle.promises.proofs.ContractLaws.{somewhere}

-- ---- whether there is a row is what the struct says

abbrev more_of : Option Row → ℕ
more_of (Some row) = 1
more_of None = 0

more_is : (turn : RowTurn) → (flat_turn turn).more ≡ more_of turn.next
unfolding flat_turn flat_yield flat_next
more_is turn = by turn.next
  where
    by : (next : Option Row) → (flat_yield next turn.place).more ≡ more_of next
    by (Some row) = refl
    by None = refl

-- the list is empty where nothing is yielded
none_left : (rows : List Row) → more_of (next_row rows) ≡ 0 → rows ≡ []
unfolding next_row
none_left [] none = refl
none_left (first ∷ rest) none = absurd (omega (arith, none))

-- ---- where a turn leaves the reader

abbrev turn_by : List ℕ → RowPlace → Bool → RowTurn
turn_by s place there =
    elim there [
      | true ↦ record { next = Some (row_of s (shape place.abi) place.code place.at); place = passed s place }
      | false ↦ record { next = None; place = ended place }
    ]

abbrev stands : List ℕ → RowPlace → Option Row → RowPlace
stands s place (Some row) = passed s place
stands s place None = ended place

turn_stands : (s : List ℕ) (place : RowPlace) → (row_turn s place).place ≡ stands s place (row_turn s place).next
unfolding row_turn
turn_stands s place = by (has_row s place)
  where
    by : (there : Bool) → (turn_by s place there).place ≡ stands s place (turn_by s place there).next
    by true = refl
    by false = refl

-- ---- one call

module _ (s : List ℕ) (rows : RowsInC) where
  unfoldable told : RowTurn
  told = row_turn s (read_rows rows)

  answer-is : exported_rows.next s rows ≡ flat_turn told
  unfolding exported_rows told
  answer-is = refl

  read_back : read_turn (exported_rows.next s rows) ≡ told
  read_back = ap read_turn answer-is ∙ turn_read_back told

  rest-is : (exported_rows.next s rows).rest ≡ flat_place told.place
  unfolding flat_turn flat_yield flat_next
  rest-is = ap (λ (answer : RowInC). answer.rest) answer-is ∙ by told.next
    where
      by : (next : Option Row) → (flat_yield next told.place).rest ≡ flat_place told.place
      by (Some row) = refl
      by None = refl

  leaves : (next : Option Row) → read_next (exported_rows.next s rows) ≡ next → (exported_rows.next s rows).rest ≡ flat_place (stands s (read_rows rows) next)
  unfolding told read_turn
  leaves next is =
      let same = sym (ap (λ (turn : RowTurn). turn.next) read_back) ∙ is in
      rest-is ∙ ap flat_place (turn_stands s (read_rows rows) ∙ ap (stands s (read_rows rows)) same)

  next-told : NextTold s rows (exported_rows.next s rows)
  unfolding told read_turn
  next-told =
      let yields = turn_yields s (read_rows rows) in
      record {
        first = ap (λ (turn : RowTurn). turn.next) read_back ∙ yields.next;
        others = ap (λ (turn : RowTurn). rows_left s turn.place) read_back ∙ yields.rest;
        past_row = λ row. leaves (Some row);
        at_end = leaves None;
        flattened = answer-is ∙ ap flat_turn (sym read_back);
      }

  more-told : (exported_rows.next s rows).more ≡ more_of (next_row (rows_left s (read_rows rows)))
  unfolding told
  more-told = ap (λ (answer : RowInC). answer.more) answer-is ∙ more_is told ∙ ap more_of (turn_yields s (read_rows rows)).next

  no_more : rows_left s (read_rows rows) ≡ [] → (exported_rows.next s rows).more ≡ 0
  unfolding next_row
  no_more none = more-told ∙ ap (λ left. more_of (next_row left)) none

none_after_told : (s : List ℕ) (rows : RowsInC) → (exported_rows.next s rows).more ≡ 0
    → (exported_rows.next s (exported_rows.next s rows).rest).more ≡ 0
none_after_told s rows none =
    no_more s (exported_rows.next s rows).rest
    ((next-told s rows).others ∙ ap (drop 1) (none_left (rows_left s (read_rows rows)) (sym (more-told s rows) ∙ none)))

-- ---- one call after the other: so many rows are gone

left_past : (s : List ℕ) (k : ℕ) (rows : RowsInC)
    → rows_left s (read_rows (rest_after exported_rows s k rows)) ≡ drop k (rows_left s (read_rows rows))
left_past s k rows =
    left_after (λ (from : RowsInC). (exported_rows.next s from).rest) (λ (from : RowsInC). rows_left s (read_rows from)) (λ from. (next-told s from).others) k rows

-- ---- where the reader begins

has_or_not : (s : List ℕ) (index : ℕ) → Dec (HasFunction s index)
unfolding function_count
has_or_not s index = by (header_fault s) refl
  where
    inside : header_fault s ≡ Sound → (b : Bool) → ltb index (layout_of s).functions ≡ b → Dec (HasFunction s index)
    inside sound true is = yes ((header_exactly_when s).0 sound, ltb-true _ _ is)
    inside sound false is = no (λ has. false≢true (sym is ∙ lt-ltb _ _ has.1))

    by : (fault : Fault) → header_fault s ≡ fault → Dec (HasFunction s index)
    by Sound is = inside is (ltb index (layout_of s).functions) refl
    by (Breaks number) is = no (λ has. breaks_not_obeys s number is has.0)

module _ (s : List ℕ) (index : ℕ) where
  abbrev by_test : Bool → Described
  by_test below = elim below [ true ↦ Function (facts_of s index) | false ↦ Unknown ]

  begin-by : {fault : Fault} → header_fault s ≡ fault → exported_rows.begin s index ≡ flat_place (place_in (described_by fault s index))
  unfolding exported_rows described_of
  begin-by is = ap (λ fault. flat_place (place_in (described_by fault s index))) is

  begins : HasFunction s index → exported_rows.begin s index ≡ flat_place (rows_place s index)
  unfolding described_by described_in place_in facts_of function_count
  begins has =
      begin-by ((header_exactly_when s).1 has.0) ∙ ap (λ b. flat_place (place_in (by_test b))) (lt-ltb index (layout_of s).functions has.1)

  begins-nowhere : ¬ HasFunction s index → exported_rows.begin s index ≡ flat_place nothing_left
  unfolding described_by described_in place_in function_count
  begins-nowhere hasnt = by (header_fault s) refl
    where
      inside : header_fault s ≡ Sound → (b : Bool) → ltb index (layout_of s).functions ≡ b → exported_rows.begin s index ≡ flat_place nothing_left
      inside sound true is = absurd (hasnt ((header_exactly_when s).0 sound, ltb-true _ _ is))
      inside sound false is = begin-by sound ∙ ap (λ b. flat_place (place_in (by_test b))) is

      by : (fault : Fault) → header_fault s ≡ fault → exported_rows.begin s index ≡ flat_place nothing_left
      by Sound is = inside is (ltb index (layout_of s).functions) refl
      by (Breaks number) is = begin-by is

  -- the rows that are left before call k
  left-before : (k : ℕ) (place : RowPlace) → exported_rows.begin s index ≡ flat_place place
      → rows_left s (read_rows (rest_after exported_rows s k (exported_rows.begin s index))) ≡ drop k (rows_left s place)
  left-before k place is =
      left_past s k (exported_rows.begin s index)
      ∙ ap (λ (rows : RowsInC). drop k (rows_left s (read_rows rows))) is
      ∙ ap (λ (from : RowPlace). drop k (rows_left s from)) (place_read_back place)

  rows_told : Obeys s → index < function_count s → (k : ℕ) → read_next (row_told exported_rows s index k) ≡ next_row (drop k (function_in s index).rows)
  unfolding row_told
  rows_told obeys known k =
      (next-told s (rest_after exported_rows s k (exported_rows.begin s index))).first
      ∙ ap next_row (left-before k (rows_place s index) (begins (obeys.header, known)) ∙ ap (drop k) (function_rows s obeys index known))

  no-rows-told : ¬ HasFunction s index → (k : ℕ) → (row_told exported_rows s index k).more ≡ 0
  unfolding row_told rows_left rows_from nothing_left
  no-rows-told hasnt k =
      no_more s (rest_after exported_rows s k (exported_rows.begin s index)) (left-before k nothing_left (begins-nowhere hasnt) ∙ drop-nil {A = Row} k)

-- ---- so they meet what is promised

pub exported_rows_told : TellsRows exported_rows
exported_rows_told =
    record {
      begun = begins;
      unbegun = begins-nowhere;
      next = next-told;
      none_after = none_after_told;
      told = λ s obeys index. rows_told s index obeys;
      untold = no-rows-told;
    }

-- ---- the contracts

pub exported_rows_kept : KeepsFlatRows exported_rows
unfolding exported_rows
exported_rows_kept = record { begin = λ κs a. refl; next = λ κs a. refl }

-- calls that keep them are ours
kept_are_exported : (calls : FlatRowCalls) → KeepsFlatRows calls → calls ≡ exported_rows
unfolding exported_rows
kept_are_exported calls keeps i =
    record {
      begin = (fun_ext λ s. fun_ext λ index. keeps.begin ([], tt) (lent somewhere s, (index, tt))) i;
      next = (fun_ext λ s. fun_ext λ rows. keeps.next ([], tt) (lent somewhere s, (rows, tt))) i;
    }

pub exported_rows_promised : FlatRowsPromised
exported_rows_promised calls keeps = subst TellsRows (sym (kept_are_exported calls keeps)) exported_rows_told

-- ---- and no other two calls meet it

module _ (one other : FlatRowCalls) (first : TellsRows one) (second : TellsRows other) (s : List ℕ) where
  begun-alike : (index : ℕ) → one.begin s index ≡ other.begin s index
  begun-alike index = by (has_or_not s index)
    where
      by : Dec (HasFunction s index) → one.begin s index ≡ other.begin s index
      by (yes has) = first.begun s index has ∙ sym (second.begun s index has)
      by (no hasnt) = first.unbegun s index hasnt ∙ sym (second.unbegun s index hasnt)

  module _ (rows : RowsInC) where
    next-alike : read_next (one.next s rows) ≡ read_next (other.next s rows)
    next-alike = (first.next s rows).first ∙ sym (second.next s rows).first

    rest-alike : (one.next s rows).rest ≡ (other.next s rows).rest
    rest-alike = by (read_next (one.next s rows)) refl
      where
        by : (next : Option Row) → read_next (one.next s rows) ≡ next → (one.next s rows).rest ≡ (other.next s rows).rest
        by (Some row) is = (first.next s rows).past_row row is ∙ sym ((second.next s rows).past_row row (sym next-alike ∙ is))
        by None is = (first.next s rows).at_end is ∙ sym ((second.next s rows).at_end (sym next-alike ∙ is))

    turn-alike : read_turn (one.next s rows) ≡ read_turn (other.next s rows)
    unfolding read_turn
    turn-alike i = record { next = next-alike i; place = read_rows (rest-alike i) }

    told-alike : one.next s rows ≡ other.next s rows
    told-alike = (first.next s rows).flattened ∙ ap flat_turn turn-alike ∙ sym (second.next s rows).flattened

pub rows_ours_alone : (calls : FlatRowCalls) → TellsRows calls → calls ≡ exported_rows
rows_ours_alone calls tells i =
    record {
      begin = (fun_ext λ s. fun_ext λ index. begun-alike calls exported_rows tells exported_rows_told s index) i;
      next = (fun_ext λ s. fun_ext λ rows. told-alike calls exported_rows tells exported_rows_told s rows) i;
    }
