-- What is promised of a listing, and of readers of rows and of lines, holds of `listing_of`, and of every reader that keeps the contracts of
-- our functions.
-- Assumes nothing.
use mathlib.Core.Path.{◌≡◌, refl, sym, ◌∙◌, ap, subst, fun_ext}
use mathlib.Core.Bool.{Bool, true, false, false≢true}
use mathlib.Core.List.{List, []}
use mathlib.Core.Logic.{◌⊎◌, ◌↔◌, inl, inr, ⊎_elim}
use Prim.Native.Nat.{ℕ, zero, suc, ◌≤◌}
use native.Mathlib.Omega.{arith}
use lib.Dec.{ltb}
use lib.ListN.{length, drop}
use lib.Seq.{drop-nil}
use borrow.Author.Tests.{ltb-true, ltb-false, lt-ltb}
use denote.Ref.{Bor}
use Rattle.section.specs.declared.row.Row.{Row}
use Rattle.std.specs.Prelude.{Option, None}
use Rattle.section.specs.Meaning.{function_in, functions_of}
use Rattle.accept.specs.Given.{number_of_rule}
use Rattle.accept.specs.Rules.{function_count, Obeys}
use Rattle.accept.specs.Computed.Checks.{verdict}
use Rattle.accept.specs.Verdict.{Verdict, Accepted, Refused}
use Rattle.accept.proofs.Exactly.{accepted_exactly_when, given_exactly_when}
use Rattle.listing.specs.Listing.{refused, lines, lines_of, listing_by, listing_of, next_row, next_line, after}
use Rattle.listing.specs.Computed.Lines.{line_turn, cursor_of, cursor_at, lines_left}
use Rattle.listing.specs.Computed.Reader.{place_of}
use Rattle.listing.specs.Computed.Turns.{nothing_left, row_turn}
use Rattle.listing.specs.declared.lines.Line.{Line}
use Rattle.listing.specs.declared.reader.RowReader.{RowReader}
use Rattle.listing.specs.declared.rows.RowPlace.{RowPlace}
use Rattle.listing.specs.declared.rows.RowTurn.{RowTurn}
use Rattle.listing.proofs.AfterLaws.{row_after, inside_after, line_after_lem}
use Rattle.listing.proofs.ListingLaws.{cursor_lines, cursor_refused, at_lines, at_past, at_refused}
use Rattle.listing.proofs.PlaceLaws.{place_past, place_refused, rows_left_lem, none_left, is_inside, nowhere_inside}
use Rattle.listing.proofs.ReadBack.{lines_once, rows_below_lem, none_ahead, same_functions}
use Rattle.promises.specs.ListingCall.{LinesSay, Lists, HasRows, YieldsRows, ReadsRows, ReadsLines, KeepsRows, KeepsLines, row_calls_of, line_calls_of, RowsPromised, LinesPromised, Called, ReaderReads, ReaderPromised}
use Rattle.promises.specs.Computed.OurReaders.{our_rows, our_lines}
use Rattle.promises.specs.Inner.Lent.{lent}
use Rattle.promises.proofs.ContractLaws.{somewhere}

-- ---- where there is a function: accepted, and the index below the number of functions; or one of the two is not so

pub record Without (s : List ℕ) (i : ℕ) : Type 0 where
  pub nowhere : place_of s i ≡ nothing_left
  pub cursor : lines_left s (cursor_at s i) ≡ []
  pub not : ¬ HasRows s i

refused_obeys_not : (s : List ℕ) (number index : ℕ) → verdict s ≡ Refused number index → ¬ Obeys s
refused_obeys_not s number index e obeys =
    let is : Accepted ≡ Refused number index = sym ((accepted_exactly_when s).1 obeys) ∙ e in
    let z : ◌≡◌ {A = ℕ} 0 1 = cc in
    omega arith

pub with_or_without : (s : List ℕ) (i : ℕ) → HasRows s i ⊎ Without s i
with_or_without s i = by (verdict s) refl
  where
    below : verdict s ≡ Accepted → (b : Bool) → ltb i (function_count s) ≡ b → HasRows s i ⊎ Without s i
    below e true is = inl ((accepted_exactly_when s).0 e, ltb-true _ _ is)
    below e false is =
        let obeys = (accepted_exactly_when s).0 e in
        let past = ltb-false i (function_count s) is in
        inr (record { nowhere = place_past s obeys i past; cursor = at_past s e i past; not = λ has. false≢true (sym is ∙ lt-ltb _ _ has.1) })

    by : (v : Verdict) → verdict s ≡ v → HasRows s i ⊎ Without s i
    by Accepted e = below e (ltb i (function_count s)) refl
    by (Refused number index) e =
        inr (record { nowhere = place_refused s number index e i; cursor = at_refused s number index e i; not = λ has. refused_obeys_not s number index e has.0 })

-- where there is none
without : (s : List ℕ) (i : ℕ) → ¬ HasRows s i → Without s i
without s i none = ⊎_elim (λ has. absurd (none has)) (λ w. w) (with_or_without s i)

-- ---- nothing is left of nothing

no_row : {rows : List _} (k : ℕ) → rows ≡ [] → next_row (drop k rows) ≡ None
unfolding next_row
no_row k none = ap (λ rows. next_row (drop k rows)) none ∙ ap next_row (drop-nil k)

no_line : {all : List Line} (k : ℕ) → all ≡ [] → next_line (drop k all) ≡ None
unfolding next_line
no_line k none = ap (λ all. next_line (drop k all)) none ∙ ap next_line (drop-nil k)

-- ---- our reader of rows

rows_yielded : (s : List ℕ) (i : ℕ) → YieldsRows s i (λ k. (row_turn s (after (λ p. (row_turn s p).place) k (place_of s i))).next)
rows_yielded s i =
    record {
      rows = λ has k. row_after s (place_of s i) k ∙ ap (λ rows. next_row (drop k rows)) (rows_left_lem s has.0 i has.1);
      none = λ hasnt k. row_after s (place_of s i) k ∙ no_row k (none_left s i (without s i hasnt).nowhere);
    }

begins : (s : List ℕ) (i : ℕ) → (place_of s i).at ≤ length s
begins s i = ⊎_elim (λ has. is_inside s has.0 i has.1) (λ w. nowhere_inside s i w.nowhere) (with_or_without s i)

pub reads_rows : ReadsRows our_rows
reads_rows = record { yields = rows_yielded; inside = λ s i k. inside_after s (place_of s i) (begins s i) k }

-- ---- our reader of lines

listed_accepted : (s : List ℕ) → Obeys s → listing_of s ≡ lines (lines_of 0 (functions_of s))
unfolding listing_of listing_by
listed_accepted s obeys = ap (λ v. listing_by v (functions_of s)) ((accepted_exactly_when s).1 obeys)

listed_refused : (s : List ℕ) (number index : ℕ) → verdict s ≡ Refused number index → listing_of s ≡ refused number index
unfolding listing_of listing_by
listed_refused s number index e = ap (λ v. listing_by v (functions_of s)) e

lines_same : {all other : List Line} → lines all ≡ lines other → all ≡ other
lines_same e = cc

refused_lines_not : {number index : ℕ} {all : List Line} → refused number index ≡ lines all → ⊥
refused_lines_not e = let z : ◌≡◌ {A = ℕ} 0 1 = cc in omega arith

all_left : (s : List ℕ) (all : List Line) → listing_of s ≡ lines all → lines_left s (cursor_of s) ≡ all
all_left s all is = by (verdict s) refl
  where
    by : (v : Verdict) → verdict s ≡ v → lines_left s (cursor_of s) ≡ all
    by Accepted e = cursor_lines s e ∙ lines_same (sym (listed_accepted s ((accepted_exactly_when s).0 e)) ∙ is)
    by (Refused number index) e = absurd (refused_lines_not (sym (listed_refused s number index e) ∙ is))

none_refused : (s : List ℕ) (number index : ℕ) → listing_of s ≡ refused number index → lines_left s (cursor_of s) ≡ []
none_refused s number index is = by (verdict s) refl
  where
    by : (v : Verdict) → verdict s ≡ v → lines_left s (cursor_of s) ≡ []
    by Accepted e = absurd (refused_lines_not (sym is ∙ listed_accepted s ((accepted_exactly_when s).0 e)))
    by (Refused other at) e = cursor_refused s other at e

pub reads_lines : ReadsLines listing_of our_lines
reads_lines =
    record {
      yields = λ s all is k. line_after_lem s (cursor_of s) k ∙ ap (λ left. next_line (drop k left)) (all_left s all is);
      none = λ s number index is k. line_after_lem s (cursor_of s) k ∙ no_line k (none_refused s number index is);
      of_one = λ s i has k.
          line_after_lem s (cursor_at s i) k
          ∙ ap (λ left. next_line (drop k left)) (at_lines s ((accepted_exactly_when s).1 has.0) i has.1);
      none_of_one = λ s i hasnt k. line_after_lem s (cursor_at s i) k ∙ no_line k (without s i hasnt).cursor;
    }

-- ---- the listing

lines_say : (s : List ℕ) → LinesSay s (lines_of 0 (functions_of s))
unfolding functions_of function_count
lines_say s =
    record {
      functions = lines_once (function_in s) (function_count s) 0;
      rows = λ i lt. rows_below_lem (function_in s) (function_count s) 0 i (omega arith) (omega arith);
      first = none_ahead 0 (functions_of s);
    }

refused_same : {number index other at : ℕ} → refused number index ≡ refused other at → Refused number index ≡ Refused other at
refused_same e = cc

refuses_exactly : (s : List ℕ) (number index : ℕ) → (listing_of s ≡ refused number index) ↔ (verdict s ≡ Refused number index)
refuses_exactly s number index = (λ is. by is (verdict s) refl, listed_refused s number index)
  where
    by : listing_of s ≡ refused number index → (v : Verdict) → verdict s ≡ v → verdict s ≡ Refused number index
    by is Accepted e = absurd (refused_lines_not (sym is ∙ listed_accepted s ((accepted_exactly_when s).0 e)))
    by is (Refused other at) e = e ∙ refused_same (sym (listed_refused s other at e) ∙ is)

same_exactly : (s t : List ℕ) → Obeys s → Obeys t → (listing_of s ≡ listing_of t) ↔ (functions_of s ≡ functions_of t)
same_exactly s t os ot =
    let both = same_functions 0 (functions_of s) (functions_of t) in (
      λ is. both.0 (lines_same (sym (listed_accepted s os) ∙ is ∙ listed_accepted t ot)),
      λ is. listed_accepted s os ∙ ap lines (both.1 is) ∙ sym (listed_accepted t ot),
    )

pub listing_lists : Lists listing_of
listing_lists =
    record {
      refuses = λ s rule index. (
        λ is. (given_exactly_when s rule index).0 ((refuses_exactly s (number_of_rule rule) index).0 is),
        λ given. (refuses_exactly s (number_of_rule rule) index).1 ((given_exactly_when s rule index).1 given),
      );
      accepts = λ s obeys. (lines_of 0 (functions_of s), listed_accepted s obeys, lines_say s);
      same = same_exactly;
    }

-- ---- the contracts

pub rows_kept : KeepsRows place_of row_turn
rows_kept = record { starts = λ κs a. refl; turns = λ κs a. refl }

pub lines_kept : KeepsLines cursor_of cursor_at line_turn
lines_kept = record { starts = λ κs a. refl; ones = λ κs a. refl; turns = λ κs a. refl }

pub rows_promised : RowsPromised
rows_promised start turn keeps =
    let starts : start ≡ place_of = fun_ext λ s. fun_ext λ i. keeps.starts ([], tt) (lent somewhere s, (i, tt)) in
    let turns : turn ≡ row_turn = fun_ext λ s. fun_ext λ place. keeps.turns ([], tt) (lent somewhere s, (place, tt)) in
    subst (λ begin. ReadsRows (row_calls_of begin turn)) (sym starts) (subst (λ move. ReadsRows (row_calls_of place_of move)) (sym turns) reads_rows)

pub lines_promised : LinesPromised listing_of
lines_promised start one turn keeps =
    let starts : start ≡ cursor_of = fun_ext λ s. keeps.starts ([], tt) (lent somewhere s, tt) in
    let ones : one ≡ cursor_at = fun_ext λ s. fun_ext λ i. keeps.ones ([], tt) (lent somewhere s, (i, tt)) in
    let turns : turn ≡ line_turn = fun_ext λ s. fun_ext λ cursor. keeps.turns ([], tt) (lent somewhere s, (cursor, tt)) in
    subst (λ begin. ReadsLines listing_of (line_calls_of begin one turn)) (sym starts)
    (subst (λ at. ReadsLines listing_of (line_calls_of cursor_of at turn)) (sym ones)
    (subst (λ move. ReadsLines listing_of (line_calls_of cursor_of cursor_at move)) (sym turns) reads_lines))

-- ---- the row reader: after k calls it holds the section, and stands where ours does

module _ (section : Bor (List ℕ)) (i : ℕ) (readers : ℕ → RowReader) (yielded : ℕ → Option Row) (called : Called section i readers yielded) where
  holds : (k : ℕ) → (readers k).section ≡ section
  holds zero = called.made.0
  holds (suc k) = (called.turns k).0 ∙ holds k

  abbrev there : ℕ → RowPlace
  there k = after (λ p. (row_turn section.now p).place) k (place_of section.now i)

  stands : (k : ℕ) → (readers k).place ≡ there k
  unfolding after
  stands zero = called.made.1
  stands (suc k) =
      let turn = (called.turns k).1 in
      let moved : (readers (suc k)).place ≡ (row_turn (readers k).section.now (readers k).place).place = ap (λ (t : RowTurn). t.place) turn in
      moved ∙ ap (λ held. (row_turn held.now (readers k).place).place) (holds k) ∙ ap (λ place. (row_turn section.now place).place) (stands k)

  yields : (k : ℕ) → yielded k ≡ (row_turn section.now (there k)).next
  yields k =
      let turn = (called.turns k).1 in
      let next : yielded k ≡ (row_turn (readers k).section.now (readers k).place).next = ap (λ (t : RowTurn). t.next) turn in
      next ∙ ap (λ held. (row_turn held.now (readers k).place).next) (holds k) ∙ ap (λ place. (row_turn section.now place).next) (stands k)

  reader-reads : ReaderReads section i readers yielded
  reader-reads =
      record {
        yields =
            record {
              rows = λ has k. yields k ∙ (rows_yielded section.now i).rows has k;
              none = λ hasnt k. yields k ∙ (rows_yielded section.now i).none hasnt k;
            };
        holds = holds;
        inside = λ k. rw (stands k) (inside_after section.now (place_of section.now i) (begins section.now i) k);
      }

pub reader_promised : ReaderPromised
reader_promised = reader-reads

-- and there are such calls, on every section and index: it is not said of nothing
abbrev our_readers : Bor (List ℕ) → ℕ → ℕ → RowReader
our_readers section i k = record { section = section; place = after (λ p. (row_turn section.now p).place) k (place_of section.now i) }

pub reader_called : (section : Bor (List ℕ)) (i : ℕ)
    → Called section i (our_readers section i) (λ k. (row_turn section.now (our_readers section i k).place).next)
unfolding after
reader_called section i =
    record {
      within = ([], tt);
      during = λ k. ([], ([], tt));
      process = λ k. somewhere;
      made = (refl, refl);
      turns = λ k. (refl, refl);
    }
