-- Every public function of `listing` determines its reply: two replies that its own contract allows for one input are equal. A row
-- reader is what it holds, the section and its place; `next_row` determines its reply and the reader that it leaves.
-- Assumes nothing.
use mathlib.Core.Path.{refl, sym, ◌∙◌, ap}
use Rattle.listing.proofs.function.facts_at.Kinds as facts_at-kinds
use Rattle.listing.proofs.function.facts_at.Reads as facts_at-reads
use Rattle.listing.proofs.function.function_at.Kinds as function_at-kinds
use Rattle.listing.proofs.function.function_at.Reads as function_at-reads
use Rattle.listing.proofs.lines.cursor_at.Kinds as cursor_at-kinds
use Rattle.listing.proofs.lines.cursor_at.Reads as cursor_at-reads
use Rattle.listing.proofs.lines.cursor_of.Kinds as cursor_of-kinds
use Rattle.listing.proofs.lines.cursor_of.Reads as cursor_of-reads
use Rattle.listing.proofs.lines.cursor_over.Kinds as cursor_over-kinds
use Rattle.listing.proofs.lines.cursor_over.Reads as cursor_over-reads
use Rattle.listing.proofs.lines.next_line.Kinds as next_line-kinds
use Rattle.listing.proofs.lines.next_line.Reads as next_line-reads
use Rattle.listing.specs.contracts.reader.next_row as next_row
use Rattle.listing.proofs.reader.place_in.Kinds as place_in-kinds
use Rattle.listing.proofs.reader.place_in.Reads as place_in-reads
use Rattle.listing.proofs.reader.place_of.Kinds as place_of-kinds
use Rattle.listing.proofs.reader.place_of.Reads as place_of-reads
use Rattle.listing.specs.contracts.reader.reader_of as reader_of
use Rattle.listing.proofs.rows.ended_at.Kinds as ended_at-kinds
use Rattle.listing.proofs.rows.ended_at.Reads as ended_at-reads
use Rattle.listing.proofs.rows.nowhere.Kinds as nowhere-kinds
use Rattle.listing.proofs.rows.nowhere.Reads as nowhere-reads
use Rattle.listing.proofs.rows.row_turn.Kinds as row_turn-kinds
use Rattle.listing.proofs.rows.row_turn.Reads as row_turn-reads
use Rattle.listing.specs.declared.rows.RowTurn.{RowTurn}
use Rattle.listing.proofs.ToldLaws.{described_told_once}
use Rattle.promises.specs.ByClauses.{DeterminedBy}
use Rattle.promises.specs.Determined.{Determined}
use Rattle.promises.specs.ReaderSays.{reader_clauses, turn_clauses, reader_says, turn_says}

pub function_at_determined : Determined function_at-kinds.ps function_at-kinds.r function_at-reads.Learnt
function_at_determined κs a z z' w w' p q = (described_told_once _ _ (p ∙ sym q), refl)

pub facts_at_determined : Determined facts_at-kinds.ps facts_at-kinds.r facts_at-reads.Learnt
facts_at_determined κs a z z' w w' p q = (p ∙ sym q, refl)

pub nowhere_determined : Determined nowhere-kinds.ps nowhere-kinds.r nowhere-reads.Learnt
nowhere_determined κs a z z' w w' p q = (p ∙ sym q, refl)

pub ended_at_determined : Determined ended_at-kinds.ps ended_at-kinds.r ended_at-reads.Learnt
ended_at_determined κs a z z' w w' p q = (p ∙ sym q, refl)

pub row_turn_determined : Determined row_turn-kinds.ps row_turn-kinds.r row_turn-reads.Learnt
row_turn_determined κs a z z' w w' p q = (p ∙ sym q, refl)

pub cursor_over_determined : Determined cursor_over-kinds.ps cursor_over-kinds.r cursor_over-reads.Learnt
cursor_over_determined κs a z z' w w' p q = (p ∙ sym q, refl)

pub cursor_of_determined : Determined cursor_of-kinds.ps cursor_of-kinds.r cursor_of-reads.Learnt
cursor_of_determined κs a z z' w w' p q = (p ∙ sym q, refl)

pub cursor_at_determined : Determined cursor_at-kinds.ps cursor_at-kinds.r cursor_at-reads.Learnt
cursor_at_determined κs a z z' w w' p q = (p ∙ sym q, refl)

pub next_line_determined : Determined next_line-kinds.ps next_line-kinds.r next_line-reads.Learnt
next_line_determined κs a z z' w w' p q = (p ∙ sym q, refl)

pub place_of_determined : Determined place_of-kinds.ps place_of-kinds.r place_of-reads.Learnt
place_of_determined κs a z z' w w' p q = (p ∙ sym q, refl)

-- ---- what has a reader: a reader is what it holds, so that two with equal parts are equal

pub reader_of_determined : DeterminedBy reader_of.ended reader_clauses
reader_of_determined =
    record {
      says = reader_says;
      determined = λ κs a z z' w w' p q. (λ i. record { section = (p.0 ∙ sym q.0) i; place = (p.1 ∙ sym q.1) i }, refl);
    }

pub next_row_determined : DeterminedBy next_row.ended turn_clauses
next_row_determined =
    record {
      says = turn_says;
      determined = λ κs a z z' w w' p q.
          let turn = p.1 ∙ sym q.1 in
          (ap (λ (t : RowTurn). t.next) turn, λ i. (record { section = (p.0 ∙ sym q.0) i; place = (turn i).place }, tt));
    }

pub place_in_determined : Determined place_in-kinds.ps place_in-kinds.r place_in-reads.Learnt
place_in_determined κs a z z' w w' p q = (p ∙ sym q, refl)
