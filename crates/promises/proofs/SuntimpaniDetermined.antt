-- Every public function of `suntimpani` determines its reply and the words left in the lent buffer: two replies that its own contract allows
-- for one input are equal, and so are the words.
-- Assumes nothing.
use mathlib.Core.Path.{refl, sym, ◌∙◌, ap}
use Rattle.suntimpani.specs.Flat.{handed_as}
use Rattle.suntimpani.proofs.asks.flat_asked.Kinds as flat_asked-kinds
use Rattle.suntimpani.proofs.asks.flat_asked.Reads as flat_asked-reads
use Rattle.suntimpani.proofs.flat.base_number.Kinds as base_number-kinds
use Rattle.suntimpani.proofs.flat.base_number.Reads as base_number-reads
use Rattle.suntimpani.proofs.flat.empty_row.Kinds as empty_row-kinds
use Rattle.suntimpani.proofs.flat.empty_row.Reads as empty_row-reads
use Rattle.suntimpani.proofs.flat.flag_of.Kinds as flag_of-kinds
use Rattle.suntimpani.proofs.flat.flag_of.Reads as flag_of-reads
use Rattle.suntimpani.proofs.flat.flat_answer.Kinds as flat_answer-kinds
use Rattle.suntimpani.proofs.flat.flat_answer.Reads as flat_answer-reads
use Rattle.suntimpani.proofs.flat.flat_row.Kinds as flat_row-kinds
use Rattle.suntimpani.proofs.flat.flat_row.Reads as flat_row-reads
use Rattle.suntimpani.proofs.flat.flat_verdict.Kinds as flat_verdict-kinds
use Rattle.suntimpani.proofs.flat.flat_verdict.Reads as flat_verdict-reads
use Rattle.suntimpani.proofs.flat.place_kind.Kinds as place_kind-kinds
use Rattle.suntimpani.proofs.flat.place_kind.Reads as place_kind-reads
use Rattle.suntimpani.proofs.flat.place_offset.Kinds as place_offset-kinds
use Rattle.suntimpani.proofs.flat.place_offset.Reads as place_offset-reads
use Rattle.suntimpani.proofs.functions.flat_function.Kinds as flat_function-kinds
use Rattle.suntimpani.proofs.functions.flat_function.Reads as flat_function-reads
use Rattle.suntimpani.proofs.rows.flat_place.Kinds as flat_place-kinds
use Rattle.suntimpani.proofs.rows.flat_place.Reads as flat_place-reads
use Rattle.suntimpani.proofs.rows.flat_turn.Kinds as flat_turn-kinds
use Rattle.suntimpani.proofs.rows.flat_turn.Reads as flat_turn-reads
use Rattle.suntimpani.proofs.rows.place_read.Kinds as place_read-kinds
use Rattle.suntimpani.proofs.rows.place_read.Reads as place_read-reads
use Rattle.suntimpani.proofs.suntimpani_ask.Kinds as suntimpani_ask-kinds
use Rattle.suntimpani.proofs.suntimpani_ask.Reads as suntimpani_ask-reads
use Rattle.suntimpani.proofs.suntimpani_caller.Kinds as suntimpani_caller-kinds
use Rattle.suntimpani.proofs.suntimpani_caller.Reads as suntimpani_caller-reads
use Rattle.suntimpani.proofs.suntimpani_check.Kinds as suntimpani_check-kinds
use Rattle.suntimpani.proofs.suntimpani_check.Reads as suntimpani_check-reads
use Rattle.suntimpani.proofs.suntimpani_function_at.Kinds as suntimpani_function_at-kinds
use Rattle.suntimpani.proofs.suntimpani_function_at.Reads as suntimpani_function_at-reads
use Rattle.suntimpani.proofs.suntimpani_lookup.Kinds as suntimpani_lookup-kinds
use Rattle.suntimpani.proofs.suntimpani_lookup.Reads as suntimpani_lookup-reads
use Rattle.suntimpani.proofs.suntimpani_next_row.Kinds as suntimpani_next_row-kinds
use Rattle.suntimpani.proofs.suntimpani_next_row.Reads as suntimpani_next_row-reads
use Rattle.suntimpani.proofs.suntimpani_rows_of.Kinds as suntimpani_rows_of-kinds
use Rattle.suntimpani.proofs.suntimpani_rows_of.Reads as suntimpani_rows_of-reads
use Rattle.suntimpani.proofs.suntimpani_trace.Kinds as suntimpani_trace-kinds
use Rattle.suntimpani.proofs.suntimpani_trace.Reads as suntimpani_trace-reads
use Rattle.suntimpani.proofs.walks.flat_step.Kinds as flat_step-kinds
use Rattle.suntimpani.proofs.walks.flat_step.Reads as flat_step-reads
use Rattle.suntimpani.proofs.walks.flat_traced.Kinds as flat_traced-kinds
use Rattle.suntimpani.proofs.walks.flat_traced.Reads as flat_traced-reads
use Rattle.promises.specs.Determined.{Determined}

pub flat_verdict_determined : Determined flat_verdict-kinds.ps flat_verdict-kinds.r flat_verdict-reads.Learnt
flat_verdict_determined κs a z z' w w' p q = (p ∙ sym q, refl)

pub flat_row_determined : Determined flat_row-kinds.ps flat_row-kinds.r flat_row-reads.Learnt
flat_row_determined κs a z z' w w' p q = (p ∙ sym q, refl)

pub flat_answer_determined : Determined flat_answer-kinds.ps flat_answer-kinds.r flat_answer-reads.Learnt
flat_answer_determined κs a z z' w w' p q = (p ∙ sym q, refl)

pub flat_asked_determined : Determined flat_asked-kinds.ps flat_asked-kinds.r flat_asked-reads.Learnt
flat_asked_determined κs a z z' w w' p q = (p ∙ sym q, refl)

pub flat_function_determined : Determined flat_function-kinds.ps flat_function-kinds.r flat_function-reads.Learnt
flat_function_determined κs a z z' w w' p q = (p ∙ sym q, refl)

pub suntimpani_check_determined : Determined suntimpani_check-kinds.ps suntimpani_check-kinds.r suntimpani_check-reads.Learnt
suntimpani_check_determined κs a z z' w w' p q = (p ∙ sym q, refl)

pub suntimpani_function_at_determined : Determined suntimpani_function_at-kinds.ps suntimpani_function_at-kinds.r suntimpani_function_at-reads.Learnt
suntimpani_function_at_determined κs a z z' w w' p q = (p ∙ sym q, refl)

pub suntimpani_lookup_determined : Determined suntimpani_lookup-kinds.ps suntimpani_lookup-kinds.r suntimpani_lookup-reads.Learnt
suntimpani_lookup_determined κs a z z' w w' p q = (p ∙ sym q, refl)

pub suntimpani_ask_determined : Determined suntimpani_ask-kinds.ps suntimpani_ask-kinds.r suntimpani_ask-reads.Learnt
suntimpani_ask_determined κs a z z' w w' p q = (p ∙ sym q, refl)

pub suntimpani_caller_determined : Determined suntimpani_caller-kinds.ps suntimpani_caller-kinds.r suntimpani_caller-reads.Learnt
suntimpani_caller_determined κs a z z' w w' p q = (p ∙ sym q, refl)

pub suntimpani_trace_determined : Determined suntimpani_trace-kinds.ps suntimpani_trace-kinds.r suntimpani_trace-reads.Learnt
unfolding handed_as
suntimpani_trace_determined κs a z z' w w' p q =
    (ap (λ both. both.answer) (p ∙ sym q), ap (λ both. (tt, (tt, (tt, (tt, (tt, (both.words, tt))))))) (p ∙ sym q))

pub flat_step_determined : Determined flat_step-kinds.ps flat_step-kinds.r flat_step-reads.Learnt
flat_step_determined κs a z z' w w' p q = (p ∙ sym q, refl)

pub flat_traced_determined : Determined flat_traced-kinds.ps flat_traced-kinds.r flat_traced-reads.Learnt
flat_traced_determined κs a z z' w w' p q = (p ∙ sym q, refl)

pub base_number_determined : Determined base_number-kinds.ps base_number-kinds.r base_number-reads.Learnt
base_number_determined κs a z z' w w' p q = (p ∙ sym q, refl)

pub empty_row_determined : Determined empty_row-kinds.ps empty_row-kinds.r empty_row-reads.Learnt
empty_row_determined κs a z z' w w' p q = (p ∙ sym q, refl)

pub flag_of_determined : Determined flag_of-kinds.ps flag_of-kinds.r flag_of-reads.Learnt
flag_of_determined κs a z z' w w' p q = (p ∙ sym q, refl)

pub place_kind_determined : Determined place_kind-kinds.ps place_kind-kinds.r place_kind-reads.Learnt
place_kind_determined κs a z z' w w' p q = (p ∙ sym q, refl)

pub place_offset_determined : Determined place_offset-kinds.ps place_offset-kinds.r place_offset-reads.Learnt
place_offset_determined κs a z z' w w' p q = (p ∙ sym q, refl)

pub flat_place_determined : Determined flat_place-kinds.ps flat_place-kinds.r flat_place-reads.Learnt
flat_place_determined κs a z z' w w' p q = (p ∙ sym q, refl)

pub flat_turn_determined : Determined flat_turn-kinds.ps flat_turn-kinds.r flat_turn-reads.Learnt
flat_turn_determined κs a z z' w w' p q = (p ∙ sym q, refl)

pub place_read_determined : Determined place_read-kinds.ps place_read-kinds.r place_read-reads.Learnt
place_read_determined κs a z z' w w' p q = (p ∙ sym q, refl)

pub suntimpani_next_row_determined : Determined suntimpani_next_row-kinds.ps suntimpani_next_row-kinds.r suntimpani_next_row-reads.Learnt
suntimpani_next_row_determined κs a z z' w w' p q = (p ∙ sym q, refl)

pub suntimpani_rows_of_determined : Determined suntimpani_rows_of-kinds.ps suntimpani_rows_of-kinds.r suntimpani_rows_of-reads.Learnt
suntimpani_rows_of_determined κs a z z' w w' p q = (p ∙ sym q, refl)
