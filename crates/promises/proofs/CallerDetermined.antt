-- Every public function of `caller` determines its reply: two replies that its own contract allows for one input are equal.
-- Assumes nothing.
use mathlib.Core.Path.{refl, sym, ◌∙◌}
use Rattle.caller.proofs.place.is_lost.Kinds as is_lost-kinds
use Rattle.caller.proofs.place.is_lost.Reads as is_lost-reads
use Rattle.caller.proofs.place.spot_of.Kinds as spot_of-kinds
use Rattle.caller.proofs.place.spot_of.Reads as spot_of-reads
use Rattle.caller.proofs.place.value_at.Kinds as value_at-kinds
use Rattle.caller.proofs.place.value_at.Reads as value_at-reads
use Rattle.caller.proofs.place.values_at.Kinds as values_at-kinds
use Rattle.caller.proofs.place.values_at.Reads as values_at-reads
use Rattle.caller.proofs.registers.Registers.from_row.Kinds as from_row-kinds
use Rattle.caller.proofs.registers.Registers.from_row.Reads as from_row-reads
use Rattle.caller.proofs.registers.Registers.step.Kinds as step-kinds
use Rattle.caller.proofs.registers.Registers.step.Reads as step-reads
use Rattle.caller.proofs.registers.Registers.step_checked.Kinds as step_checked-kinds
use Rattle.caller.proofs.registers.Registers.step_checked.Reads as step_checked-reads
use Rattle.caller.proofs.registers.asked_of.Kinds as asked_of-kinds
use Rattle.caller.proofs.registers.asked_of.Reads as asked_of-reads
use Rattle.caller.proofs.registers.base_value.Kinds as base_value-kinds
use Rattle.caller.proofs.registers.base_value.Reads as base_value-reads
use Rattle.caller.proofs.registers.caller_sp.Kinds as caller_sp-kinds
use Rattle.caller.proofs.registers.caller_sp.Reads as caller_sp-reads
use Rattle.caller.proofs.registers.cfa_of.Kinds as cfa_of-kinds
use Rattle.caller.proofs.registers.cfa_of.Reads as cfa_of-reads
use Rattle.caller.proofs.registers.cfa_of_sp.Kinds as cfa_of_sp-kinds
use Rattle.caller.proofs.registers.cfa_of_sp.Reads as cfa_of_sp-reads
use Rattle.caller.proofs.registers.is_low.Kinds as is_low-kinds
use Rattle.caller.proofs.registers.is_low.Reads as is_low-reads
use Rattle.caller.proofs.signature.clear.Kinds as clear-kinds
use Rattle.caller.proofs.signature.clear.Reads as clear-reads
use Rattle.caller.proofs.signature.is_maskless.Kinds as is_maskless-kinds
use Rattle.caller.proofs.signature.is_maskless.Reads as is_maskless-reads
use Rattle.caller.proofs.signature.mask_of.Kinds as mask_of-kinds
use Rattle.caller.proofs.signature.mask_of.Reads as mask_of-reads
use Rattle.caller.proofs.ToldLaws.{frame_told_once, step_told_once}
use Rattle.caller.proofs.registers.FrameCause.number.Kinds as FrameCause_number-kinds
use Rattle.caller.proofs.registers.FrameCause.number.Reads as FrameCause_number-reads
use Rattle.caller.proofs.registers.StepCause.number.Kinds as StepCause_number-kinds
use Rattle.caller.proofs.registers.StepCause.number.Reads as StepCause_number-reads
use Rattle.caller.proofs.registers.StepCause.index.Kinds as index-kinds
use Rattle.caller.proofs.registers.StepCause.index.Reads as index-reads
use Rattle.promises.specs.Determined.{Determined}

pub spot_of_determined : Determined spot_of-kinds.ps spot_of-kinds.r spot_of-reads.Learnt
spot_of_determined κs a z z' w w' p q = (p ∙ sym q, refl)

pub is_lost_determined : Determined is_lost-kinds.ps is_lost-kinds.r is_lost-reads.Learnt
is_lost_determined κs a z z' w w' p q = (p ∙ sym q, refl)

pub value_at_determined : Determined value_at-kinds.ps value_at-kinds.r value_at-reads.Learnt
value_at_determined κs a z z' w w' p q = (p ∙ sym q, refl)

pub values_at_determined : Determined values_at-kinds.ps values_at-kinds.r values_at-reads.Learnt
values_at_determined κs a z z' w w' p q = (p ∙ sym q, refl)

pub asked_of_determined : Determined asked_of-kinds.ps asked_of-kinds.r asked_of-reads.Learnt
asked_of_determined κs a z z' w w' p q = (p ∙ sym q, refl)

pub base_value_determined : Determined base_value-kinds.ps base_value-kinds.r base_value-reads.Learnt
base_value_determined κs a z z' w w' p q = (p ∙ sym q, refl)

pub cfa_of_determined : Determined cfa_of-kinds.ps cfa_of-kinds.r cfa_of-reads.Learnt
cfa_of_determined κs a z z' w w' p q = (p ∙ sym q, refl)

pub caller_sp_determined : Determined caller_sp-kinds.ps caller_sp-kinds.r caller_sp-reads.Learnt
caller_sp_determined κs a z z' w w' p q = (p ∙ sym q, refl)

pub cfa_of_sp_determined : Determined cfa_of_sp-kinds.ps cfa_of_sp-kinds.r cfa_of_sp-reads.Learnt
cfa_of_sp_determined κs a z z' w w' p q = (p ∙ sym q, refl)

pub is_low_determined : Determined is_low-kinds.ps is_low-kinds.r is_low-reads.Learnt
is_low_determined κs a z z' w w' p q = (p ∙ sym q, refl)

pub is_maskless_determined : Determined is_maskless-kinds.ps is_maskless-kinds.r is_maskless-reads.Learnt
is_maskless_determined κs a z z' w w' p q = (p ∙ sym q, refl)

pub mask_of_determined : Determined mask_of-kinds.ps mask_of-kinds.r mask_of-reads.Learnt
mask_of_determined κs a z z' w w' p q = (p ∙ sym q, refl)

pub clear_determined : Determined clear-kinds.ps clear-kinds.r clear-reads.Learnt
clear_determined κs a z z' w w' p q = (p ∙ sym q, refl)

pub from_row_determined : Determined from_row-kinds.ps from_row-kinds.r from_row-reads.Learnt
from_row_determined κs a z z' w w' p q = (frame_told_once _ _ (p ∙ sym q), refl)

pub step_checked_determined : Determined step_checked-kinds.ps step_checked-kinds.r step_checked-reads.Learnt
step_checked_determined κs a z z' w w' p q = (frame_told_once _ _ (p ∙ sym q), refl)

pub step_determined : Determined step-kinds.ps step-kinds.r step-reads.Learnt
step_determined κs a z z' w w' p q = (step_told_once _ _ (p ∙ sym q), refl)

pub FrameCause_number_determined : Determined FrameCause_number-kinds.ps FrameCause_number-kinds.r FrameCause_number-reads.Learnt
FrameCause_number_determined κs a z z' w w' p q = (p ∙ sym q, refl)

pub StepCause_number_determined : Determined StepCause_number-kinds.ps StepCause_number-kinds.r StepCause_number-reads.Learnt
StepCause_number_determined κs a z z' w w' p q = (p ∙ sym q, refl)

pub index_determined : Determined index-kinds.ps index-kinds.r index-reads.Learnt
index_determined κs a z z' w w' p q = (p ∙ sym q, refl)
