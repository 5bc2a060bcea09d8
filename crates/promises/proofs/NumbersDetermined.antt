-- Every public function of `numbers` determines its reply: two replies that its own contract allows for one input are equal.
-- Assumes nothing.
use mathlib.Core.Path.{refl, sym, ◌∙◌, ap}
use lib.IntN.{ℤ}
use Rattle.numbers.proofs.address.address_of.Kinds as address_of-kinds
use Rattle.numbers.proofs.address.address_of.Reads as address_of-reads
use Rattle.numbers.proofs.address.window_fits.Kinds as window_fits-kinds
use Rattle.numbers.proofs.address.window_fits.Reads as window_fits-reads
use Rattle.numbers.proofs.address.word_at.Kinds as word_at-kinds
use Rattle.numbers.proofs.address.word_at.Reads as word_at-reads
use Rattle.numbers.proofs.field.field_at.Kinds as field_at-kinds
use Rattle.numbers.proofs.field.field_at.Reads as field_at-reads
use Rattle.numbers.proofs.field.number_at.Kinds as number_at-kinds
use Rattle.numbers.proofs.field.number_at.Reads as number_at-reads
use Rattle.numbers.proofs.field.u16_at.Kinds as u16_at-kinds
use Rattle.numbers.proofs.field.u16_at.Reads as u16_at-reads
use Rattle.numbers.proofs.field.u32_at.Kinds as u32_at-kinds
use Rattle.numbers.proofs.field.u32_at.Reads as u32_at-reads
use Rattle.numbers.proofs.field.u64_at.Kinds as u64_at-kinds
use Rattle.numbers.proofs.field.u64_at.Reads as u64_at-reads
use Rattle.numbers.proofs.field.u8_at.Kinds as u8_at-kinds
use Rattle.numbers.proofs.field.u8_at.Reads as u8_at-reads
use Rattle.numbers.proofs.field.width_of.Kinds as width_of-kinds
use Rattle.numbers.proofs.field.width_of.Reads as width_of-reads
use Rattle.numbers.proofs.held.held_start.Kinds as held_start-kinds
use Rattle.numbers.proofs.held.held_start.Reads as held_start-reads
use Rattle.numbers.proofs.held.near_of.Kinds as near_of-kinds
use Rattle.numbers.proofs.held.near_of.Reads as near_of-reads
use Rattle.numbers.proofs.held.rank_of.Kinds as rank_of-kinds
use Rattle.numbers.proofs.held.rank_of.Reads as rank_of-reads
use Rattle.numbers.proofs.held.start_at.Kinds as start_at-kinds
use Rattle.numbers.proofs.held.start_at.Reads as start_at-reads
use Rattle.numbers.proofs.offset.offset_at.Kinds as offset_at-kinds
use Rattle.numbers.proofs.offset.offset_at.Reads as offset_at-reads
use Rattle.numbers.proofs.offset.offset_of.Kinds as offset_of-kinds
use Rattle.numbers.proofs.offset.offset_of.Reads as offset_of-reads
use Rattle.numbers.proofs.offset.shift_of.Kinds as shift_of-kinds
use Rattle.numbers.proofs.offset.shift_of.Reads as shift_of-reads
use Rattle.promises.specs.Determined.{Determined}

pub address_of_determined : Determined address_of-kinds.ps address_of-kinds.r address_of-reads.Learnt
address_of_determined κs a z z' w w' p q = (p ∙ sym q, refl)

pub window_fits_determined : Determined window_fits-kinds.ps window_fits-kinds.r window_fits-reads.Learnt
window_fits_determined κs a z z' w w' p q = (p ∙ sym q, refl)

pub word_at_determined : Determined word_at-kinds.ps word_at-kinds.r word_at-reads.Learnt
word_at_determined κs a z z' w w' p q = (p ∙ sym q, refl)

pub u8_at_determined : Determined u8_at-kinds.ps u8_at-kinds.r u8_at-reads.Learnt
u8_at_determined κs a z z' w w' p q = (p ∙ sym q, refl)

pub u16_at_determined : Determined u16_at-kinds.ps u16_at-kinds.r u16_at-reads.Learnt
u16_at_determined κs a z z' w w' p q = (p ∙ sym q, refl)

pub u32_at_determined : Determined u32_at-kinds.ps u32_at-kinds.r u32_at-reads.Learnt
u32_at_determined κs a z z' w w' p q = (p ∙ sym q, refl)

pub u64_at_determined : Determined u64_at-kinds.ps u64_at-kinds.r u64_at-reads.Learnt
u64_at_determined κs a z z' w w' p q = (p ∙ sym q, refl)

pub width_of_determined : Determined width_of-kinds.ps width_of-kinds.r width_of-reads.Learnt
width_of_determined κs a z z' w w' p q = (p ∙ sym q, refl)

pub field_at_determined : Determined field_at-kinds.ps field_at-kinds.r field_at-reads.Learnt
field_at_determined κs a z z' w w' p q = (p ∙ sym q, refl)

pub number_at_determined : Determined number_at-kinds.ps number_at-kinds.r number_at-reads.Learnt
number_at_determined κs a z z' w w' p q = (p ∙ sym q, refl)

pub rank_of_determined : Determined rank_of-kinds.ps rank_of-kinds.r rank_of-reads.Learnt
rank_of_determined κs a z z' w w' p q = (p.0 ∙ sym q.0, refl)

pub held_start_determined : Determined held_start-kinds.ps held_start-kinds.r held_start-reads.Learnt
held_start_determined κs a z z' w w' p q = (p.0 ∙ sym q.0, refl)

pub near_of_determined : Determined near_of-kinds.ps near_of-kinds.r near_of-reads.Learnt
near_of_determined κs a z z' w w' p q = (p ∙ sym q, refl)

pub offset_of_determined : Determined offset_of-kinds.ps offset_of-kinds.r offset_of-reads.Learnt
offset_of_determined κs a z z' w w' p q = (p ∙ sym q, refl)

pub offset_at_determined : Determined offset_at-kinds.ps offset_at-kinds.r offset_at-reads.Learnt
offset_at_determined κs a z z' w w' p q = (p ∙ sym q, refl)

pub shift_of_determined : Determined shift_of-kinds.ps shift_of-kinds.r shift_of-reads.Learnt
shift_of_determined κs a z z' w w' p q = (p ∙ sym q, refl)

pub start_at_determined : Determined start_at-kinds.ps start_at-kinds.r start_at-reads.Learnt
start_at_determined κs a z z' w w' p q = (ap (λ (by : ℤ). record { by = by }) (p ∙ sym q), refl)
