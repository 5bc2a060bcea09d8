-- Every public function of `section` determines its reply: two replies that its own contract allows for one input are equal.
-- Assumes nothing.
use mathlib.Core.Path.{refl, sym, ◌∙◌, ap}
use lib.IntN.{ℤ}
use Rattle.section.proofs.entry.does_repeat.Kinds as does_repeat-kinds
use Rattle.section.proofs.entry.does_repeat.Reads as does_repeat-reads
use Rattle.section.proofs.entry.entry_at.Kinds as entry_at-kinds
use Rattle.section.proofs.entry.entry_at.Reads as entry_at-reads
use Rattle.section.proofs.entry.exact_start.Kinds as exact_start-kinds
use Rattle.section.proofs.entry.exact_start.Reads as exact_start-reads
use Rattle.section.proofs.entry.position_at.Kinds as position_at-kinds
use Rattle.section.proofs.entry.position_at.Reads as position_at-reads
use Rattle.section.proofs.entry.start_of.Kinds as start_of-kinds
use Rattle.section.proofs.entry.start_of.Reads as start_of-reads
use Rattle.section.proofs.entry.type_of.Kinds as type_of-kinds
use Rattle.section.proofs.entry.type_of.Reads as type_of-reads
use Rattle.section.proofs.header.bit_of.Kinds as bit_of-kinds
use Rattle.section.proofs.header.bit_of.Reads as bit_of-reads
use Rattle.section.proofs.header.layout_at.Kinds as layout_at-kinds
use Rattle.section.proofs.header.layout_at.Reads as layout_at-reads
use Rattle.section.proofs.header.magic_in.Kinds as magic_in-kinds
use Rattle.section.proofs.header.magic_in.Reads as magic_in-reads
use Rattle.section.proofs.header.marks_at.Kinds as marks_at-kinds
use Rattle.section.proofs.header.marks_at.Reads as marks_at-reads
use Rattle.section.proofs.header.order_at.Kinds as order_at-kinds
use Rattle.section.proofs.header.order_at.Reads as order_at-reads
use Rattle.section.proofs.header.sizes_at.Kinds as sizes_at-kinds
use Rattle.section.proofs.header.sizes_at.Reads as sizes_at-reads
use Rattle.section.proofs.row.count_of.Kinds as count_of-kinds
use Rattle.section.proofs.row.count_of.Reads as count_of-reads
use Rattle.section.proofs.row.info_at.Kinds as info_at-kinds
use Rattle.section.proofs.row.info_at.Reads as info_at-reads
use Rattle.section.proofs.row.offset_size_of.Kinds as offset_size_of-kinds
use Rattle.section.proofs.row.offset_size_of.Reads as offset_size_of-reads
use Rattle.section.proofs.row.row_at.Kinds as row_at-kinds
use Rattle.section.proofs.row.row_at.Reads as row_at-reads
use Rattle.section.proofs.row.row_length.Kinds as row_length-kinds
use Rattle.section.proofs.row.row_length.Reads as row_length-reads
use Rattle.section.proofs.row.row_start_at.Kinds as row_start_at-kinds
use Rattle.section.proofs.row.row_start_at.Reads as row_start_at-reads
use Rattle.section.proofs.shape.abi_of.Kinds as abi_of-kinds
use Rattle.section.proofs.shape.abi_of.Reads as abi_of-reads
use Rattle.section.proofs.shape.shape_of.Kinds as shape_of-kinds
use Rattle.section.proofs.shape.shape_of.Reads as shape_of-reads
use Rattle.promises.specs.Determined.{Determined}

pub entry_at_determined : Determined entry_at-kinds.ps entry_at-kinds.r entry_at-reads.Learnt
entry_at_determined κs a z z' w w' p q = (p ∙ sym q, refl)

pub type_of_determined : Determined type_of-kinds.ps type_of-kinds.r type_of-reads.Learnt
type_of_determined κs a z z' w w' p q = (p ∙ sym q, refl)

pub does_repeat_determined : Determined does_repeat-kinds.ps does_repeat-kinds.r does_repeat-reads.Learnt
does_repeat_determined κs a z z' w w' p q = (p ∙ sym q, refl)

pub position_at_determined : Determined position_at-kinds.ps position_at-kinds.r position_at-reads.Learnt
position_at_determined κs a z z' w w' p q = (p ∙ sym q, refl)

pub start_of_determined : Determined start_of-kinds.ps start_of-kinds.r start_of-reads.Learnt
start_of_determined κs a z z' w w' p q = (p.0 ∙ sym q.0, refl)

pub bit_of_determined : Determined bit_of-kinds.ps bit_of-kinds.r bit_of-reads.Learnt
bit_of_determined κs a z z' w w' p q = (p ∙ sym q, refl)

pub magic_in_determined : Determined magic_in-kinds.ps magic_in-kinds.r magic_in-reads.Learnt
magic_in_determined κs a z z' w w' p q = (p ∙ sym q, refl)

pub order_at_determined : Determined order_at-kinds.ps order_at-kinds.r order_at-reads.Learnt
order_at_determined κs a z z' w w' p q = (p ∙ sym q, refl)

pub marks_at_determined : Determined marks_at-kinds.ps marks_at-kinds.r marks_at-reads.Learnt
marks_at_determined κs a z z' w w' p q = (p ∙ sym q, refl)

pub sizes_at_determined : Determined sizes_at-kinds.ps sizes_at-kinds.r sizes_at-reads.Learnt
sizes_at_determined κs a z z' w w' p q = (p ∙ sym q, refl)

pub layout_at_determined : Determined layout_at-kinds.ps layout_at-kinds.r layout_at-reads.Learnt
layout_at_determined κs a z z' w w' p q = (p ∙ sym q, refl)

pub row_start_at_determined : Determined row_start_at-kinds.ps row_start_at-kinds.r row_start_at-reads.Learnt
row_start_at_determined κs a z z' w w' p q = (p ∙ sym q, refl)

pub info_at_determined : Determined info_at-kinds.ps info_at-kinds.r info_at-reads.Learnt
info_at_determined κs a z z' w w' p q = (p ∙ sym q, refl)

pub count_of_determined : Determined count_of-kinds.ps count_of-kinds.r count_of-reads.Learnt
count_of_determined κs a z z' w w' p q = (p ∙ sym q, refl)

pub offset_size_of_determined : Determined offset_size_of-kinds.ps offset_size_of-kinds.r offset_size_of-reads.Learnt
offset_size_of_determined κs a z z' w w' p q = (p ∙ sym q, refl)

pub row_length_determined : Determined row_length-kinds.ps row_length-kinds.r row_length-reads.Learnt
row_length_determined κs a z z' w w' p q = (p ∙ sym q, refl)

pub row_at_determined : Determined row_at-kinds.ps row_at-kinds.r row_at-reads.Learnt
row_at_determined κs a z z' w w' p q = (p ∙ sym q, refl)

pub abi_of_determined : Determined abi_of-kinds.ps abi_of-kinds.r abi_of-reads.Learnt
abi_of_determined κs a z z' w w' p q = (p ∙ sym q, refl)

pub shape_of_determined : Determined shape_of-kinds.ps shape_of-kinds.r shape_of-reads.Learnt
shape_of_determined κs a z z' w w' p q = (p ∙ sym q, refl)

pub exact_start_determined : Determined exact_start-kinds.ps exact_start-kinds.r exact_start-reads.Learnt
exact_start_determined κs a z z' w w' p q = (ap (λ (by : ℤ). record { by = by }) (p ∙ sym q), refl)
