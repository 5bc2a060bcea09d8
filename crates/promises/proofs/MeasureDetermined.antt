-- Every public function of `measure` determines its reply: two replies that its own contract allows for one input are equal.
-- Assumes nothing.
use mathlib.Core.Path.{refl, sym, ◌∙◌}
use Rattle.measure.proofs.low_of.Kinds as low_of-kinds
use Rattle.measure.proofs.low_of.Reads as low_of-reads
use Rattle.measure.proofs.magnitude_of.Kinds as magnitude_of-kinds
use Rattle.measure.proofs.magnitude_of.Reads as magnitude_of-reads
use Rattle.measure.proofs.measure_finds.Kinds as measure_finds-kinds
use Rattle.measure.proofs.measure_finds.Reads as measure_finds-reads
use Rattle.measure.proofs.row_weight.Kinds as row_weight-kinds
use Rattle.measure.proofs.row_weight.Reads as row_weight-reads
use Rattle.promises.specs.Determined.{Determined}

pub measure_finds_determined : Determined measure_finds-kinds.ps measure_finds-kinds.r measure_finds-reads.Learnt
measure_finds_determined κs a z z' w w' p q = (p ∙ sym q, refl)

pub low_of_determined : Determined low_of-kinds.ps low_of-kinds.r low_of-reads.Learnt
low_of_determined κs a z z' w w' p q = (p.0 ∙ sym q.0, refl)

pub magnitude_of_determined : Determined magnitude_of-kinds.ps magnitude_of-kinds.r magnitude_of-reads.Learnt
magnitude_of_determined κs a z z' w w' p q = (p.0 ∙ sym q.0, refl)

pub row_weight_determined : Determined row_weight-kinds.ps row_weight-kinds.r row_weight-reads.Learnt
row_weight_determined κs a z z' w w' p q = (p.0 ∙ sym q.0, refl)
