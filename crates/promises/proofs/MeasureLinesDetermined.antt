-- Every public function of `measure_lines` determines its reply: two replies that its own contract allows for one input are equal.
-- Assumes nothing.
use mathlib.Core.Path.{refl, sym, ◌∙◌}
use Rattle.measure_lines.proofs.measure_listing.Kinds as measure_listing-kinds
use Rattle.measure_lines.proofs.measure_listing.Reads as measure_listing-reads
use Rattle.promises.specs.Determined.{Determined}

pub measure_listing_determined : Determined measure_listing-kinds.ps measure_listing-kinds.r measure_listing-reads.Learnt
measure_listing_determined κs a z z' w w' p q = (p ∙ sym q, refl)
