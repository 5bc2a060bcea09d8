-- `measure::measure_finds` digests the answers where the section is accepted.
-- Assumes nothing.
use mathlib.Core.Path.{sym}
use Rattle.accept.proofs.AcceptedLaws.{accepted_laws}
use Rattle.measure.proofs.measure_finds.Goals as goal

pub layout_at-requires : goal.layout_at-requires
layout_at-requires c = (accepted_laws _ (sym c.in-Ok.ensures)).header.rule1
