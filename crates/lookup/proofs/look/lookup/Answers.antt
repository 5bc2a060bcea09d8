-- `look::lookup` looks where the section is accepted.
-- Assumes nothing.
use mathlib.Core.Path.{sym}
use Rattle.accept.proofs.AcceptedLaws.{accepted_laws}
use Rattle.lookup.proofs.look.lookup.Goals as goal

pub layout_at-requires : goal.layout_at-requires
layout_at-requires c = (accepted_laws _ (sym c.in-Ok.ensures)).header.rule1
