-- `land::ask` asks where the header is sound.
-- Assumes nothing.
use mathlib.Core.Path.{sym}
use Rattle.accept.proofs.Exactly.{header_exactly_when}
use Rattle.ask.proofs.land.ask.Goals as goal

pub layout_at-requires : goal.layout_at-requires
layout_at-requires c = ((header_exactly_when _).0 (sym c.in-Ok.ensures)).rule1
