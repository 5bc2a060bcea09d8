-- `looked::by_cover`: the row of the one function that covers is asked for.
-- Assumes nothing.
use mathlib.Core.Path.{sym, ◌∙◌}
use Rattle.lookup.proofs.LookLaws.{row_asked}
use Rattle.explain.proofs.looked.by_cover.Goals as goal

pub in_function-requires : goal.in_function-requires
in_function-requires c =
    row_asked _ c.requires.0 (sym c.requires.1 ∙ c.in-One.is)
