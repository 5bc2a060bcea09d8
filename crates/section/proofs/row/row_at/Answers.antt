-- `row::row_at` reads the first offset, which each row has.
-- Assumes nothing.
use native.Mathlib.Omega.{arith}
use Rattle.section.specs.Row.{info_of}
use Rattle.section.proofs.OffsetLaws.{offset_within_lem, offsets_of}
use Rattle.section.proofs.row.row_at.Goals as goal

pub offset_in-requires : goal.offset_in-requires
offset_in-requires c =
    let row = offsets_of c.requires in
    rw (c.offset_size_of.ensures, c.info_at-info.ensures, c.width_of.ensures)
    (row.size, omega (arith, row.whole, offset_within_lem (info_of _ _ _) 0 row.some))
