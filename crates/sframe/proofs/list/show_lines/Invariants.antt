-- `list::show_lines` ends: each turn but the last leaves one line less.
use Rattle.std.proofs.Common.{length}
use Rattle.listing.specs.Computed.Lines.{lines_left}
use Rattle.sframe.proofs.list.show_lines.Given as goal

abbrev pub decreases-loop-line : goal.decreases-loop-line
decreases-loop-line l = length (lines_left l.section l.cursor)
