-- `measure_lines::digest_lines` folds the lines in one by one: the digest of the lines left, from the digest so far, is the digest of all.
-- Assumes nothing.
use mathlib.Core.Path.{◌≡◌}
use Prim.Native.Nat.{◌<◌, ◌^◌}
use lib.ListN.{length}
use Rattle.listing.specs.Computed.Lines.{lines_left}
use Rattle.measure_lines.specs.Listed.{digest_lines}
use Rattle.measure_lines.proofs.digest_lines.Given as goal

abbrev pub invariant-loop-line : goal.invariant-loop-line
invariant-loop-line l =
    (l.digest < 2 ^ 32) × (digest_lines l.digest (lines_left l.section l.cursor) ≡ digest_lines l.initial.digest (lines_left l.section l.initial.cursor))

abbrev pub decreases-loop-line : goal.decreases-loop-line
decreases-loop-line l = length (lines_left l.section l.cursor)
