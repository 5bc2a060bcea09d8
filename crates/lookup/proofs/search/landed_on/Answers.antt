-- `search::landed_on` compares with the function before `low`, if there is one.
-- Assumes nothing.
use native.Mathlib.Omega.{arith}
use mathlib.Core.Path.{sym, ◌∙◌}
use Prim.Native.Nat.{◌≤◌, ◌<◌}
use Rattle.section.specs.Header.{layout_of}
use Rattle.lookup.proofs.LandedLaws.{landed_nowhere, landed_inside, landed_outside}
use Rattle.lookup.proofs.search.landed_on.Goals as goal
use Rattle.lookup.proofs.search.landed_on.Goals.{Else-low-eq0, Start}

above : (c : Else-low-eq0) → 0 < c.args.low
above c = omega (arith, c.if-low-eq0.false)

within : (c : Start) → c.args.low ≤ (layout_of c.args.table.section.now).functions
within c = rw c.args.table.sound.header.layout_is at c.requires

pub returns-then-low-eq0 : goal.returns-then-low-eq0
returns-then-low-eq0 c z near = sym (landed_nowhere _ z _ c.if-low-eq0.true)

pub returns-then-covers_at : goal.returns-then-covers_at
returns-then-covers_at c z near =
    sym (landed_inside _ z _ (above (goal.at.returns-then-covers_at c).Else-low-eq0) (within (goal.at.returns-then-covers_at c).Start) (sym (c.covers_at.ensures z near) ∙ c.if-covers_at.true))

pub returns : goal.returns
returns c z near =
    sym (landed_outside _ z _ (above (goal.at.returns c).Else-low-eq0) (within (goal.at.returns c).Start) (sym (c.covers_at.ensures z near) ∙ c.if-covers_at.false))
