-- `search::next_covering` passes by functions that do not cover: the first that does is the same from each of them on.
-- Assumes nothing.
use native.Mathlib.Numerals.{add-one}
use native.Mathlib.Omega.{arith}
use mathlib.Core.Path.{◌≡◌, refl, sym, ◌∙◌}
use Rattle.lookup.proofs.ScanLaws.{first_here, first_on, first_end}
use Rattle.lookup.proofs.search.next_covering.Goals as goal

pub loop-i-init : goal.loop-i-init
loop-i-init c = λ z near. refl

pub returns-then-covers_at : goal.returns-then-covers_at
returns-then-covers_at c =
    record { value = λ z near. sym (first_here _ _ _ c.loop-i-test.true (sym (c.covers_at.ensures z near) ∙ c.if-covers_at.true)) ∙ c.loop-i.invariant z near; range = omega arith }

pub loop-i-preserved : goal.loop-i-preserved
loop-i-preserved c =
    λ z near.
    rw (add-one c.loop-i.i)
    (sym (first_on _ _ _ c.loop-i-test.true (sym (c.covers_at.ensures z near) ∙ c.if-covers_at.false)) ∙ c.loop-i.invariant z near)

pub returns : goal.returns
returns c =
    let last : c.args.table.layout.functions ≡ c.loop-i.i = omega arith in
    record { value = λ z near. last ∙ sym (first_end _ _ _ c.loop-i-test.false) ∙ c.loop-i.invariant z near; range = omega arith }
