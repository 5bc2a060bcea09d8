-- `rows::pass_rows` passes row after row while they start at or below o.
-- Assumes nothing.
use borrow.Author.Tests.{leb-true, leb-false}
use native.Mathlib.Numerals.{add-one}
use native.Mathlib.Omega.{arith}
use mathlib.Core.Path.{◌≡◌, sym, ◌∙◌, ap}
use Rattle.section.specs.Row.{row_length}
use Rattle.section.specs.Inner.Reading.{Readable}
use Rattle.lookup.specs.Inner.Search.{starts_by, told_by}
use Rattle.lookup.proofs.PassedLaws.{passing_begins, passes_on, passing_stops, passing_ends}
use Rattle.lookup.proofs.rows.pass_rows.Goals as goal
use Rattle.lookup.proofs.rows.pass_rows.Goals.{After-told_at-told, In-loop-k}

pub loop-k-init : goal.loop-k-init
unfolding told_by
loop-k-init c = (passing_begins _ _ _ _ _ _, rw c.no_offsets-told.ensures)

-- the next row can be read
readable : (c : In-loop-k)
    → Readable c.args.area.now c.args.code c.loop-k.at
readable c = rw c.loop-k.invariant.0.at_is (c.requires.0 _ c.loop-k-test.true)

pub starts_by-requires : goal.starts_by-requires
starts_by-requires c = ((readable c).type, omega (arith, (readable c).fixed))

pub returns-then-not-starts_by : goal.returns-then-not-starts_by
unfolding starts_by
returns-then-not-starts_by c =
    passing_stops c.loop-k.invariant.0 c.loop-k-test.true (leb-false _ _ (sym c.starts_by.ensures ∙ c.if-not-starts_by.true))

pub told_at-told-requires : goal.told_at-told-requires
told_at-told-requires c =
    ((readable (goal.at.told_at-told-requires c).In-loop-k).type, (readable (goal.at.told_at-told-requires c).In-loop-k).fixed, c.loop-k.invariant.1)

-- what is told of the next row is its length
length_is : (c : After-told_at-told)
    → c.told_at-told.result.length ≡ row_length c.args.area.now c.args.code c.loop-k.at
unfolding told_by row_length
length_is c = ap (λ told. told.length) c.told_at-told.ensures

pub overflow_add-at : goal.overflow_add-at
overflow_add-at c = rw (length_is (goal.at.overflow_add-at c).After-told_at-told) (omega (arith, (readable (goal.at.overflow_add-at c).In-loop-k).whole))

pub loop-k-preserved : goal.loop-k-preserved
unfolding starts_by told_by
loop-k-preserved c =
    let starts = leb-true _ _ (sym c.starts_by.ensures ∙ c.if-not-starts_by.false) in (
      rw (length_is (goal.at.loop-k-preserved c).After-told_at-told, add-one c.loop-k.k) (passes_on c.loop-k.invariant.0 c.loop-k-test.true starts),
      rw c.told_at-told.ensures,
    )

pub returns : goal.returns
returns c =
    let last : c.loop-k.k ≡ c.args.count = omega arith in
    rw last at (passing_ends c.loop-k.invariant.0 c.loop-k-test.false)
