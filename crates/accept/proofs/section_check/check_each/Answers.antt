-- `section_check::check_each` walks the entries: each turn tries the next one, and what is left decides as the whole does.
-- Assumes nothing.
use native.Mathlib.Omega.{arith}
use mathlib.Core.Path.{◌≡◌, sym, ◌∙◌, ap}
use Prim.Native.Nat.{◌+◌, ◌*◌, ◌≤◌, ◌<◌}
use lib.ListN.{length}
use Rattle.numbers.specs.Inner.Held.{Held}
use Rattle.section.specs.Header.{layout_of}
use Rattle.section.specs.Meaning.{entry_in, function_start}
use Rattle.accept.specs.Rules.{HeaderObeys, function_count}
use Rattle.accept.specs.Computed.Checks.{sum_fault, turn_fault}
use Rattle.accept.specs.Told.{fault_told}
use Rattle.accept.proofs.AcceptedLaws.{area_inside, entry_inside}
use Rattle.accept.proofs.Exactly.{header_exactly_when}
use Rattle.accept.proofs.TurnLaws.{turns_begin, turn_is, turns_go_on, turns_stop, turns_end}
use Rattle.accept.proofs.section_check.check_each.Goals as goal
use Rattle.accept.proofs.section_check.check_each.Goals.{After-check_turn, After-start_of-start, In-loop-i}

pub loop-i-init : goal.loop-i-init
loop-i-init c = turns_begin _

-- the header obeys, and the next entry is one of the section's
header : (c : In-loop-i) → HeaderObeys c.args.section.now
header c = (header_exactly_when _).0 c.requires.sound

inside : (c : In-loop-i) → c.loop-i.i < (layout_of c.args.section.now).functions
inside c = rw c.requires.layout_is at c.loop-i-test.true

-- it lies in the section
room : (c : In-loop-i) → c.args.layout.table + 20 * c.loop-i.i + 20 ≤ length c.args.section.now
unfolding function_count
room c = rw c.requires.layout_is (omega (arith, entry_inside (header c) _ (inside c), area_inside (header c)))

small : (c : In-loop-i) → c.args.layout.table + 20 * c.loop-i.i + 20 ≤ 16777216
small c = omega (arith, room c, (header c).rule2)

pub overflow_cast-layout : goal.overflow_cast-layout
overflow_cast-layout c = omega (arith, small (goal.at.overflow_cast-layout c).In-loop-i)

pub overflow_mul-i : goal.overflow_mul-i
overflow_mul-i c = omega (arith, small (goal.at.overflow_mul-i c).In-loop-i)

pub overflow_add-layout : goal.overflow_add-layout
overflow_add-layout c = omega (arith, small (goal.at.overflow_add-layout c).In-loop-i)

pub entry_at-entry-requires : goal.entry_at-entry-requires
entry_at-entry-requires c = room (goal.at.entry_at-entry-requires c).In-loop-i

-- what was read is entry i, with its start as it is held
entry_is : (c : After-start_of-start) → c.entry_at-entry.result ≡ entry_in c.args.section.now c.loop-i.i
unfolding entry_in
entry_is c = rw (c.requires.order_is, c.requires.layout_is) at c.entry_at-entry.ensures

held : (c : After-start_of-start) → Held (function_start c.args.section.now c.loop-i.i) c.start_of-start.result
held c = rw (entry_is c, c.requires.layout_is) at c.start_of-start.ensures.range

turn : (c : After-check_turn) → fault_told c.check_turn.result ≡ turn_fault c.args.section.now c.loop-i.i
turn c =
    let start = (goal.at.After-check_turn c).After-start_of-start in
    (rw (c.requires.area_is, c.requires.shape_is, entry_is start, c.requires.layout_is) at c.check_turn.ensures)
    ∙ turn_is _ _ _ _ (held start) c.loop-i.invariant.end

pub returns-in-Err : goal.returns-in-Err
returns-in-Err c =
    turns_stop c.loop-i.invariant (inside (goal.at.returns-in-Err c).In-loop-i)
    (sym (turn (goal.at.returns-in-Err c).After-check_turn) ∙ ap fault_told c.in-Err.is)

pub loop-i-preserved : goal.loop-i-preserved
loop-i-preserved c =
    let is = entry_is (goal.at.loop-i-preserved c).After-start_of-start in
    let few : c.entry_at-entry.result.rows < 0x1_0000_0000 = omega arith in
    rw is
    (turns_go_on c.loop-i.invariant (inside (goal.at.loop-i-preserved c).In-loop-i) (held (goal.at.loop-i-preserved c).After-start_of-start)
    (rw is at few)
    (sym (turn (goal.at.loop-i-preserved c).After-check_turn) ∙ ap fault_told c.in_default.is))

pub returns : goal.returns
unfolding sum_fault
returns c =
    let left : (layout_of c.args.section.now).functions ≤ c.loop-i.i = rw c.requires.layout_is at c.loop-i-test.false in
    let all : c.loop-i.i ≡ (layout_of c.args.section.now).functions = omega (arith, c.loop-i.invariant.within) in
    (rw (c.loop-i.invariant.sum, all, c.requires.layout_is) at c.check_sum.ensures) ∙ turns_end c.loop-i.invariant left
