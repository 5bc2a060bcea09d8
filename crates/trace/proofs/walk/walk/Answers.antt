-- `walk::walk` steps while frames are allowed: what is written and what is left make the whole trace (`Going`).
-- Assumes nothing.
use native.Mathlib.Omega.{arith}
use mathlib.Core.Path.{◌≡◌, sym, ◌∙◌, ap}
use Prim.Native.Nat.{◌+◌, ◌-◌, ◌*◌, ◌<◌}
use lib.ListN.{length}
use Rattle.caller.proofs.NumberLaws.{caller_unmarked, caller_keeps_lr}
use Rattle.caller.specs.Numbers.{step_number}
use Rattle.trace.specs.Ending.{Outermost, Full}
use Rattle.trace.specs.Frames.{frame_of, words_of, traced_as}
use Rattle.trace.specs.Computed.Trace.{checked_walk}
use Rattle.trace.specs.Inner.Writing.{next_from, put}
use Rattle.trace.proofs.GoingLaws.{next_same, going_full, going_refused, going_same, going_outermost, going_on}
use Rattle.trace.proofs.walk.walk.Goals as goal
use Rattle.trace.proofs.walk.walk.Goals.{After-next_from-current, After-write_frame, In-Ok, In-loop-frames}

more : (c : In-loop-frames) → 0 < c.args.limit - c.loop-frames.frames
more c = omega (arith, c.loop-frames-test.true)

-- ---- the step is refused
pub returns-in-Err : goal.returns-in-Err
unfolding checked_walk step_number
returns-in-Err c =
    going_refused c.loop-frames.invariant (more (goal.at.returns-in-Err c).In-loop-frames) _ (sym c.in-Err.ensures) (λ caller e. cc)

-- ---- the step yields a frame
-- what the buffer holds then, and the step that made it
written_is : (c : After-write_frame)
    → c.write_frame.new.buffer
    ≡ put c.loop-frames.buffer (3 * c.loop-frames.frames) (words_of (frame_of c.in-Ok.caller))
written_is c = rw c.frame_of.ensures at c.write_frame.ensures

pub shape_of-buffer-then-caller-eq0 : goal.shape_of-buffer-then-caller-eq0
shape_of-buffer-then-caller-eq0 c =
    ap length (written_is (goal.at.shape_of-buffer-then-caller-eq0 c).After-write_frame)
    ∙ going_same c.loop-frames.invariant (omega (arith, c.loop-frames-test.true)) c.requires.2 (sym c.in-Ok.ensures)

pub returns-then-caller-eq0 : goal.returns-then-caller-eq0
unfolding checked_walk
returns-then-caller-eq0 c =
    ap (traced_as (record { ending = Outermost; frames = c.loop-frames.frames + 1 })) (written_is (goal.at.returns-then-caller-eq0 c).After-write_frame)
    ∙ going_outermost c.loop-frames.invariant (omega (arith, c.loop-frames-test.true)) c.requires.2 (sym c.in-Ok.ensures) c.if-caller-eq0.true

-- the next step begins with the caller
next : (c : After-next_from-current) → c.next_from-current.result ≡ c.in-Ok.caller
next c =
    let is : c.next_from-current.result ≡ next_from c.in-Ok.caller c.loop-frames.current = c.next_from-current.ensures in
    let yields = sym c.in-Ok.ensures in
    is ∙ next_same c.in-Ok.caller c.loop-frames.current (caller_unmarked _ _ _ _ _ c.in-Ok.caller yields) (caller_keeps_lr _ _ _ _ _ c.in-Ok.caller yields)

pub loop-frames-preserved : goal.loop-frames-preserved
loop-frames-preserved c =
    let left : c.args.limit - (c.loop-frames.frames + 1) ≡ c.args.limit - c.loop-frames.frames - 1 = omega arith in
    rw (left, written_is (goal.at.loop-frames-preserved c).After-write_frame, next (goal.at.loop-frames-preserved c).After-next_from-current)
    (going_on c.loop-frames.invariant (omega (arith, c.loop-frames-test.true)) c.requires.2 (sym c.in-Ok.ensures) c.if-caller-eq0.false)

-- ---- the limit is full
pub returns : goal.returns
unfolding checked_walk
returns c =
    let all : c.loop-frames.frames ≡ c.args.limit = omega arith in
    ap (λ n. traced_as (record { ending = Full; frames = n }) c.loop-frames.buffer) (sym all)
    ∙ going_full c.loop-frames.invariant (omega (arith, c.loop-frames-test.false))
