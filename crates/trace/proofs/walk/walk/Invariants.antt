-- `walk::walk` steps while frames are allowed: what is written and what is left make the whole trace (`Going`).
-- Assumes nothing.
use Prim.Native.Nat.{◌-◌}
use Rattle.section.specs.Meaning.{shape_of}
use Rattle.lookup.specs.Computed.Answers.{look_in}
use Rattle.caller.specs.Computed.Caller.{step_of}
use Rattle.trace.proofs.GoingLaws.{Going}
use Rattle.trace.proofs.walk.walk.Given as goal

abbrev pub invariant-loop-frames : goal.invariant-loop-frames
invariant-loop-frames l =
    Going (step_of (shape_of l.section) (look_in l.section l.process.section) l.stack l.process) l.limit l.initial.current l.initial.buffer l.buffer l.current l.frames (l.limit - l.frames)
