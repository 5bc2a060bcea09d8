-- What a step answers is known from what it tells: no two answers tell the same.
-- Assumes nothing.
use mathlib.Core.Path.{◌≡◌}
use native.Mathlib.Omega.{arith}
use Rattle.std.proofs.Common.{Result}
use Rattle.accept.proofs.Exactly.{by_number}
use Rattle.caller.specs.Told.{frame_told, step_told}
use Rattle.caller.specs.declared.registers.FrameRefusal.{FrameRefusal}
use Rattle.caller.specs.declared.registers.Registers.{Registers}
use Rattle.caller.specs.declared.registers.StepRefusal.{StepRefusal}

pub frame_told_once : (a b : Result Registers FrameRefusal) → frame_told a ≡ frame_told b → a ≡ b
frame_told_once a b e = grind (arith, by_number)

pub step_told_once : (a b : Result Registers StepRefusal) → step_told a ≡ step_told b → a ≡ b
step_told_once a b e = grind (arith, by_number)
