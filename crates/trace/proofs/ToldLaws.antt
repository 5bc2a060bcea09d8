-- What a trace answers is known from what it tells: no two answers tell the same.
-- Assumes nothing.
use mathlib.Core.Path.{◌≡◌}
use native.Mathlib.Omega.{arith}
use Rattle.std.proofs.Common.{Result}
use Rattle.accept.proofs.Exactly.{by_number}
use Rattle.trace.specs.Told.{door_told, traced_told, trace_told}
use Rattle.trace.specs.declared.answer.DoorFault.{DoorFault}
use Rattle.trace.specs.declared.answer.TraceRefusal.{TraceRefusal}
use Rattle.trace.specs.declared.answer.Traced.{Traced}

pub door_told_once : (a b : Result (Unit {0}) DoorFault) → door_told a ≡ door_told b → a ≡ b
door_told_once a b e = grind (arith, by_number)

pub traced_told_once : (a b : Traced) → traced_told a ≡ traced_told b → a ≡ b
traced_told_once a b e = grind (arith, by_number)

pub trace_told_once : (a b : Result Traced TraceRefusal) → trace_told a ≡ trace_told b → a ≡ b
trace_told_once a b e = grind (arith, by_number)
