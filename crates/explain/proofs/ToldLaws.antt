-- What an explanation says is known from what it tells: no two explanations tell the same.
-- Assumes nothing.
use mathlib.Core.Path.{◌≡◌}
use native.Mathlib.Omega.{arith}
use Rattle.std.proofs.Common.{Result}
use Rattle.accept.specs.declared.verdict.Refusal.{Refusal}
use Rattle.accept.proofs.Exactly.{by_number}
use Rattle.explain.specs.Told.{lookup_why_told, step_reason_told, step_why_told}
use Rattle.explain.specs.declared.why.LookedWhy.{LookedWhy}
use Rattle.explain.specs.declared.why.StepReason.{StepReason}
use Rattle.explain.specs.declared.why.StepWhy.{StepWhy}

pub lookup_why_told_once : (a b : Result LookedWhy Refusal) → lookup_why_told a ≡ lookup_why_told b → a ≡ b
lookup_why_told_once a b e = grind (arith, by_number)

pub step_reason_told_once : (a b : StepReason) → step_reason_told a ≡ step_reason_told b → a ≡ b
step_reason_told_once a b e = grind (arith, by_number)

pub step_why_told_once : (a b : StepWhy) → step_why_told a ≡ step_why_told b → a ≡ b
step_why_told_once a b e = grind (arith, by_number)
