-- What the code answers is known from what it tells: no two answers tell the same.
-- Assumes nothing.
use mathlib.Core.Path.{◌≡◌}
use native.Mathlib.Omega.{arith}
use Rattle.std.proofs.Common.{Result}
use Rattle.accept.proofs.Exactly.{by_number}
use Rattle.ask.specs.Told.{ask_told}
use Rattle.ask.specs.declared.answer.AskFound.{AskFound}
use Rattle.ask.specs.declared.answer.AskRefusal.{AskRefusal}

pub ask_told_once : (a b : Result AskFound AskRefusal) → ask_told a ≡ ask_told b → a ≡ b
ask_told_once a b e = grind (arith, by_number)
