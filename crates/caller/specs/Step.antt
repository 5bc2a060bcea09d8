-- The cases of a step's answer, with the numbers of its refusals (SPECIFICATION 5.3 to 5.12).
use Rattle.std.specs.Prelude.{ℕ}
use Rattle.caller.specs.declared.registers.Registers.{Registers}

-- the caller's registers; or the old ones, with the number of a broken rule and the entry's index, or with the step's own number
pub data Step : Type 0 where
  Caller : Registers → Step
  Unsound : Registers → ℕ → ℕ → Step
  Refused : Registers → ℕ → Step
