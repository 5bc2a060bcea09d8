-- One turn after the other, for `left` numbers from i on: how the code goes through the functions of a section.
use Rattle.std.specs.Prelude.{ℕ, zero, suc}

unfoldable pub each : {A : Type 0} → (A → ℕ → A) → ℕ → ℕ → A → A
each turn zero i known = known
each turn (suc left) i known = each turn left (suc i) (turn known i)
