-- `held::start_at` takes 2^32 off the number that holds the start.
-- Assumes nothing.
use mathlib.Core.Path.{◌≡◌}
use Prim.Native.Nat.{ℕ, ◌≤◌, ◌*◌, ◌^◌}
use native.Mathlib.Omega.{arith}
use lib.IntN.{ℤ, pos, ◌-ℤ◌}
use mir.Syntax.{w64}
use mir.Val.{SFits, to_z, of_z}
use mir.Facts.{to_z-of_z}
use Rattle.numbers.specs.Inner.Held.{Held}
use Rattle.numbers.proofs.HeldLaws.{held_less}
use Rattle.numbers.proofs.SignedLaws.{as_signed, less_fits}
use Rattle.numbers.proofs.held.start_at.Goals as goal

-- what the code computes fits, and is the start
fits : (h : ℕ) → h ≤ 3 * 2 ^ 32 → SFits w64 (to_z w64 h -ℤ pos 4294967296)
fits h room = rw (as_signed h (omega arith)) (less_fits h 4294967296 (omega arith) (omega arith))

start_is : (h : ℕ) {z : ℤ} → Held z h → to_z w64 (of_z w64 (to_z w64 h -ℤ pos 4294967296)) ≡ z
start_is h held =
    let room = held.room in
    rw (to_z-of_z (fits h room), as_signed h (omega arith)) (held_less held)

pub overflow_sub-result : goal.overflow_sub-result
overflow_sub-result c = fits _ c.held_start.ensures.range.room

pub returns : goal.returns
returns c = start_is _ c.held_start.ensures.range
