-- `digits_of` reads one digit a turn: what the rest makes behind the digits read is what all of them make.
-- Assumes nothing.
use mathlib.Core.Path.{◌≡◌}
use Prim.Native.Nat.{◌<◌, ◌^◌}
use lib.ListN.{drop}
use Rattle.digits.specs.Digits.{digits_from}
use Rattle.digits.proofs.digits_of.Given as goal

abbrev pub invariant-loop-byte : goal.invariant-loop-byte
invariant-loop-byte l =
    (l.n < l.base ^ l.byte-index) × (digits_from l.base l.n (drop l.byte-index l.text) ≡ digits_from l.base 0 l.text)
