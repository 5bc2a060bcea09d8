-- Starts (SPECIFICATION 2.6), and the distance d that they are compared with (SPECIFICATION 4.1), both exact whole numbers.
use Rattle.std.specs.Prelude.{ℕ, ℤ, pos, ◌+ℤ◌, ◌-ℤ◌}
use Rattle.numbers.specs.Signed.{signed_of}

-- The effective start is "the start field, plus the field's own position in the section when flag 0x4 is set. It is a signed
-- whole number and never wraps." (The position is 0 where the flag is not set.)
unfoldable pub start_at : ℕ → ℕ → ℤ
start_at field position = signed_of 4 field +ℤ pos position

-- "Let d be PC minus section address, a whole number that may be negative."
unfoldable pub distance : ℕ → ℕ → ℤ
distance address pc = pos pc -ℤ pos address
