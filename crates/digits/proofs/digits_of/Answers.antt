-- `digits_of` reads one digit a turn: what the rest makes behind the digits read is what all of them make.
-- Assumes nothing.
use borrow.Author.Rules.{rules}
use mathlib.Core.Path.{refl, sym, ◌∙◌}
use Prim.Native.Nat.{◌<◌, ◌+◌, ◌*◌, ◌^◌}
use native.Mathlib.Nat.{pow-zero}
use native.Mathlib.Omega.{arith}
use Rattle.digits.proofs.DigitLaws.{too_few, too_many, enough, digits_more, digits_wrong, digits_done, room_for_one, one_more}
use Rattle.digits.proofs.digits_of.Goals as goal
use Rattle.digits.proofs.digits_of.Goals.{Else-base-digit, then-is_empty-via-then-is_empty, then-is_empty-via-else-is_empty+then-most-text}

pub returns-then-is_empty : goal.returns-then-is_empty
returns-then-is_empty c =
    elim c.then-is_empty.branch [
      | then-is_empty-via-then-is_empty w ↦ sym (too_few _ _ _ (search rules))
      | then-is_empty-via-else-is_empty+then-most-text w ↦ sym (too_many _ _ _ (search rules) (search rules))
    ]

pub loop-byte-init : goal.loop-byte-init
loop-byte-init c = (simp pow-zero (omega arith), refl)

pub returns-then-base-digit : goal.returns-then-base-digit
returns-then-base-digit c =
    sym
    (enough _ _ _ (search rules) (search rules) ∙ sym c.loop-byte.invariant.1
    ∙ digits_wrong _ c.loop-byte.n _ c.loop-byte.byte-index _ (search rules) c.digit_of-digit.ensures (search rules))

-- what was read so far leaves room for one more digit
room : (c : Else-base-digit) → c.args.base * c.loop-byte.n + c.digit_of-digit.result < 2 ^ 64
room c =
    let asked = c.requires in
    room_for_one _ _ c.loop-byte.n c.loop-byte.byte-index _ asked.0 asked.1 (search rules) c.loop-byte.invariant.0 (search rules)

pub overflow_mul-n : goal.overflow_mul-n
overflow_mul-n c = record { fits = omega (arith, room c) }

pub overflow_add-n : goal.overflow_add-n
overflow_add-n c = record { fits = omega (arith, room c) }

pub loop-byte-preserved : goal.loop-byte-preserved
loop-byte-preserved c =
    let digit = c.digit_of-digit.ensures in (
      one_more _ _ c.loop-byte.byte-index _ c.loop-byte.invariant.0 (search rules),
      sym (digits_more _ c.loop-byte.n _ c.loop-byte.byte-index _ (search rules) digit (search rules)) ∙ c.loop-byte.invariant.1,
    )

pub returns : goal.returns
returns c =
    sym
    (enough _ _ _ (search rules) (search rules) ∙ sym c.loop-byte.invariant.1
    ∙ digits_done _ c.loop-byte.n _ c.loop-byte.byte-index (search rules))
