-- `field::bytes_at` puts the digits together from the highest down, by the law of a field's digits.
-- Assumes nothing.
use Rattle.std.proofs.Common.{arith}
use Rattle.numbers.proofs.FieldLaws.{digit_more, digit_below, digit_fits, digits_all}
use Rattle.numbers.proofs.field.bytes_at.Goals as goal

pub overflow_mul-number : goal.overflow_mul-number
overflow_mul-number g c = omega (arith, digit_fits _ _ _ c.loop-k.invariant.range (omega arith) c.requires.0)

pub overflow_add-number : goal.overflow_add-number
overflow_add-number g c = omega (arith, digit_fits _ _ _ c.loop-k.invariant.range (omega arith) c.requires.0)

pub loop-k-preserved : goal.loop-k-preserved
loop-k-preserved g c =
    record {
      value = digit_more _ _ _ _ _ c.loop-k-test.true c.loop-k.invariant.value c.digit_at.ensures;
      range = digit_below _ _ _ c.loop-k.invariant.range (omega arith);
    }

pub returns-clause-value : goal.returns-clause-value
returns-clause-value g c =
    digits_all _ _ _ _ _ _ c.requires.1 (omega arith) c.loop-k-test.false c.loop-k.invariant.value
