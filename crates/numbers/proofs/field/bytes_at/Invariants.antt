-- `field::bytes_at` has put together the k highest digits, which stand behind the N - k lower ones.
-- Assumes nothing.
use Rattle.std.proofs.Common.{◌≡◌, ◌-◌, ◌<◌, ◌^◌, get_or}
use Rattle.numbers.specs.Field.{digits}
use Rattle.numbers.specs.Inner.Digits.{digit_place}
use Rattle.numbers.proofs.FieldLaws.{values_of}
use Rattle.numbers.proofs.field.bytes_at.Given as goal

abbrev pub invariant-loop-k : goal.invariant-loop-k
invariant-loop-k g l =
    record {
      value : l.number ≡ digits (values_of (λ j. get_or l.bytes (digit_place l.order l.at g.row.N j) 0) l.k (g.row.N - l.k));
      range : l.number < 256 ^ l.k;
    }
