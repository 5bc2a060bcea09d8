-- What the code's answer tells, in numbers.
use Rattle.std.specs.Prelude.{Result, Ok, Err}
use Rattle.accept.specs.Given.{number_of_rule}
use Rattle.listing.specs.Described.{Described, Unsound, Unknown, Function}
use Rattle.listing.specs.declared.function.Facts.{Facts}
use Rattle.listing.specs.declared.function.Undescribed.{Undescribed}
use Rattle.listing.specs.declared.function.Undescribed.TheVariants as undescribed

abbrev pub described_told : Result Facts Undescribed → Described
described_told (Ok facts) = Function facts
described_told (Err (undescribed.Unsound rule)) = Unsound (number_of_rule rule)
described_told (Err undescribed.Unknown) = Unknown
