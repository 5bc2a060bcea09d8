-- What the code answers is known from what it tells: no two answers tell the same.
-- Assumes nothing.
use mathlib.Core.Path.{◌≡◌, refl, ap}
use Rattle.std.proofs.Common.{Result, Ok, Err}
use Rattle.accept.specs.declared.verdict.Rule.{Rule}
use Rattle.accept.proofs.Exactly.{by_number}
use Rattle.listing.specs.Told.{described_told}
use Rattle.listing.specs.declared.function.Facts.{Facts}
use Rattle.listing.specs.declared.function.Undescribed.{Undescribed}
use Rattle.listing.specs.declared.function.Undescribed.TheVariants.{Unsound, Unknown}

abbrev unsound : Rule → Result Facts Undescribed
unsound rule = Err (Unsound rule)

pub described_told_once : (a b : Result Facts Undescribed) → described_told a ≡ described_told b → a ≡ b
described_told_once (Ok facts) (Ok other) e = cc
described_told_once (Ok facts) (Err (Unsound rule)) e = cc
described_told_once (Ok facts) (Err Unknown) e = cc
described_told_once (Err (Unsound rule)) (Ok facts) e = cc
described_told_once (Err (Unsound rule)) (Err (Unsound other)) e = ap unsound (by_number rule other cc)
described_told_once (Err (Unsound rule)) (Err Unknown) e = cc
described_told_once (Err Unknown) (Ok facts) e = cc
described_told_once (Err Unknown) (Err (Unsound rule)) e = cc
described_told_once (Err Unknown) (Err Unknown) e = refl
