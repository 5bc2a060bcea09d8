-- Where a row reader begins.
use Rattle.std.specs.Prelude.{ℕ, List}
use Rattle.accept.specs.Computed.Checks.{verdict}
use Rattle.accept.specs.Verdict.{Verdict, Accepted, Refused}
use Rattle.listing.specs.Described.{Described, Unsound, Unknown, Function}
use Rattle.listing.specs.Functions.{described_of}
use Rattle.listing.specs.Computed.Turns.{nothing_left}
use Rattle.listing.specs.declared.rows.RowPlace.{RowPlace}

unfoldable pub place_in : Described → RowPlace
place_in (Unsound number) = nothing_left
place_in Unknown = nothing_left
place_in (Function facts) = facts.rows

unfoldable pub place_by : Verdict → List ℕ → ℕ → RowPlace
place_by Accepted s index = place_in (described_of s index)
place_by (Refused number fault) s index = nothing_left

unfoldable pub place_of : List ℕ → ℕ → RowPlace
place_of s index = place_by (verdict s) s index
