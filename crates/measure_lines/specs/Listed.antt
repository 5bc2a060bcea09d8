-- What the benchmark's library answers of a listing: the refusal, or a digest of all lines, each folded in by its weight.
use Rattle.std.specs.Prelude.{ℕ, ◌+◌, ◌*◌, ◌^◌, ◌%◌, List, [], ◌∷◌}
use Rattle.listing.specs.Listing.{Listing, refused, lines, listing_of}
use Rattle.listing.specs.declared.function.Kind.{Kind}
use Rattle.listing.specs.declared.function.Kind.TheVariants.{Plain, Repeated}
use Rattle.listing.specs.declared.lines.FunctionLine.{FunctionLine}
use Rattle.listing.specs.declared.lines.Line.{Line}
use Rattle.listing.specs.declared.lines.Line.TheVariants.{OfFunction, OfRow}
use Rattle.measure.specs.Digest.{low, magnitude, row_weight}
use Rattle.measure.specs.declared.Measured.{Measured}

abbrev pub kind_weight : Kind → ℕ
kind_weight Plain = 0
kind_weight (Repeated size) = size

abbrev pub function_weight : FunctionLine → ℕ
function_weight line = low line.index + magnitude line.start + line.size + kind_weight line.kind

abbrev pub line_weight : Line → ℕ
line_weight (OfFunction line) = function_weight line
line_weight (OfRow row) = row_weight row

unfoldable pub digest_lines : ℕ → List Line → ℕ
digest_lines digest [] = digest
digest_lines digest (first ∷ rest) = digest_lines ((digest * 31 + line_weight first) % 2 ^ 32) rest

abbrev pub listed_by : Listing → Measured
listed_by (refused number index) = record { number = number; index = index; digest = 0 }
listed_by (lines all) = record { number = 0; index = 0; digest = digest_lines 0 all }

abbrev pub listed_of : List ℕ → Measured
listed_of s = listed_by (listing_of s)
