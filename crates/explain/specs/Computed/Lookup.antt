-- Why a lookup gives its answer, by its cases. That what is said holds, and implies the answer, is proved of Why.
use Rattle.std.specs.Prelude.{ℕ, ◌+◌, true, false, List, ltb, ℤ, Option, Some, None, Result, Ok, Err}
use Rattle.numbers.specs.Start.{distance}
use Rattle.section.specs.Entry.{type_of}
use Rattle.section.specs.Meaning.{area_of, shape_of, entry_in, function_in, functions_of}
use Rattle.section.specs.Row.{row_place, row_start}
use Rattle.section.specs.declared.entry.Entry.{Entry}
use Rattle.section.specs.declared.shape.Shape.{Shape}
use Rattle.accept.specs.Computed.Checks.{verdict}
use Rattle.accept.specs.Verdict.{Verdict}
use Rattle.accept.specs.Verdict as verdict
use Rattle.lookup.specs.Computed.Covering.{covering, cover_of}
use Rattle.lookup.specs.Computed.Rows.{offset_within, row_for}
use Rattle.lookup.specs.declared.rows.Hit.{Hit}
use Rattle.lookup.specs.declared.search.Cover.{Cover}
use Rattle.lookup.specs.declared.search.Cover.TheVariants.{Nobody, One, Two}
use Rattle.explain.specs.Computed.Coverers.{no_coverers, coverers_in}
use Rattle.explain.specs.Computed.Nearest.{nearest_in}
use Rattle.explain.specs.LookupReason.{LookupWhy}
use Rattle.explain.specs.LookupReason as reason
use Rattle.explain.specs.declared.nearby.Side.TheVariants.{Below, Above}
use Rattle.explain.specs.declared.why.FoundRow.{FoundRow}
use Rattle.explain.specs.declared.why.LookedWhy.{LookedWhy}
use Rattle.explain.specs.declared.why.NotFound.{NotFound}
use Rattle.explain.specs.declared.why.NotFound.TheVariants as missing

-- where row k of an entry starts, if there is one
unfoldable pub start_in : List ℕ → Shape → Entry → ℕ → Option ℕ
start_in area shape entry k =
    elim (ltb k entry.rows) [
      | true ↦ Some (row_start area shape.order (type_of entry.info) (row_place area (type_of entry.info) entry.first k))
      | false ↦ None
    ]

-- "For 23: the function, the offset used, and its first row's start or that it has no rows." "For a found row: the function, the offset
-- used, the row, and the next row's start if there is one."
unfoldable pub by_scan : List ℕ → Shape → Entry → ℕ → ℕ → Option Hit → Result FoundRow NotFound
by_scan area shape entry i o None = Err (missing.NoRow i o (start_in area shape entry 0))
by_scan area shape entry i o (Some hit) =
    Ok (record { row = hit.row; function = i; number = hit.number; offset = o; next = start_in area shape entry (hit.number + 1) })

-- what function i comes to, which alone covers
unfoldable pub in_function : List ℕ → ℤ → ℕ → Result FoundRow NotFound
in_function s d i = by_scan (area_of s) (shape_of s) (entry_in s i) i (offset_within d (function_in s i)) (row_for d (function_in s i))

unfoldable pub alone_why : Result FoundRow NotFound → LookedWhy
alone_why looked = record { looked = looked; coverers = no_coverers }

-- "For 21 ..: the covered address nearest below PC and the nearest above"
unfoldable pub no_function_why : List ℕ → ℤ → NotFound
no_function_why s d = missing.NoFunction (nearest_in s Below d) (nearest_in s Above d)

-- by how many cover; "For 22: the indexes of all covering functions"
unfoldable pub by_cover : List ℕ → ℤ → Cover → LookedWhy
by_cover s d Nobody = alone_why (Err (no_function_why s d))
by_cover s d (One i) = alone_why (in_function s d i)
by_cover s d (Two i j) = record { looked = Err missing.Dispute; coverers = coverers_in s d }

-- in a section that was accepted, at d
unfoldable pub looked_of : List ℕ → ℤ → LookedWhy
looked_of s d = by_cover s d (cover_of (covering d (functions_of s)))

unfoldable pub why_after : Verdict → LookedWhy → LookupWhy
why_after verdict.Accepted why = record { reason = reason.Accepted why.looked; coverers = why.coverers }
why_after (verdict.Refused number index) why = record { reason = reason.Unsound number index; coverers = no_coverers }

-- on any bytes
unfoldable pub lookup_why : List ℕ → ℕ → ℕ → LookupWhy
lookup_why s address pc = why_after (verdict s) (looked_of s (distance address pc))
