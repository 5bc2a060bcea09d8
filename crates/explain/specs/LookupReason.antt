-- Why a lookup gives its answer, with the number of a rule that the section breaks (SPECIFICATION 11.2 to 11.6).
use Rattle.std.specs.Prelude.{ℕ, Result}
use Rattle.explain.specs.declared.why.Coverers.{Coverers}
use Rattle.explain.specs.declared.why.FoundRow.{FoundRow}
use Rattle.explain.specs.declared.why.NotFound.{NotFound}

-- the number of a broken rule and the entry's index; or what the lookup comes to in a section that is accepted
pub data LookupReason : Type 0 where
  Unsound : ℕ → ℕ → LookupReason
  Accepted : Result FoundRow NotFound → LookupReason

-- with the functions that cover, where there is a dispute
pub record LookupWhy : Type 0 where
  pub reason : LookupReason
  pub coverers : Coverers
