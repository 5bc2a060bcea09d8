-- Why a step gives its answer, with the number of a rule that the section breaks (SPECIFICATION 11.7 to 11.9).
use Rattle.std.specs.Prelude.{ℕ}
use Rattle.explain.specs.declared.why.Coverers.{Coverers}
use Rattle.explain.specs.declared.why.FoundRow.{FoundRow}
use Rattle.explain.specs.declared.why.NotFound as missing
use Rattle.explain.specs.declared.why.RowReason.{RowReason}

-- 41 by the two numbers added; the number of a broken rule and the entry's index; nothing is looked up; the PC looked up, and why no row
-- was found there; the row found, what it comes to, and the PC looked up
pub data StepReason : Type 0 where
  Window : ℕ → ℕ → StepReason
  Unsound : ℕ → ℕ → StepReason
  NothingAsked : StepReason
  NotFound : ℕ → missing.NotFound → StepReason
  FromRow : FoundRow → RowReason → ℕ → StepReason

-- with the functions that cover, where there is a dispute
pub record StepWhy : Type 0 where
  pub reason : StepReason
  pub coverers : Coverers
