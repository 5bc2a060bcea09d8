-- What the code's explanations are in the document's numbers.
use Rattle.std.specs.Prelude.{Result, Ok, Err}
use Rattle.accept.specs.Given.{number_of_rule}
use Rattle.accept.specs.declared.verdict.Refusal.{Refusal}
use Rattle.explain.specs.Computed.Coverers.{no_coverers}
use Rattle.explain.specs.LookupReason.{LookupWhy}
use Rattle.explain.specs.LookupReason as lookup
use Rattle.explain.specs.StepReason.{StepReason, StepWhy}
use Rattle.explain.specs.StepReason as step
use Rattle.explain.specs.declared.why.LookedWhy.{LookedWhy}
use Rattle.explain.specs.declared.why.StepReason as code
use Rattle.explain.specs.declared.why.StepReason.TheVariants.{Window, Unsound, NothingAsked, NotFound, FromRow}
use Rattle.explain.specs.declared.why.StepWhy as code_why

-- "a refused section explains itself by number and index"
abbrev pub lookup_why_told : Result LookedWhy Refusal → LookupWhy
lookup_why_told (Ok why) = record { reason = lookup.Accepted why.looked; coverers = why.coverers }
lookup_why_told (Err refusal) = record { reason = lookup.Unsound (number_of_rule refusal.rule) refusal.index; coverers = no_coverers }

abbrev pub step_reason_told : code.StepReason → StepReason
step_reason_told (Window lies size) = step.Window lies size
step_reason_told (Unsound refusal) = step.Unsound (number_of_rule refusal.rule) refusal.index
step_reason_told NothingAsked = step.NothingAsked
step_reason_told (NotFound pc why) = step.NotFound pc why
step_reason_told (FromRow found reason pc) = step.FromRow found reason pc

abbrev pub step_why_told : code_why.StepWhy → StepWhy
step_why_told why = record { reason = step_reason_told why.reason; coverers = why.coverers }
