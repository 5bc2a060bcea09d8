-- Every public function of `explain` determines its reply: two replies that its own contract allows for one input are equal.
-- Assumes nothing.
use mathlib.Core.Path.{refl, sym, ◌∙◌}
use Rattle.explain.proofs.coverers.all_covering.Kinds as all_covering-kinds
use Rattle.explain.proofs.coverers.all_covering.Reads as all_covering-reads
use Rattle.explain.proofs.coverers.no_coverers.Kinds as no_coverers-kinds
use Rattle.explain.proofs.coverers.no_coverers.Reads as no_coverers-reads
use Rattle.explain.proofs.looked.explain_look.Kinds as explain_look-kinds
use Rattle.explain.proofs.looked.explain_look.Reads as explain_look-reads
use Rattle.explain.proofs.looked.explain_lookup.Kinds as explain_lookup-kinds
use Rattle.explain.proofs.looked.explain_lookup.Reads as explain_lookup-reads
use Rattle.explain.proofs.nearby.nearest_at.Kinds as nearest_at-kinds
use Rattle.explain.proofs.nearby.nearest_at.Reads as nearest_at-reads
use Rattle.explain.proofs.stepped.explain_row.Kinds as explain_row-kinds
use Rattle.explain.proofs.stepped.explain_row.Reads as explain_row-reads
use Rattle.explain.proofs.stepped.explain_step.Kinds as explain_step-kinds
use Rattle.explain.proofs.stepped.explain_step.Reads as explain_step-reads
use Rattle.explain.proofs.sums.sum_of.Kinds as sum_of-kinds
use Rattle.explain.proofs.sums.sum_of.Reads as sum_of-reads
use Rattle.explain.proofs.ToldLaws.{lookup_why_told_once}
use Rattle.explain.proofs.ToldLaws.{step_why_told_once}
use Rattle.promises.specs.Determined.{Determined}

pub no_coverers_determined : Determined no_coverers-kinds.ps no_coverers-kinds.r no_coverers-reads.Learnt
no_coverers_determined κs a z z' w w' p q = (p ∙ sym q, refl)

pub all_covering_determined : Determined all_covering-kinds.ps all_covering-kinds.r all_covering-reads.Learnt
all_covering_determined κs a z z' w w' p q = (p ∙ sym q, refl)

pub nearest_at_determined : Determined nearest_at-kinds.ps nearest_at-kinds.r nearest_at-reads.Learnt
nearest_at_determined κs a z z' w w' p q = (p ∙ sym q, refl)

pub explain_look_determined : Determined explain_look-kinds.ps explain_look-kinds.r explain_look-reads.Learnt
explain_look_determined κs a z z' w w' p q = (p ∙ sym q, refl)

pub explain_lookup_determined : Determined explain_lookup-kinds.ps explain_lookup-kinds.r explain_lookup-reads.Learnt
explain_lookup_determined κs a z z' w w' p q = (lookup_why_told_once _ _ (p ∙ sym q), refl)

pub explain_row_determined : Determined explain_row-kinds.ps explain_row-kinds.r explain_row-reads.Learnt
explain_row_determined κs a z z' w w' p q = (p ∙ sym q, refl)

pub explain_step_determined : Determined explain_step-kinds.ps explain_step-kinds.r explain_step-reads.Learnt
explain_step_determined κs a z z' w w' p q = (step_why_told_once _ _ (p ∙ sym q), refl)

pub sum_of_determined : Determined sum_of-kinds.ps sum_of-kinds.r sum_of-reads.Learnt
sum_of_determined κs a z z' w w' p q = (p ∙ sym q, refl)
