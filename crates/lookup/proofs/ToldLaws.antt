-- What a lookup answers is known from what it tells: no two answers tell the same.
-- Assumes nothing.
use mathlib.Core.Path.{◌≡◌, refl, sym, ◌∙◌, ap}
use Prim.Native.Nat.{ℕ}
use Rattle.std.proofs.Common.{Result, Ok, Err}
use Rattle.section.specs.declared.row.Row.{Row}
use Rattle.accept.specs.declared.verdict.Refusal.{Refusal}
use Rattle.accept.specs.declared.verdict.Rule.{Rule}
use Rattle.accept.specs.Given.{number_of_rule}
use Rattle.accept.proofs.Exactly.{by_number}
use Rattle.lookup.specs.Outcome as outcome
use Rattle.lookup.specs.Told.{outcome_told, answer_told, lookup_told}
use Rattle.lookup.specs.declared.answer.Answer.{Answer}
use Rattle.lookup.specs.declared.answer.Found.{Found}
use Rattle.lookup.specs.declared.answer.Unfound.{Unfound}
use Rattle.lookup.specs.declared.answer.Unfound.TheVariants.{NoFunction, Dispute, NoRow}

abbrev found : Row → ℕ → ℕ → Result Found Unfound
found row function number = Ok (record { row = row; function = function; number = number })

same_found : (a b : Found) → outcome_told (Ok a) ≡ outcome_told (Ok b) → ◌≡◌ {A = Result Found Unfound} (Ok a) (Ok b)
same_found a b e =
    let row : a.row ≡ b.row = cc in
    let function : a.function ≡ b.function = cc in
    let number : a.number ≡ b.number = cc in
    ap (λ row. found row a.function a.number) row
    ∙ ap (λ function. found b.row function a.number) function
    ∙ ap (λ number. found b.row b.function number) number

pub outcome_told_once : (a b : Result Found Unfound) → outcome_told a ≡ outcome_told b → a ≡ b
outcome_told_once (Ok a) (Ok b) e = same_found a b e
outcome_told_once (Err NoFunction) (Err NoFunction) e = refl
outcome_told_once (Err (Dispute i j)) (Err (Dispute k l)) e =
    let first : i ≡ k = cc in
    let second : j ≡ l = cc in
    ap (λ i. Err (Dispute i j)) first ∙ ap (λ j. Err (Dispute k j)) second
outcome_told_once (Err (NoRow i)) (Err (NoRow j)) e = let function : i ≡ j = cc in ap (λ i. Err (NoRow i)) function
outcome_told_once (Ok a) (Err NoFunction) e = cc
outcome_told_once (Ok a) (Err (Dispute i j)) e = cc
outcome_told_once (Ok a) (Err (NoRow i)) e = cc
outcome_told_once (Err NoFunction) (Ok b) e = cc
outcome_told_once (Err (Dispute i j)) (Ok b) e = cc
outcome_told_once (Err (NoRow i)) (Ok b) e = cc
outcome_told_once (Err a) (Err b) e = cc

abbrev answered : Result Found Unfound → ℕ → Answer
answered it compared = record { outcome = it; compared = compared }

pub answer_told_once : (a b : Answer) → answer_told a ≡ answer_told b → a ≡ b
answer_told_once a b e =
    let same : a.outcome ≡ b.outcome = outcome_told_once a.outcome b.outcome (ap (λ r. r.outcome) e) in
    let compared : a.compared ≡ b.compared = ap (λ r. r.compared) e in
    ap (λ it. answered it a.compared) same ∙ ap (answered b.outcome) compared

abbrev refused : Rule → ℕ → Result Answer Refusal
refused rule index = Err (record { rule = rule; index = index })

-- an answer on an accepted section has no rule's number
apart : (a : Result Found Unfound) (number index : ℕ) → ¬ (outcome_told a ≡ outcome.Unsound number index)
apart (Ok located) number index e = cc
apart (Err NoFunction) number index e = cc
apart (Err (Dispute i j)) number index e = cc
apart (Err (NoRow i)) number index e = cc

pub lookup_told_once : (a b : Result Answer Refusal) → lookup_told a ≡ lookup_told b → a ≡ b
lookup_told_once (Ok a) (Ok b) e = ap Ok (answer_told_once a b e)
lookup_told_once (Ok a) (Err refusal) e = absurd (apart a.outcome _ _ (ap (λ r. r.outcome) e))
lookup_told_once (Err refusal) (Ok b) e = absurd (apart b.outcome _ _ (ap (λ r. r.outcome) (sym e)))
lookup_told_once (Err a) (Err b) e =
    let told : outcome.Unsound (number_of_rule a.rule) a.index ≡ outcome.Unsound (number_of_rule b.rule) b.index = ap (λ r. r.outcome) e in
    let rule : a.rule ≡ b.rule = by_number a.rule b.rule cc in
    let index : a.index ≡ b.index = cc in
    ap (λ rule. refused rule a.index) rule ∙ ap (refused b.rule) index
