-- What a lookup's answer is in the document's numbers.
use Rattle.std.specs.Prelude.{Result, Ok, Err}
use Rattle.accept.specs.Given.{number_of_rule}
use Rattle.accept.specs.declared.verdict.Refusal.{Refusal}
use Rattle.lookup.specs.Outcome.{Outcome, Answer}
use Rattle.lookup.specs.Outcome as outcome
use Rattle.lookup.specs.declared.answer.Answer as code
use Rattle.lookup.specs.declared.answer.Found.{Found}
use Rattle.lookup.specs.declared.answer.Unfound.{Unfound}
use Rattle.lookup.specs.declared.answer.Unfound.TheVariants.{NoFunction, Dispute, NoRow}

abbrev pub outcome_told : Result Found Unfound → Outcome
outcome_told (Ok found) = outcome.Found found.row found.function found.number
outcome_told (Err NoFunction) = outcome.NoFunction
outcome_told (Err (Dispute first second)) = outcome.Dispute first second
outcome_told (Err (NoRow function)) = outcome.NoRow function

abbrev pub answer_told : code.Answer → Answer
answer_told answer = record { outcome = outcome_told answer.outcome; compared = answer.compared }

-- of any section: "Section refusals carry 0."
abbrev pub lookup_told : Result code.Answer Refusal → Answer
lookup_told (Ok answer) = answer_told answer
lookup_told (Err refusal) = record { outcome = outcome.Unsound (number_of_rule refusal.rule) refusal.index; compared = 0 }
