-- What the code's answers tell, in numbers.
use Rattle.std.specs.Prelude.{Result, Ok, Err}
use Rattle.accept.specs.Given.{number_of_rule}
use Rattle.ask.specs.AskAnswer.{AskAnswer, Found, Unsound, Unsorted, NoFunction, NoRow, Damaged}
use Rattle.ask.specs.declared.answer.AskFound.{AskFound}
use Rattle.ask.specs.declared.answer.AskRefusal.{AskRefusal}
use Rattle.ask.specs.declared.answer.AskRefusal.TheVariants as refusal

abbrev pub refusal_told : AskRefusal → AskAnswer
refusal_told (refusal.Unsound rule) = Unsound (number_of_rule rule)
refusal_told refusal.Unsorted = Unsorted
refusal_told (refusal.NoFunction compared) = NoFunction compared
refusal_told (refusal.NoRow function compared) = NoRow function compared
refusal_told (refusal.Damaged function compared) = Damaged function compared

abbrev pub ask_told : Result AskFound AskRefusal → AskAnswer
ask_told (Ok found) = Found found.function found.compared found.number found.row
ask_told (Err refused) = refusal_told refused
