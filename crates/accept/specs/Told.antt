-- What the code's answers tell, in numbers.
use Rattle.std.specs.Prelude.{ℕ, Result, Ok, Err}
use Rattle.accept.specs.Fault.{Fault, Sound, Breaks}
use Rattle.accept.specs.Given.{number_of_rule}
use Rattle.accept.specs.Verdict.{Verdict, Accepted, Refused}
use Rattle.accept.specs.declared.verdict.Refusal.{Refusal}
use Rattle.accept.specs.declared.verdict.Rule.{Rule}

abbrev pub fault_told : Result (Unit {0}) Rule → Fault
fault_told (Ok done) = Sound
fault_told (Err rule) = Breaks (number_of_rule rule)

-- of a row, of rows or of an entry with its rows: what was found, or the number of the broken rule
abbrev pub rows_told : {A : Type 0} → Result A Rule → Result A ℕ
rows_told (Ok found) = Ok found
rows_told (Err rule) = Err (number_of_rule rule)

abbrev pub verdict_told : Result (Unit {0}) Refusal → Verdict
verdict_told (Ok done) = Accepted
verdict_told (Err refusal) = Refused (number_of_rule refusal.rule) refusal.index
