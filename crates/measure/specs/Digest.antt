-- What the benchmark's library answers: the verdict, and a digest of all answers, each folded in by its weight.
use Rattle.std.specs.Prelude.{ℕ, ◌+◌, ◌*◌, ◌^◌, ◌%◌, Bool, true, false, List, [], ◌∷◌}
use Rattle.numbers.specs.Inner.Shift.{shift_of}
use Rattle.numbers.specs.declared.offset.Offset.{Offset}
use Rattle.numbers.specs.declared.offset.Shift.{Shift}
use Rattle.numbers.specs.declared.offset.Shift.TheVariants.{Up, Down}
use Rattle.section.specs.declared.row.Base.{Base}
use Rattle.section.specs.declared.row.Base.TheVariants.{Fp, Sp}
use Rattle.section.specs.declared.row.Place.{Place}
use Rattle.section.specs.declared.row.Place.TheVariants.{Register, AtOffset}
use Rattle.section.specs.declared.row.Row.{Row}
use Rattle.accept.specs.Computed.Checks.{verdict}
use Rattle.accept.specs.Verdict.{Verdict, Accepted, Refused}
use Rattle.lookup.specs.Computed.Answers.{answer_of}
use Rattle.lookup.specs.Outcome.{Answer}
use Rattle.lookup.specs.Outcome.{Outcome}
use Rattle.lookup.specs.Outcome.{Found, Unsound, NoFunction, Dispute, NoRow}
use Rattle.measure.specs.declared.Measured.{Measured}

-- the part of a number below 2 ^ 32
abbrev pub low : ℕ → ℕ
low n = n % 2 ^ 32

abbrev pub shift_weight : Shift → ℕ
shift_weight (Up k) = low k
shift_weight (Down k) = low k

abbrev pub magnitude : Offset → ℕ
magnitude offset = shift_weight (shift_of offset.by)

abbrev pub place_weight : Place → ℕ
place_weight Register = 0
place_weight (AtOffset offset) = magnitude offset

abbrev pub base_weight : Base → ℕ
base_weight Fp = 0
base_weight Sp = 1

abbrev pub flag_weight : Bool → ℕ
flag_weight set = elim set [ true ↦ 1 | false ↦ 0 ]

abbrev pub row_weight : Row → ℕ
row_weight row =
    row.start + base_weight row.base + magnitude row.cfa + place_weight row.ra + place_weight row.fp + flag_weight row.signed

abbrev pub outcome_weight : Outcome → ℕ
outcome_weight (Found row function number) = low function + low number + row_weight row
outcome_weight (Unsound number index) = 0
outcome_weight NoFunction = 21
outcome_weight (Dispute first second) = 22 + low first + low second
outcome_weight (NoRow function) = 23 + low function

abbrev pub weight : Answer → ℕ
weight answer = low answer.compared + outcome_weight answer.outcome

unfoldable pub digest_from : List ℕ → ℕ → ℕ → List ℕ → ℕ
digest_from s address digest [] = digest
digest_from s address digest (pc ∷ pcs) = digest_from s address ((digest * 31 + weight (answer_of s address pc)) % 2 ^ 32) pcs

abbrev pub measured_by : Verdict → ℕ → Measured
measured_by Accepted digest = record { number = 0; index = 0; digest = digest }
measured_by (Refused number index) digest = record { number = number; index = index; digest = 0 }

abbrev pub measured_of : List ℕ → ℕ → List ℕ → Measured
measured_of s address pcs = measured_by (verdict s) (digest_from s address 0 pcs)
