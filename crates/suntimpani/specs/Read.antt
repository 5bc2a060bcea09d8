-- How each flat struct is read back: the answer that it stands for, as the header for C says it.
use Rattle.std.specs.Prelude.{ℕ, Bool, true, false, not, ◌||◌, eqb, ltb, ℤ, Option, Some, None}
use Rattle.section.specs.Shape.{abi_of}
use Rattle.section.specs.declared.row.Base.{Base}
use Rattle.section.specs.declared.row.Base.TheVariants.{Fp, Sp}
use Rattle.section.specs.declared.row.Place.{Place}
use Rattle.section.specs.declared.row.Place.TheVariants.{Register, AtOffset}
use Rattle.section.specs.declared.row.Row.{Row}
use Rattle.accept.specs.Verdict.{Verdict}
use Rattle.accept.specs.Verdict as verdict
use Rattle.listing.specs.declared.function.Kind.{Kind}
use Rattle.listing.specs.declared.function.Kind.TheVariants.{Plain, Repeated}
use Rattle.listing.specs.declared.rows.RowPlace.{RowPlace}
use Rattle.listing.specs.declared.rows.RowTurn.{RowTurn}
use Rattle.lookup.specs.Outcome.{Answer}
use Rattle.lookup.specs.Outcome.{Outcome}
use Rattle.lookup.specs.Outcome as outcome
use Rattle.caller.specs.Step.{Step}
use Rattle.caller.specs.Step as step
use Rattle.trace.specs.Frames.{TraceReply, traced_as}
use Rattle.trace.specs.Ending.{Ending}
use Rattle.trace.specs.Ending as ending
use Rattle.trace.specs.Ending.{Traced}
use Rattle.suntimpani.specs.Flat.{Handed}
use Rattle.suntimpani.specs.Shown.{ShownFunction, Shown, unsound, unknown, known}
use Rattle.suntimpani.specs.declared.flat.AnswerInC.{AnswerInC}
use Rattle.suntimpani.specs.declared.flat.VerdictInC.{VerdictInC}
use Rattle.suntimpani.specs.declared.functions.FunctionInC.{FunctionInC}
use Rattle.suntimpani.specs.declared.rows.RowInC.{RowInC}
use Rattle.suntimpani.specs.declared.rows.RowsInC.{RowsInC}
use Rattle.suntimpani.specs.declared.walks.StepInC.{StepInC}
use Rattle.suntimpani.specs.declared.walks.TracedInC.{TracedInC}

-- ---- a verdict: number 0 is accepted

unfoldable pub read_verdict : VerdictInC → Verdict
read_verdict checked =
    elim (eqb checked.number 0) [
      | true ↦ verdict.Accepted
      | false ↦ verdict.Refused checked.number checked.index
    ]

-- ---- a function by its index: where `known` is 0 there is none, and a number besides 0 is that of the header's first broken rule;
-- `repeated` 0 is a plain block

unfoldable pub read_kind : ℕ → ℕ → Kind
read_kind repeated repeat = elim (eqb repeated 0) [ true ↦ Plain | false ↦ Repeated repeat ]

unfoldable pub read_known : FunctionInC → ShownFunction
read_known told =
    record {
      start = told.start;
      size = told.size;
      rows = told.rows;
      kind = read_kind told.repeated told.repeat;
    }

unfoldable pub read_function : FunctionInC → Shown
read_function told =
    elim (eqb told.known 0) [
      | true ↦ elim (eqb told.number 0) [
        | true ↦ unknown
        | false ↦ unsound told.number
      ]
      | false ↦ known (read_known told)
    ]

-- ---- a row: base 0 is FP, a place 0 is in a register

unfoldable pub read_base : ℕ → Base
read_base base = elim (eqb base 0) [ true ↦ Fp | false ↦ Sp ]

unfoldable pub read_place : ℕ → ℤ → Place
read_place kind offset = elim (eqb kind 0) [ true ↦ Register | false ↦ AtOffset (record { by = offset }) ]

unfoldable pub read_row : AnswerInC → Row
read_row looked =
    record {
      start = looked.start;
      base = read_base looked.base;
      cfa = record { by = looked.cfa };
      ra = read_place looked.raplace looked.ra;
      fp = read_place looked.fpplace looked.fp;
      signed = not (eqb looked.signedra 0);
    }

-- ---- rows one at a time: 1 and 2 are the two AArch64 ABIs, and any other number is AMD64; where `more` is 0 there is no row

unfoldable pub read_rows : RowsInC → RowPlace
read_rows rows = record { abi = abi_of rows.abi; code = rows.code; at = rows.at; left = rows.left }

unfoldable pub read_yielded : RowInC → Row
read_yielded turned =
    record {
      start = turned.start;
      base = read_base turned.base;
      cfa = record { by = turned.cfa };
      ra = read_place turned.raplace turned.ra;
      fp = read_place turned.fpplace turned.fp;
      signed = not (eqb turned.signedra 0);
    }

unfoldable pub read_next : RowInC → Option Row
read_next turned = elim (eqb turned.more 0) [ true ↦ None | false ↦ Some (read_yielded turned) ]

unfoldable pub read_turn : RowInC → RowTurn
read_turn turned = record { next = read_next turned; place = read_rows turned.rest }

-- ---- a lookup's answer: number 0 is found, 21 to 23 have their own cases, and every other number is the section's

unfoldable pub read_outcome : AnswerInC → Outcome
read_outcome looked =
    elim (eqb looked.number 0) [
      | true ↦ outcome.Found (read_row looked) looked.function looked.row
      | false ↦ elim (eqb looked.number 21) [
        | true ↦ outcome.NoFunction
        | false ↦ elim (eqb looked.number 22) [
          | true ↦ outcome.Dispute looked.function looked.second
          | false ↦ elim (eqb looked.number 23) [
            | true ↦ outcome.NoRow looked.function
            | false ↦ outcome.Unsound looked.number looked.function
          ]
        ]
      ]
    ]

unfoldable pub read_answer : AnswerInC → Answer
read_answer looked = record { outcome = read_outcome looked; compared = looked.compared }

-- ---- a step's answer: number 0 is a caller, 1 to 15 are the section's

unfoldable pub read_step : StepInC → Step
read_step stepped =
    elim (eqb stepped.number 0) [
      | true ↦ step.Caller stepped.registers
      | false ↦ elim (ltb stepped.number 16) [
        | true ↦ step.Unsound stepped.registers stepped.number stepped.index
        | false ↦ step.Refused stepped.registers stepped.number
      ]
    ]

-- ---- a trace's answer: 30 is the outermost frame, 31 a full limit, 41, 42 and 43 are the door's, 1 to 15 the section's, and every other
-- number is that of a refused step

unfoldable pub is_doors : ℕ → Bool
is_doors number = eqb number 41 || eqb number 42 || eqb number 43

unfoldable pub read_ending : ℕ → ℕ → Ending
read_ending number index =
    elim (eqb number 30) [
      | true ↦ ending.Outermost
      | false ↦ elim (eqb number 31) [
        | true ↦ ending.Full
        | false ↦ elim (is_doors number) [
          | true ↦ ending.Shut number
          | false ↦ elim (ltb number 16) [
            | true ↦ ending.Unsound number index
            | false ↦ ending.Refused number
          ]
        ]
      ]
    ]

unfoldable pub read_traced : TracedInC → Traced
read_traced walked = record { ending = read_ending walked.ending walked.index; frames = walked.frames }

-- with the words of the buffer, which are the same on both sides
unfoldable pub read_trace : Handed → TraceReply
read_trace handed = traced_as (read_traced handed.answer) handed.words
