-- What is promised of the rows that are passed is kept by every four calls that keep the contracts of ours.
-- Assumes nothing.
use mathlib.Core.Path.{◌≡◌, refl, sym, ◌∙◌, ap, subst}
use mathlib.Core.List.{List}
use Prim.Native.Nat.{ℕ}
use Rattle.std.specs.Prelude.{Option, Some, None}
use Rattle.numbers.specs.Start.{distance}
use Rattle.section.specs.Meaning.{shape_of}
use Rattle.section.proofs.PartAgreement.{shape_agrees}
use Rattle.accept.specs.Computed.Checks.{verdict}
use Rattle.accept.specs.Verdict.{Accepted}
use Rattle.accept.proofs.TriedAgreement.{verdict_agrees}
use Rattle.lookup.specs.Finding.{finding_of}
use Rattle.lookup.specs.Scanned.{LookAlike}
use Rattle.lookup.specs.Computed.Answers.{answer_after, lookup_of, look_in}
use Rattle.lookup.proofs.AnswerAgreement.{answer_agrees}
use Rattle.caller.specs.Frame.{asked_of}
use Rattle.caller.specs.Computed.Caller.{look_at, step_after, step_of, step_in}
use Rattle.caller.specs.declared.registers.Registers.{Registers}
use Rattle.caller.specs.declared.registers.Process.{Process}
use Rattle.caller.proofs.Asked.{nowhere_exactly_when, no_lookup}
use Rattle.caller.proofs.Exactly.{through_finding}
use Rattle.promises.specs.PassedRows.{PassesRows, RowsPassed}
use Rattle.promises.specs.Computed.Ours.{ours}
use Rattle.promises.proofs.Kept.{kept_are_ours}

module _ (s t : List ℕ) (accepted : verdict s ≡ Accepted) (also : verdict t ≡ Accepted) where
  -- without the indexes and the count
  one-finding : (address pc : ℕ) → LookAlike s t (distance address pc) → look_in s address pc ≡ look_in t address pc
  unfolding look_in lookup_of answer_after
  one-finding address pc alike =
      ap (λ answer. finding_of answer.outcome) (rw (accepted, also) at (answer_agrees s t accepted also address pc alike))

  -- by the PC asked; where there is none, no lookup is made in either
  checked-step : (stack : List ℕ) (process : Process) (registers : Registers) (asked : Option ℕ) → asked_of registers ≡ asked
      → ((pc : ℕ) → asked_of registers ≡ Some pc → LookAlike s t (distance process.section pc))
      → step_of (shape_of s) (look_in s process.section) stack process registers ≡ step_of (shape_of t) (look_in t process.section) stack process registers
  unfolding look_at
  checked-step stack process registers None e alike =
      let nothing = (nowhere_exactly_when registers).0 e in
      no_lookup registers nothing _ _ stack process ∙ sym (no_lookup registers nothing _ _ stack process)
  checked-step stack process registers (Some pc) e alike =
      let here = alike pc e in
      through_finding (shape_of s) (shape_of t) (look_in s process.section) (look_in t process.section) stack process registers
      (shape_agrees s t here.header)
      (rw e (one-finding process.section pc here))

  one-step : (stack : List ℕ) (process : Process) (registers : Registers)
      → ((pc : ℕ) → asked_of registers ≡ Some pc → LookAlike s t (distance process.section pc))
      → step_in s stack process registers ≡ step_in t stack process registers
  unfolding step_in step_after
  one-step stack process registers alike = rw (accepted, also, checked-step stack process registers (asked_of registers) refl alike)

pub passes_rows : PassesRows ours
unfolding ours
passes_rows =
    record {
      checks = verdict_agrees;
      lookups = λ s t accepted also address pc alike. answer_agrees s t accepted also address pc alike;
      callers = λ s t stack accepted also process registers alike. one-step s t accepted also stack process registers alike;
    }

pub rows_passed : RowsPassed
rows_passed calls keeps = subst PassesRows (sym (kept_are_ours calls keeps)) passes_rows
