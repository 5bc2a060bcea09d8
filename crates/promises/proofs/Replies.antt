-- For each input there is a reply of the code that tells the answer that its contract names: each number in it is one that the code's
-- enums have. Of every list, those included that no machine can hold.
-- Assumes nothing.
use mathlib.Core.Path.{◌≡◌, refl, sym, ◌∙◌, ap}
use mathlib.Core.List.{List}
use mathlib.Core.Logic.{⊎_elim}
use Prim.Native.Nat.{ℕ}
use lib.IntN.{ℤ}
use lib.ListN.{length}
use mathlib.Core.Bool.{Bool, true, false}
use Rattle.std.proofs.Common.{Option, Some, None, Result, Ok, Err}
use Rattle.numbers.specs.Start.{distance}
use Rattle.numbers.specs.Computed.Address.{window_fits}
use Rattle.section.specs.Meaning.{shape_of}
use Rattle.accept.specs.Computed.Checks.{verdict}
use Rattle.accept.specs.Told.{verdict_told}
use Rattle.accept.specs.Verdict.{Verdict, Accepted, Refused}
use Rattle.accept.specs.declared.verdict.Refusal.{Refusal}
use Rattle.accept.proofs.Exactly.{refused_by_a_rule}
use Rattle.lookup.specs.Cases as lookup_cases
use Rattle.lookup.specs.Computed.Answers.{answer, answer_of, answer_after, lookup_of}
use Rattle.lookup.specs.Numbers.{no_function, dispute, no_row, number_of_unfound}
use Rattle.lookup.specs.Outcome.{Outcome}
use Rattle.lookup.specs.Outcome as found
use Rattle.lookup.specs.Told.{outcome_told, lookup_told}
use Rattle.lookup.specs.declared.answer.Answer.{Answer}
use Rattle.lookup.specs.declared.answer.Found.{Found}
use Rattle.lookup.specs.declared.answer.Unfound.{Unfound}
use Rattle.lookup.specs.declared.answer.Unfound.TheVariants.{NoFunction, Dispute, NoRow}
use Rattle.lookup.proofs.CaseLaws.{outcome_exactly_when}
use Rattle.ask.specs.AskAnswer.{AskAnswer}
use Rattle.ask.specs.AskAnswer as asked
use Rattle.ask.specs.Cases.{AskCase}
use Rattle.ask.specs.Computed.Ask.{ask_of}
use Rattle.ask.specs.Told.{ask_told}
use Rattle.ask.specs.declared.answer.AskFound.{AskFound}
use Rattle.ask.specs.declared.answer.AskRefusal.{AskRefusal}
use Rattle.ask.specs.declared.answer.AskRefusal.TheVariants as refused
use Rattle.ask.proofs.CaseLaws.{some_case}
use Rattle.caller.specs.Cases as step_cases
use Rattle.caller.specs.Computed.Caller.{step_in}
use Rattle.caller.specs.Frame.{asked_of}
use Rattle.caller.specs.Numbers.{number_of_refusal, number_of_step_cause, unfound, signed, cfa_outside, cfa_low, ra_lost, word_outside}
use Rattle.caller.specs.Numbers as step_numbers
use Rattle.caller.specs.Step.{Step}
use Rattle.caller.specs.Step as step
use Rattle.caller.specs.Told.{frame_number, step_told}
use Rattle.caller.specs.declared.registers.FrameCause.{FrameCause}
use Rattle.caller.specs.declared.registers.FrameCause.TheVariants as frame
use Rattle.caller.specs.declared.registers.Process.{Process}
use Rattle.caller.specs.declared.registers.Registers.{Registers}
use Rattle.caller.specs.declared.registers.StepCause.TheVariants.{Window, Unsound, Frame}
use Rattle.caller.specs.declared.registers.StepRefusal.{StepRefusal}
use Rattle.caller.proofs.Exactly.{step_exactly_when}
use Rattle.trace.specs.Cases as trace_cases
use Rattle.trace.specs.Computed.Trace.{traced, trace_of}
use Rattle.trace.specs.Ending.{Ending}
use Rattle.trace.specs.Ending as ending
use Rattle.trace.specs.Frames.{traced_as}
use Rattle.trace.specs.Numbers.{number_of_trace_cause}
use Rattle.trace.specs.declared.answer.Frame as written
use Rattle.trace.specs.Told.{trace_told}
use Rattle.trace.specs.declared.answer.DoorFault.TheVariants as door
use Rattle.trace.specs.declared.answer.Ending.TheVariants as ends
use Rattle.trace.specs.declared.answer.TraceRefusal.{TraceRefusal}
use Rattle.trace.specs.declared.answer.TraceRefusal.TheVariants as shut
use Rattle.trace.specs.declared.answer.Traced.{Traced}
use Rattle.trace.proofs.Exactly as traces
use Rattle.explain.specs.Computed.Coverers.{no_coverers}
use Rattle.explain.specs.Computed.Lookup.{why_after, lookup_why}
use Rattle.explain.specs.Computed.Step.{from_row_why, by_reason, by_looked, unlooked_why, asked_why, checked_why, step_why}
use Rattle.explain.specs.LookupReason as lookup
use Rattle.explain.specs.StepReason as reason
use Rattle.explain.specs.Told.{lookup_why_told, step_why_told}
use Rattle.explain.specs.declared.why.Coverers.{Coverers}
use Rattle.explain.specs.declared.why.FoundRow.{FoundRow}
use Rattle.explain.specs.declared.why.LookedWhy.{LookedWhy}
use Rattle.explain.specs.declared.why.NotFound.{NotFound as NotFoundRow}
use Rattle.explain.specs.declared.why.StepReason.TheVariants.{Window as window_why, Unsound as unsound_why, NothingAsked, NotFound, FromRow}
use Rattle.explain.specs.declared.why.StepWhy.{StepWhy}

-- ---- a check

module _ (s : List ℕ) where
  checked-by : (v : Verdict) → verdict s ≡ v → (z : Result (Unit {0}) Refusal) × (verdict_told z ≡ v)
  checked-by Accepted e = (Ok tt, refl)
  checked-by (Refused number index) e =
      let rule = refused_by_a_rule s number index e in
      (Err (record { rule = rule.0; index = index }), ap (λ n. Refused n index) (sym rule.1))

  pub check_replied : (z : Result (Unit {0}) Refusal) × (verdict_told z ≡ verdict s)
  check_replied = checked-by (verdict s) refl

  -- ---- a lookup

  found-by : (d : ℤ) (o : Outcome) → lookup_cases.Case s d o → (z : Result Found Unfound) × (outcome_told z ≡ o)
  found-by d (found.Found row i k) h = (Ok (record { row = row; function = i; number = k }), refl)
  found-by d (found.Unsound number index) h = absurd h
  found-by d found.NoFunction h = (Err NoFunction, refl)
  found-by d (found.Dispute i j) h = (Err (Dispute i j), refl)
  found-by d (found.NoRow i) h = (Err (NoRow i), refl)

  looked-by : (address pc : ℕ) (v : Verdict) → verdict s ≡ v → (z : Result Answer Refusal) × (lookup_told z ≡ answer_after v (answer_of s address pc))
  unfolding answer_after answer_of answer
  looked-by address pc Accepted e =
      let it = found-by (distance address pc) _ ((outcome_exactly_when s (distance address pc) e _).0 refl) in (
        Ok (record { outcome = it.0; compared = (answer_of s address pc).compared }),
        ap (λ o. record { outcome = o; compared = (answer_of s address pc).compared }) it.1,
      )
  looked-by address pc (Refused number index) e =
      let rule = refused_by_a_rule s number index e in
      (Err (record { rule = rule.0; index = index }), ap (λ n. record { outcome = found.Unsound n index; compared = 0 }) (sym rule.1))

  pub lookup_replied : (address pc : ℕ) → (z : Result Answer Refusal) × (lookup_told z ≡ lookup_of s address pc)
  unfolding lookup_of
  lookup_replied address pc = looked-by address pc (verdict s) refl

  -- ---- an asked address

  asked-by : (d : ℤ) (o : AskAnswer) → AskCase s d o → (z : Result AskFound AskRefusal) × (ask_told z ≡ o)
  asked-by d (asked.Found i compared k row) h = (Ok (record { function = i; compared = compared; number = k; row = row }), refl)
  asked-by d (asked.Unsound number) h = (Err (refused.Unsound h.0), ap asked.Unsound (sym h.1))
  asked-by d asked.Unsorted h = (Err refused.Unsorted, refl)
  asked-by d (asked.NoFunction compared) h = (Err (refused.NoFunction compared), refl)
  asked-by d (asked.NoRow i compared) h = (Err (refused.NoRow i compared), refl)
  asked-by d (asked.Damaged i compared) h = (Err (refused.Damaged i compared), refl)

  pub ask_replied : (address pc : ℕ) → (z : Result AskFound AskRefusal) × (ask_told z ≡ ask_of s address pc)
  ask_replied address pc = asked-by (distance address pc) _ (some_case s address pc)

-- ---- a step

frame-of : (refusal : step_numbers.Refusal) → (cause : FrameCause) × (frame_number cause ≡ number_of_refusal refusal)
unfolding number_of_refusal number_of_unfound
frame-of (unfound no_function) = (frame.NoFunction, refl)
frame-of (unfound dispute) = (frame.Dispute, refl)
frame-of (unfound no_row) = (frame.NoRow, refl)
frame-of signed = (frame.Signed, refl)
frame-of cfa_outside = (frame.CfaOutside, refl)
frame-of cfa_low = (frame.CfaLow, refl)
frame-of ra_lost = (frame.RaLost, refl)
frame-of word_outside = (frame.WordOutside, refl)

module _ (s stack : List ℕ) (process : Process) (registers : Registers) where
  stepped-by : (o : Step) → step_cases.Case s stack process registers o → (z : Result Registers StepRefusal) × (step_told z ≡ o)
  unfolding number_of_step_cause
  stepped-by (step.Caller caller) h = (Ok caller, refl)
  stepped-by (step.Unsound old number index) h =
      (Err (record { old = old; cause = Unsound (record { rule = h.1.1; index = index }) }), ap (λ n. step.Unsound old n index) (sym h.1.2))
  stepped-by (step.Refused old number) h =
      ⊎_elim
      (λ window. (Err (record { old = old; cause = Window }), ap (step.Refused old) (sym window.0)))
      (λ own.
      let it = frame-of own.0 in
      (Err (record { old = old; cause = Frame it.0 }), ap (step.Refused old) (it.1 ∙ sym own.1)))
      h.1

  pub step_replied : (z : Result Registers StepRefusal) × (step_told z ≡ step_in s stack process registers)
  step_replied = stepped-by _ ((step_exactly_when s stack process registers _).0 refl)

-- ---- a trace

module _ (s stack : List ℕ) (process : Process) (registers : Registers) (limit : ℕ) (buffer : List ℕ) where
  abbrev TellsEnding : Ending → ℕ → Type 0
  TellsEnding e count = (z : Result Traced TraceRefusal) × (trace_told z ≡ record { ending = e; frames = count })

  walked-by : (frames : List written.Frame) (e : Ending) → trace_cases.Case s stack process registers limit buffer frames e → TellsEnding e (length frames)
  unfolding number_of_trace_cause number_of_step_cause
  walked-by frames ending.Outermost h = (Ok (record { ending = ends.Outermost; frames = length frames }), refl)
  walked-by frames ending.Full h = (Ok (record { ending = ends.Full; frames = length frames }), refl)
  walked-by frames (ending.Refused number) h =
      let own = h.walk.ends.2 in
      let it = frame-of own.0 in (
        Ok (record { ending = ends.Refused it.0; frames = length frames }),
        ap (λ n. record { ending = ending.Refused n; frames = length frames }) (it.1 ∙ sym own.1),
      )
  walked-by frames (ending.Shut number) h =
      rw h.0
      (⊎_elim
      (λ at. (Err (shut.Shut door.Window), ap (λ n. record { ending = ending.Shut n; frames = 0 }) (sym at.0)))
      (⊎_elim
      (λ at. (Err (shut.Shut door.Limit), ap (λ n. record { ending = ending.Shut n; frames = 0 }) (sym at.0)))
      (λ at. (Err (shut.Shut door.Words), ap (λ n. record { ending = ending.Shut n; frames = 0 }) (sym at.0))))
      h.1)
  walked-by frames (ending.Unsound number index) h =
      rw h.0
      ((
        Err (shut.Unsound (record { rule = h.2; index = index })),
        ap (λ n. record { ending = ending.Unsound n index; frames = 0 }) (sym h.3),
      ))

  pub trace_replied : (z : Result Traced TraceRefusal) × (trace_told z ≡ (trace_of s stack process registers limit buffer).answer)
  unfolding trace_of traced traced_as
  trace_replied = walked-by _ _ (traces.some_case s stack process registers limit buffer)

-- ---- explanations

module _ (s : List ℕ) where
  why-by : (v : Verdict) → verdict s ≡ v → (why : LookedWhy) → (z : Result LookedWhy Refusal) × (lookup_why_told z ≡ why_after v why)
  unfolding why_after
  why-by Accepted e why = (Ok why, refl)
  why-by (Refused number index) e why =
      let rule = refused_by_a_rule s number index e in
      (Err (record { rule = rule.0; index = index }), ap (λ n. record { reason = lookup.Unsound n index; coverers = no_coverers }) (sym rule.1))

  pub lookup_why_replied : (address pc : ℕ) → (z : Result LookedWhy Refusal) × (lookup_why_told z ≡ lookup_why s address pc)
  unfolding lookup_why
  lookup_why_replied address pc = why-by (verdict s) refl _

module _ (s stack : List ℕ) (process : Process) (registers : Registers) where
  reason-by : (pc : ℕ) (coverers : Coverers) (looked : Result FoundRow NotFoundRow)
      → (z : StepWhy) × (step_why_told z ≡ record { reason = by_reason (shape_of s) stack process registers pc looked; coverers = coverers })
  unfolding by_reason
  reason-by pc coverers (Ok found) =
      (record { reason = FromRow found (from_row_why (shape_of s) stack process registers found.row) pc; coverers = coverers }, refl)
  reason-by pc coverers (Err missing) = (record { reason = NotFound pc missing; coverers = coverers }, refl)

  asked-why-by : (asked : Option ℕ) → (z : StepWhy) × (step_why_told z ≡ asked_why s stack process registers asked)
  unfolding asked_why unlooked_why by_looked
  asked-why-by None = (record { reason = NothingAsked; coverers = no_coverers }, refl)
  asked-why-by (Some pc) = reason-by pc _ _

  checked-why-by : (v : Verdict) → verdict s ≡ v → (z : StepWhy) × (step_why_told z ≡ checked_why s stack process registers v)
  unfolding checked_why unlooked_why
  checked-why-by Accepted e = asked-why-by (asked_of registers)
  checked-why-by (Refused number index) e =
      let rule = refused_by_a_rule s number index e in (
        record { reason = unsound_why (record { rule = rule.0; index = index }); coverers = no_coverers },
        ap (λ n. record { reason = reason.Unsound n index; coverers = no_coverers }) (sym rule.1),
      )

  why-in : (fits : Bool) → (z : StepWhy) × (step_why_told z ≡ elim fits [
    | true ↦ checked_why s stack process registers (verdict s)
    | false ↦ unlooked_why (reason.Window process.stack (length stack))
  ])
  unfolding unlooked_why
  why-in true = checked-why-by (verdict s) refl
  why-in false = (record { reason = window_why process.stack (length stack); coverers = no_coverers }, refl)

  pub step_why_replied : (z : StepWhy) × (step_why_told z ≡ step_why s stack process registers)
  unfolding step_why
  step_why_replied = why-in (window_fits stack process.stack)
