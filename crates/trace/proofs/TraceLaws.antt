-- The whole trace: its walk has these frames and this ending exactly when its case holds (`trace_case`, `case_whole`), and each number is
-- given exactly when its cause holds (`trace_given`).
-- Assumes nothing.
use mathlib.Core.Path.{◌≡◌, refl, sym, ◌∙◌, ap, subst}
use mathlib.Core.List.{List, []}
use mathlib.Core.Logic.{◌⊎◌, inl, inr, ◌↔◌, ⊎_elim}
use Prim.Native.Nat.{ℕ, ◌≤◌}
use native.Mathlib.Omega.{arith}
use lib.ListN.{length}
use Rattle.section.specs.Meaning.{shape_of}
use Rattle.accept.specs.Given.{number_of_rule}
use Rattle.accept.specs.Rules.{Obeys}
use Rattle.accept.proofs.CauseLaws.{due_exactly_when}
use Rattle.accept.proofs.Exactly.{accepted_exactly_when, given_exactly_when, refused_by_a_rule}
use Rattle.lookup.specs.Computed.Answers.{look_in}
use Rattle.caller.specs.Cases.{WindowFits, OnRefusal, CallerCase}
use Rattle.caller.specs.Numbers.{Refusal, number_of_refusal, number_of_step_cause, step_number}
use Rattle.caller.specs.Computed.Caller.{step_of}
use Rattle.caller.specs.declared.registers.Registers.{Registers}
use Rattle.caller.specs.Step.{Step}
use Rattle.caller.specs.Step as stepped
use Rattle.caller.specs.declared.registers.Process.{Process}
use Rattle.caller.proofs.Exactly.{checked_caller, checked_refused, refused_checked}
use Rattle.trace.specs.Cases.{AtDoor, DoorOpen, Follows, EndsRefused, Ends, WalkTo, StepRefuses, WalkMade, WalkEnded, OnTrace, Case}
use Rattle.trace.specs.Frames.{in_force, with_mark}
use Rattle.trace.specs.Numbers.{TraceCause, window, limit_above, too_few_words, unsound, refused, outermost, full, number_of_trace_cause, ending_number}
use Rattle.trace.specs.Computed.Trace.{Walk, ended, walk_of, checked_walk, walk_in}
use Rattle.trace.specs.Ending.{Ending}
use Rattle.trace.specs.Ending.{Outermost, Full, Refused, Shut, Unsound}
use Rattle.trace.specs.declared.answer.Frame.{Frame}
use Rattle.trace.proofs.CaseLaws.{Yielding, Refusing, none_follows, case_within, walk_case, case_walk, walk_through, ends_through}
use Rattle.trace.proofs.DoorLaws.{shut_walk, unsound_walk, open_walk, Way, shut, unsound_way, sound, way}
use Rattle.trace.proofs.NumberLaws.{trace_distinct}

-- ---- one step in a section that obeys, as it is computed and by its cases

-- where the door is open, the window fits
pub open_fits : {stack : List ℕ} {process : Process} {limit : ℕ} {buffer : List ℕ} → DoorOpen stack process limit buffer → WindowFits stack process
open_fits opened = omega (arith, opened.in_memory)

module _ (s stack : List ℕ) (process : Process) where
  abbrev pub step_at : Registers → Step
  step_at = step_of (shape_of s) (look_in s process.section) stack process

  module _ (fits : WindowFits stack process) (obeys : Obeys s) where
    refuses-with : (registers : Registers) (number : ℕ) → Refusing step_at registers number → StepRefuses s stack process registers number
    unfolding step_number
    refuses-with registers number h =
        let refusal = checked_refused s stack process registers fits obeys h.no_caller in
        (refusal.0, sym h.number_is ∙ ap step_number refusal.1, refusal.2)

    with-refuses : (registers : Registers) (number : ℕ) → StepRefuses s stack process registers number → Refusing step_at registers number
    unfolding step_number
    with-refuses registers number (refusal, is, on) =
        let made = refused_checked s stack process registers fits obeys refusal on in
        record { no_caller = λ caller e. not_both (sym made ∙ e); number_is = ap step_number made ∙ sym is }
      where
        not_both : {old : Registers} {n : ℕ} {caller : Registers} → ¬ (stepped.Refused old n ≡ stepped.Caller caller)
        not_both e = let z : ◌≡◌ {A = ℕ} 0 1 = cc in omega arith

    module _ (limit : ℕ) {start : Registers} {frames : List Frame} (ending : Ending) where
      by_cases : WalkTo (Yielding step_at) start frames (λ count last. Ends (Refusing step_at) limit count last ending)
          → WalkTo (CallerCase s stack process) start frames (λ count last. Ends (StepRefuses s stack process) limit count last ending)
      by_cases w =
          walk_through (λ registers caller. (checked_caller s stack process registers fits obeys caller).0)
          (ends_through refuses-with limit ending)
          w

      as-computed : WalkTo (CallerCase s stack process) start frames (λ count last. Ends (StepRefuses s stack process) limit count last ending)
          → WalkTo (Yielding step_at) start frames (λ count last. Ends (Refusing step_at) limit count last ending)
      as-computed w =
          walk_through (λ registers caller. (checked_caller s stack process registers fits obeys caller).1)
          (ends_through with-refuses limit ending)
          w

module _ (s stack : List ℕ) (process : Process) (registers : Registers) (limit : ℕ) (buffer : List ℕ) where
  abbrev whole : Walk
  whole = walk_in s stack process registers limit (length buffer)

  abbrev Cased : Walk → Type 0
  Cased walk = Case s stack process registers limit buffer walk.frames walk.ending

  abbrev Made : List Frame → Ending → Type 0
  Made frames ending = WalkEnded s stack process registers limit buffer frames ending

  -- ---- the walk and its case

  made-case : (frames : List Frame) (ending : Ending) → Made frames ending → Case s stack process registers limit buffer frames ending
  made-case frames Outermost w = w
  made-case frames Full w = w
  made-case frames (Refused number) w = w
  made-case frames (Shut number) w = absurd w.walk.ends
  made-case frames (Unsound number index) w = absurd w.walk.ends

  case-by : Way stack process limit buffer s → Cased whole
  unfolding ended checked_walk
  case-by (shut number at) = subst Cased (sym (shut_walk s stack process registers limit buffer number at)) (refl, at)
  case-by (unsound_way opened number index e) =
      let broken = refused_by_a_rule s number index e in
      subst Cased (sym (unsound_walk s stack process registers limit buffer opened number index e)) (refl, opened, broken.0, broken.1, broken.2)
  case-by (sound opened e) =
      let obeys = (accepted_exactly_when s).0 e in
      let walk : Walk = walk_of (step_at s stack process) (in_force limit) (with_mark registers) in
      let case = by_cases s stack process (open_fits opened) obeys (in_force limit) walk.ending (walk_case (step_at s stack process) (in_force limit) (with_mark registers)) in
      subst Cased (sym (open_walk s stack process registers limit buffer opened e))
      (made-case walk.frames walk.ending (record { opened = opened; obeys = obeys; walk = case }))

  pub trace_case : Cased whole
  trace_case = case-by (way stack process limit buffer s)

  made-whole : (frames : List Frame) (ending : Ending) → Made frames ending → whole ≡ record { frames = frames; ending = ending }
  unfolding checked_walk
  made-whole frames ending w =
      open_walk s stack process registers limit buffer w.opened ((accepted_exactly_when s).1 w.obeys)
      ∙ case_walk (step_at s stack process) (in_force limit) (with_mark registers) frames ending
      (as-computed s stack process (open_fits w.opened) w.obeys (in_force limit) ending w.walk)

  none-whole : (frames : List Frame) (ending : Ending) → frames ≡ [] → whole ≡ ended ending → whole ≡ record { frames = frames; ending = ending }
  unfolding ended
  none-whole frames ending none e = rw none e

  pub case_whole : (frames : List Frame) (ending : Ending) → Case s stack process registers limit buffer frames ending
      → whole ≡ record { frames = frames; ending = ending }
  case_whole frames Outermost h = made-whole frames Outermost h
  case_whole frames Full h = made-whole frames Full h
  case_whole frames (Refused number) h = made-whole frames (Refused number) h
  case_whole frames (Shut number) h = none-whole frames (Shut number) h.0 (shut_walk s stack process registers limit buffer number h.1)
  case_whole frames (Unsound number index) (none, opened, rule, is, given) =
      none-whole frames (Unsound number index) none
      (unsound_walk s stack process registers limit buffer opened number index (rw is ((given_exactly_when s rule index).1 given)))

  -- ---- what every case has: no frames, or a walk

  case-parts : (frames : List Frame) (ending : Ending) → Case s stack process registers limit buffer frames ending
      → (frames ≡ []) ⊎ Made frames ending
  case-parts frames Outermost h = inr h
  case-parts frames Full h = inr h
  case-parts frames (Refused number) h = inr h
  case-parts frames (Shut number) h = inl h.0
  case-parts frames (Unsound number index) h = inl h.0

  pub parts : (whole.frames ≡ []) ⊎ Made whole.frames whole.ending
  parts = case-parts whole.frames whole.ending trace_case

  pub whole_follows : Follows (CallerCase s stack process) (with_mark registers) whole.frames
  whole_follows = ⊎_elim (λ none. rw none (none_follows (with_mark registers))) (λ w. w.walk.follows) parts

  ends-within : (frames : List Frame) (ending : Ending) → Made frames ending → length frames ≤ in_force limit
  ends-within frames ending w =
      case_within (step_at s stack process) (in_force limit) ending
      (as-computed s stack process (open_fits w.opened) w.obeys (in_force limit) ending w.walk)

  pub whole_room : (length whole.frames ≡ 0) ⊎ (DoorOpen stack process limit buffer × (length whole.frames ≤ in_force limit))
  whole_room = ⊎_elim (λ none. inl (ap length none)) (λ w. inr (w.opened, ends-within whole.frames whole.ending w)) parts

  pub whole_none : ¬ (DoorOpen stack process limit buffer × Obeys s) → whole.frames ≡ []
  whole_none refuses = ⊎_elim (λ none. none) (λ w. absurd (refuses (w.opened, w.obeys))) parts

  -- ---- each number is given exactly when its cause holds

  abbrev number : ℕ
  number = ending_number whole.ending

  number_of : (frames : List Frame) (ending : Ending) → Case s stack process registers limit buffer frames ending
      → number ≡ ending_number ending
  number_of frames ending h = ap (λ walk. ending_number walk.ending) (case_whole frames ending h)

  -- where a refused step ends it, by the refusal's number
  refused-made : (frames : List Frame) (refusal : Refusal)
      → WalkMade s stack process registers limit buffer frames (EndsRefused (λ last. OnRefusal s stack process last refusal) (in_force limit))
      → Made frames (Refused (number_of_refusal refusal))
  refused-made frames refusal w =
      let (few, far, on) = w.walk.ends in
      record {
        opened = w.opened;
        obeys = w.obeys;
        walk = record { follows = w.walk.follows; ends = (few, far, (refusal, refl, on)) };
      }

  trace-makes : (cause : TraceCause) → OnTrace s stack process registers limit buffer cause → number ≡ number_of_trace_cause cause
  unfolding ending_number number_of_trace_cause number_of_step_cause
  trace-makes window on = number_of [] (Shut 41) (refl, inl (refl, on))
  trace-makes limit_above (fits, above) = number_of [] (Shut 42) (refl, inr (inl (refl, fits, above)))
  trace-makes too_few_words (fits, allowed, few) = number_of [] (Shut 43) (refl, inr (inr (refl, fits, allowed, few)))
  trace-makes (unsound rule) (opened, (index, given)) = number_of [] (Unsound (number_of_rule rule) index) (refl, opened, rule, refl, given)
  trace-makes (refused refusal) (frames, w) = number_of frames (Refused (number_of_refusal refusal)) (refused-made frames refusal w)
  trace-makes outermost (frames, w) = number_of frames Outermost w
  trace-makes full (frames, w) = number_of frames Full w

  door-cause : (n : ℕ) → AtDoor stack process limit buffer n → (cause : TraceCause) × OnTrace s stack process registers limit buffer cause
  door-cause n (inl (is, past)) = (window, past)
  door-cause n (inr (inl (is, fits, above))) = (limit_above, (fits, above))
  door-cause n (inr (inr (is, fits, allowed, few))) = (too_few_words, (fits, allowed, few))

  case-cause : (frames : List Frame) (ending : Ending) → Case s stack process registers limit buffer frames ending
      → (cause : TraceCause) × OnTrace s stack process registers limit buffer cause
  case-cause frames Outermost w = (outermost, (frames, w))
  case-cause frames Full w = (full, (frames, w))
  case-cause frames (Refused n) w =
      let (few, far, (refusal, is, on)) = w.walk.ends in
      (refused refusal, (frames, record { opened = w.opened; obeys = w.obeys; walk = record { follows = w.walk.follows; ends = (few, far, on) } }))
  case-cause frames (Shut n) (none, at) = door-cause n at
  case-cause frames (Unsound n index) (none, opened, rule, is, given) = (unsound rule, (opened, (index, given)))

  -- every trace has a cause
  pub some_cause : (cause : TraceCause) × OnTrace s stack process registers limit buffer cause
  some_cause = case-cause whole.frames whole.ending trace_case

  pub trace_given : (cause : TraceCause) → (number ≡ number_of_trace_cause cause) ↔ OnTrace s stack process registers limit buffer cause
  trace_given =
      due_exactly_when number_of_trace_cause trace_distinct number (OnTrace s stack process registers limit buffer)
      (let (cause, on) = some_cause in inr (cause, trace-makes cause on, on))
      trace-makes
