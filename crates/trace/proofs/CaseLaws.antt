-- The cases of a walk, over any step: a walk has these frames and this ending exactly when its case holds (`walk_exactly_when`).
-- Assumes nothing.
use mathlib.Core.Path.{◌≡◌, refl, sym, ◌∙◌, ap, subst}
use mathlib.Core.List.{List, [], ◌∷◌}
use mathlib.Core.Logic.{◌↔◌}
use Prim.Native.Nat.{ℕ, zero, suc, ◌-◌, ◌≤◌, ◌<◌}
use native.Mathlib.Omega.{arith}
use lib.Dec.{eqb}
use lib.ListN.{length, get_or}
use borrow.Author.Tests.{eqb-true, eqb-false}
use Rattle.lookup.proofs.CoveringLaws.{by_value}
use Rattle.caller.specs.Numbers.{step_number}
use Rattle.caller.specs.declared.registers.Registers.{Registers}
use Rattle.caller.specs.Step.{Step}
use Rattle.caller.specs.Step as stepped
use Rattle.trace.specs.Cases.{no_frame, Follows, NotOutermost, Ends, WalkTo, WalkCase}
use Rattle.trace.specs.Frames.{frame_of}
use Rattle.trace.specs.Computed.Trace.{Walk, ended, with_frame, walk_of}
use Rattle.trace.specs.Ending.{Ending}
use Rattle.trace.specs.Ending.{Outermost, Full, Refused, Shut, Unsound}
use Rattle.trace.specs.declared.answer.Frame.{Frame}
use Rattle.trace.proofs.WalkLaws.{walk_full, walk_no_caller, walk_outermost, walk_on}

-- ---- what a step that is computed yields, and what it is refused with

abbrev pub Yielding : (Registers → Step) → Registers → Registers → Type 0
Yielding step registers caller = step registers ≡ stepped.Caller caller

-- a step that yields no caller, with its number
pub record RefusedWith (answer : Step) (number : ℕ) : Type 0 where
  pub no_caller : (caller : Registers) → ¬ (answer ≡ stepped.Caller caller)
  pub number_is : step_number answer ≡ number

abbrev pub Refusing : (Registers → Step) → Registers → ℕ → Type 0
Refusing step registers number = RefusedWith (step registers) number

-- ---- a case of a walk, from its first step on

-- the registers after each frame, where `start` stands before them
abbrev before : Registers → (ℕ → Registers) → ℕ → Registers
before start at zero = start
before start at (suc k) = at k

pub none_follows : {Yields : Registers → Registers → Type 0} (start : Registers) → Follows Yields start []
none_follows start =
    record {
      at = λ k. start;
      starts = refl;
      steps = λ k lt. absurd (omega arith);
      written = λ k lt. absurd (omega arith);
      goes_on = λ k lt. absurd (omega arith);
    }

module _ (step : Registers → Step) where
  no_frames : (limit : ℕ) (start : Registers) (ending : Ending) → Ends (Refusing step) limit 0 start ending → WalkCase (Yielding step) (Refusing step) limit start [] ending
  unfolding none_follows
  no_frames limit start ending ends = record { follows = none_follows start; ends = ends }

  module _ (start caller : Registers) (yields : step start ≡ stepped.Caller caller) where
    frame-first : (frames : List Frame) → Follows (Yielding step) caller frames → (0 < length frames → ¬ (caller.pc ≡ 0))
        → Follows (Yielding step) start (frame_of caller ∷ frames)
    frame-first frames f far =
        record {
          at = before start f.at;
          starts = refl;
          steps = steps;
          written = written;
          goes_on = goes_on;
        }
      where
        steps : (k : ℕ) → k < suc (length frames) → step (before start f.at k) ≡ stepped.Caller (f.at k)
        steps zero lt = yields ∙ ap stepped.Caller (sym f.starts)
        steps (suc k) lt = f.steps k (omega arith)

        written : (k : ℕ) → k < suc (length frames) → get_or (frame_of caller ∷ frames) k no_frame ≡ frame_of (f.at k)
        written zero lt = ap frame_of (sym f.starts)
        written (suc k) lt = f.written k (omega arith)

        goes_on : (k : ℕ) → suc k < suc (length frames) → ¬ ((f.at k).pc ≡ 0)
        goes_on zero lt z = far (omega arith) (ap (λ r. r.pc) (sym f.starts) ∙ z)
        goes_on (suc k) lt z = f.goes_on k (omega arith) z

    only-frame : (limit : ℕ) → 0 < limit → caller.pc ≡ 0 → WalkCase (Yielding step) (Refusing step) limit start (frame_of caller ∷ []) Outermost
    unfolding frame-first none_follows
    only-frame limit more z =
        record { follows = frame-first [] (none_follows caller) (λ lt. absurd (omega arith)); ends = (omega arith, omega arith, z) }

    module _ (far : ¬ (caller.pc ≡ 0)) where
      still : (frames : List Frame) (f : Follows (Yielding step) caller frames) → NotOutermost (length frames) (f.at (length frames))
          → NotOutermost (suc (length frames)) (f.at (length frames))
      still [] f inner lt z = far (ap (λ r. r.pc) (sym f.starts) ∙ z)
      still (frame ∷ frames) f inner lt z = inner (omega arith) z

      one_more : (left : ℕ) (frames : List Frame) (ending : Ending) → WalkCase (Yielding step) (Refusing step) left caller frames ending
          → WalkCase (Yielding step) (Refusing step) (suc left) start (frame_of caller ∷ frames) ending
      unfolding frame-first
      one_more left frames ending w = record { follows = frame-first frames f (λ lt. far); ends = by ending w.ends }
        where
          f : Follows (Yielding step) caller frames
          f = w.follows

          by : (e : Ending) → Ends (Refusing step) left (length frames) (f.at (length frames)) e
              → Ends (Refusing step) (suc left) (suc (length frames)) (f.at (length frames)) e
          by Outermost h = (omega arith, omega arith, h.2)
          by Full h = (ap suc h.0, still frames f h.1)
          by (Refused number) h = (omega arith, still frames f h.1, h.2)
          by (Shut number) h = h
          by (Unsound number index) h = h

  -- no more frames than the limit
  ends-within : (limit count : ℕ) (last : Registers) (ending : Ending) → Ends (Refusing step) limit count last ending → count ≤ limit
  ends-within limit count last Outermost h = h.1
  ends-within limit count last Full h = omega arith
  ends-within limit count last (Refused number) h = omega arith
  ends-within limit count last (Shut number) h = absurd h
  ends-within limit count last (Unsound number index) h = absurd h

  pub case_within : (limit : ℕ) {start : Registers} {frames : List Frame} (ending : Ending) → WalkCase (Yielding step) (Refusing step) limit start frames ending
      → length frames ≤ limit
  case_within limit {frames = frames} ending w = ends-within limit (length frames) (w.follows.at (length frames)) ending w.ends

  -- ---- the walk has its case

  abbrev Cased : ℕ → Registers → Walk → Type 0
  Cased limit start walk = WalkCase (Yielding step) (Refusing step) limit start walk.frames walk.ending

  case-is : (limit : ℕ) (start : Registers) {walk : Walk} → walk_of step limit start ≡ walk → Cased limit start walk
      → Cased limit start (walk_of step limit start)
  case-is limit start e w = subst (Cased limit start) (sym e) w

  refused-turn : (left : ℕ) (start : Registers) (answer : Step) → step start ≡ answer → ((caller : Registers) → ¬ (answer ≡ stepped.Caller caller))
      → Cased (suc left) start (walk_of step (suc left) start)
  unfolding ended
  refused-turn left start answer e other =
      let refused : RefusedWith (step start) (step_number answer) = rw e (record { no_caller = other; number_is = refl }) in
      case-is (suc left) start (walk_no_caller step (suc left) start (omega arith) answer e other)
      (no_frames (suc left) start (Refused (step_number answer)) (omega arith, (λ lt. absurd (omega arith)), refused))

  case-turn : (left : ℕ) → ((caller : Registers) → Cased left caller (walk_of step left caller)) → (start : Registers) (answer : Step)
      → step start ≡ answer → Cased (suc left) start (walk_of step (suc left) start)
  unfolding ended with_frame
  case-turn left rest start (stepped.Caller caller) e =
      by_value (eqb caller.pc 0)
      (λ is.
      let z : caller.pc ≡ 0 = eqb-true caller.pc 0 is in
      case-is (suc left) start (walk_outermost step (suc left) start (omega arith) caller e z) (only-frame start caller e (suc left) (omega arith) z))
      (λ is.
      let far : ¬ (caller.pc ≡ 0) = eqb-false caller.pc 0 is in
      let same : suc left - 1 ≡ left = omega arith in
      case-is (suc left) start
      (rw same at (walk_on step (suc left) start (omega arith) caller e far))
      (one_more start caller e far left (walk_of step left caller).frames (walk_of step left caller).ending (rest caller)))
  case-turn left rest start (stepped.Unsound old number index) e =
      refused-turn left start (stepped.Unsound old number index) e (λ caller is. let z : ◌≡◌ {A = ℕ} 0 1 = cc in omega arith)
  case-turn left rest start (stepped.Refused old number) e =
      refused-turn left start (stepped.Refused old number) e (λ caller is. let z : ◌≡◌ {A = ℕ} 0 1 = cc in omega arith)

  pub walk_case : (limit : ℕ) (start : Registers) → Cased limit start (walk_of step limit start)
  unfolding walk_of ended
  walk_case zero start = no_frames 0 start Full (refl, λ lt. absurd (omega arith))
  walk_case (suc left) start = case-turn left (walk_case left) start (step start) refl

  -- ---- and a case makes the walk

  none_walk : (limit : ℕ) (start : Registers) (ending : Ending) → WalkCase (Yielding step) (Refusing step) limit start [] ending → walk_of step limit start ≡ ended ending
  none_walk limit start Outermost w = absurd (omega (arith, w.ends.0))
  none_walk limit start Full w = ap (λ n. walk_of step n start) (sym w.ends.0) ∙ walk_full step start
  none_walk limit start (Refused number) w =
      let refused : RefusedWith (step start) number = rw w.follows.starts at w.ends.2 in
      walk_no_caller step limit start w.ends.0 (step start) refl refused.no_caller ∙ ap (λ n. ended (Refused n)) refused.number_is
  none_walk limit start (Shut number) w = absurd w.ends
  none_walk limit start (Unsound number index) w = absurd w.ends

  -- the first frame, and what follows it
  module _ (limit : ℕ) (start : Registers) (frame : Frame) where
    some_left : (frames : List Frame) (ending : Ending) → WalkCase (Yielding step) (Refusing step) limit start (frame ∷ frames) ending → 0 < limit
    some_left frames Outermost w = omega (arith, w.ends.1)
    some_left frames Full w = omega (arith, w.ends.0)
    some_left frames (Refused number) w = omega (arith, w.ends.0)
    some_left frames (Shut number) w = absurd w.ends
    some_left frames (Unsound number index) w = absurd w.ends

    -- RA 0 stands in the last frame
    at_zero : (frames : List Frame) (ending : Ending) (w : WalkCase (Yielding step) (Refusing step) limit start (frame ∷ frames) ending) → (w.follows.at 1).pc ≡ 0
        → ◌≡◌ {A = Walk} (record { frames = frame ∷ frames; ending = ending }) (with_frame frame (ended Outermost))
    unfolding with_frame ended
    at_zero [] Outermost w z = refl
    at_zero [] Full w z = absurd (w.ends.1 (omega arith) z)
    at_zero [] (Refused number) w z = absurd (w.ends.1 (omega arith) z)
    at_zero [] (Shut number) w z = absurd w.ends
    at_zero [] (Unsound number index) w z = absurd w.ends
    at_zero (next ∷ frames) ending w z = absurd (w.follows.goes_on 0 (omega arith) z)

    rest-follows : (frames : List Frame) (f : Follows (Yielding step) start (frame ∷ frames)) → Follows (Yielding step) (f.at 1) frames
    rest-follows frames f =
        record {
          at = λ k. f.at (suc k);
          starts = refl;
          steps = λ k lt. f.steps (suc k) (omega arith);
          written = λ k lt. f.written (suc k) (omega arith);
          goes_on = λ k lt. f.goes_on (suc k) (omega arith);
        }

    rest-case : (frames : List Frame) (ending : Ending) (w : WalkCase (Yielding step) (Refusing step) limit start (frame ∷ frames) ending) → ¬ ((w.follows.at 1).pc ≡ 0)
        → WalkCase (Yielding step) (Refusing step) (limit - 1) (w.follows.at 1) frames ending
    unfolding rest-follows
    rest-case frames ending w far = record { follows = rest-follows frames w.follows; ends = by frames ending w.follows far w.ends }
      where
        by : (fs : List Frame) (e : Ending) (f : Follows (Yielding step) start (frame ∷ fs)) → ¬ ((f.at 1).pc ≡ 0)
            → Ends (Refusing step) limit (suc (length fs)) (f.at (suc (length fs))) e → Ends (Refusing step) (limit - 1) (length fs) (f.at (suc (length fs))) e
        by [] Outermost f far h = absurd (far h.2)
        by (next ∷ fs) Outermost f far h = (omega arith, omega arith, h.2)
        by fs Full f far h = (omega arith, λ lt. h.1 (omega arith))
        by fs (Refused number) f far h = (omega arith, (λ lt. h.1 (omega arith)), h.2)
        by fs (Shut number) f far h = h
        by fs (Unsound number index) f far h = h

  pub case_walk : (limit : ℕ) (start : Registers) (frames : List Frame) (ending : Ending) → WalkCase (Yielding step) (Refusing step) limit start frames ending
      → walk_of step limit start ≡ record { frames = frames; ending = ending }
  unfolding ended with_frame
  case_walk limit start [] ending w = none_walk limit start ending w
  case_walk limit start (frame ∷ frames) ending w =
      let caller = w.follows.at 1 in
      let more : 0 < limit = some_left limit start frame frames ending w in
      let yields : step start ≡ stepped.Caller caller = ap step (sym w.follows.starts) ∙ w.follows.steps 0 (omega arith) in
      let is : frame ≡ frame_of caller = w.follows.written 0 (omega arith) in
      by_value (eqb caller.pc 0)
      (λ e.
      let z : caller.pc ≡ 0 = eqb-true caller.pc 0 e in
      walk_outermost step limit start more caller yields z
      ∙ ap (λ f. with_frame f (ended Outermost)) (sym is)
      ∙ sym (at_zero limit start frame frames ending w z))
      (λ e.
      let far : ¬ (caller.pc ≡ 0) = eqb-false caller.pc 0 e in
      walk_on step limit start more caller yields far
      ∙ ap (λ f. with_frame f (walk_of step (limit - 1) caller)) (sym is)
      ∙ ap (with_frame frame) (case_walk (limit - 1) caller frames ending (rest-case limit start frame frames ending w far)))

  pub walk_exactly_when : (limit : ℕ) (start : Registers) (frames : List Frame) (ending : Ending)
      → (walk_of step limit start ≡ record { frames = frames; ending = ending }) ↔ WalkCase (Yielding step) (Refusing step) limit start frames ending
  walk_exactly_when limit start frames ending = (
    λ e. subst (Cased limit start) e (walk_case limit start),
    case_walk limit start frames ending,
  )

-- ---- the same walk by other words for a step

module _ {Yields Others : Registers → Registers → Type 0} (yields : (registers caller : Registers) → Yields registers caller → Others registers caller) where
  pub follows_through : {start : Registers} {frames : List Frame} → Follows Yields start frames → Follows Others start frames
  follows_through f =
      record {
        at = f.at;
        starts = f.starts;
        steps = λ k lt. yields (f.at k) (f.at (suc k)) (f.steps k lt);
        written = f.written;
        goes_on = f.goes_on;
      }

  pub walk_through : {start : Registers} {frames : List Frame} {Holds Also : ℕ → Registers → Type 0}
      → ((count : ℕ) (last : Registers) → Holds count last → Also count last)
      → WalkTo Yields start frames Holds
      → WalkTo Others start frames Also
  unfolding follows_through
  walk_through holds w = record { follows = follows_through w.follows; ends = holds _ _ w.ends }

pub ends_through : {Refuses Others : Registers → ℕ → Type 0} → ((registers : Registers) (number : ℕ) → Refuses registers number → Others registers number)
    → (limit : ℕ) (ending : Ending) (count : ℕ) (last : Registers) → Ends Refuses limit count last ending → Ends Others limit count last ending
ends_through refuses limit Outermost count last h = h
ends_through refuses limit Full count last h = h
ends_through refuses limit (Refused number) count last h = (h.0, h.1, refuses last number h.2)
ends_through refuses limit (Shut number) count last h = h
ends_through refuses limit (Unsound number index) count last h = h
