-- The walk turn by turn, and what is written after each turn.
-- Assumes nothing.
use mathlib.Core.Path.{◌≡◌, refl, ◌∙◌, ap}
use mathlib.Core.List.{List}
use Prim.Native.Nat.{ℕ, suc, ◌+◌, ◌*◌, ◌-◌, ◌≤◌, ◌<◌}
use native.Mathlib.Nat.{zero-add, add-zero}
use native.Mathlib.Numerals.{add-one}
use native.Mathlib.Omega.{arith}
use lib.ListN.{length}
use borrow.Author.Tests.{eq-eqb, ne_eqb}
use Rattle.caller.specs.Numbers.{step_number}
use Rattle.caller.specs.declared.registers.Registers.{Registers}
use Rattle.caller.specs.Step.{Step}
use Rattle.caller.specs.Step as stepped
use Rattle.trace.specs.Frames.{TraceReply, frame_of, words_of, all_words, traced_as}
use Rattle.trace.specs.Computed.Trace.{Walk, ended, with_frame, unless_outermost, onward, walk_of, traced}
use Rattle.trace.specs.Inner.Writing.{put}
use Rattle.trace.specs.Ending.{Ending}
use Rattle.trace.specs.Ending.{Outermost, Full, Refused}
use Rattle.trace.specs.declared.answer.Frame.{Frame}
use Rattle.trace.proofs.BufferLaws.{put_first, put_none, put_more}

-- ---- what is left of a trace

-- the trace from here on: k frames are written, and `walk` is what is left
unfoldable pub traced_from : ℕ → Walk → List ℕ → TraceReply
traced_from k walk b =
    traced_as (record { ending = walk.ending; frames = k + length walk.frames }) (put b (3 * k) (all_words walk.frames))

pub begins : (walk : Walk) (b : List ℕ) → traced_from 0 walk b ≡ traced walk b
unfolding traced_from traced
begins walk b = rw (zero-add, put_first)

pub ends : (k : ℕ) (ending : Ending) (b : List ℕ) → traced_from k (ended ending) b ≡ traced_as (record { ending = ending; frames = k }) b
unfolding traced_from ended all_words
ends k ending b = rw (put_none, add-zero)

pub writes : (k : ℕ) (frame : Frame) (rest : Walk) (b : List ℕ) → 3 * k + 3 ≤ length b
    → traced_from (suc k) rest (put b (3 * k) (words_of frame)) ≡ traced_from k (with_frame frame rest) b
unfolding traced_from with_frame all_words words_of
writes k frame rest b fits =
    let words = all_words rest.frames in
    let counted : suc k + length rest.frames ≡ k + suc (length rest.frames) = omega arith in
    let from : 3 * suc k ≡ 3 * k + 3 = omega arith in
    ap (λ n. traced_as (record { ending = rest.ending; frames = n }) (put (put b (3 * k) (words_of frame)) (3 * suc k) words)) counted
    ∙ ap
    (λ l. traced_as (record { ending = rest.ending; frames = k + suc (length rest.frames) }) l)
    (ap (λ at. put (put b (3 * k) (words_of frame)) at words) from ∙ put_more b (3 * k) (words_of frame) words fits)

-- the same with the count as code raises it
pub writes_next : (k : ℕ) (frame : Frame) (rest : Walk) (b : List ℕ) → 3 * k + 3 ≤ length b
    → traced_from (k + 1) rest (put b (3 * k) (words_of frame)) ≡ traced_from k (with_frame frame rest) b
writes_next k frame rest b fits = rw add-one (writes k frame rest b fits)

-- ---- one turn of the walk

pub walk_full : (step : Registers → Step) (registers : Registers) → walk_of step 0 registers ≡ ended Full
unfolding walk_of
walk_full step registers = refl

ends_here : (ra : ℕ) (rest : Walk) → ra ≡ 0 → unless_outermost ra rest ≡ ended Outermost
unfolding unless_outermost
ends_here ra rest e = rw (eq-eqb ra 0 e, unless_outermost)

goes_on : (ra : ℕ) (rest : Walk) → ¬ (ra ≡ 0) → unless_outermost ra rest ≡ rest
unfolding unless_outermost
goes_on ra rest far = rw (ne_eqb ra 0 far, unless_outermost)

module _ (step : Registers → Step) (left : ℕ) (registers : Registers) (more : 0 < left) where
  one-turn : walk_of step left registers ≡ onward (step registers) (walk_of step (left - 1))
  unfolding walk_of
  one-turn = let e : left ≡ suc (left - 1) = omega arith in ap (λ n. walk_of step n registers) e

  pub walk_refused : (old : Registers) (number : ℕ) → step registers ≡ stepped.Refused old number
      → walk_of step left registers ≡ ended (Refused number)
  unfolding onward
  walk_refused old number e = one-turn ∙ rw e

  pub walk_unsound : (old : Registers) (number index : ℕ) → step registers ≡ stepped.Unsound old number index
      → walk_of step left registers ≡ ended (Refused number)
  unfolding onward
  walk_unsound old number index e = one-turn ∙ rw e

  -- the same of any answer that is no caller
  pub walk_no_caller : (answer : Step) → step registers ≡ answer → ((caller : Registers) → ¬ (answer ≡ stepped.Caller caller))
      → walk_of step left registers ≡ ended (Refused (step_number answer))
  unfolding step_number
  walk_no_caller (stepped.Caller caller) e other = absurd (other caller refl)
  walk_no_caller (stepped.Unsound old number index) e other = walk_unsound old number index e
  walk_no_caller (stepped.Refused old number) e other = walk_refused old number e

  module _ (caller : Registers) (yields : step registers ≡ stepped.Caller caller) where
    abbrev rest : Walk
    rest = walk_of step (left - 1) caller

    turn_yields : walk_of step left registers ≡ with_frame (frame_of caller) (unless_outermost caller.pc rest)
    unfolding onward
    turn_yields = one-turn ∙ rw yields

    pub walk_outermost : caller.pc ≡ 0 → walk_of step left registers ≡ with_frame (frame_of caller) (ended Outermost)
    walk_outermost e = turn_yields ∙ ap (with_frame (frame_of caller)) (ends_here caller.pc rest e)

    pub walk_on : ¬ (caller.pc ≡ 0) → walk_of step left registers ≡ with_frame (frame_of caller) (walk_of step (left - 1) caller)
    walk_on far = turn_yields ∙ ap (with_frame (frame_of caller)) (goes_on caller.pc rest far)
