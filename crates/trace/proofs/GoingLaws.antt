-- The loop of the walk: what is written and what is left make the whole trace, before every turn and after the last.
-- Assumes nothing.
use mathlib.Core.Path.{◌≡◌, refl, sym, ◌∙◌, ap}
use mathlib.Core.List.{List}
use Prim.Native.Nat.{ℕ, ◌+◌, ◌*◌, ◌-◌, ◌≤◌, ◌<◌}
use native.Mathlib.Omega.{arith}
use lib.ListN.{length}
use Rattle.caller.specs.Numbers.{step_number}
use Rattle.caller.specs.declared.registers.Registers.{Registers}
use Rattle.caller.specs.Step.{Step}
use Rattle.caller.specs.Step as stepped
use Rattle.trace.specs.Frames.{frame_of, words_of, traced_as}
use Rattle.trace.specs.Computed.Trace.{ended, walk_of, traced}
use Rattle.trace.specs.Inner.Writing.{next_from, put}
use Rattle.trace.specs.Ending.{Outermost, Full, Refused}
use Rattle.trace.proofs.BufferLaws.{put_length}
use Rattle.trace.proofs.WalkLaws.{traced_from, begins, ends, writes_next, walk_no_caller, walk_outermost, walk_on, walk_full}

-- a caller goes on as it is
pub next_same : (caller last : Registers) → caller.first ≡ 0 → caller.lr ≡ last.lr → next_from caller last ≡ caller
unfolding next_from
next_same caller last none kept = same last.lr 0 kept none
  where
    same : (lr first : ℕ) → caller.lr ≡ lr → caller.first ≡ first
        → ◌≡◌ {A = Registers} (record { pc = caller.pc; sp = caller.sp; fp = caller.fp; lr = lr; first = first }) caller
    same lr first p q = rw (← p, ← q)

-- `frames` frames are written to b, and `left` more are allowed from the registers `current` on
pub record Going (step : Registers → Step) (limit : ℕ) (start : Registers) (old b : List ℕ) (current : Registers) (frames left : ℕ) : Type 0 where
  pub counted : frames + left ≡ limit
  pub same : length b ≡ length old
  pub leads : traced_from frames (walk_of step left current) b ≡ traced (walk_of step limit start) old

module _ {step : Registers → Step} {limit : ℕ} {start : Registers} {old : List ℕ} where
  pub going_begins : Going step limit start old old start 0 limit
  going_begins = record { counted = omega arith; same = refl; leads = begins _ _ }

  module _ {b : List ℕ} {current : Registers} {frames left : ℕ} (going : Going step limit start old b current frames left) where
    pub going_full : left ≡ 0 → traced_as (record { ending = Full; frames = frames }) b ≡ traced (walk_of step limit start) old
    going_full none =
        sym (ends frames Full b) ∙ ap (λ w. traced_from frames w b) (sym (ap (λ n. walk_of step n current) none ∙ walk_full step current)) ∙ going.leads

    module _ (more : 0 < left) where
      -- "A refused step ends it with its own number"
      pub going_refused : (o : Step) → step current ≡ o → ((caller : Registers) → ¬ (o ≡ stepped.Caller caller))
          → traced_as (record { ending = Refused (step_number o); frames = frames }) b ≡ traced (walk_of step limit start) old
      going_refused o e never =
          sym (ends frames (Refused (step_number o)) b) ∙ ap (λ w. traced_from frames w b) (sym (walk_no_caller step left current more o e never)) ∙ going.leads

      module _ (room : 3 * limit ≤ length old) where
        -- there is room for one more frame
        pub going_fits : 3 * frames + 3 ≤ length b
        going_fits = omega (arith, going.counted, going.same)

        module _ {caller : Registers} (yields : step current ≡ stepped.Caller caller) where
          abbrev written : List ℕ
          written = put b (3 * frames) (words_of (frame_of caller))

          pub going_same : length written ≡ length old
          unfolding words_of
          going_same = put_length b (3 * frames) (words_of (frame_of caller)) going_fits ∙ going.same

          -- "RA 0 ends it with 30"
          pub going_outermost : caller.pc ≡ 0
              → traced_as (record { ending = Outermost; frames = frames + 1 }) written ≡ traced (walk_of step limit start) old
          going_outermost zero =
              sym (ends (frames + 1) Outermost written)
              ∙ writes_next frames (frame_of caller) (ended Outermost) b going_fits
              ∙ ap (λ w. traced_from frames w b) (sym (walk_outermost step left current more caller yields zero))
              ∙ going.leads

          pub going_on : ¬ (caller.pc ≡ 0) → Going step limit start old written caller (frames + 1) (left - 1)
          going_on far =
              record {
                counted = omega (arith, going.counted);
                same = going_same;
                leads =
                    writes_next frames (frame_of caller) (walk_of step (left - 1) caller) b going_fits
                    ∙ ap (λ w. traced_from frames w b) (sym (walk_on step left current more caller yields far))
                    ∙ going.leads;
              }
