-- Signed return addresses in a trace (SPECIFICATION 5.14 and 6.5): the word written, the PC asked next and the test for 30 are all RA with the
-- bits of the mask cleared. So an RA of which only signature bits are set ends a trace with 30, and where no row is signed the mask is not
-- seen.
-- Assumes nothing.
use mathlib.Core.Path.{◌≡◌, refl, sym, ◌∙◌, ap, subst}
use mathlib.Core.List.{List}
use mathlib.Core.Logic.{⊎_elim}
use Prim.Native.Nat.{ℕ, suc, ◌+◌, ◌-◌, ◌*◌, ◌<◌}
use native.Mathlib.Nat.{eq-or-lt_of_le}
use native.Mathlib.Omega.{arith}
use lib.ListN.{length, get_or}
use Rattle.std.specs.Prelude.{Some}
use Rattle.section.specs.Header.{layout_of}
use Rattle.section.specs.Meaning.{shape_of}
use Rattle.section.specs.declared.row.Row.{Row}
use Rattle.section.specs.declared.shape.Abi.TheVariants.{Amd64}
use Rattle.accept.specs.Computed.Checks.{verdict}
use Rattle.accept.specs.Fault.{Fault, Breaks}
use Rattle.accept.specs.Verdict.{Verdict}
use Rattle.accept.specs.Verdict as verdict
use Rattle.accept.proofs.Exactly.{accepted_exactly_when}
use Rattle.lookup.proofs.CoveringLaws.{is_false}
use Rattle.caller.specs.Cases.{WindowFits, RowFound, CallerCase}
use Rattle.caller.specs.Frame.{asked_of}
use Rattle.caller.specs.Numbers.{signed, number_of_refusal}
use Rattle.caller.specs.Signature.{Signed, mask_of, clear, with_mask, OnlySignature}
use Rattle.caller.specs.declared.registers.Process.{Process}
use Rattle.caller.specs.declared.registers.Registers.{Registers}
use Rattle.caller.proofs.Exactly.{step_of_checked}
use Rattle.caller.proofs.Signed.{mask_unseen, amd64_unsigned, pc_as_read, zero_exactly_when}
use Rattle.caller.proofs.StepLaws.{by_shown}
use Rattle.caller.proofs.TestLaws.{fits_shows}
use Rattle.trace.specs.Cases.{Follows, EndsOutermost, WalkMade, Case}
use Rattle.trace.specs.Frames.{TraceReply, in_force, frame_of, with_mark, traced_as}
use Rattle.trace.specs.Numbers.{number_of_trace_cause, ending_number}
use Rattle.trace.specs.Computed.Trace.{Walk, checked_walk, door_tests, door_fault, after_door, walk_after, walk_in, traced, trace_of}
use Rattle.trace.specs.Ending.{Ending}
use Rattle.trace.specs.Ending.{Outermost, Full, Refused, Shut, Unsound}
use Rattle.trace.specs.declared.answer.Frame.{Frame}
use Rattle.trace.proofs.Asked.{asked_later}
use Rattle.trace.proofs.DoorLaws.{door_window}
use Rattle.trace.proofs.Exactly as trace
use Rattle.trace.proofs.Exactly.{walk_through_step}
use Rattle.trace.proofs.TraceLaws.{step_at}

module _ (s stack : List ℕ) (process : Process) (registers : Registers) (limit : ℕ) (old : List ℕ) where
  abbrev reply : TraceReply
  reply = trace_of s stack process registers limit old

  -- the registers before and after each frame, and the step that yields frame k
  abbrev at : ℕ → Registers
  at = (trace.frames_follow s stack process registers limit old).at

  abbrev step : (k : ℕ) → k < reply.answer.frames → CallerCase s stack process (at k) (at (suc k))
  step = trace.step_of s stack process registers limit old

  -- the bits that are cleared from the RA of frame k
  abbrev cleared : (k : ℕ) → k < reply.answer.frames → ℕ
  cleared k lt = mask_of (shape_of s) (step k lt).row process

  -- ---- one cleared RA

  -- the word written of frame k is RA as it was read with the mask's bits cleared
  pub ra_written : (k : ℕ) (lt : k < reply.answer.frames) → get_or reply.words (3 * k + 1) 0 ≡ clear (cleared k lt) (step k lt).ra
  ra_written k lt = (trace.words_follow s stack process registers limit old k lt).1 ∙ (step k lt).pc_is

  -- where it is not 0, the PC asked next is one below it
  pub asked_next : (k : ℕ) (lt : k < reply.answer.frames) → ¬ (clear (cleared k lt) (step k lt).ra ≡ 0)
      → asked_of (at (suc k)) ≡ Some (clear (cleared k lt) (step k lt).ra - 1)
  asked_next k lt far =
      let less = rw (trace.frame_count s stack process registers limit old) at lt in
      asked_later s stack process registers (trace.frames_follow s stack process registers limit old) k less (λ e. far (sym (step k lt).pc_is ∙ e))
      ∙ ap (λ pc. Some (pc - 1)) (step k lt).pc_is

  -- with mask 0 it is RA as it was read
  pub ra_as_read : process.mask ≡ 0 → (k : ℕ) (lt : k < reply.answer.frames) → get_or reply.words (3 * k + 1) 0 ≡ (step k lt).ra
  ra_as_read none k lt =
      (trace.words_follow s stack process registers limit old k lt).1
      ∙ pc_as_read s stack process (at k) none (at (suc k)) (step k lt)

  -- ---- "The test for ending 30 uses the cleared RA."

  -- two walks of the same frames have the same RAs
  same-pc : {frames : List Frame} (f g : Follows (CallerCase s stack process) (with_mark registers) frames) (k : ℕ) → k < length frames
      → (f.at (suc k)).pc ≡ (g.at (suc k)).pc
  unfolding frame_of
  same-pc f g k lt = ap (λ frame. frame.ra) (sym (f.written k lt) ∙ g.written k lt)

  -- a frame with RA 0 is the last, and the trace of these frames ends with 30
  module _ {frames : List Frame} (f : Follows (CallerCase s stack process) (with_mark registers) frames) (k : ℕ) (lt : k < length frames) (zero : (f.at (suc k)).pc ≡ 0) where
    last_frame : suc k ≡ length frames
    last_frame = ⊎_elim (λ is. is) (λ less. absurd (f.goes_on k less zero)) (eq-or-lt_of_le lt)

    -- whatever other walk of these frames is at hand, it has come to RA 0
    at_zero : (g : Follows (CallerCase s stack process) (with_mark registers) frames) → (g.at (length frames)).pc ≡ 0
    at_zero g = rw last_frame at (same-pc g f k lt ∙ zero)

    ends-outermost : (ending : Ending) → Case s stack process registers limit old frames ending → ending ≡ Outermost
    ends-outermost Outermost h = refl
    ends-outermost Full h = absurd (h.walk.ends.1 (omega arith) (at_zero h.walk.follows))
    ends-outermost (Refused number) h = absurd (h.walk.ends.1 (omega arith) (at_zero h.walk.follows))
    ends-outermost (Shut number) h = absurd (let none = ap length h.0 in omega (arith, none, lt))
    ends-outermost (Unsound number index) h = absurd (let none = ap length h.0 in omega (arith, none, lt))

  -- the trace's own frames
  abbrev own_frames : List Frame
  own_frames = (walk_in s stack process registers limit (length old)).frames

  of-last : WalkMade s stack process registers limit old own_frames (EndsOutermost (in_force limit)) → (k : ℕ) → suc k ≡ length own_frames
      → (k : ℕ) × (lt : k < reply.answer.frames) × (suc k ≡ reply.answer.frames) × OnlySignature (cleared k lt) (step k lt).ra
  unfolding trace_of traced traced_as
  of-last own k last =
      let lt : k < length own_frames = omega arith in
      let zero : (own.walk.follows.at (suc k)).pc ≡ 0 = rw last own.walk.ends.2 in
      let pc = same-pc (trace.frames_follow s stack process registers limit old) own.walk.follows k lt ∙ zero in
      (k, lt, last, (zero_exactly_when s stack process (at k) (at (suc k)) (step k lt)).0 pc)

  -- an RA of which only bits that are cleared are set is the last, and ends the trace with 30
  pub signature_ends : (k : ℕ) (lt : k < reply.answer.frames) → OnlySignature (cleared k lt) (step k lt).ra
      → (ending_number reply.answer.ending ≡ 30) × (suc k ≡ reply.answer.frames)
  unfolding trace_of traced traced_as ending_number number_of_trace_cause
  signature_ends k lt only =
      let zero = (zero_exactly_when s stack process (at k) (at (suc k)) (step k lt)).1 only in
      let follows = trace.frames_follow s stack process registers limit old in
      let walk = walk_in s stack process registers limit (length old) in (
        ap ending_number (ends-outermost follows k lt zero walk.ending (trace.some_case s stack process registers limit old)),
        last_frame follows k lt zero,
      )

  -- and 30 ends a trace where that holds of the last frame's RA
  pub outermost_signature : ending_number reply.answer.ending ≡ 30
      → (k : ℕ) × (lt : k < reply.answer.frames) × (suc k ≡ reply.answer.frames) × OnlySignature (cleared k lt) (step k lt).ra
  unfolding trace_of traced traced_as
  outermost_signature is =
      let (frames, made) = (trace.number_30_exactly_when s stack process registers limit old).0 is in
      let same = ap (λ w. w.frames) ((trace.trace_exactly_when s stack process registers limit old frames Outermost).1 made) in
      let own = subst (λ l. WalkMade s stack process registers limit old l (EndsOutermost (in_force limit))) (sym same) made in
      of-last own (length own_frames - 1) (omega (arith, own.walk.ends.0))

  -- ---- 24

  -- it never ends a trace with a mask
  pub no_24_with_mask : ¬ (process.mask ≡ 0) → ¬ (ending_number reply.answer.ending ≡ 24)
  unfolding number_of_refusal
  no_24_with_mask some is =
      let (frames, made) = (trace.refused_exactly_when s stack process registers limit old signed).0 is in
      some made.walk.ends.2.2.1

-- ---- where the mask is not seen

-- a door that is shut is shut to every walk
shut_same : (walk other : Walk) {fault : Fault} → Breaks 41 ≡ fault → after_door fault walk ≡ after_door fault other
unfolding after_door
shut_same walk other is = rw (← is)

module _ (s stack : List ℕ) (process : Process) (registers : Registers) (limit : ℕ) (old : List ℕ) where
  -- no row that a step can find is signed: the same words, count and ending by any mask
  pub mask_not_seen : ((from : Registers) (row : Row) → RowFound s stack process from row → ¬ Signed (shape_of s) row) → (mask : ℕ)
      → trace_of s stack (with_mask process mask) registers limit old ≡ trace_of s stack process registers limit old
  unfolding trace_of walk_in walk_after checked_walk door_fault door_tests
  mask_not_seen unsigned mask =
      by_shown (fits_shows stack process)
      (λ fits. ap (λ w. traced (after_door (door_fault stack process limit (length old)) w) old) (after fits (verdict s) refl))
      (λ past.
      ap (λ w. traced w old)
      (shut_same _ _ (door_window stack process limit (length old) (is_false (fits_shows stack process) past))))
    where
      after : WindowFits stack process → (found : Verdict) → verdict s ≡ found
          → walk_after found (checked_walk s stack (with_mask process mask) (in_force limit) (with_mark registers))
          ≡ walk_after found (checked_walk s stack process (in_force limit) (with_mark registers))
      after fits (verdict.Refused number index) is = refl
      after fits verdict.Accepted is =
          let obeys = (accepted_exactly_when s).0 is in
          walk_through_step (step_at s stack (with_mask process mask)) (step_at s stack process)
          (λ from.
          sym (step_of_checked s stack (with_mask process mask) from fits obeys)
          ∙ mask_unseen s stack process from (unsigned from) mask
          ∙ step_of_checked s stack process from fits obeys)
          (in_force limit) (with_mark registers)

  pub amd64_not_seen : (layout_of s).abi ≡ Amd64 → (mask : ℕ)
      → trace_of s stack (with_mask process mask) registers limit old ≡ trace_of s stack process registers limit old
  amd64_not_seen machine = mask_not_seen (λ from row found. amd64_unsigned s machine row)
