-- What is tried before the walk: the door by its three rules, and then the section.
-- Assumes nothing.
use borrow.Author.Tests.{eqb-true}
use mathlib.Core.Path.{◌≡◌, refl, sym, ◌∙◌, ap}
use mathlib.Core.Bool.{Bool, false}
use mathlib.Core.List.{List, [], ◌∷◌}
use mathlib.Core.Logic.Iff
use mathlib.Core.Logic.{inl, inr, ◌↔◌, ⊎_elim}
use Prim.Native.Nat.{ℕ, ◌+◌, ◌*◌, ◌^◌, ◌≤◌}
use native.Mathlib.Omega.{arith}
use lib.Dec.{eqb, ltb}
use lib.ListN.{length}
use Rattle.numbers.specs.Computed.Address.{window_fits}
use Rattle.accept.specs.Computed.Checks.{first_bad, verdict}
use Rattle.accept.specs.Fault.{Fault, Sound, Breaks}
use Rattle.accept.specs.Verdict.{Verdict}
use Rattle.accept.specs.Verdict as verdict
use Rattle.accept.proofs.Decides.{not_below, at_most, unless}
use Rattle.accept.proofs.FaultLaws.{Table, end, line, FirstBroken, table_sound, table_breaks}
use Rattle.lookup.proofs.CoveringLaws.{by_value}
use Rattle.caller.specs.Cases.{Rule41}
use Rattle.caller.specs.Numbers.{number_of_step_cause}
use Rattle.caller.specs.declared.registers.Registers.{Registers}
use Rattle.caller.specs.declared.registers.Process.{Process}
use Rattle.trace.specs.Cases.{LimitAbove, TooFewWords, AtDoor, DoorOpen}
use Rattle.trace.specs.Frames.{in_force, with_mark, all_words, over, traced_as}
use Rattle.trace.specs.Numbers.{number_of_trace_cause}
use Rattle.trace.specs.Computed.Trace.{ended, checked_walk, door_tests, door_fault, after_door, walk_after, walk_in, traced, trace_of}
use Rattle.trace.specs.Ending.{Shut, Unsound}

-- ---- the limit in force

pub in_force_small : (limit : ℕ) → limit ≤ 256 → in_force limit ≤ 256
unfolding in_force
in_force_small limit small =
    by_value (eqb limit 0) (λ e. rw (e, in_force) (omega arith)) (λ e. rw (e, in_force) small)

-- 42 can be told from it as well
pub in_force_above : (limit : ℕ) → ltb 256 limit ≡ ltb 256 (in_force limit)
unfolding in_force
in_force_above limit =
    by_value (eqb limit 0) (λ e. ap (λ l. ltb 256 l) (eqb-true limit 0 e) ∙ rw (e, in_force) refl) (λ e. rw (e, in_force) refl)

-- ---- the door's first test

module _ (stack : List ℕ) (process : Process) (limit words : ℕ) where
  pub door_window : window_fits stack process.stack ≡ false → Breaks 41 ≡ door_fault stack process limit words
  unfolding door_fault door_tests first_bad
  door_window out = rw (out, first_bad)

-- ---- the door, by its rules

module _ (stack : List ℕ) (process : Process) (limit : ℕ) (buffer : List ℕ) where
  abbrev tests : List (Bool × ℕ)
  tests = door_tests stack process limit (length buffer)

  abbrev rules : List (Type 0)
  rules = (process.stack + length stack ≤ 2 ^ 64) ∷ (limit ≤ 256) ∷ (3 * in_force limit ≤ length buffer) ∷ []

  door-table : Table tests rules
  unfolding door_tests window_fits
  door-table = line (unless (at_most _ _)) (line (not_below _ _) (line (not_below _ _) end))

  door-opens : (door_fault stack process limit (length buffer) ≡ Sound) ↔ DoorOpen stack process limit buffer
  unfolding door_fault
  door-opens =
      Iff.trans (table_sound door-table) (
        λ h. record { in_memory = omega arith; allowed = omega arith; room = omega arith },
        λ h. (omega arith, (omega arith, (omega arith, tt))),
      )

  broken-at : (number : ℕ) → FirstBroken tests rules number ↔ AtDoor stack process limit buffer number
  unfolding door_tests number_of_trace_cause number_of_step_cause
  broken-at number = (
    ⊎_elim
        (λ h. inl (h.0, omega arith))
        (λ h.
        ⊎_elim
        (λ g. inr (inl (g.0, omega arith, omega arith)))
        (λ g. ⊎_elim (λ f. inr (inr (f.0, omega arith, omega arith, omega arith))) (λ f. absurd f.1) g.1)
        h.1),
    ⊎_elim
        (λ h. inl (h.0, omega arith))
        (⊎_elim (λ h. inr (omega arith, inl (h.0, omega arith))) (λ h. inr (omega arith, inr (omega arith, inl (h.0, omega arith))))),
  )

  door-shuts : (number : ℕ) → (door_fault stack process limit (length buffer) ≡ Breaks number) ↔ AtDoor stack process limit buffer number
  unfolding door_fault
  door-shuts number = Iff.trans (table_breaks door-table number) (broken-at number)

  -- one number at a time
  pub door_41 : AtDoor stack process limit buffer 41 ↔ Rule41 stack process
  unfolding number_of_trace_cause number_of_step_cause
  door_41 = (⊎_elim (λ h. h.1) (⊎_elim (λ h. absurd (omega arith)) (λ h. absurd (omega arith))), λ h. inl (refl, h))

  pub door_42 : AtDoor stack process limit buffer 42 ↔ ((¬ Rule41 stack process) × LimitAbove limit)
  unfolding number_of_trace_cause number_of_step_cause
  door_42 = (
    ⊎_elim (λ h. absurd (omega arith)) (⊎_elim (λ h. (h.1, h.2)) (λ h. absurd (omega arith))),
    λ h. inr (inl (refl, h.0, h.1)),
  )

  pub door_43 : AtDoor stack process limit buffer 43 ↔ ((¬ Rule41 stack process) × (¬ LimitAbove limit) × TooFewWords limit buffer)
  unfolding number_of_trace_cause number_of_step_cause
  door_43 = (
    ⊎_elim (λ h. absurd (omega arith)) (⊎_elim (λ h. absurd (omega arith)) (λ h. (h.1, h.2, h.3))),
    λ h. inr (inr (refl, h.0, h.1, h.2)),
  )

  pub door_number : (number : ℕ) → AtDoor stack process limit buffer number → (41 ≤ number) × (number ≤ 43)
  unfolding number_of_trace_cause number_of_step_cause
  door_number number = ⊎_elim (λ h. omega arith) (⊎_elim (λ h. omega arith) (λ h. omega arith))

  pub not_open : (number : ℕ) → AtDoor stack process limit buffer number → ¬ DoorOpen stack process limit buffer
  not_open number at opened =
      ⊎_elim (λ h. opened.in_memory h.1) (⊎_elim (λ h. opened.allowed h.2) (λ h. opened.room h.3)) at

  -- what a walk may rely on where nothing was refused
  pub door_allows : door_fault stack process limit (length buffer) ≡ Sound → (limit ≤ 256) × (3 * in_force limit ≤ length buffer)
  door_allows open-door = let opened = door-opens.0 open-door in (omega (arith, opened.allowed), omega (arith, opened.room))

  -- the three ways
  pub data Way (s : List ℕ) : Type 0 where
    shut : (number : ℕ) → AtDoor stack process limit buffer number → Way s
    unsound_way : DoorOpen stack process limit buffer → (number index : ℕ) → verdict s ≡ verdict.Refused number index → Way s
    sound : DoorOpen stack process limit buffer → verdict s ≡ verdict.Accepted → Way s

  way_in : (s : List ℕ) → DoorOpen stack process limit buffer → (v : Verdict) → verdict s ≡ v → Way s
  way_in s opened verdict.Accepted e = sound opened e
  way_in s opened (verdict.Refused number index) e = unsound_way opened number index e

  way_by : (s : List ℕ) (fault : Fault) → door_fault stack process limit (length buffer) ≡ fault → Way s
  way_by s Sound e = way_in s (door-opens.0 e) (verdict s) refl
  way_by s (Breaks number) e = shut number ((door-shuts number).0 e)

  pub way : (s : List ℕ) → Way s
  way s = way_by s (door_fault stack process limit (length buffer)) refl

-- ---- what comes of it

module _ (s stack : List ℕ) (process : Process) (registers : Registers) (limit : ℕ) (buffer : List ℕ) where
  refused-walk : {number : ℕ} → door_fault stack process limit (length buffer) ≡ Breaks number
      → walk_in s stack process registers limit (length buffer) ≡ ended (Shut number)
  unfolding walk_in after_door
  refused-walk broken = rw broken

  pub shut_walk : (number : ℕ) → AtDoor stack process limit buffer number
      → walk_in s stack process registers limit (length buffer) ≡ ended (Shut number)
  shut_walk number at = refused-walk ((door-shuts stack process limit buffer number).1 at)

  -- the same as the code answers it, with the buffer as it was
  pub refused_at_door : {number : ℕ} → door_fault stack process limit (length buffer) ≡ Breaks number
      → traced_as (record { ending = Shut number; frames = 0 }) buffer ≡ trace_of s stack process registers limit buffer
  unfolding trace_of traced ended all_words over
  refused_at_door broken = ap (λ w. traced w buffer) (sym (refused-walk broken))

  module _ (open-door : door_fault stack process limit (length buffer) ≡ Sound) where
    past-door : walk_in s stack process registers limit (length buffer)
        ≡ walk_after (verdict s) (checked_walk s stack process (in_force limit) (with_mark registers))
    unfolding walk_in after_door
    past-door = rw open-door

    refused-section : {number index : ℕ} → verdict s ≡ verdict.Refused number index
        → walk_in s stack process registers limit (length buffer) ≡ ended (Unsound number index)
    unfolding walk_after
    refused-section bad = past-door ∙ rw bad

    accepted-section : verdict s ≡ verdict.Accepted
        → walk_in s stack process registers limit (length buffer) ≡ checked_walk s stack process (in_force limit) (with_mark registers)
    unfolding walk_after
    accepted-section good = past-door ∙ rw good

    pub refused_by_section : {number index : ℕ} → verdict s ≡ verdict.Refused number index
        → traced_as (record { ending = Unsound number index; frames = 0 }) buffer ≡ trace_of s stack process registers limit buffer
    unfolding trace_of traced ended all_words over
    refused_by_section bad = ap (λ w. traced w buffer) (sym (refused-section bad))

    pub walked : verdict s ≡ verdict.Accepted
        → traced (checked_walk s stack process (in_force limit) (with_mark registers)) buffer ≡ trace_of s stack process registers limit buffer
    unfolding trace_of
    walked good = ap (λ w. traced w buffer) (sym (accepted-section good))

  module _ (opened : DoorOpen stack process limit buffer) where
    pub unsound_walk : (number index : ℕ) → verdict s ≡ verdict.Refused number index
        → walk_in s stack process registers limit (length buffer) ≡ ended (Unsound number index)
    unsound_walk number index bad = refused-section ((door-opens stack process limit buffer).1 opened) bad

    pub open_walk : verdict s ≡ verdict.Accepted
        → walk_in s stack process registers limit (length buffer) ≡ checked_walk s stack process (in_force limit) (with_mark registers)
    open_walk good = accepted-section ((door-opens stack process limit buffer).1 opened) good
