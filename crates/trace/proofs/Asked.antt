-- The PC asked in a trace (SPECIFICATION 5.13 and 6.5): the first step asks the PC handed in, every later one the return address minus 1,
-- and no step meets PC 0 without the mark, since RA 0 has ended the walk with 30. So 21 has one case in a trace.
-- Assumes nothing.
use mathlib.Core.Path.{◌≡◌, refl, ap}
use mathlib.Core.List.{List}
use mathlib.Core.Logic.Iff
use mathlib.Core.Logic.{inl, inr, ◌↔◌, ⊎_elim}
use Prim.Native.Nat.{ℕ, zero, suc, ◌-◌, ◌<◌}
use native.Mathlib.Omega.{arith}
use lib.ListN.{length}
use Rattle.std.specs.Prelude.{Some, None}
use Rattle.lookup.specs.Cases.{NoneCovers}
use Rattle.lookup.specs.Numbers.{no_function, number_of_unfound}
use Rattle.caller.specs.Cases.{LookedUp, CallerCase, OnRefusal}
use Rattle.caller.specs.Frame.{asked_of}
use Rattle.caller.specs.Numbers.{unfound, number_of_refusal}
use Rattle.caller.specs.declared.registers.Registers.{Registers}
use Rattle.caller.specs.declared.registers.Process.{Process}
use Rattle.caller.proofs.Asked.{asked_exactly_when, nowhere_exactly_when}
use Rattle.trace.specs.Cases.{Follows, NotOutermost, EndsRefused, WalkMade}
use Rattle.trace.specs.Frames.{in_force, with_mark}
use Rattle.trace.specs.Numbers.{ending_number}
use Rattle.trace.specs.Computed.Trace.{trace_of}
use Rattle.trace.specs.declared.answer.Frame.{Frame}
use Rattle.trace.proofs.Exactly as trace

-- "The walk starts with the mark set": its first step asks PC itself
pub asked_first : (registers : Registers) → asked_of (with_mark registers) ≡ Some registers.pc
unfolding with_mark
asked_first registers = (asked_exactly_when (with_mark registers) registers.pc).1 (inl ((λ e. omega arith), refl))

module _ (s stack : List ℕ) (process : Process) (registers : Registers) {frames : List Frame} (f : Follows (CallerCase s stack process) (with_mark registers) frames) where
  -- every later step, also one that is refused, asks its return address minus 1
  pub asked_later : (k : ℕ) → k < length frames → ¬ ((f.at (suc k)).pc ≡ 0) → asked_of (f.at (suc k)) ≡ Some ((f.at (suc k)).pc - 1)
  asked_later k less far =
      let none = (f.steps k less).first_is in
      (asked_exactly_when (f.at (suc k)) _).1 (inr (none, omega (arith, far)))

  -- no step of a walk, from the first to the one that is refused, meets PC 0 without the mark: RA 0 has ended it with 30
  pub never_nowhere : (k : ℕ) → NotOutermost k (f.at k) → ¬ (asked_of (f.at k) ≡ None)
  unfolding with_mark
  never_nowhere zero far e =
      let none = ((nowhere_exactly_when (f.at 0)).0 e).0 in
      let marked : (f.at 0).first ≡ 1 = ap (λ r. r.first) f.starts in
      omega (arith, none, marked)
  never_nowhere (suc k) far e = far (omega arith) ((nowhere_exactly_when (f.at (suc k))).0 e).1

module _ (s stack : List ℕ) (process : Process) (registers : Registers) (limit : ℕ) (old : List ℕ) where
  -- a walk that is made ends where this holds of the registers of its next step
  abbrev EndedWhere : (Registers → Type 0) → Type 0
  EndedWhere Here = (frames : List Frame) × WalkMade s stack process registers limit old frames (EndsRefused Here (in_force limit))

  -- it has a PC to ask
  none-covers-asked : EndedWhere (λ last. OnRefusal s stack process last (unfound no_function)) → EndedWhere (λ last. LookedUp s stack process last (NoneCovers s))
  none-covers-asked (frames, w) =
      let (less, far, refused) = w.walk.ends in
      let nowhere = never_nowhere s stack process registers w.walk.follows (length frames) far in
      let here = ⊎_elim (λ h. h) (λ h. absurd (nowhere h.asked)) refused in
      (frames, record { opened = w.opened; obeys = w.obeys; walk = record { follows = w.walk.follows; ends = (less, far, here) } })

  asked-refused : EndedWhere (λ last. LookedUp s stack process last (NoneCovers s)) → EndedWhere (λ last. OnRefusal s stack process last (unfound no_function))
  asked-refused (frames, w) =
      let (less, far, none) = w.walk.ends in
      (frames, record { opened = w.opened; obeys = w.obeys; walk = record { follows = w.walk.follows; ends = (less, far, inl none) } })

  -- 21 ends a trace exactly when no function covers the PC that its next step asks
  pub number_21_exactly_when : (ending_number (trace_of s stack process registers limit old).answer.ending ≡ 21)
      ↔ ((frames : List Frame)
      × WalkMade s stack process registers limit old frames (EndsRefused (λ last. LookedUp s stack process last (NoneCovers s)) (in_force limit)))
  unfolding number_of_refusal number_of_unfound
  number_21_exactly_when =
      Iff.trans (trace.refused_exactly_when s stack process registers limit old (unfound no_function)) (none-covers-asked, asked-refused)
