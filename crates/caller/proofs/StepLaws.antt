-- The cases of a step: each, as a plain proposition, makes the answer that it is the case of, and one of them always holds. So an
-- answer is given exactly when its case holds (`step_exactly_when`).
-- Assumes nothing.
use mathlib.Core.Path.{◌≡◌, refl, sym, ◌∙◌, ap, subst}
use mathlib.Core.Bool.{Bool}
use mathlib.Core.List.{List}
use mathlib.Core.Logic.{inl, inr, ◌↔◌, ⊎_elim}
use Prim.Native.Nat.{ℕ}
use native.Mathlib.Omega.{arith}
use Rattle.std.specs.Prelude.{Option, Some, None}
use Rattle.numbers.specs.Computed.Address.{in_memory}
use Rattle.section.specs.Meaning.{shape_of}
use Rattle.section.specs.declared.row.Row.{Row}
use Rattle.accept.specs.Given.{number_of_rule}
use Rattle.accept.specs.Rules.{Obeys}
use Rattle.accept.specs.Computed.Checks.{verdict}
use Rattle.accept.proofs.Decides.{Shows}
use Rattle.accept.proofs.Exactly.{accepted_exactly_when, given_exactly_when, obeys_or_refusal}
use Rattle.lookup.specs.Cases.{UnfoundCase}
use Rattle.lookup.specs.Finding.{Finding}
use Rattle.lookup.specs.Numbers.{Unfound, no_function, dispute, no_row, number_of_unfound}
use Rattle.lookup.specs.Computed.Answers.{look_in}
use Rattle.lookup.proofs.CoveringLaws.{by_value, is_true, is_false}
use Rattle.caller.specs.Cases.{Rule24, Rule25, Rule26, Rule27, Rule41, WindowFits, Outside, LookedUp, NothingAsked, RowFound, CfaAt, WordsAt, OnRefusal, CallerCase, UnsoundCase, RefusedCase, Case}
use Rattle.caller.specs.Frame.{asked_of, cfa_of, caller_sp}
use Rattle.caller.specs.Numbers.{Refusal, unfound, signed, cfa_outside, cfa_low, ra_lost, word_outside, number_of_refusal, window, number_of_step_cause}
use Rattle.caller.specs.Signature.{mask_of, clear}
use Rattle.caller.specs.Computed.Caller.{spot_of, value_of, both_of, values_of, if_fits, step_after, look_at, with_finding, unless_maskless, with_cfa, unless_low, unless_lost, with_values, from_spots, from_cfa, from_row, from_finding, step_of, step_in}
use Rattle.caller.specs.declared.registers.Registers.{Registers}
use Rattle.caller.specs.Step.{Step}
use Rattle.caller.specs.Step.{Caller, Unsound, Refused}
use Rattle.caller.specs.declared.registers.Process.{Process}
use Rattle.caller.proofs.FindingLaws.{finds_exactly_when, unfound_exactly_when, looked_up}
use Rattle.caller.proofs.LookedUpLaws.{nowhere_refused}
use Rattle.caller.proofs.TestLaws.{fits_shows, maskless_shows, low_shows, lost_shows, in_memory_lem, out_of_memory, memory_decided, value_given, no_value, value_decided}

-- go on by whether a proposition that a test shows holds
pub by_shown : {test : Bool} {P X : Type 0} → Shows test P → (P → X) → (¬ P → X) → X
by_shown {test} d good bad = by_value test (λ e. good (d.holds e)) (λ e. bad (d.broken e))

-- FP's word is outside, whatever RA's is
fp_refused : (registers : Registers) (mask cfa : ℕ) (ra : Option ℕ) → with_values registers mask cfa (both_of ra None) ≡ Refused registers 28
unfolding both_of with_values
fp_refused registers mask cfa None = refl
fp_refused registers mask cfa (Some ra) = refl

-- ---- the step where the checks so far pass, and what each refusal makes of it

module _ (s stack : List ℕ) (process : Process) (registers : Registers) where
  abbrev answer : Step
  answer = step_in s stack process registers

  window-given : Rule41 stack process → answer ≡ Refused registers 41
  unfolding step_in if_fits
  window-given past = rw (is_false (fits_shows stack process) (λ fits. omega arith), if_fits)

  -- 41 is past
  fits-given : WindowFits stack process
      → answer ≡ step_after registers (verdict s) (step_of (shape_of s) (look_in s process.section) stack process registers)
  unfolding step_in if_fits
  fits-given fits = rw (is_true (fits_shows stack process) fits, if_fits)

  unsound-given : (number index : ℕ) → UnsoundCase s stack process registers number index → answer ≡ Unsound registers number index
  unfolding step_after
  unsound-given number index (fits, rule, is, given) =
      fits-given fits ∙ rw ((given_exactly_when s rule index).1 given) (ap (λ n. Unsound registers n index) (sym is))

  -- 1 to 15 are past too, and this is what the lookup finds
  found-given : (obeys : Obeys s) → WindowFits stack process → {pc : ℕ} → asked_of registers ≡ Some pc → {found : Finding}
      → look_in s process.section pc ≡ found
      → answer ≡ from_finding (shape_of s) stack process registers found
  unfolding step_after step_of look_at
  found-given obeys fits asked looks = fits-given fits ∙ rw ((accepted_exactly_when s).1 obeys) (rw asked (rw looks))

  -- and there is no PC to ask
  nowhere-given : NothingAsked s stack process registers → answer ≡ Refused registers 21
  unfolding step_after
  nowhere-given h =
      fits-given h.fits ∙ rw ((accepted_exactly_when s).1 h.obeys) (nowhere_refused registers h.asked _ _ stack process)

  none-given : (why : Unfound) → LookedUp s stack process registers (λ d. UnfoundCase s d why) → answer ≡ Refused registers (number_of_unfound why)
  unfolding from_finding with_finding
  none-given why h =
      found-given h.obeys h.fits h.asked ((unfound_exactly_when s h.obeys process.section h.pc why).1 h.holds)

  module _ {row : Row} where
    row_given : RowFound s stack process registers row → answer ≡ from_row (shape_of s) stack process registers row
    unfolding from_finding with_finding
    row_given h =
        let (i, k, found) = h.holds in
        found-given h.obeys h.fits h.asked ((finds_exactly_when s h.obeys process.section h.pc row k).1 (i, found))

    signed-given : RowFound s stack process registers row → Rule24 (shape_of s) row process → answer ≡ Refused registers 24
    unfolding from_row unless_maskless
    signed-given h set = row_given h ∙ rw (is_true (maskless_shows (shape_of s) row process) set, unless_maskless)

    unsigned-given : RowFound s stack process registers row → ¬ Rule24 (shape_of s) row process
        → answer ≡ with_cfa registers (in_memory (cfa_of registers row)) (from_cfa (shape_of s) stack process registers row)
    unfolding from_row unless_maskless
    unsigned-given h unset = row_given h ∙ rw (is_false (maskless_shows (shape_of s) row process) unset, unless_maskless)

    outside-given : RowFound s stack process registers row → ¬ Rule24 (shape_of s) row process → Rule25 registers row → answer ≡ Refused registers 25
    unfolding with_cfa
    outside-given h unset out = unsigned-given h unset ∙ rw (out_of_memory (cfa_of registers row) out)

    module _ {cfa : ℕ} where
      cfa-given : CfaAt s stack process registers row cfa → answer ≡ from_cfa (shape_of s) stack process registers row cfa
      unfolding with_cfa
      cfa-given h =
          unsigned-given h.row_found h.not_24 ∙ rw (in_memory_lem (cfa_of registers row) cfa h.cfa_is.0 h.cfa_is.1)

      low-given : CfaAt s stack process registers row cfa → Rule26 registers cfa → answer ≡ Refused registers 26
      unfolding from_cfa unless_low
      low-given h low = cfa-given h ∙ rw (is_true (low_shows registers cfa) low, unless_low)

      spots-given : CfaAt s stack process registers row cfa → ¬ Rule26 registers cfa
          → answer
          ≡ from_spots (shape_of s) stack process registers (mask_of (shape_of s) row process) cfa (spot_of cfa row.ra) (spot_of cfa row.fp)
      unfolding from_cfa unless_low
      spots-given h high = cfa-given h ∙ rw (is_false (low_shows registers cfa) high, unless_low)

      lost-given : CfaAt s stack process registers row cfa → ¬ Rule26 registers cfa → Rule27 registers row → answer ≡ Refused registers 27
      unfolding from_spots unless_lost
      lost-given h high lost = spots-given h high ∙ rw (is_true (lost_shows registers cfa row.ra) lost, unless_lost)

      -- by the two values, each of them a word or outside
      words-given : WordsAt s stack process registers row cfa
          → answer
          ≡ with_values registers (mask_of (shape_of s) row process) cfa
          (both_of (value_of stack process.stack (shape_of s).order registers.lr (spot_of cfa row.ra))
          (value_of stack process.stack (shape_of s).order registers.fp (spot_of cfa row.fp)))
      unfolding from_spots unless_lost values_of
      words-given h =
          spots-given h.cfa_at h.not_26 ∙ rw (is_false (lost_shows registers cfa row.ra) h.not_27, unless_lost)

      ra-outside : WordsAt s stack process registers row cfa → Outside stack process.stack cfa row.ra → answer ≡ Refused registers 28
      unfolding both_of with_values
      ra-outside h out = words-given h ∙ rw (no_value stack process.stack (shape_of s).order cfa registers.lr row.ra out)

      fp-outside : WordsAt s stack process registers row cfa → Outside stack process.stack cfa row.fp → answer ≡ Refused registers 28
      fp-outside h out =
          words-given h
          ∙ rw (no_value stack process.stack (shape_of s).order cfa registers.fp row.fp out) (fp_refused registers _ cfa _)

  caller-given : (caller : Registers) → CallerCase s stack process registers caller → answer ≡ Caller caller
  unfolding both_of with_values
  caller-given caller h =
      let fits = h.words_at.cfa_at.row_found.fits in
      let ra = value_given stack process.stack (shape_of s).order h.cfa registers.lr h.row.ra h.ra fits h.ra_is in
      let fp = value_given stack process.stack (shape_of s).order h.cfa registers.fp h.row.fp caller.fp fits h.fp_is in
      words-given h.words_at
      ∙ rw (ra, fp) (same-caller _ (caller_sp h.cfa) registers.lr 0 h.pc_is h.sp_is h.lr_is h.first_is)
    where
      same-caller : (pc sp lr first : ℕ) → caller.pc ≡ pc → caller.sp ≡ sp → caller.lr ≡ lr → caller.first ≡ first
          → Caller (record { pc = pc; sp = sp; fp = caller.fp; lr = lr; first = first }) ≡ Caller caller
      same-caller pc sp lr first o p q r = rw (← o, ← p, ← q, ← r)

  -- ---- every case makes its answer

  pub refusal_given : (refusal : Refusal) → OnRefusal s stack process registers refusal → answer ≡ Refused registers (number_of_refusal refusal)
  unfolding number_of_refusal number_of_unfound
  refusal_given (unfound no_function) h = ⊎_elim (none-given no_function) nowhere-given h
  refusal_given (unfound dispute) h = none-given dispute h
  refusal_given (unfound no_row) h = none-given no_row h
  refusal_given signed h = signed-given h.1 h.2
  refusal_given cfa_outside h = outside-given h.1 h.2 h.3
  refusal_given cfa_low h = low-given h.2 h.3
  refusal_given ra_lost h = lost-given h.2 h.3 h.4
  refusal_given word_outside h = ⊎_elim (ra-outside h.2) (fp-outside h.2) h.3

  refused-given : (number : ℕ) → RefusedCase s stack process registers number → answer ≡ Refused registers number
  unfolding number_of_step_cause
  refused-given number (inl (is, past)) = window-given past ∙ ap (Refused registers) (sym is)
  refused-given number (inr (refusal, is, on)) = refusal_given refusal on ∙ ap (Refused registers) (sym is)

  case_given : (o : Step) → Case s stack process registers o → answer ≡ o
  case_given (Caller caller) h = caller-given caller h
  case_given (Unsound old number index) (same, h) = unsound-given number index h ∙ ap (λ r. Unsound r number index) (sym same)
  case_given (Refused old number) (same, h) = refused-given number h ∙ ap (λ r. Refused r number) (sym same)

  -- ---- and one of them holds

  abbrev SomeCase : Type 0
  SomeCase = (o : Step) × Case s stack process registers o

  some-refusal : (refusal : Refusal) → OnRefusal s stack process registers refusal → SomeCase
  some-refusal refusal on = (Refused registers (number_of_refusal refusal), (refl, inr (refusal, refl, on)))

  some-unfound : (why : Unfound) → LookedUp s stack process registers (λ d. UnfoundCase s d why) → SomeCase
  some-unfound no_function h = some-refusal (unfound no_function) (inl h)
  some-unfound dispute h = some-refusal (unfound dispute) h
  some-unfound no_row h = some-refusal (unfound no_row) h

  words-decided : (row : Row) (cfa : ℕ) → WordsAt s stack process registers row cfa → SomeCase
  words-decided row cfa h =
      ⊎_elim
      (λ ra.
      ⊎_elim
      (λ fp.
      let caller : Registers = record { pc = clear (mask_of (shape_of s) row process) ra.0; sp = caller_sp cfa; fp = fp.0; lr = registers.lr; first = 0 } in (
        Caller caller,
        record {
          row = row;
          cfa = cfa;
          words_at = h;
          ra = ra.0;
          ra_is = ra.1;
          pc_is = refl;
          sp_is = refl;
          fp_is = fp.1;
          lr_is = refl;
          first_is = refl;
        },
      ))
      (λ out. some-refusal word_outside (row, cfa, h, inr out))
      (value_decided stack process.stack (shape_of s).order cfa registers.fp row.fp))
      (λ out. some-refusal word_outside (row, cfa, h, inl out))
      (value_decided stack process.stack (shape_of s).order cfa registers.lr row.ra)

  cfa-decided : (row : Row) (cfa : ℕ) → CfaAt s stack process registers row cfa → SomeCase
  cfa-decided row cfa h =
      by_shown (low_shows registers cfa) (λ low. some-refusal cfa_low (row, cfa, h, low)) λ high.
      by_shown (lost_shows registers cfa row.ra) (λ lost. some-refusal ra_lost (row, cfa, h, high, lost)) λ kept.
      words-decided row cfa (record { cfa_at = h; not_26 = high; not_27 = kept })

  row_decided : (row : Row) → RowFound s stack process registers row → SomeCase
  row_decided row h =
      by_shown (maskless_shows (shape_of s) row process) (λ set. some-refusal signed (row, h, set)) λ unset.
      ⊎_elim
      (λ is. cfa-decided row is.0 (record { row_found = h; not_24 = unset; cfa_is = (is.1, is.2) }))
      (λ out. some-refusal cfa_outside (row, h, unset, out))
      (memory_decided (cfa_of registers row))

  -- by the PC asked
  asked-decided : WindowFits stack process → Obeys s → (asked : Option ℕ) → asked_of registers ≡ asked → SomeCase
  asked-decided fits obeys None e = some-refusal (unfound no_function) (inr (record { fits = fits; obeys = obeys; asked = e }))
  asked-decided fits obeys (Some pc) e =
      ⊎_elim
      (λ found.
      let (row, i, k, case) = found in
      row_decided row (record { fits = fits; obeys = obeys; pc = pc; asked = e; holds = (i, k, case) }))
      (λ none. some-unfound none.0 (record { fits = fits; obeys = obeys; pc = pc; asked = e; holds = none.1 }))
      (looked_up s obeys process.section pc)

  some_case : SomeCase
  some_case =
      by_shown (fits_shows stack process)
      (λ fits.
      ⊎_elim
      (λ obeys. asked-decided fits obeys (asked_of registers) refl)
      (λ refusal.
      let (rule, index, given) = refusal in
      (Unsound registers (number_of_rule rule) index, (refl, (fits, rule, refl, given))))
      (obeys_or_refusal s))
      (λ past. (Refused registers (number_of_step_cause window), (refl, inl (refl, omega arith))))

  pub step_exactly_when : (o : Step) → (step_in s stack process registers ≡ o) ↔ Case s stack process registers o
  step_exactly_when o = (
    λ same.
        let (p, holds) = some_case in
        subst (Case s stack process registers) (sym (case_given p holds) ∙ same) holds,
    case_given o,
  )
