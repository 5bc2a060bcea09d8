-- Why implies the answer, case by case: whoever sees that the numbers of an explanation are as it says knows what a lookup or a step
-- answers. Of any explanation, whoever makes it.
-- Assumes nothing.
use mathlib.Core.Path.{◌≡◌, refl, sym, ◌∙◌}
use mathlib.Core.Bool.{Bool}
use mathlib.Core.List.{List}
use mathlib.Core.Logic.{◌⊎◌, inl, inr, ⊎_elim}
use Prim.Native.Nat.{ℕ, zero, suc, ◌≤◌, ◌<◌}
use native.Mathlib.Nat.{eq-or-lt_of_le}
use native.Mathlib.Omega.{arith}
use lib.IntN.{ℤ}
use lib.ListN.{get_or}
use lib.Signed.{≤ℤ_refl}
use Rattle.std.specs.Prelude.{Option, Some, None, Result, Ok, Err}
use Rattle.numbers.specs.Start.{distance}
use Rattle.numbers.specs.declared.offset.Offset.{Offset}
use Rattle.section.specs.Meaning.{shape_of}
use Rattle.section.specs.declared.row.Place.{Place}
use Rattle.section.specs.declared.row.Place.TheVariants.{AtOffset}
use Rattle.accept.specs.Rules.{Obeys}
use Rattle.accept.proofs.Exactly.{accepted_exactly_when, given_exactly_when}
use Rattle.lookup.specs.Cases.{NoneCovers, LowestTwo}
use Rattle.lookup.specs.Numbers.{no_function, dispute, no_row}
use Rattle.lookup.specs.Computed.Answers.{lookup_of}
use Rattle.lookup.specs.Outcome as outcome
use Rattle.lookup.proofs.Exactly as lookups
use Rattle.caller.specs.Cases.{WindowFits, Outside, Rule24, CfaIs, LookedUp, RowFound, CfaAt, WordsAt}
use Rattle.caller.specs.Frame.{cfa_of}
use Rattle.caller.specs.Numbers.{unfound, signed, cfa_outside, cfa_low, ra_lost, word_outside, number_of_refusal, window, number_of_step_cause}
use Rattle.caller.specs.Computed.Caller.{step_in}
use Rattle.caller.specs.declared.registers.Process.{Process}
use Rattle.caller.specs.declared.registers.Registers.{Registers}
use Rattle.caller.specs.Step.{Caller, Unsound, Refused}
use Rattle.caller.proofs.Asked.{asked_exactly_when, nowhere_exactly_when}
use Rattle.caller.proofs.StepLaws.{refusal_given, step_exactly_when}
use Rattle.caller.specs.declared.place.Needed.{Needed}
use Rattle.caller.specs.declared.place.Needed.TheVariants.{Ra, Fp}
use Rattle.explain.specs.Answers.{outcome_missing, outcome_looked, outcome_reason, outcome_why, number_missing, step_row, step_reason, step_why_answer}
use Rattle.explain.specs.Why.{WhyFound, WhyNoRow, NearestBelow, NearestAbove, AllCovering, WhyNotFound, WhyLooked, WhyUnsound, WhyReason, WhyLookup, WhySigned, WhyCfaOutside, WhyCfaLow, WhyRaLost, NeededAt, WhyWordOutside, WhyCaller, WhyRow, WhyWindow, WhyAt, WhyNothingAsked, WhyStepReason, WhyStep}
use Rattle.explain.specs.LookupReason.{LookupReason, LookupWhy}
use Rattle.explain.specs.LookupReason as lookup
use Rattle.explain.specs.StepReason.{StepReason, StepWhy}
use Rattle.explain.specs.StepReason as step
use Rattle.explain.specs.declared.why.Coverers.{Coverers}
use Rattle.explain.specs.declared.why.FoundRow.{FoundRow}
use Rattle.explain.specs.declared.why.Covered.{Covered}
use Rattle.explain.specs.declared.why.NotFound.TheVariants as missing
use Rattle.explain.specs.declared.why.NotFound.{NotFound}
use Rattle.explain.specs.declared.why.RowReason.{RowReason}
use Rattle.explain.specs.declared.why.RowReason.TheVariants as row
use Rattle.explain.proofs.RowLaws.{found_case, no_row_case}

-- ---- which functions cover

-- nothing covers PC, by what is nearest below it, and as well by what is nearest above
none_by_below : (s : List ℕ) (d : ℤ) (below : Option Covered) → NearestBelow s d below → NoneCovers s d
none_by_below s d (Some covered) h = h.2 d h.1 (≤ℤ_refl d)
none_by_below s d None h = h d (≤ℤ_refl d)

-- of all that cover, the first two are the two lowest
module _ (s : List ℕ) (d : ℤ) (coverers : Coverers) (two : 2 ≤ coverers.count) (all : AllCovering s d coverers) where
  from_second : (m : ℕ) → 1 ≤ m → m < coverers.count → all.nth 1 ≤ all.nth m
  from_second m le lt =
      ⊎_elim (λ same. rw (← same) (omega arith)) (λ less. omega (arith, all.rises 1 m less lt)) (eq-or-lt_of_le le)

  only-first : (i : ℕ) → i < all.nth 1 → (m : ℕ) → m < coverers.count → all.nth m ≡ i → i ≡ all.nth 0
  only-first i less zero lt e = sym e
  only-first i less (suc m) lt e = absurd (omega (arith, from_second (suc m) (omega arith) lt))

  lowest : LowestTwo s d (all.nth 0) (all.nth 1)
  lowest = (
    all.rises 0 1 (omega arith) (omega arith),
    all.covers 0 (omega arith),
    all.covers 1 (omega arith),
    λ i less here. let (m, lt, e) = all.every i here in only-first i less m lt e,
  )

  pub first_two : LowestTwo s d (get_or coverers.indexes 0 0) (get_or coverers.indexes 1 0)
  first_two = rw (all.shown 0 (omega arith) (omega arith), all.shown 1 (omega arith) (omega arith)) lowest

-- ---- a lookup

module _ (s : List ℕ) (address pc : ℕ) where
  pub unsound_implies : (number index : ℕ) → WhyUnsound s number index → (lookup_of s address pc).outcome ≡ outcome.Unsound number index
  unsound_implies number index (rule, is, given) =
      rw is ((lookups.unsound_exactly_when s address pc _ index).1 ((given_exactly_when s rule index).1 given))

  module _ (obeys : Obeys s) where
    pub found_implies : (found : FoundRow) → WhyFound s (distance address pc) found
        → (lookup_of s address pc).outcome ≡ outcome.Found found.row found.function found.number
    found_implies found why =
        (lookups.found_exactly_when s ((accepted_exactly_when s).1 obeys) address pc _ _ _).1 (found_case s obeys _ found why)

    -- 21
    pub no_function_implies : (below above : Option Covered) → NearestBelow s (distance address pc) below → NearestAbove s (distance address pc) above
        → (lookup_of s address pc).outcome ≡ outcome.NoFunction
    no_function_implies below above near far =
        (lookups.no_function_exactly_when s ((accepted_exactly_when s).1 obeys) address pc).1 (none_by_below s _ below near)

    -- 22
    pub dispute_implies : (coverers : Coverers) → 2 ≤ coverers.count → AllCovering s (distance address pc) coverers
        → (lookup_of s address pc).outcome ≡ outcome.Dispute (get_or coverers.indexes 0 0) (get_or coverers.indexes 1 0)
    dispute_implies coverers two all =
        (lookups.dispute_exactly_when s ((accepted_exactly_when s).1 obeys) address pc _ _).1 (first_two s _ coverers two all)

    -- 23
    pub no_row_implies : (function offset : ℕ) (first : Option ℕ) → WhyNoRow s (distance address pc) function offset first
        → (lookup_of s address pc).outcome ≡ outcome.NoRow function
    no_row_implies function offset first why =
        (lookups.no_row_exactly_when s ((accepted_exactly_when s).1 obeys) address pc function).1 (no_row_case s obeys _ function offset first why)

    looked-implies : (coverers : Coverers) (why : Result FoundRow NotFound) → WhyLooked s (distance address pc) coverers why
        → (lookup_of s address pc).outcome ≡ outcome_looked coverers why
    unfolding outcome_looked outcome_missing
    looked-implies coverers (Ok found) h = found_implies found h
    looked-implies coverers (Err (missing.NoFunction below above)) h = no_function_implies below above h.0 h.1
    looked-implies coverers (Err missing.Dispute) h = dispute_implies coverers h.0 h.1
    looked-implies coverers (Err (missing.NoRow function offset first)) h = no_row_implies function offset first h

  reason-implies : (coverers : Coverers) (why : LookupReason) → WhyReason s address pc coverers why
      → (lookup_of s address pc).outcome ≡ outcome_reason coverers why
  unfolding outcome_reason
  reason-implies coverers (lookup.Unsound number index) h = unsound_implies number index h
  reason-implies coverers (lookup.Accepted why) h = looked-implies h.0 coverers why h.1

  -- every case of a lookup at once
  pub lookup_explained_implies : (why : LookupWhy) → WhyLookup s address pc why → (lookup_of s address pc).outcome ≡ outcome_why why
  unfolding outcome_why
  lookup_explained_implies why h = reason-implies why.coverers why.reason h

-- ---- a step

module _ (s stack : List ℕ) (process : Process) (registers : Registers) where
  -- 41
  pub window_implies : (lies size : ℕ) → WhyWindow s stack process registers lies size
      → step_in s stack process registers ≡ Refused registers (number_of_step_cause window)
  window_implies lies size why =
      let above = why.above in
      let first = why.lies_is in
      let long = why.size_is in
      (step_exactly_when s stack process registers _).1 (refl, inl (refl, omega arith))

  -- 1 to 15
  pub step_unsound_implies : (number index : ℕ) → WindowFits stack process → WhyUnsound s number index
      → step_in s stack process registers ≡ Unsound registers number index
  step_unsound_implies number index fits why = (step_exactly_when s stack process registers _).1 (refl, (fits, why.0, why.1, why.2))

  -- 21 at PC 0 without the mark
  pub nothing_asked_implies : WhyNothingAsked s stack process registers
      → step_in s stack process registers ≡ Refused registers (number_of_refusal (unfound no_function))
  nothing_asked_implies why =
      refusal_given s stack process registers (unfound no_function)
      (inr (record { fits = why.fits; obeys = why.obeys; asked = (nowhere_exactly_when registers).1 why.nothing }))

  -- the PC looked up, and what holds there
  looked_up : {P Q : ℤ → Type 0} (pc : ℕ) → (Obeys s → (d : ℤ) → P d → Q d) → WhyAt s stack process registers pc P → LookedUp s stack process registers Q
  looked_up pc so why =
      record {
        fits = why.fits;
        obeys = why.obeys;
        pc = pc;
        asked = (asked_exactly_when registers pc).1 why.asked;
        holds = so why.obeys _ why.holds;
      }

  -- 21
  pub step_no_function_implies : (pc : ℕ) (coverers : Coverers) (below above : Option Covered)
      → WhyAt s stack process registers pc (λ d. WhyNotFound s d coverers (missing.NoFunction below above))
      → step_in s stack process registers ≡ Refused registers (number_of_refusal (unfound no_function))
  step_no_function_implies pc coverers below above why =
      refusal_given s stack process registers (unfound no_function) (inl (looked_up pc (λ obeys d h. none_by_below s d below h.0) why))

  -- 22
  pub step_dispute_implies : (pc : ℕ) (coverers : Coverers)
      → WhyAt s stack process registers pc (λ d. WhyNotFound s d coverers missing.Dispute)
      → step_in s stack process registers ≡ Refused registers (number_of_refusal (unfound dispute))
  step_dispute_implies pc coverers why =
      refusal_given s stack process registers (unfound dispute)
      (looked_up pc (λ obeys d h. let (less, here, there, least) = first_two s d coverers h.0 h.1 in (_, _, less, here, there)) why)

  -- 23
  pub step_no_row_implies : (pc : ℕ) (coverers : Coverers) (function offset : ℕ) (first : Option ℕ)
      → WhyAt s stack process registers pc (λ d. WhyNotFound s d coverers (missing.NoRow function offset first))
      → step_in s stack process registers ≡ Refused registers (number_of_refusal (unfound no_row))
  step_no_row_implies pc coverers function offset first why =
      refusal_given s stack process registers (unfound no_row)
      (looked_up pc (λ obeys d h. (function, no_row_case s obeys d function offset first h)) why)

  -- ---- the row found at the PC looked up

  module _ (pc : ℕ) (found : FoundRow) (at : WhyAt s stack process registers pc (λ d. WhyFound s d found)) where
    row_found : RowFound s stack process registers found.row
    row_found = looked_up pc (λ obeys d h. (_, _, found_case s obeys d found h)) at

    -- 24
    pub signed_implies : (bit : Bool) (mask : ℕ) → WhySigned s stack process registers found.row bit mask
        → step_in s stack process registers ≡ Refused registers (number_of_refusal signed)
    signed_implies bit mask why =
        refusal_given s stack process registers signed
        (_, row_found, ((why.machine, sym why.bit_is ∙ why.set), sym why.mask_is ∙ why.none))

    -- 25
    pub cfa_outside_implies : (base : ℕ) (offset : Offset) → WhyCfaOutside s stack process registers found.row base offset
        → step_in s stack process registers ≡ Refused registers (number_of_refusal cfa_outside)
    unfolding cfa_of
    cfa_outside_implies base offset why =
        refusal_given s stack process registers cfa_outside
        (_, row_found, why.not_24, rw (← why.base_is, ← why.offset_is) why.outside)

    cfa_at : (cfa : ℕ) → ¬ Rule24 (shape_of s) found.row process → CfaIs registers found.row cfa
        → CfaAt s stack process registers found.row cfa
    cfa_at cfa unset is = record { row_found = row_found; not_24 = unset; cfa_is = is }

    -- 26
    pub cfa_low_implies : (callersp sp first : ℕ) → WhyCfaLow s stack process registers found.row callersp sp first
        → step_in s stack process registers ≡ Refused registers (number_of_refusal cfa_low)
    cfa_low_implies callersp sp first why =
        refusal_given s stack process registers cfa_low
        (_, why.cfa, cfa_at why.cfa why.not_24 why.cfa_is, rw (← why.callersp_is, ← why.sp_is, ← why.first_is) why.low)

    -- 27
    pub ra_lost_implies : (first : ℕ) → WhyRaLost s stack process registers found.row first
        → step_in s stack process registers ≡ Refused registers (number_of_refusal ra_lost)
    ra_lost_implies first why =
        refusal_given s stack process registers ra_lost
        (_, why.cfa, cfa_at why.cfa why.not_24 why.cfa_is, why.not_26, (why.no_place, sym why.first_is ∙ why.unmarked))

    -- 28
    pub word_outside_implies : (word : Needed) (cfa : ℕ) (offset : Offset) (lies size : ℕ)
        → WhyWordOutside s stack process registers found.row word cfa offset lies size
        → step_in s stack process registers ≡ Refused registers (number_of_refusal word_outside)
    word_outside_implies word cfa offset lies size why =
        refusal_given s stack process registers word_outside
        (_, cfa, words, by_word word why.needed)
      where
        words : WordsAt s stack process registers found.row cfa
        words = record { cfa_at = cfa_at cfa why.not_24 why.cfa_is; not_26 = why.not_26; not_27 = why.not_27 }

        out : {place : Place} → place ≡ AtOffset offset → Outside stack process.stack cfa place
        out e = rw e (rw (← why.lies_is, ← why.size_is) why.outside)

        by_word : (word : Needed) → NeededAt s stack process registers found.row word cfa offset
            → Outside stack process.stack cfa found.row.ra ⊎ Outside stack process.stack cfa found.row.fp
        by_word Ra e = inl (out e)
        by_word Fp h = inr (out h.0)

    -- the caller
    pub caller_implies : (caller : Registers) (cfa ra : ℕ) → WhyCaller s stack process registers found.row caller cfa ra
        → step_in s stack process registers ≡ Caller caller
    caller_implies caller cfa ra why =
        (step_exactly_when s stack process registers _).1
        (record {
          row = found.row;
          cfa = cfa;
          words_at = record { cfa_at = cfa_at cfa why.not_24 why.cfa_is; not_26 = why.not_26; not_27 = why.not_27 };
          ra = ra;
          ra_is = why.ra_is;
          pc_is = why.pc_is;
          sp_is = why.sp_is;
          fp_is = why.fp_is;
          lr_is = why.lr_is;
          first_is = why.first_is;
        })

    row-implies : (reason : RowReason) → WhyRow s stack process registers found.row reason
        → step_in s stack process registers ≡ step_row registers reason
    unfolding step_row
    row-implies (row.Caller caller cfa ra) h = caller_implies caller cfa ra h
    row-implies (row.Signed bit mask) h = signed_implies bit mask h
    row-implies (row.CfaOutside base offset) h = cfa_outside_implies base offset h
    row-implies (row.CfaLow callersp sp first) h = cfa_low_implies callersp sp first h
    row-implies (row.RaLost first) h = ra_lost_implies first h
    row-implies (row.WordOutside word cfa offset lies size) h = word_outside_implies word cfa offset lies size h

  step-reason-implies : (coverers : Coverers) (why : StepReason) → WhyStepReason s stack process registers coverers why
      → step_in s stack process registers ≡ step_reason registers why
  unfolding step_reason number_missing
  step-reason-implies coverers (step.Window lies size) h = window_implies lies size h
  step-reason-implies coverers (step.Unsound number index) h = step_unsound_implies number index h.0 h.1
  step-reason-implies coverers step.NothingAsked h = nothing_asked_implies h
  step-reason-implies coverers (step.NotFound pc (missing.NoFunction below above)) h = step_no_function_implies pc coverers below above h
  step-reason-implies coverers (step.NotFound pc missing.Dispute) h = step_dispute_implies pc coverers h
  step-reason-implies coverers (step.NotFound pc (missing.NoRow function offset first)) h = step_no_row_implies pc coverers function offset first h
  step-reason-implies coverers (step.FromRow found reason pc) h = row-implies pc found h.0 reason h.1

  -- every case of a step at once
  pub step_explained_implies : (why : StepWhy) → WhyStep s stack process registers why
      → step_in s stack process registers ≡ step_why_answer registers why
  unfolding step_why_answer
  step_explained_implies why h = step-reason-implies why.coverers why.reason h

-- ---- both: what an explanation says implies the answer

pub explained_implies :
    ((s : List ℕ) (address pc : ℕ) (why : LookupWhy) → WhyLookup s address pc why → (lookup_of s address pc).outcome ≡ outcome_why why)
    × ((s stack : List ℕ) (process : Process) (registers : Registers) (why : StepWhy)
    → WhyStep s stack process registers why
    → step_in s stack process registers ≡ step_why_answer registers why)
explained_implies = (lookup_explained_implies, step_explained_implies)
