-- What a step answers, on every section, stack window and registers: each answer is given exactly when document 01 says so, with
-- the registers that it says. The propositions on the right stand in specs/Cases and specs/InBytes, in document 01's words.
-- Assumes nothing.
use mathlib.Core.Path.{◌≡◌, refl, sym, ◌∙◌, ap, fun_ext}
use mathlib.Core.List.{List, [], ◌∷◌}
use mathlib.Core.Logic.Iff
use mathlib.Core.Logic.{◌⊎◌, inl, inr, ◌↔◌, ⊎_elim}
use Prim.Native.Nat.{ℕ}
use native.Mathlib.Omega.{arith}
use lib.IntN.{ℤ}
use Rattle.std.specs.Prelude.{Option, Some, None, Result, Ok, Err}
use Rattle.section.specs.Header.{layout_of}
use Rattle.section.specs.Meaning.{shape_of}
use Rattle.section.specs.Row.{count_of}
use Rattle.section.specs.declared.row.Row.{Row}
use Rattle.section.specs.declared.shape.Shape.{Shape}
use Rattle.accept.specs.Given as accept
use Rattle.accept.specs.Given.{number_of_rule, BrokenFirst}
use Rattle.accept.specs.declared.verdict.Rule.{Rule}
use Rattle.accept.specs.Rules.{Obeys, row_info_at}
use Rattle.accept.proofs.Exactly.{accepted_exactly_when, given_exactly_when, by_number}
use Rattle.accept.proofs.FaultLaws.{accepted_or_refused}
use Rattle.lookup.specs.Cases.{NoneCovers, SomeTwoCover, FoundCase, NoRowCase, row_of_function}
use Rattle.lookup.specs.Finding.{Finding}
use Rattle.lookup.specs.Numbers.{no_function, dispute, no_row, number_of_unfound}
use Rattle.lookup.specs.Computed.Answers.{lookup_of, look_in}
use Rattle.lookup.specs.Outcome.{Found}
use Rattle.lookup.proofs.CoveringLaws.{is_true}
use Rattle.lookup.proofs.Exactly as lookup
use Rattle.caller.specs.Cases.{Rule41, WindowFits, NoMark, Aarch64, Rule24, Rule25, Rule26, Rule27, Rule28, LookedUp, NothingAsked, RowFound, CfaAt, WordsAt, OnRefusal, OnStep, CallerCase, Case}
use Rattle.caller.specs.Frame.{asked_of, caller_sp, cfa_of_sp}
use Rattle.caller.specs.InBytes.{SignedInBytes, CallerInBytes}
use Rattle.caller.specs.Numbers.{Refusal, unfound, signed, cfa_outside, cfa_low, ra_lost, word_outside, number_of_refusal, StepCause, window, unsound, refused, number_of_step_cause, step_number, step_indexes, step_registers}
use Rattle.caller.specs.Computed.Caller.{both_of, if_fits, step_after, look_at, with_values, step_of, step_in}
use Rattle.caller.specs.declared.place.Values.{Values}
use Rattle.caller.specs.declared.place.Needed.{Needed}
use Rattle.caller.specs.declared.place.Needed.TheVariants.{Ra, Fp}
use Rattle.caller.specs.declared.registers.Registers.{Registers}
use Rattle.caller.specs.Step.{Step}
use Rattle.caller.specs.Step.{Caller, Unsound, Refused}
use Rattle.caller.specs.declared.registers.Process.{Process}
use Rattle.caller.proofs.MachineLaws.{rule_24_bytes, rule_27_bytes, cfa_in_bytes, ra_in_bytes, fp_in_bytes, pc_in_bytes}
use Rattle.caller.proofs.NumberLaws as numbers
use Rattle.caller.proofs.NumberLaws.{step_distinct}
use Rattle.caller.proofs.StepLaws as steps
use Rattle.caller.proofs.TestLaws.{fits_shows}

module _ (s stack : List ℕ) (process : Process) (registers : Registers) where
  abbrev answer : Step
  answer = step_in s stack process registers

  -- every answer at once, and every number; the theorems below are their cases
  pub step_exactly_when : (o : Step) → (step_in s stack process registers ≡ o) ↔ Case s stack process registers o
  step_exactly_when = steps.step_exactly_when s stack process registers

  pub number_exactly_when : (cause : StepCause)
      → (step_number (step_in s stack process registers) ≡ number_of_step_cause cause) ↔ OnStep s stack process registers cause
  number_exactly_when = numbers.step_given s stack process registers

  -- a caller, or a cause: no other number is ever given
  pub caller_or_cause : ((caller : Registers) × CallerCase s stack process registers caller)
      ⊎ ((cause : StepCause) × OnStep s stack process registers cause)
  caller_or_cause = numbers.caller_or_cause s stack process registers

  -- no two causes hold at once
  pub given_once : (cause other : StepCause) → OnStep s stack process registers cause → OnStep s stack process registers other → cause ≡ other
  given_once cause other on also =
      step_distinct.same cause other (sym ((number_exactly_when cause).1 on) ∙ (number_exactly_when other).1 also)

  -- ---- "Checks in order"

  -- "41: stack address plus length above 2^64."
  pub number_41_exactly_when : (step_number answer ≡ 41) ↔ Rule41 stack process
  unfolding number_of_step_cause
  number_41_exactly_when = number_exactly_when window

  -- "Then 1 to 15.", "and for 1 to 15 the entry's index": the rule of that number is the first broken one, in the entry with that index
  pub unsound_exactly_when : (rule : Rule) (index : ℕ)
      → (step_in s stack process registers ≡ Unsound registers (number_of_rule rule) index) ↔ (WindowFits stack process × accept.Given s rule index)
  unsound_exactly_when rule index =
      let case = step_exactly_when (Unsound registers (number_of_rule rule) index) in (
        λ is.
            let (same, (fits, other, number_is, given)) = case.0 is in
            (fits, rw (by_number rule other number_is) given),
        λ h. case.1 (refl, (h.0, rule, refl, h.1)),
      )

  pub rule_exactly_when : (rule : Rule) → (step_number answer ≡ number_of_rule rule) ↔ (WindowFits stack process × BrokenFirst s rule)
  unfolding number_of_step_cause
  rule_exactly_when rule = number_exactly_when (unsound rule)

  -- an index comes with 1 to 15 alone
  pub index_exactly_when : (index : ℕ)
      → (step_indexes answer ≡ index ∷ []) ↔ (WindowFits stack process × (rule : Rule) × accept.Given s rule index)
  unfolding step_indexes
  index_exactly_when index = (
    carried answer ((step_exactly_when _).0 refl),
    λ h.
        let (fits, rule, given) = h in
        ap step_indexes ((unsound_exactly_when rule index).1 (fits, given)),
  )
    where
      carried : (o : Step) → Case s stack process registers o → step_indexes o ≡ index ∷ []
          → WindowFits stack process × (rule : Rule) × accept.Given s rule index
      carried (Caller caller) h is = absurd (let z : ◌≡◌ {A = ℕ} 0 1 = cc in omega arith)
      carried (Unsound old number other) (same, (fits, rule, number_is, given)) is =
          let e : other ≡ index = cc in
          (fits, rule, rw e at given)
      carried (Refused old number) h is = absurd (let z : ◌≡◌ {A = ℕ} 0 1 = cc in omega arith)

  -- "Lookup at PC.": a step finds the row that a lookup of the PC asked answers by itself
  pub row_exactly_when : (row : Row)
      → RowFound s stack process registers row
      ↔ (WindowFits stack process
      × Obeys s
      × (pc : ℕ)
      × (asked_of registers ≡ Some pc)
      × (i : ℕ)
      × (k : ℕ)
      × ((lookup_of s process.section pc).outcome ≡ Found row i k))
  row_exactly_when row = (
    λ h.
        let (i, k, found) = h.holds in
        let is = (lookup.found_exactly_when s ((accepted_exactly_when s).1 h.obeys) process.section h.pc row i k).1 found in
        (h.fits, h.obeys, h.pc, h.asked, i, k, is),
    λ h.
        let (fits, obeys, pc, asked, i, k, is) = h in
        let found = (lookup.found_exactly_when s ((accepted_exactly_when s).1 obeys) process.section pc row i k).0 is in
        record { fits = fits; obeys = obeys; pc = pc; asked = asked; holds = (i, k, found) },
  )

  -- "21, 22, 23.": no function covers the PC asked, or "PC 0 without the mark", and there is none to ask
  pub number_21_exactly_when : (step_number answer ≡ 21) ↔ (LookedUp s stack process registers (NoneCovers s) ⊎ NothingAsked s stack process registers)
  unfolding number_of_step_cause number_of_refusal number_of_unfound
  number_21_exactly_when = number_exactly_when (refused (unfound no_function))

  pub number_22_exactly_when : (step_number answer ≡ 22) ↔ LookedUp s stack process registers (SomeTwoCover s)
  unfolding number_of_step_cause number_of_refusal number_of_unfound
  number_22_exactly_when = number_exactly_when (refused (unfound dispute))

  pub number_23_exactly_when : (step_number answer ≡ 23) ↔ LookedUp s stack process registers (λ d. (i : ℕ) × NoRowCase s d i)
  unfolding number_of_step_cause number_of_refusal number_of_unfound
  number_23_exactly_when = number_exactly_when (refused (unfound no_row))

  -- "24: AArch64 and the row's signed bit is set.", and "only when the mask is 0"
  pub number_24_exactly_when : (step_number answer ≡ 24) ↔ ((row : Row) × RowFound s stack process registers row × Rule24 (shape_of s) row process)
  unfolding number_of_step_cause number_of_refusal
  number_24_exactly_when = number_exactly_when (refused signed)

  -- "CFA is base plus first offset. 25 when outside 0 to 2^64 - 1."
  pub number_25_exactly_when : (step_number answer ≡ 25)
      ↔ ((row : Row) × RowFound s stack process registers row × ¬ Rule24 (shape_of s) row process × Rule25 registers row)
  unfolding number_of_step_cause number_of_refusal
  number_25_exactly_when = number_exactly_when (refused cfa_outside)

  -- "26: CFA below SP, or equal to SP without the first-frame mark."
  pub number_26_exactly_when : (step_number answer ≡ 26) ↔ ((row : Row) × (cfa : ℕ) × CfaAt s stack process registers row cfa × Rule26 registers cfa)
  unfolding number_of_step_cause number_of_refusal
  number_26_exactly_when = number_exactly_when (refused cfa_low)

  -- "27: AArch64, count 1, without the mark."
  pub number_27_exactly_when : (step_number answer ≡ 27)
      ↔ ((row : Row) × (cfa : ℕ) × CfaAt s stack process registers row cfa × ¬ Rule26 registers cfa × Rule27 registers row)
  unfolding number_of_step_cause number_of_refusal
  number_27_exactly_when = number_exactly_when (refused ra_lost)

  -- "28: a needed word (RA first) is not wholly inside the stack window."
  pub number_28_exactly_when : (step_number answer ≡ 28)
      ↔ ((row : Row) × (cfa : ℕ) × WordsAt s stack process registers row cfa × Rule28 stack process row cfa)
  unfolding number_of_step_cause number_of_refusal
  number_28_exactly_when = number_exactly_when (refused word_outside)

  -- ---- the caller

  -- "The caller has PC = RA, SP = CFA, the new FP, LR unchanged and no mark."
  pub caller_exactly_when : (caller : Registers) → (step_in s stack process registers ≡ Caller caller) ↔ CallerCase s stack process registers caller
  caller_exactly_when caller = step_exactly_when (Caller caller)

  -- 0 stands for a caller
  pub number_0_exactly_when : (step_number answer ≡ 0) ↔ ((caller : Registers) × CallerCase s stack process registers caller)
  unfolding step_number
  number_0_exactly_when = (
    λ none.
        ⊎_elim
        (λ h. h)
        (λ h. absurd (omega (arith, step_distinct.above_0 h.0, (number_exactly_when h.0).1 h.1)))
        caller_or_cause,
    λ h. ap step_number ((caller_exactly_when h.0).1 h.1),
  )

  -- ---- a refusal

  -- "a refusal hands back the old ones with its number"
  pub old_handed_back : ((caller : Registers) → ¬ (step_in s stack process registers ≡ Caller caller)) → step_registers answer ≡ registers
  unfolding step_registers
  old_handed_back refuses = handed answer refl ((step_exactly_when _).0 refl)
    where
      handed : (o : Step) → answer ≡ o → Case s stack process registers o → step_registers o ≡ registers
      handed (Caller caller) is h = absurd (refuses caller is)
      handed (Unsound old number index) is h = h.0
      handed (Refused old number) is h = h.0

  -- ---- 24, 27 and the caller in the bytes of the row that was found, row k of function i

  pub rule_24_in_bytes : (row : Row) (i k : ℕ) → row ≡ row_of_function s i k → Rule24 (shape_of s) row process ↔ (SignedInBytes s i k × (process.mask ≡ 0))
  rule_24_in_bytes row i k is = rw is (rule_24_bytes s i k process)

  pub rule_27_in_bytes : {d : ℤ} (row : Row) (i k : ℕ) → Obeys s → FoundCase s d row i k
      → Rule27 registers row ↔ (Aarch64 (layout_of s).abi × (count_of (row_info_at s i k) ≡ 1) × NoMark registers)
  rule_27_in_bytes row i k obeys found =
      rw found.row_is (rule_27_bytes s i k registers obeys found.only.0.0 found.last.0.0)

  -- "CFA is base plus first offset."
  -- "RA: AMD64 the word at CFA - 8; AArch64 the word at CFA plus the second offset, or LR when the count is 1 and the mark is set."
  -- "FP: the word at CFA plus the FP offset when the row has one, else unchanged."
  unfoldable pub case_in_bytes : (caller : Registers) → CallerCase s stack process registers caller → CallerInBytes s stack process registers caller
  case_in_bytes caller h =
      let at = h.words_at.cfa_at in
      let (i, k, found) = at.row_found.holds in
      let obeys = at.row_found.obeys in
      let is = found.row_is in
      record {
        function = i;
        number = k;
        found =
            record {
              fits = at.row_found.fits;
              obeys = obeys;
              pc = at.row_found.pc;
              asked = at.row_found.asked;
              holds = rw is at found;
            };
        not_24 = λ set. at.not_24 (rw is ((rule_24_bytes s i k process).1 set));
        cfa = h.cfa;
        cfa_is = (cfa_in_bytes s i k registers h.cfa).0 (rw is at at.cfa_is);
        not_26 = h.words_at.not_26;
        ra = h.ra;
        ra_is =
            (ra_in_bytes s stack process registers i k h.cfa obeys found.only.0.0 found.last.0.0 h.ra).0
            (rw is at h.words_at.not_27, rw is at h.ra_is);
        pc = (pc_in_bytes s stack process registers i k h.cfa h.ra caller.pc).0 (rw is at h.pc_is);
        fp = (fp_in_bytes s stack process registers i k h.cfa caller.fp).0 (rw is at h.fp_is);
        sp = h.sp_is;
        lr = h.lr_is;
        first = h.first_is;
      }

  bytes-in-case : (caller : Registers) → CallerInBytes s stack process registers caller → CallerCase s stack process registers caller
  bytes-in-case caller h =
      let i = h.function in
      let k = h.number in
      let case = h.found.holds in
      let (kept, ra) =
      (ra_in_bytes s stack process registers i k h.cfa h.found.obeys case.only.0.0 case.last.0.0 h.ra).1 h.ra_is in
      record {
        row = row_of_function s i k;
        cfa = h.cfa;
        words_at =
            record {
              cfa_at =
                  record {
                    row_found =
                        record {
                          fits = h.found.fits;
                          obeys = h.found.obeys;
                          pc = h.found.pc;
                          asked = h.found.asked;
                          holds = (i, k, case);
                        };
                    not_24 = λ set. h.not_24 ((rule_24_bytes s i k process).0 set);
                    cfa_is = (cfa_in_bytes s i k registers h.cfa).1 h.cfa_is;
                  };
              not_26 = h.not_26;
              not_27 = kept;
            };
        ra = h.ra;
        ra_is = ra;
        pc_is = (pc_in_bytes s stack process registers i k h.cfa h.ra caller.pc).1 h.pc;
        sp_is = h.sp;
        fp_is = (fp_in_bytes s stack process registers i k h.cfa caller.fp).1 h.fp;
        lr_is = h.lr;
        first_is = h.first;
      }

  pub caller_in_bytes : (caller : Registers) → (step_in s stack process registers ≡ Caller caller) ↔ CallerInBytes s stack process registers caller
  caller_in_bytes caller = Iff.trans (caller_exactly_when caller) (case_in_bytes caller, bytes-in-case caller)

  -- ---- a section that was checked before, as in a trace

  pub step_of_checked : WindowFits stack process → Obeys s
      → step_in s stack process registers ≡ step_of (shape_of s) (look_in s process.section) stack process registers
  unfolding step_in if_fits step_after
  step_of_checked fits obeys = rw (is_true (fits_shows stack process) fits, if_fits) (rw ((accepted_exactly_when s).1 obeys))

  module _ (fits : WindowFits stack process) (obeys : Obeys s) where
    abbrev checked : Step
    checked = step_of (shape_of s) (look_in s process.section) stack process registers

    pub checked_caller : (caller : Registers) → (checked ≡ Caller caller) ↔ CallerCase s stack process registers caller
    checked_caller caller = rw (step_of_checked fits obeys) at (caller_exactly_when caller)

    pub refused_checked : (refusal : Refusal) → OnRefusal s stack process registers refusal → checked ≡ Refused registers (number_of_refusal refusal)
    refused_checked refusal on = sym (step_of_checked fits obeys) ∙ steps.refusal_given s stack process registers refusal on

    -- where it yields no caller, one of its own refusals is the first
    pub checked_refused : ((caller : Registers) → ¬ (checked ≡ Caller caller))
        → (refusal : Refusal) × (checked ≡ Refused registers (number_of_refusal refusal)) × OnRefusal s stack process registers refusal
    checked_refused none = by caller_or_cause
      where
        by : ((caller : Registers) × CallerCase s stack process registers caller) ⊎ ((cause : StepCause) × OnStep s stack process registers cause)
            → (refusal : Refusal) × (checked ≡ Refused registers (number_of_refusal refusal)) × OnRefusal s stack process registers refusal
        by (inl (caller, case)) = absurd (none caller ((checked_caller caller).1 case))
        by (inr (window, past)) = absurd (omega (arith, fits, past))
        by (inr (unsound rule, (within, (index, given)))) =
            absurd (accepted_or_refused (sym ((accepted_exactly_when s).1 obeys) ∙ (given_exactly_when s rule index).1 given))
        by (inr (refused refusal, on)) = (refusal, refused_checked refusal on, on)

-- "The caller has .. SP = CFA": CFA is known by the caller's SP
pub cfa_of_caller : (cfa : ℕ) → cfa_of_sp (caller_sp cfa) ≡ cfa
unfolding cfa_of_sp caller_sp
cfa_of_caller cfa = refl

-- ---- a step knows a section through its shape and what a lookup finds at the PC asked, and through nothing else

pub through_finding : (here there : Shape) (look other : ℕ → Finding) (stack : List ℕ) (process : Process) (registers : Registers)
    → here ≡ there
    → look_at look (asked_of registers) ≡ look_at other (asked_of registers)
    → step_of here look stack process registers ≡ step_of there other stack process registers
unfolding step_of
through_finding here there look other stack process registers same found = rw (same, found)

-- so two sections in which every lookup finds the same have the same steps
pub through_look : (s t : List ℕ) (address other : ℕ) → shape_of s ≡ shape_of t
    → ((pc : ℕ) → look_in s address pc ≡ look_in t other pc)
    → step_of (shape_of s) (look_in s address) ≡ step_of (shape_of t) (look_in t other)
through_look s t address other same found = rw same (ap (step_of (shape_of t)) (fun_ext found))

-- ---- "a needed word (RA first)": both words refuse with 28, so the order cannot be seen

-- FP's word first
pub both_fp_first : Option ℕ → Option ℕ → Result Values Needed
both_fp_first ra None = Err Fp
both_fp_first None (Some fp) = Err Ra
both_fp_first (Some ra) (Some fp) = Ok (record { ra = ra; fp = fp })

pub words_order_unseen : (registers : Registers) (mask cfa : ℕ) (ra fp : Option ℕ)
    → with_values registers mask cfa (both_fp_first ra fp) ≡ with_values registers mask cfa (both_of ra fp)
unfolding with_values both_of both_fp_first
words_order_unseen registers mask cfa None None = refl
words_order_unseen registers mask cfa (Some ra) None = refl
words_order_unseen registers mask cfa None (Some fp) = refl
words_order_unseen registers mask cfa (Some ra) (Some fp) = refl
