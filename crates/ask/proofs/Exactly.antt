-- What an asked address is answered, on every section, address and PC, accepted or not: each answer is given exactly when the request says
-- so, each number exactly when its cause holds, and no other number ever. The propositions on the right stand in specs/Cases.
-- Assumes nothing.
use mathlib.Core.Path.{◌≡◌, refl, sym, ◌∙◌, ap, subst}
use mathlib.Core.Bool.{true, false}
use mathlib.Core.List.{List}
use mathlib.Core.Logic.{◌⊎◌, inl, inr, ◌↔◌, ⊎_elim}
use Prim.Native.Nat.{ℕ, ◌≤◌}
use native.Mathlib.Omega.{arith}
use lib.Dec.{eqb}
use lib.IntN.{ℤ}
use Rattle.numbers.specs.Start.{distance}
use Rattle.section.specs.declared.row.Row.{Row}
use Rattle.accept.specs.Given.{number_of_rule, HeaderBreaks}
use Rattle.accept.specs.declared.verdict.Rule.{Rule}
use Rattle.accept.proofs.CauseLaws.{Distinct, Due, due_exactly_when}
use Rattle.accept.proofs.Exactly.{number_of_rule_lem, by_number}
use Rattle.lookup.specs.Cases.{Covers}
use Rattle.lookup.specs.Numbers.{number_of_unfound}
use Rattle.ask.specs.AskAnswer.{AskAnswer, Found, Unsound, Unsorted, NoFunction, NoRow, Damaged}
use Rattle.ask.specs.Cases.{NotSorted, LandsOn, OwnRulesHold, RowCase, NoRowCase, DamagedCase, NoFunctionCase, AskCase, OnAsk}
use Rattle.ask.specs.Numbers.{Unanswered, no_function, no_row, damaged, unsorted, number_of_unanswered, AskCause, unsound, unanswered, number_of_ask_cause, ask_number}
use Rattle.ask.specs.Computed.Ask.{ask_of}
use Rattle.ask.proofs.CaseLaws.{case_given, some_case}

-- ---- no two causes have one number

abbrev unanswered_of : ℕ → Unanswered
unanswered_of number =
    elim (eqb number 21) [
      | true ↦ no_function
      | false ↦ elim (eqb number 23) [ true ↦ no_row | false ↦ elim (eqb number 44) [ true ↦ damaged | false ↦ unsorted ] ]
    ]

at_its_number : (why : Unanswered) → unanswered_of (number_of_unanswered why) ≡ why
unfolding number_of_unanswered number_of_unfound
at_its_number no_function = refl
at_its_number no_row = refl
at_its_number damaged = refl
at_its_number unsorted = refl

pub number_of_unanswered_lem : (why : Unanswered) → 21 ≤ number_of_unanswered why
unfolding number_of_unanswered number_of_unfound
number_of_unanswered_lem no_function = omega arith
number_of_unanswered_lem no_row = omega arith
number_of_unanswered_lem damaged = omega arith
number_of_unanswered_lem unsorted = omega arith

same_cause : (cause other : AskCause) → number_of_ask_cause cause ≡ number_of_ask_cause other → cause ≡ other
unfolding number_of_ask_cause
same_cause (unsound rule) (unsound other) e = ap unsound (by_number rule other e)
same_cause (unsound rule) (unanswered why) e = absurd (omega (arith, number_of_rule_lem rule, number_of_unanswered_lem why, e))
same_cause (unanswered why) (unsound rule) e = absurd (omega (arith, number_of_rule_lem rule, number_of_unanswered_lem why, e))
same_cause (unanswered why) (unanswered other) e = ap unanswered (sym (at_its_number why) ∙ ap unanswered_of e ∙ at_its_number other)

pub ask_distinct : Distinct number_of_ask_cause
unfolding number_of_ask_cause
ask_distinct = record { same = same_cause; above_0 = above }
  where
    above : (cause : AskCause) → 1 ≤ number_of_ask_cause cause
    above (unsound rule) = omega (arith, number_of_rule_lem rule)
    above (unanswered why) = omega (arith, number_of_unanswered_lem why)

-- ---- any bytes s, and d, "PC minus section address"

module _ (s : List ℕ) (address pc : ℕ) where
  abbrev d : ℤ
  d = distance address pc

  abbrev number : ℕ
  number = ask_number (ask_of s address pc)

  -- every answer at once, with what it carries
  pub answer_exactly_when : (answer : AskAnswer) → (ask_of s address pc ≡ answer) ↔ AskCase s d answer
  answer_exactly_when answer = (λ e. subst (AskCase s d) e (some_case s address pc), case_given s address pc answer)

  -- ---- every number

  ask-makes : (cause : AskCause) → OnAsk s d cause → number ≡ number_of_ask_cause cause
  unfolding ask_number number_of_ask_cause
  ask-makes (unsound rule) breaks = ap ask_number (case_given s address pc (Unsound (number_of_rule rule)) (rule, refl, breaks))
  ask-makes (unanswered no_function) case = ap ask_number (case_given s address pc (NoFunction _) (case, refl))
  ask-makes (unanswered no_row) (i, case) = ap ask_number (case_given s address pc (NoRow i _) (case, refl))
  ask-makes (unanswered damaged) (i, case) = ap ask_number (case_given s address pc (Damaged i _) (case, refl))
  ask-makes (unanswered unsorted) case = ap ask_number (case_given s address pc Unsorted case)

  abbrev FoundOrCause : ℕ → Type 0
  FoundOrCause n = ((n ≡ 0) × ((row : Row) × (i : ℕ) × (k : ℕ) × RowCase s d row i k)) ⊎ ((cause : AskCause) × (n ≡ number_of_ask_cause cause) × OnAsk s d cause)

  found_or_cause : FoundOrCause number
  unfolding ask_number number_of_ask_cause
  found_or_cause = by (ask_of s address pc) (some_case s address pc)
    where
      by : (answer : AskAnswer) → AskCase s d answer → FoundOrCause (ask_number answer)
      by (Found i compared k row) (case, counted) = inl (refl, (row, i, k, case))
      by (Unsound other) (rule, is, breaks) = inr (unsound rule, is, breaks)
      by Unsorted case = inr (unanswered unsorted, refl, case)
      by (NoFunction compared) (case, counted) = inr (unanswered no_function, refl, case)
      by (NoRow i compared) (case, counted) = inr (unanswered no_row, refl, (i, case))
      by (Damaged i compared) (case, counted) = inr (unanswered damaged, refl, (i, case))

  pub ask_due : Due number_of_ask_cause number (OnAsk s d)
  ask_due = ⊎_elim (λ found. inl found.0) inr found_or_cause

  -- 1 to 8, 21, 23, 44 and 45: each is given exactly when its cause holds
  pub ask_given : (cause : AskCause) → (number ≡ number_of_ask_cause cause) ↔ OnAsk s d cause
  ask_given = due_exactly_when number_of_ask_cause ask_distinct number (OnAsk s d) ask_due ask-makes

  -- "Header faults answer 1 to 8"
  pub header_number_exactly_when : (rule : Rule) → (number ≡ number_of_rule rule) ↔ HeaderBreaks s rule
  unfolding number_of_ask_cause
  header_number_exactly_when rule = ask_given (unsound rule)

  -- "21"
  pub number_21_exactly_when : (number ≡ 21) ↔ NoFunctionCase s d
  unfolding number_of_ask_cause number_of_unanswered number_of_unfound
  number_21_exactly_when = ask_given (unanswered no_function)

  -- "23"
  pub number_23_exactly_when : (number ≡ 23) ↔ ((i : ℕ) × NoRowCase s d i)
  unfolding number_of_ask_cause number_of_unanswered number_of_unfound
  number_23_exactly_when = ask_given (unanswered no_row)

  -- "If the function landed on covers d and breaks 9 to 13, it answers 44"
  pub number_44_exactly_when : (number ≡ 44) ↔ ((i : ℕ) × DamagedCase s d i)
  unfolding number_of_ask_cause number_of_unanswered
  number_44_exactly_when = ask_given (unanswered damaged)

  -- "and then a section without the sorted flag 45"
  pub number_45_exactly_when : (number ≡ 45) ↔ NotSorted s
  unfolding number_of_ask_cause number_of_unanswered
  number_45_exactly_when = ask_given (unanswered unsorted)

  -- 0 stands for a row
  pub number_0_exactly_when : (number ≡ 0) ↔ ((row : Row) × (i : ℕ) × (k : ℕ) × RowCase s d row i k)
  unfolding ask_number
  number_0_exactly_when = (
    λ none.
        ⊎_elim (λ found. found.1) (λ due. absurd (omega (arith, none, due.1, ask_distinct.above_0 due.0))) found_or_cause,
    λ h. let (row, i, k, case) = h in ap ask_number (case_given s address pc (Found i _ k row) (case, refl)),
  )

  -- ---- and no other: "It never answers 22", nor 9 to 15

  pub only_these : (number ≡ 0) ⊎ ((number ≤ 8) ⊎ ((number ≡ 21) ⊎ ((number ≡ 23) ⊎ ((number ≡ 44) ⊎ (number ≡ 45)))))
  unfolding number_of_ask_cause number_of_unanswered number_of_unfound
  only_these = ⊎_elim (λ found. inl found.0) (λ due. inr (by due.0 due.1 due.2)) found_or_cause
    where
      by : (cause : AskCause) → number ≡ number_of_ask_cause cause → OnAsk s d cause
          → (number ≤ 8) ⊎ ((number ≡ 21) ⊎ ((number ≡ 23) ⊎ ((number ≡ 44) ⊎ (number ≡ 45))))
      by (unsound rule) is breaks = inl (omega (arith, is, breaks.0))
      by (unanswered no_function) is case = inr (inl is)
      by (unanswered no_row) is case = inr (inr (inl is))
      by (unanswered damaged) is case = inr (inr (inr (inl is)))
      by (unanswered unsorted) is case = inr (inr (inr (inr is)))

  pub never_disputed : ¬ (number ≡ 22)
  never_disputed is =
      ⊎_elim (λ none. omega arith)
      (⊎_elim (λ low. omega arith)
      (⊎_elim (λ e. omega arith) (⊎_elim (λ e. omega arith) (⊎_elim (λ e. omega arith) (λ e. omega arith)))))
      only_these

  pub never_9_to_15 : (n : ℕ) → 9 ≤ n → n ≤ 15 → ¬ (number ≡ n)
  never_9_to_15 n least most is =
      ⊎_elim (λ none. omega arith)
      (⊎_elim (λ low. omega arith)
      (⊎_elim (λ e. omega arith) (⊎_elim (λ e. omega arith) (⊎_elim (λ e. omega arith) (λ e. omega arith)))))
      only_these

  -- ---- what an answer is worth on a section that may not be accepted: it speaks of the function landed on alone

  -- a row: that function covers and obeys 9 to 13
  pub row_means : (row : Row) (i k compared : ℕ) → ask_of s address pc ≡ Found i compared k row → LandsOn s d i × Covers s d i × OwnRulesHold s i
  row_means row i k compared is =
      let case = ((answer_exactly_when (Found i compared k row)).0 is).0 in
      (case.lands.landed, case.lands.covered, case.sound)

  -- 23: the same
  pub no_row_means : (i compared : ℕ) → ask_of s address pc ≡ NoRow i compared → LandsOn s d i × Covers s d i × OwnRulesHold s i
  no_row_means i compared is =
      let case = ((answer_exactly_when (NoRow i compared)).0 is).0 in
      (case.lands.landed, case.lands.covered, case.sound)

  -- 21: there is none, or it does not cover; `no_row_read` says that its rows do not count
  pub no_function_means : (compared : ℕ) → ask_of s address pc ≡ NoFunction compared → (i : ℕ) → LandsOn s d i → ¬ Covers s d i
  no_function_means compared is = ((answer_exactly_when (NoFunction compared)).0 is).0.none
