-- The cases of an asked address: each, as a plain proposition, makes the answer that it is the case of, and one of them always holds.
-- Assumes nothing.
use mathlib.Core.Path.{◌≡◌, refl, sym, ◌∙◌, ap}
use mathlib.Core.Bool.{true, false, true≢false}
use mathlib.Core.List.{List}
use mathlib.Core.Logic.Iff
use mathlib.Core.Logic.{◌↔◌, ⊎_elim}
use Prim.Native.Nat.{ℕ, zero, suc, ◌<◌}
use native.Mathlib.Omega.{arith}
use lib.IntN.{ℤ}
use Rattle.std.specs.Prelude.{Option}
use Rattle.numbers.specs.Start.{distance}
use Rattle.section.specs.Header.{layout_of}
use Rattle.section.specs.Meaning.{area_of, shape_of, entry_in, function_in, functions_of}
use Rattle.accept.specs.Given.{number_of_rule, HeaderBreaks}
use Rattle.accept.specs.declared.verdict.Rule.{Rule}
use Rattle.accept.specs.Rules.{function_count, HeaderObeys}
use Rattle.accept.specs.Computed.Checks.{header_fault, entry_fault}
use Rattle.accept.specs.Fault.{Fault, Sound, Breaks}
use Rattle.accept.proofs.Exactly.{header_exactly_when, entry_exactly_when, number_of_rule_lem}
use Rattle.accept.proofs.FaultLaws.{sound_or_breaks}
use Rattle.accept.proofs.HeaderLaws.{number_of_fault, breaks_not_obeys, fault_due, fault_makes, fault_none}
use Rattle.lookup.specs.Cases.{Covers, OffsetIs}
use Rattle.lookup.specs.Halving.{landing}
use Rattle.lookup.specs.Computed.Covering.{covers}
use Rattle.lookup.specs.Computed.Rows.{offset_within, last_row, row_for}
use Rattle.lookup.specs.declared.rows.Hit.{Hit}
use Rattle.lookup.proofs.CaseLaws.{functions_count, none_row, last_row_lem, rows_decided}
use Rattle.lookup.proofs.CoveringLaws.{by_value, unless_true, is_true, covers_shows}
use Rattle.lookup.proofs.OffsetWithinLaws.{offset_there, offset_unique}
use Rattle.ask.specs.AskAnswer.{AskAnswer, Found, Unsound, Unsorted, NoFunction, NoRow, Damaged}
use Rattle.ask.specs.Cases.{CanBeAsked, LandsOn, LandsIn, OwnRulesHold, compared_in, AskCase}
use Rattle.ask.specs.Computed.Ask.{ask_after, with_row, checked_row, in_function, where_landed, ask_in, ask_of}
use Rattle.ask.proofs.ComparedLaws.{landing_within}

-- ---- the function landed on

module _ (s : List ℕ) (d : ℤ) (i : ℕ) where
  pub landed_there : LandsOn s d i → i < function_count s
  landed_there is = rw (← functions_count s) (omega (arith, landing_within d (functions_of s)))

  pub covers_set : Covers s d i → covers d (function_in s i) ≡ true
  unfolding function_in
  covers_set covered = is_true (covers_shows d (function_in s i)) (covered.1, covered.2)

  pub set_covers : i < function_count s → covers d (function_in s i) ≡ true → Covers s d i
  unfolding function_in
  set_covers inside set = let (from, before) = (covers_shows d (function_in s i)).holds set in (inside, from, before)

-- 9 to 13
pub own_rules : (s : List ℕ) (i : ℕ) → (entry_fault (area_of s) (shape_of s) (entry_in s i) ≡ Sound) ↔ OwnRulesHold s i
own_rules s i =
    Iff.trans (entry_exactly_when s i) (
      λ h. record { rule9 = h.0; rule10 = h.1; first = h.2; rows = h.3 },
      λ h. (h.rule9, h.rule10, h.first, h.rows),
    )

-- a fault of the header has the number of the rule that is the first broken one
header_number : (s : List ℕ) (rule : Rule) → HeaderBreaks s rule → header_fault s ≡ Breaks (number_of_rule rule)
unfolding number_of_fault
header_number s rule breaks = by (header_fault s) (fault_makes s rule breaks)
  where
    by : (fault : Fault) → number_of_fault fault ≡ number_of_rule rule → fault ≡ Breaks (number_of_rule rule)
    by Sound is = absurd (omega (arith, is, number_of_rule_lem rule))
    by (Breaks number) is = ap Breaks is

module _ (s : List ℕ) (address pc : ℕ) where
  abbrev d : ℤ
  d = distance address pc

  -- ---- step by step

  pub ask_broken : (number : ℕ) → header_fault s ≡ Breaks number → ask_of s address pc ≡ Unsound number
  unfolding ask_of ask_after
  ask_broken number is = rw is

  ask-sound : HeaderObeys s → ask_of s address pc ≡ ask_in s d
  unfolding ask_of ask_after
  ask-sound obeys = rw ((header_exactly_when s).1 obeys)

  pub ask_unsorted : HeaderObeys s → (layout_of s).sorted ≡ false → ask_of s address pc ≡ Unsorted
  unfolding ask_in
  ask_unsorted obeys unset = ask-sound obeys ∙ (rw (unset, ask_in))

  pub ask_landed : CanBeAsked s → ask_of s address pc ≡ where_landed s d (compared_in s d) (landing d (functions_of s)).low
  unfolding ask_in
  ask_landed asked = ask-sound asked.0 ∙ (rw (asked.1, ask_in))

  pub ask_nowhere : CanBeAsked s → (landing d (functions_of s)).low ≡ 0 → ask_of s address pc ≡ NoFunction (compared_in s d)
  unfolding where_landed
  ask_nowhere asked none = ask_landed asked ∙ (rw none)

  pub ask_beside : CanBeAsked s → (i : ℕ) → LandsOn s d i → covers d (function_in s i) ≡ false → ask_of s address pc ≡ NoFunction (compared_in s d)
  unfolding where_landed
  ask_beside asked i landed unset = ask_landed asked ∙ (rw landed (rw (unset, where_landed)))

  pub ask_inside : (i : ℕ) → LandsIn s d i → ask_of s address pc ≡ in_function s d i (compared_in s d)
  unfolding where_landed
  ask_inside i lands = ask_landed lands.asked ∙ (rw lands.landed (rw (covers_set s d i lands.covered, where_landed)))

  pub ask_damaged : (i : ℕ) → LandsIn s d i → ¬ OwnRulesHold s i → ask_of s address pc ≡ Damaged i (compared_in s d)
  unfolding in_function checked_row
  ask_damaged i lands broken = ask_inside i lands ∙ by (entry_fault (area_of s) (shape_of s) (entry_in s i)) refl
    where
      by : (fault : Fault) → entry_fault (area_of s) (shape_of s) (entry_in s i) ≡ fault → in_function s d i (compared_in s d) ≡ Damaged i (compared_in s d)
      by Sound is = absurd (broken ((own_rules s i).0 is))
      by (Breaks number) is = rw is

  pub ask_rows : (i : ℕ) → LandsIn s d i → OwnRulesHold s i → ask_of s address pc ≡ with_row i (compared_in s d) (row_for d (function_in s i))
  unfolding in_function checked_row
  ask_rows i lands sound = ask_inside i lands ∙ (rw ((own_rules s i).1 sound))

  by-scan : (i o : ℕ) {scan : Option Hit} → LandsIn s d i → OwnRulesHold s i → OffsetIs s d i o → last_row o 0 (function_in s i).rows ≡ scan
      → ask_of s address pc ≡ with_row i (compared_in s d) scan
  unfolding row_for
  by-scan i o lands sound offset e = ask_rows i lands sound ∙ ap (with_row i (compared_in s d)) (rw (← offset_unique offset) e)

  -- ---- each case makes its answer

  pub case_given : (answer : AskAnswer) → AskCase s d answer → ask_of s address pc ≡ answer
  unfolding with_row
  case_given (Found i compared k row) (case, counted) =
      by-scan i case.offset case.lands case.sound case.offset_is (last_row_lem s i case.offset k case.last)
      ∙ (rw (counted, case.row_is))
  case_given (Unsound number) (rule, is, breaks) = ask_broken number (header_number s rule breaks ∙ ap Breaks (sym is))
  case_given Unsorted (obeys, unset) = ask_unsorted obeys unset
  case_given (NoFunction compared) (case, counted) = by (landing d (functions_of s)).low refl ∙ ap NoFunction (sym counted)
    where
      by : (low : ℕ) → (landing d (functions_of s)).low ≡ low → ask_of s address pc ≡ NoFunction (compared_in s d)
      by zero is = ask_nowhere case.asked is
      by (suc i) is =
          ask_beside case.asked i is
          (unless_true (covers d (function_in s i)) (λ set. case.none i is (set_covers s d i (landed_there s d i is) set)))
  case_given (NoRow i compared) (case, counted) =
      by-scan i case.offset case.lands case.sound case.offset_is (none_row s i case.offset case.none) ∙ ap (NoRow i) (sym counted)
  case_given (Damaged i compared) (case, counted) = ask_damaged i case.lands case.broken ∙ ap (Damaged i) (sym counted)

  -- ---- and one of them holds

  abbrev Decided : Type 0
  Decided = (answer : AskAnswer) × AskCase s d answer

  rows_told : (i : ℕ) → LandsIn s d i → OwnRulesHold s i → Decided
  rows_told i lands sound =
      let o = offset_within d (function_in s i) in
      let offset = offset_there s d i sound.rule10 lands.covered in
      ⊎_elim
      (λ none. (NoRow i (compared_in s d), (record { lands = lands; sound = sound; offset = o; offset_is = offset; none = none }, refl)))
      (λ last.
      (Found i (compared_in s d) last.0 _, (record { lands = lands; sound = sound; offset = o; offset_is = offset; last = last.1; row_is = refl }, refl)))
      (rows_decided s i o)

  inside-told : (i : ℕ) → LandsIn s d i → Decided
  inside-told i lands = by (entry_fault (area_of s) (shape_of s) (entry_in s i)) refl
    where
      by : (fault : Fault) → entry_fault (area_of s) (shape_of s) (entry_in s i) ≡ fault → Decided
      by Sound is = rows_told i lands ((own_rules s i).0 is)
      by (Breaks number) is =
          (Damaged i (compared_in s d), (record { lands = lands; broken = λ sound. sound_or_breaks (sym ((own_rules s i).1 sound) ∙ is) }, refl))

  nothing-told : CanBeAsked s → ((i : ℕ) → LandsOn s d i → ¬ Covers s d i) → Decided
  nothing-told asked none = (NoFunction (compared_in s d), (record { asked = asked; none = none }, refl))

  landed-told : CanBeAsked s → (low : ℕ) → (landing d (functions_of s)).low ≡ low → Decided
  landed-told asked zero is = nothing-told asked (λ i landed. absurd (omega (arith, sym is ∙ landed)))
  landed-told asked (suc i) is =
      by_value (covers d (function_in s i))
      (λ set. inside-told i (record { asked = asked; landed = is; covered = set_covers s d i (landed_there s d i is) set }))
      (λ unset.
      nothing-told asked
      (λ j landed covered.
      let same : i ≡ j = omega (arith, sym is ∙ landed) in
      let set : covers d (function_in s i) ≡ true = rw same (covers_set s d j covered) in
      true≢false (sym set ∙ unset)))

  decided : Decided
  decided = by (header_fault s) refl
    where
      header-told : (number : ℕ) → header_fault s ≡ Breaks number → Decided
      header-told number is =
          ⊎_elim
          (λ none. absurd (breaks_not_obeys s number is ((fault_none s).0 none)))
          (λ due. let (rule, same, breaks) = due in (Unsound (number_of_rule rule), (rule, refl, breaks)))
          (fault_due s)

      by : (fault : Fault) → header_fault s ≡ fault → Decided
      by Sound is =
          let obeys = (header_exactly_when s).0 is in
          by_value (layout_of s).sorted (λ set. landed-told (obeys, set) (landing d (functions_of s)).low refl) (λ unset. (Unsorted, (obeys, unset)))
      by (Breaks number) is = header-told number is

  pub some_case : AskCase s d (ask_of s address pc)
  some_case = rw (case_given decided.0 decided.1) decided.1
