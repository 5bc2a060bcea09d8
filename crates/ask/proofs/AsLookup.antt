-- On an accepted sorted section an asked address is answered as a lookup answers it: the function landed on is the only one that can cover.
-- Assumes nothing.
use mathlib.Core.Path.{◌≡◌, refl, sym, ◌∙◌, ap}
use mathlib.Core.Bool.{Bool, true, false}
use mathlib.Core.List.{List}
use Prim.Native.Nat.{ℕ, zero, suc, ◌<◌}
use lib.IntN.{ℤ}
use lib.ListN.{get_or}
use Rattle.std.specs.Prelude.{Option, Some, None}
use Rattle.numbers.specs.Start.{distance}
use Rattle.section.specs.Header.{layout_of}
use Rattle.section.specs.Meaning.{function_in, functions_of}
use Rattle.accept.specs.Rules.{function_count}
use Rattle.accept.specs.Computed.Checks.{verdict}
use Rattle.accept.specs.Verdict.{Accepted}
use Rattle.accept.proofs.AcceptedLaws.{accepted_laws}
use Rattle.lookup.specs.Halving.{empty_function, landing, compared}
use Rattle.lookup.specs.Numbers.{outcome_number, outcome_indexes, outcome_row}
use Rattle.lookup.specs.Computed.Answers as look
use Rattle.lookup.specs.Computed.Answers.{with_cover, outcome, answer, answer_of, answer_after, lookup_of}
use Rattle.lookup.specs.Computed.Covering.{covers, covering, cover_of}
use Rattle.lookup.specs.Computed.Rows.{row_for}
use Rattle.lookup.specs.Outcome.{Answer}
use Rattle.lookup.specs.Outcome.{Outcome}
use Rattle.lookup.specs.Outcome as outcome
use Rattle.lookup.specs.declared.rows.Hit.{Hit}
use Rattle.lookup.specs.declared.search.Cover.TheVariants.{Nobody, One}
use Rattle.lookup.specs.Inner.Search.{landed_on, cover_by}
use Rattle.lookup.proofs.CaseLaws.{functions_at}
use Rattle.lookup.proofs.CoveringLaws.{by_value}
use Rattle.lookup.proofs.SearchLaws.{search_finds_covering}
use Rattle.ask.specs.AskAnswer.{NoFunction}
use Rattle.ask.specs.Cases.{CanBeAsked, LandsIn, compared_in}
use Rattle.ask.specs.Numbers.{number_of_unanswered, ask_number, ask_indexes, ask_row, ask_compared, SameAnswer}
use Rattle.ask.specs.Computed.Ask.{with_row, ask_of}
use Rattle.ask.proofs.CaseLaws.{landed_there, set_covers, own_rules, ask_nowhere, ask_beside, ask_rows}

module _ (s : List ℕ) (accepted : verdict s ≡ Accepted) (sorted : (layout_of s).sorted ≡ true) (address pc : ℕ) where
  abbrev d : ℤ
  d = distance address pc

  can-be-asked : CanBeAsked s
  can-be-asked = ((accepted_laws s accepted).header, sorted)

  -- a lookup's answer with the count of the halving
  abbrev counted : Outcome → Answer
  counted o = record { outcome = o; compared = compared_in s d }

  -- what a lookup finds is what covers of the function landed on
  one-cover : cover_of (covering d (functions_of s)) ≡ landed_on d (functions_of s) (landing d (functions_of s)).low
  unfolding cover_by
  one-cover = sym (search_finds_covering s accepted d) ∙ ap (λ set. cover_by set d (functions_of s)) sorted

  looked : lookup_of s address pc ≡ counted (with_cover d (functions_of s) (landed_on d (functions_of s) (landing d (functions_of s)).low))
  unfolding lookup_of answer_after answer_of answer outcome compared
  looked = rw (accepted, one-cover, sorted)

  -- by whether the function landed on covers
  there : (i : ℕ) → i < function_count s → {t : Bool} → covers d (function_in s i) ≡ t → covers d (get_or (functions_of s) i empty_function) ≡ t
  there i inside e = ap (covers d) (functions_at s i inside) ∙ e

  it-covers : (i : ℕ) → i < function_count s → covers d (function_in s i) ≡ true
      → with_cover d (functions_of s) (landed_on d (functions_of s) (suc i)) ≡ look.with_row i (row_for d (function_in s i))
  unfolding with_cover landed_on
  it-covers i inside set =
      let one : landed_on d (functions_of s) (suc i) ≡ One i = rw (there i inside set, landed_on) in
      ap (with_cover d (functions_of s)) one ∙ ap (λ f. look.with_row i (row_for d f)) (functions_at s i inside)

  it-does-not : (i : ℕ) → i < function_count s → covers d (function_in s i) ≡ false
      → with_cover d (functions_of s) (landed_on d (functions_of s) (suc i)) ≡ outcome.NoFunction
  unfolding with_cover landed_on
  it-does-not i inside unset =
      let none : landed_on d (functions_of s) (suc i) ≡ Nobody = rw (there i inside unset, landed_on) in
      ap (with_cover d (functions_of s)) none

  nothing-found : with_cover d (functions_of s) (landed_on d (functions_of s) (landing d (functions_of s)).low) ≡ outcome.NoFunction
      → ask_of s address pc ≡ NoFunction (compared_in s d) → SameAnswer (ask_of s address pc) (lookup_of s address pc)
  unfolding ask_number ask_indexes ask_row ask_compared number_of_unanswered outcome_number outcome_indexes outcome_row
  nothing-found none asked = rw (asked, looked, none) (record { number = refl; indexes = refl; row = refl; compared = refl })

  one_row : (i : ℕ) (scan : Option Hit) → SameAnswer (with_row i (compared_in s d) scan) (counted (look.with_row i scan))
  unfolding with_row look.with_row ask_number ask_indexes ask_row ask_compared number_of_unanswered outcome_number outcome_indexes outcome_row
  one_row i None = record { number = refl; indexes = refl; row = refl; compared = refl }
  one_row i (Some hit) = record { number = refl; indexes = refl; row = refl; compared = refl }

  -- "On an accepted sorted section its row, refusal and count equal the full answer."
  pub ask_as_lookup : SameAnswer (ask_of s address pc) (lookup_of s address pc)
  unfolding with_cover landed_on
  ask_as_lookup = by (landing d (functions_of s)).low refl
    where
      by : (low : ℕ) → (landing d (functions_of s)).low ≡ low → SameAnswer (ask_of s address pc) (lookup_of s address pc)
      by zero is = nothing-found (rw is) (ask_nowhere s address pc can-be-asked is)
      by (suc i) is =
          let inside = landed_there s d i is in
          by_value (covers d (function_in s i))
          (λ set.
          let sound = (own_rules s i).0 ((accepted_laws s accepted).entries i inside) in
          let lands : LandsIn s d i = record { asked = can-be-asked; landed = is; covered = set_covers s d i inside set } in
          rw (ask_rows s address pc i lands sound, looked, is, it-covers i inside set) (one_row i (row_for d (function_in s i))))
          (λ unset. nothing-found (rw is (it-does-not i inside unset)) (ask_beside s address pc can-be-asked i is unset))
