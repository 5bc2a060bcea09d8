-- What a lookup answers, on every section, address and PC: each answer is given exactly when document 01 says so, and the
-- number of entries compared is what it says. The propositions on the right stand in specs/Cases, in document 01's words.
-- Assumes nothing.
use mathlib.Core.Path.{◌≡◌, refl, ◌∙◌, ap}
use mathlib.Core.Bool.{true, false}
use mathlib.Core.List.{List}
use mathlib.Core.Logic.{◌↔◌}
use Prim.Native.Nat.{ℕ, ◌+◌, ◌^◌, ◌≤◌, ◌<◌}
use lib.IntN.{ℤ}
use Rattle.numbers.specs.Start.{distance}
use Rattle.section.specs.Header.{layout_of}
use Rattle.section.specs.Meaning.{functions_of}
use Rattle.section.specs.declared.row.Row.{Row}
use Rattle.accept.specs.Rules.{function_count}
use Rattle.accept.specs.Computed.Checks.{verdict}
use Rattle.accept.specs.Verdict.{Verdict, Accepted, Refused}
use Rattle.accept.proofs.AcceptedLaws.{accepted_laws}
use Rattle.lookup.specs.Cases.{NoneCovers, SomeTwoCover, LowestTwo, FoundCase, NoRowCase, Case}
use Rattle.lookup.specs.Halving.{landing, compared}
use Rattle.lookup.specs.Numbers.{number_of_unfound, outcome_number}
use Rattle.lookup.specs.Computed.Answers.{outcome, answer, answer_of, answer_after, lookup_of}
use Rattle.lookup.specs.Computed.Covering.{covering, cover_of}
use Rattle.lookup.specs.Inner.Search.{cover_by}
use Rattle.lookup.specs.Outcome.{Outcome}
use Rattle.lookup.specs.Outcome.{Found, Unsound, NoFunction, Dispute, NoRow}
use Rattle.lookup.proofs.CaseLaws.{functions_count, outcome_exactly_when, Reason, number_tells, lowest_two, two_unsorted}
use Rattle.lookup.proofs.CoveringLaws.{by_value}
use Rattle.lookup.proofs.HalvingLaws as halving
use Rattle.lookup.proofs.SearchLaws.{search_finds_covering}

-- ---- an accepted section, and d, "PC minus section address"

module _ (s : List ℕ) (accepted : verdict s ≡ Accepted) (address pc : ℕ) where
  abbrev d : ℤ
  d = distance address pc

  outcome-is : (lookup_of s address pc).outcome ≡ outcome d (functions_of s)
  unfolding lookup_of answer_after answer_of answer
  outcome-is = rw accepted

  -- every outcome at once; the theorems below are its cases
  pub answer_exactly_when : (o : Outcome) → ((lookup_of s address pc).outcome ≡ o) ↔ Case s d o
  answer_exactly_when o = rw outcome-is (outcome_exactly_when s d accepted o)

  -- by document 01's number: what it says, and that a case makes it
  says : (number : ℕ) → outcome_number (lookup_of s address pc).outcome ≡ number → Reason s d number
  says number is = number_tells s d accepted number (rw outcome-is at is)

  makes : (o : Outcome) → Case s d o → outcome_number (lookup_of s address pc).outcome ≡ outcome_number o
  makes o h = ap outcome_number ((answer_exactly_when o).1 h)

  -- "With one function, let o be d minus its start, or that taken modulo repeat size for PCMASK. The row is the last whose start
  -- is at most o" "A found answer gives the function's index and the row: its number in the function, start, base, offsets and
  -- signed bit"
  pub found_exactly_when : (row : Row) (i k : ℕ) → ((lookup_of s address pc).outcome ≡ Found row i k) ↔ FoundCase s d row i k
  found_exactly_when row i k = answer_exactly_when (Found row i k)

  -- 0 stands for a found row
  pub number_0_exactly_when : (outcome_number (lookup_of s address pc).outcome ≡ 0) ↔ ((row : Row) × (i : ℕ) × (k : ℕ) × FoundCase s d row i k)
  unfolding outcome_number number_of_unfound
  number_0_exactly_when = (says 0, λ h. let (row, i, k, found) = h in makes (Found row i k) found)

  -- "21: no function covers; no index is returned."
  pub no_function_exactly_when : ((lookup_of s address pc).outcome ≡ NoFunction) ↔ NoneCovers s d
  no_function_exactly_when = answer_exactly_when NoFunction

  pub number_21_exactly_when : (outcome_number (lookup_of s address pc).outcome ≡ 21) ↔ NoneCovers s d
  unfolding outcome_number number_of_unfound
  number_21_exactly_when = (says 21, makes NoFunction)

  -- "22: two or more do ..; the two lowest indexes are returned."
  pub dispute_exactly_when : (i j : ℕ) → ((lookup_of s address pc).outcome ≡ Dispute i j) ↔ LowestTwo s d i j
  dispute_exactly_when i j = answer_exactly_when (Dispute i j)

  pub number_22_exactly_when : (outcome_number (lookup_of s address pc).outcome ≡ 22) ↔ SomeTwoCover s d
  unfolding outcome_number number_of_unfound
  number_22_exactly_when = (
    λ is. let (i, j, (less, here, there, least)) = says 22 is in (i, j, less, here, there),
    λ two. let (i, j, h) = lowest_two s d two in makes (Dispute i j) h,
  )

  -- "(possible only unsorted)"
  pub dispute_only_unsorted : (i j : ℕ) → (lookup_of s address pc).outcome ≡ Dispute i j → (layout_of s).sorted ≡ false
  dispute_only_unsorted i j is =
      let (less, here, there, least) = (dispute_exactly_when i j).0 is in
      two_unsorted s d accepted (i, j, less, here, there)

  -- "23 when there is none, with the function's index."
  pub no_row_exactly_when : (i : ℕ) → ((lookup_of s address pc).outcome ≡ NoRow i) ↔ NoRowCase s d i
  no_row_exactly_when i = answer_exactly_when (NoRow i)

  pub number_23_exactly_when : (outcome_number (lookup_of s address pc).outcome ≡ 23) ↔ ((i : ℕ) × NoRowCase s d i)
  unfolding outcome_number number_of_unfound
  number_23_exactly_when = (says 23, λ h. let (i, none) = h in makes (NoRow i) none)

  -- a sorted section is halved, any other is scanned: what is found is the same, since only the entry landed on can cover
  pub halving_finds_covering : cover_by (layout_of s).sorted d (functions_of s) ≡ cover_of (covering d (functions_of s))
  halving_finds_covering = search_finds_covering s accepted d

  -- ---- "The answer carries the number of entries compared. .. Answers 21 to 23 carry the count too."

  count-is : (lookup_of s address pc).compared ≡ compared (layout_of s).sorted d (functions_of s)
  unfolding lookup_of answer_after answer_of answer
  count-is = rw accepted

  -- "Unsorted: n."
  pub count_unsorted : (layout_of s).sorted ≡ false → (lookup_of s address pc).compared ≡ function_count s
  unfolding compared
  count_unsorted unset = rw (count-is, unset) (functions_count s)

  -- "Sorted: the halving rule over low = 0, high = n"
  pub count_halving : (layout_of s).sorted ≡ true → (lookup_of s address pc).compared ≡ (landing d (functions_of s)).compared
  unfolding compared
  count_halving set = rw (count-is, set)

  -- where there is no function, none is compared
  pub count_none : function_count s ≡ 0 → (lookup_of s address pc).compared ≡ 0
  count_none none =
      by_value (layout_of s).sorted
      (λ set. count_halving set ∙ halving.count_none d (functions_of s) (functions_count s ∙ none))
      (λ unset. count_unsorted unset ∙ none)

  -- at most 1 + the whole part of the logarithm of n to the base 2, which is j
  pub count_log : (layout_of s).sorted ≡ true → (j : ℕ) → 2 ^ j ≤ function_count s → function_count s < 2 ^ (1 + j)
      → (lookup_of s address pc).compared ≤ 1 + j
  count_log set j least most = rw (count_halving set) (halving.count_log d (functions_of s) j (rw functions_count least) (rw functions_count most))

  -- "So at most 20 here."
  pub count_twenty : (layout_of s).sorted ≡ true → (lookup_of s address pc).compared ≤ 20
  count_twenty set = rw (count_halving set) (halving.count_twenty d (functions_of s) (rw functions_count (accepted_laws s accepted).few))

-- ---- any section

-- "A lookup first makes the section checks, 1 to 15."
pub unsound_exactly_when : (s : List ℕ) (address pc number index : ℕ)
    → ((lookup_of s address pc).outcome ≡ Unsound number index) ↔ (verdict s ≡ Refused number index)
unfolding lookup_of answer_after
unsound_exactly_when s address pc number index = (by (verdict s) refl, λ e. rw e)
  where
    by : (v : Verdict) → verdict s ≡ v → (lookup_of s address pc).outcome ≡ Unsound number index → verdict s ≡ Refused number index
    by Accepted e is = absurd ((answer_exactly_when s e address pc (Unsound number index)).0 is)
    by (Refused other at) e is = cc

-- "Section refusals carry 0."
pub count_refused : (s : List ℕ) (address pc number index : ℕ) → verdict s ≡ Refused number index → (lookup_of s address pc).compared ≡ 0
unfolding lookup_of answer_after
count_refused s address pc number index e = rw e
