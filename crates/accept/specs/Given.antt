-- The numbers of a check, 1 to 15, and when each is given (SPECIFICATION 3.16 and 3.17): its rule is broken there, and no test that
-- document 01 tries earlier is.
use Rattle.std.specs.Prelude.{◌≡◌, ◌⊎◌, List, [], ◌∷◌, ℕ, ◌≤◌, ◌<◌}
use Rattle.accept.specs.Rules.{function_count, row_count, Rule1, Rule2, Rule3, Rule4, Rule5, Rule6, Rule7, Rule8, Rule9, Rule10, Rule11First, Rule11Fixed, Rule11Offsets, Rule12, Rule13, Rule14, Rule15, HeaderObeys, RowObeys, EntryObeys}
use Rattle.accept.specs.declared.verdict.Rule.{Rule}
use Rattle.accept.specs.declared.verdict.Rule.TheVariants.{Short, Long, Magic, Version, Flags, Abi, Fixed, Sizes, EntryInfo, RepeatSize, RowsInside, RowInfo, RowsRising, Sorted, RowSum}
use Rattle.accept.specs.Verdict.{Verdict, Accepted, Refused}

-- ---- their numbers
unfoldable pub number_of_rule : Rule → ℕ
number_of_rule Short = 1
number_of_rule Long = 2
number_of_rule Magic = 3
number_of_rule Version = 4
number_of_rule Flags = 5
number_of_rule Abi = 6
number_of_rule Fixed = 7
number_of_rule Sizes = 8
number_of_rule EntryInfo = 9
number_of_rule RepeatSize = 10
number_of_rule RowsInside = 11
number_of_rule RowInfo = 12
number_of_rule RowsRising = 13
number_of_rule Sorted = 14
number_of_rule RowSum = 15

-- document 01's number of a verdict, 0 where accepted, and what it carries: "its number and the entry's index"
unfoldable pub verdict_number : Verdict → ℕ
verdict_number Accepted = 0
verdict_number (Refused number index) = number

unfoldable pub verdict_indexes : Verdict → List ℕ
verdict_indexes Accepted = []
verdict_indexes (Refused number index) = index ∷ []

-- ---- the order of trying

-- entry i is tried: the header and every earlier entry obey
pub record Reached (s : List ℕ) (i : ℕ) : Type 0 where
  pub header : HeaderObeys s
  pub inside : i < function_count s
  pub earlier : (j : ℕ) → j < i → EntryObeys s j

-- the rows of entry i are tried: so is the entry, and it passes 9, 10 and the first part of 11
pub record RowsReached (s : List ℕ) (i : ℕ) : Type 0 where
  pub entry : Reached s i
  pub rule9 : Rule9 s i
  pub rule10 : Rule10 s i
  pub first : Rule11First s i

-- row k of entry i is tried: every earlier row obeys
pub record RowReached (s : List ℕ) (i k : ℕ) : Type 0 where
  pub rows : RowsReached s i
  pub inside : k < row_count s i
  pub earlier : (j : ℕ) → j < k → RowObeys s i j

-- 11 at row k of entry i: its fixed part, or, with a sound info byte, its offsets
abbrev pub RowEndsPast : List ℕ → ℕ → ℕ → Type 0
RowEndsPast s i k = (¬ Rule11Fixed s i k) ⊎ (Rule11Fixed s i k × Rule12 s i k × ¬ Rule11Offsets s i k)

-- the rule of this name is the first broken one, in entry i; "0 for 1 to 8 and 15"
abbrev pub Given : List ℕ → Rule → ℕ → Type 0
Given s Short i = (i ≡ 0) × ¬ Rule1 s
Given s Long i = (i ≡ 0) × Rule1 s × ¬ Rule2 s
Given s Magic i = (i ≡ 0) × Rule1 s × Rule2 s × ¬ Rule3 s
Given s Version i = (i ≡ 0) × Rule1 s × Rule2 s × Rule3 s × ¬ Rule4 s
Given s Flags i = (i ≡ 0) × Rule1 s × Rule2 s × Rule3 s × Rule4 s × ¬ Rule5 s
Given s Abi i = (i ≡ 0) × Rule1 s × Rule2 s × Rule3 s × Rule4 s × Rule5 s × ¬ Rule6 s
Given s Fixed i = (i ≡ 0) × Rule1 s × Rule2 s × Rule3 s × Rule4 s × Rule5 s × Rule6 s × ¬ Rule7 s
Given s Sizes i = (i ≡ 0) × Rule1 s × Rule2 s × Rule3 s × Rule4 s × Rule5 s × Rule6 s × Rule7 s × ¬ Rule8 s
Given s EntryInfo i = Reached s i × ¬ Rule9 s i
Given s RepeatSize i = Reached s i × Rule9 s i × ¬ Rule10 s i
Given s RowsInside i =
    (Reached s i × Rule9 s i × Rule10 s i × ¬ Rule11First s i) ⊎ ((k : ℕ) × RowReached s i k × RowEndsPast s i k)
Given s RowInfo i = (k : ℕ) × RowReached s i k × Rule11Fixed s i k × ¬ Rule12 s i k
Given s RowsRising i = (k : ℕ) × RowReached s i k × Rule11Fixed s i k × Rule12 s i k × Rule11Offsets s i k × ¬ Rule13 s i k
Given s Sorted i = RowsReached s i × ((k : ℕ) → k < row_count s i → RowObeys s i k) × ¬ Rule14 s i
Given s RowSum i = (i ≡ 0) × HeaderObeys s × ((j : ℕ) → j < function_count s → EntryObeys s j) × ¬ Rule15 s

-- the rule is the first broken one, in the entry with some index
abbrev pub BrokenFirst : List ℕ → Rule → Type 0
BrokenFirst s rule = (index : ℕ) × Given s rule index

-- the rule is one of the header's, which have the numbers 1 to 8, and the first broken one
abbrev pub HeaderBreaks : List ℕ → Rule → Type 0
HeaderBreaks s rule = (number_of_rule rule ≤ 8) × Given s rule 0
