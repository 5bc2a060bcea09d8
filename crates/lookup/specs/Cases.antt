-- When each answer is given (SPECIFICATION 4.1 to 4.7), as plain propositions over an accepted section s and d, "PC minus section
-- address": nothing here says how a function or a row is looked for.
use Rattle.std.specs.Prelude.{◌≡◌, List, ℕ, ◌+◌, ◌*◌, ◌≤◌, ◌<◌, ℤ, pos, ◌+ℤ◌, ◌≤ℤ◌, ◌<ℤ◌}
use Rattle.section.specs.Meaning.{Block, plain, repeated, area_of, shape_of, entry_in, block_of, function_start, function_end, row_in}
use Rattle.section.specs.declared.row.Row.{Row}
use Rattle.accept.specs.Given.{BrokenFirst}
use Rattle.accept.specs.Rules.{Obeys, function_count, row_count, row_start_at}
use Rattle.lookup.specs.Numbers.{Unfound, no_function, dispute, no_row, LookupCause, unsound, unfound}
use Rattle.lookup.specs.Outcome.{Outcome}
use Rattle.lookup.specs.Outcome.{Found, Unsound, NoFunction, Dispute, NoRow}

-- ---- functions

-- function i covers: "start <= d < start + size"
abbrev pub Covers : List ℕ → ℤ → ℕ → Type 0
Covers s d i = (i < function_count s) × (function_start s i ≤ℤ d) × (d <ℤ function_end s i)

-- "no function covers"
abbrev pub NoneCovers : List ℕ → ℤ → Type 0
NoneCovers s d = (i : ℕ) → ¬ Covers s d i

-- one function covers, and it is function i
abbrev pub OnlyCovers : List ℕ → ℤ → ℕ → Type 0
OnlyCovers s d i = Covers s d i × ((j : ℕ) → Covers s d j → j ≡ i)

-- "two or more do"
abbrev pub SomeTwoCover : List ℕ → ℤ → Type 0
SomeTwoCover s d = (i : ℕ) × (j : ℕ) × (i < j) × Covers s d i × Covers s d j

-- "the two lowest indexes" of those that cover are i and j
abbrev pub LowestTwo : List ℕ → ℤ → ℕ → ℕ → Type 0
LowestTwo s d i j = (i < j) × Covers s d i × Covers s d j × ((k : ℕ) → k < j → Covers s d k → k ≡ i)

-- ---- rows

-- "let o be d minus its start, or that taken modulo repeat size for PCMASK": what `past`, d minus the start, leaves
abbrev pub Leaves : Block → ℕ → ℕ → Type 0
Leaves plain past o = o ≡ past
Leaves (repeated size) past o = (o < size) × ((times : ℕ) × (past ≡ times * size + o))

-- o is the offset of d in function i
pub record OffsetIs (s : List ℕ) (d : ℤ) (i o : ℕ) : Type 0 where
  pub past : ℕ
  pub past_is : d ≡ (function_start s i +ℤ pos past)
  pub leaves : Leaves (block_of (entry_in s i)) past o

-- the start of row k of function i "is at most o"
abbrev pub AtMost : List ℕ → ℕ → ℕ → ℕ → Type 0
AtMost s i o k = (k < row_count s i) × (row_start_at s i k ≤ o)

-- "the last whose start is at most o" is row k
abbrev pub LastAtMost : List ℕ → ℕ → ℕ → ℕ → Type 0
LastAtMost s i o k = AtMost s i o k × ((j : ℕ) → AtMost s i o j → j ≤ k)

-- "there is none"
abbrev pub NoneAtMost : List ℕ → ℕ → ℕ → Type 0
NoneAtMost s i o = (k : ℕ) → ¬ AtMost s i o k

-- row k of function i
abbrev pub row_of_function : List ℕ → ℕ → ℕ → Row
row_of_function s i k = row_in (area_of s) (shape_of s) (entry_in s i) k

-- ---- the two answers that name one function

-- found: one function covers, it has a row at or below o, and the row is the last such
pub record FoundCase (s : List ℕ) (d : ℤ) (row : Row) (i k : ℕ) : Type 0 where
  pub only : OnlyCovers s d i
  pub offset : ℕ
  pub offset_is : OffsetIs s d i offset
  pub last : LastAtMost s i offset k
  pub row_is : row ≡ row_of_function s i k

-- 23: one function covers, and it has no such row
pub record NoRowCase (s : List ℕ) (d : ℤ) (i : ℕ) : Type 0 where
  pub only : OnlyCovers s d i
  pub offset : ℕ
  pub offset_is : OffsetIs s d i offset
  pub none : NoneAtMost s i offset

-- ---- every answer

-- what holds of an accepted section and d where this is the outcome; a section that is accepted is not refused
abbrev pub Case : List ℕ → ℤ → Outcome → Type 0
Case s d (Found row i k) = FoundCase s d row i k
Case s d (Unsound number index) = ⊥
Case s d NoFunction = NoneCovers s d
Case s d (Dispute i j) = LowestTwo s d i j
Case s d (NoRow i) = NoRowCase s d i

-- ---- every number

-- what holds of an accepted section and d where nothing is found for this reason
abbrev pub UnfoundCase : List ℕ → ℤ → Unfound → Type 0
UnfoundCase s d no_function = NoneCovers s d
UnfoundCase s d dispute = SomeTwoCover s d
UnfoundCase s d no_row = (i : ℕ) × NoRowCase s d i

-- what holds where a lookup gives the number of this cause
abbrev pub OnLookup : List ℕ → ℤ → LookupCause → Type 0
OnLookup s d (unsound rule) = BrokenFirst s rule
OnLookup s d (unfound why) = Obeys s × UnfoundCase s d why
