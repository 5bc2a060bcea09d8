-- Which bytes an asked address rests on (SPECIFICATION 4.20). Request 05: it "reads only the header, the entries the halving rule compares, and
-- the rows of the one function it lands on .., up to their first fault". Two sections of one length that agree on these bytes get the same
-- answer (`ask_agrees`).
use mathlib.Core.List.{List, Memᴰ}
use Rattle.std.specs.Prelude.{◌⊎◌, ℕ, ◌+◌, ◌*◌, ◌≤◌, ◌<◌, ℤ, length}
use Rattle.numbers.specs.Agree.{InSpan}
use Rattle.numbers.specs.Start.{distance}
use Rattle.section.specs.Header.{layout_of}
use Rattle.section.specs.Meaning.{functions_of, row_place_at}
use Rattle.accept.specs.Rules.{row_count, row_length_at, Rule9, Rule10, Rule11First, RowObeys}
use Rattle.ask.specs.Cases.{CanBeAsked, LandsIn}
use Rattle.ask.specs.Compared.{entries_compared}

-- entry i is one of those that are compared
abbrev pub Compared : List ℕ → ℤ → ℕ → Type 0
Compared s d i = Memᴰ i (entries_compared d (functions_of s))

-- row k of function i is one of those up to and with the first faulty one: its entry breaks nothing before its rows, and no row before k does
pub record RowUpToFault (s : List ℕ) (i k : ℕ) : Type 0 where
  pub rule9 : Rule9 s i
  pub rule10 : Rule10 s i
  pub first : Rule11First s i
  pub inside : k < row_count s i
  pub earlier : (j : ℕ) → j < k → RowObeys s i j

-- place p of the section is one of row k of function i
abbrev pub InRow : List ℕ → ℕ → ℕ → ℕ → Type 0
InRow s i k p = InSpan ((layout_of s).area + row_place_at s i k) (row_length_at s i k) p

-- place p of the section is read
pub data ReadAt (s : List ℕ) (d : ℤ) (p : ℕ) : Type 0 where
  -- 28 of the header, as far as the section has them
  of_header : InSpan 0 28 p → p < length s → ReadAt s d p
  -- 20 of each entry compared
  of_entry : CanBeAsked s → (i : ℕ) → Compared s d i → InSpan ((layout_of s).table + 20 * i) 20 p → ReadAt s d p
  -- where the function landed on covers, its rows up to and with the first faulty one, as far as they lie inside
  of_row : (i k : ℕ) → LandsIn s d i → RowUpToFault s i k → InRow s i k p → p < length s → ReadAt s d p

abbrev pub ReadBy : List ℕ → ℕ → ℕ → ℕ → Type 0
ReadBy s address pc p = ReadAt s (distance address pc) p

-- place p is one of the rows of the function landed on
abbrev pub InLandedRows : List ℕ → ℤ → ℕ → Type 0
InLandedRows s d p = (i : ℕ) × (k : ℕ) × LandsIn s d i × RowUpToFault s i k × InRow s i k p

-- all places read but those rows are in a list of at most so many
pub record AtMostBesideRows (s : List ℕ) (d : ℤ) (most : ℕ) : Type 0 where
  pub places : List ℕ
  pub few : length places ≤ most
  pub all : (p : ℕ) → ReadAt s d p → Memᴰ p places ⊎ InLandedRows s d p
