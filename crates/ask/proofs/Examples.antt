-- Addresses asked of written-out sections, each by computation: the PCs of K4 to K9 of document 01, damage in the function landed on and
-- elsewhere, and wrong rules, each with a section on which it answers otherwise.
-- Assumes nothing.
use mathlib.Core.Path.{◌≡◌, refl, ap}
use mathlib.Core.Bool.{true, false}
use mathlib.Core.List.{List}
use Prim.Native.Nat.{ℕ, zero, suc}
use native.Mathlib.Omega.{arith}
use lib.IntN.{ℤ, pos}
use lib.ListN.{set}
use Rattle.section.specs.Meaning.{area_of, shape_of, entry_in, function_in, functions_of}
use Rattle.section.specs.SectionS.{section_s, overlapping_s, unsorted_s, at_entry, with_frame}
use Rattle.accept.specs.Computed.Checks.{entry_fault}
use Rattle.lookup.specs.Halving.{landing}
use Rattle.lookup.specs.Computed.Covering.{covers}
use Rattle.lookup.specs.Computed.Rows.{row_for}
use Rattle.ask.specs.AskAnswer.{AskAnswer, Found, Unsound, Unsorted, NoFunction, NoRow, Damaged}
use Rattle.ask.specs.Numbers.{ask_number}
use Rattle.ask.specs.Computed.Ask.{with_row, checked_row, in_function, ask_of}
use Rattle.ask.specs.Inner.Opened.{ask_opened}

-- ---- "Loaded at 0x400000": in S, which is accepted and sorted, as a lookup

K4 : ask_of section_s 0x400000 0x401003 ≡ Found 0 2 0 at_entry
unfolding ask_opened section_s at_entry
K4 = refl

K5 : ask_of section_s 0x400000 0x40101f ≡ Found 0 2 1 with_frame
unfolding ask_opened section_s with_frame
K5 = refl

K6-before : ask_of section_s 0x400000 0x400fff ≡ NoFunction 2
unfolding ask_opened section_s
K6-before = refl

K6-after : ask_of section_s 0x400000 0x401020 ≡ NoFunction 2
unfolding ask_opened section_s
K6-after = refl

K7 : ask_of section_s 0x400000 0x401040 ≡ Found 1 1 0 at_entry
unfolding ask_opened section_s at_entry
K7 = refl

-- K8 is refused with 14, and two functions cover: the answer speaks of the one landed on
K8 : ask_of overlapping_s 0x400000 0x40101f ≡ Found 1 1 0 at_entry
unfolding ask_opened section_s overlapping_s at_entry
K8 = refl

-- K9 does not have the sorted flag
K9 : ask_of unsorted_s 0x400000 0x40101f ≡ Unsorted
unfolding ask_opened section_s overlapping_s unsorted_s
K9 = refl

-- a header fault
version_3 : ask_of (set section_s 2 0x03) 0x400000 0x401003 ≡ Unsound 4
unfolding ask_opened section_s
version_3 = refl

-- "23": S, its first function with one row, which starts at 4. The header's sum of rows is wrong, and does not count
late : List ℕ
late = set (set section_s 36 0x03) 40 0x01

no_row : ask_of late 0x400000 0x401003 ≡ NoRow 0 2
unfolding ask_opened section_s late
no_row = refl

-- ---- damage

-- the first function's entry: info bit 6
damaged_entry : List ℕ
damaged_entry = set section_s 44 0x40

-- "If the function landed on covers d and breaks 9 to 13, it answers 44"
damaged_entry_lem : ask_of damaged_entry 0x400000 0x401003 ≡ Damaged 0 2
unfolding ask_opened section_s damaged_entry
damaged_entry_lem = refl

-- where it does not cover, 21
damaged_beside : ask_of damaged_entry 0x400000 0x401020 ≡ NoFunction 2
unfolding ask_opened section_s damaged_entry
damaged_beside = refl

-- and of another function nothing is said
damaged_elsewhere : ask_of damaged_entry 0x400000 0x401040 ≡ Found 1 1 0 at_entry
unfolding ask_opened section_s damaged_entry at_entry
damaged_elsewhere = refl

-- a fault behind the row that is sought: the second row starts where the first does
damaged_row : List ℕ
damaged_row = set section_s 71 0x00

damaged_row_lem : ask_of damaged_row 0x400000 0x401000 ≡ Damaged 0 2
unfolding ask_opened section_s damaged_row
damaged_row_lem = refl

-- ---- wrong rules

-- by which function is taken where the halving ends at `low`, and by what is done in it
ask_by : (ℕ → ℕ) → (List ℕ → ℤ → ℕ → ℕ → AskAnswer) → List ℕ → ℤ → AskAnswer
ask_by takes inside s d = by (landing d (functions_of s)).low
  where
    by : ℕ → AskAnswer
    by zero = NoFunction (landing d (functions_of s)).compared
    by (suc i) =
        elim (covers d (function_in s (takes i))) [
          | true ↦ inside s d (takes i) (landing d (functions_of s)).compared
          | false ↦ NoFunction (landing d (functions_of s)).compared
        ]

-- the neighbour: entry low in place of low - 1
neighbour_differs : ¬ (ask_by suc in_function section_s (pos 0x1003) ≡ ask_of section_s 0x400000 0x401003)
unfolding ask_opened section_s ask_by
neighbour_differs e = let z : ◌≡◌ {A = ℕ} 21 0 = ap ask_number e in omega arith

-- the rows not checked
unchecked : List ℕ → ℤ → ℕ → ℕ → AskAnswer
unchecked s d i compared = with_row i compared (row_for d (function_in s i))

unchecked_differs : ¬ (ask_by (λ i. i) unchecked damaged_row (pos 0x1000) ≡ ask_of damaged_row 0x400000 0x401000)
unfolding ask_opened section_s damaged_row ask_by unchecked
unchecked_differs e = let z : ◌≡◌ {A = ℕ} 0 44 = ap ask_number e in omega arith

-- 44 although the function landed on does not cover
not_covering : List ℕ → ℤ → AskAnswer
not_covering s d = by (landing d (functions_of s)).low
  where
    by : ℕ → AskAnswer
    by zero = NoFunction (landing d (functions_of s)).compared
    by (suc i) = checked_row (entry_fault (area_of s) (shape_of s) (entry_in s i)) i (landing d (functions_of s)).compared (row_for d (function_in s i))

not_covering_differs : ¬ (not_covering damaged_entry (pos 0x1020) ≡ ask_of damaged_entry 0x400000 0x401020)
unfolding ask_opened section_s damaged_entry not_covering
not_covering_differs e = let z : ◌≡◌ {A = ℕ} 44 21 = ap ask_number e in omega arith
