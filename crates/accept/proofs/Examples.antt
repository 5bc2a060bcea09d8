-- The verdict on written-out sections, each by computation: cases K1, K2, K3, K8 and K9 of document 01, the numbers 3 to 15
-- by one changed byte each, what section S means, and a wrong order of the checks, which answers otherwise.
-- Assumes nothing.
use mathlib.Core.Path.{◌≡◌, refl, sym, ◌∙◌}
use mathlib.Core.List.{List, [], ◌∷◌, map}
use Prim.Native.Nat.{ℕ}
use native.Mathlib.Omega.{arith}
use lib.IntN.{pos}
use lib.ListN.{take, set}
use Rattle.section.specs.Header.{layout_of}
use Rattle.section.specs.Meaning.{Function, plain, area_of, shape_of, entry_in, functions_of}
use Rattle.section.specs.SectionS.{section_s, overlapping_s, unsorted_s, at_entry, with_frame}
use Rattle.accept.specs.Computed.Checks.{first_bad, and_then, given_at, then_try, first_of, header_fault, entry_fault, out_of_order, turn_fault, sum_fault, entries_verdict, verdict}
use Rattle.accept.specs.Inner.Opened.{accept_opened}
use Rattle.accept.specs.Fault.{Fault}
use Rattle.accept.specs.Verdict.{Verdict, Accepted, Refused}
use Rattle.accept.proofs.FaultLaws.{accepted_or_refused}

K1 : verdict section_s ≡ Accepted
unfolding accept_opened section_s
K1 = refl

K2 : verdict (take 77 section_s) ≡ Refused 8 0
unfolding accept_opened section_s
K2 = refl

K3 : verdict (take 27 section_s) ≡ Refused 1 0
unfolding accept_opened section_s
K3 = refl

K8 : verdict overlapping_s ≡ Refused 14 1
unfolding accept_opened section_s overlapping_s
K8 = refl

K9 : verdict unsorted_s ≡ Accepted
unfolding accept_opened section_s overlapping_s unsorted_s
K9 = refl

-- a checker that refuses everything, and one that accepts everything, is not ours
not_refusing_all : ¬ ((s : List ℕ) → (number : ℕ) × (index : ℕ) × (verdict s ≡ Refused number index))
not_refusing_all all = accepted_or_refused (sym K1 ∙ (all section_s).2)

not_accepting_all : ¬ ((s : List ℕ) → verdict s ≡ Accepted)
not_accepting_all all = accepted_or_refused (sym (all (take 27 section_s)) ∙ K3)

-- S with the byte at a place changed, and the number and index that it is given
changed : List (ℕ × ℕ × Verdict)
changed =
    (0, 0xe3, Refused 3 0)
    ∷ (2, 0x01, Refused 4 0)
    ∷ (3, 0x09, Refused 5 0)
    ∷ (4, 0x01, Refused 6 0)
    ∷ (6, 0x00, Refused 7 0)
    ∷ (20, 0x01, Refused 8 0)
    ∷ (44, 0x40, Refused 9 0)
    ∷ (44, 0x10, Refused 10 0)
    ∷ (36, 0x0b, Refused 11 0)
    ∷ (69, 0x01, Refused 12 0)
    ∷ (71, 0x00, Refused 13 0)
    ∷ (48, 0x1f, Refused 14 1)
    ∷ (12, 0x04, Refused 15 0)
    ∷ []

each_number : map (λ change. verdict (set section_s change.0 change.1)) changed ≡ map (λ change. change.2) changed
unfolding accept_opened section_s changed
each_number = refl

-- "Comparing raw start fields under flag 0x4": the fields are 0x1000, with size 0x20, and 0x1010; the starts 0x101c and 0x1040
relative : verdict (set (set section_s 3 0x05) 48 0x10) ≡ Accepted
unfolding accept_opened section_s
relative = refl

-- ---- what S means

functions : List Function
functions =
    record { start = pos 0x1000; size = 0x20; block = plain; rows = at_entry ∷ with_frame ∷ [] }
    ∷ record { start = pos 0x1040; size = 0x10; block = plain; rows = at_entry ∷ [] }
    ∷ []

meaning_of_S : functions_of section_s ≡ functions
unfolding accept_opened section_s at_entry with_frame functions
meaning_of_S = refl

-- ---- "each entry in order is tried for 9, 10, 11 to 13 .., 14"

-- the verdict by what is tried at each entry, and ours
verdict_by : (List ℕ → ℕ → Fault) → List ℕ → Verdict
verdict_by turn s = then_try (given_at 0 (header_fault s)) (then_try (first_of (turn s) (layout_of s).functions 0) (given_at 0 (sum_fault s)))

ours : (s : List ℕ) → verdict s ≡ verdict_by turn_fault s
unfolding verdict entries_verdict verdict_by
ours s = refl

-- a wrong one: 14 is tried first
early : List ℕ → ℕ → Fault
early s i = and_then (first_bad ((out_of_order s i, 14) ∷ [])) (entry_fault (area_of s) (shape_of s) (entry_in s i))

-- function 1 begins before function 0 ends, and its two rows start at 4 and at 0
both_broken : List ℕ
both_broken = set (set overlapping_s 56 0x03) 60 0x02

rows_first : verdict both_broken ≡ Refused 13 1
unfolding accept_opened section_s overlapping_s both_broken
rows_first = refl

early_differs : ¬ (verdict_by early both_broken ≡ verdict both_broken)
unfolding accept_opened section_s overlapping_s both_broken verdict_by early
early_differs e = let z : ◌≡◌ {A = ℕ} 13 14 = cc in omega arith
