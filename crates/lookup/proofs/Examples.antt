-- Lookups in written-out sections, each by computation: cases K4 to K9 of document 01, and 23; and wrong lookups, of the kinds that
-- document 01 lists, each with a section on which it answers otherwise.
-- Assumes nothing.
use mathlib.Core.Path.{◌≡◌, refl, sym, ◌∙◌, ap}
use mathlib.Core.List.{List, [], ◌∷◌}
use Prim.Native.Nat.{ℕ, ◌+◌, ◌-◌, ◌^◌, ◌%◌}
use native.Mathlib.Omega.{arith}
use lib.Bits.{bit_and}
use lib.IntN.{ℤ, pos, ◌-ℤ◌}
use lib.ListN.{set}
use lib.Signed.{le_z}
use Rattle.std.specs.Prelude.{Option, Some, None}
use Rattle.numbers.specs.Signed.{signed_of}
use Rattle.numbers.specs.Inner.Held.{natural}
use Rattle.section.specs.Header.{layout_of}
use Rattle.section.specs.Meaning.{Block, plain, repeated, Function, entry_in, function_in, functions_of}
use Rattle.section.specs.SectionS.{section_s, overlapping_s, unsorted_s, at_entry, with_frame}
use Rattle.section.specs.declared.row.Row.{Row}
use Rattle.lookup.specs.Halving.{halve}
use Rattle.lookup.specs.Numbers.{number_of_unfound, outcome_number}
use Rattle.lookup.specs.Computed.Answers.{with_cover, outcome, lookup_of}
use Rattle.lookup.specs.Computed.Covering.{covering}
use Rattle.lookup.specs.Computed.Rows.{in_block, last_row, row_for}
use Rattle.lookup.specs.Inner.Opened.{lookup_opened}
use Rattle.lookup.specs.Outcome.{Found, Unsound, NoFunction, Dispute, NoRow}
use Rattle.lookup.specs.declared.rows.Hit.{Hit}
use Rattle.lookup.specs.declared.search.Cover.{Cover}
use Rattle.lookup.specs.declared.search.Cover.TheVariants.{Nobody, One}
use Rattle.lookup.specs.declared.search.Landing.{Landing}

-- ---- "Loaded at 0x400000"

K4 : lookup_of section_s 0x400000 0x401003 ≡ (record { outcome = Found at_entry 0 0; compared = 2 })
unfolding lookup_opened section_s at_entry
K4 = refl

K5-low : lookup_of section_s 0x400000 0x401004 ≡ (record { outcome = Found with_frame 0 1; compared = 2 })
unfolding lookup_opened section_s with_frame
K5-low = refl

K5-high : lookup_of section_s 0x400000 0x40101f ≡ (record { outcome = Found with_frame 0 1; compared = 2 })
unfolding lookup_opened section_s with_frame
K5-high = refl

K6-before : lookup_of section_s 0x400000 0x400fff ≡ (record { outcome = NoFunction; compared = 2 })
unfolding lookup_opened section_s
K6-before = refl

K6-after : lookup_of section_s 0x400000 0x401020 ≡ (record { outcome = NoFunction; compared = 2 })
unfolding lookup_opened section_s
K6-after = refl

K6-between : lookup_of section_s 0x400000 0x40103f ≡ (record { outcome = NoFunction; compared = 2 })
unfolding lookup_opened section_s
K6-between = refl

K7 : lookup_of section_s 0x400000 0x401040 ≡ (record { outcome = Found at_entry 1 0; compared = 1 })
unfolding lookup_opened section_s at_entry
K7 = refl

-- "Section refusals carry 0."
K8 : lookup_of overlapping_s 0x400000 0x40101f ≡ (record { outcome = Unsound 14 1; compared = 0 })
unfolding lookup_opened section_s overlapping_s
K8 = refl

K9 : lookup_of unsorted_s 0x400000 0x40101f ≡ (record { outcome = Dispute 0 1; compared = 2 })
unfolding lookup_opened section_s overlapping_s unsorted_s
K9 = refl

-- "23 when there is none, with the function's index": S, its first function with one row, which starts at 4
late : List ℕ
late = set (set (set section_s 36 0x03) 40 0x01) 12 0x02

no_row : lookup_of late 0x400000 0x401003 ≡ (record { outcome = NoRow 0; compared = 2 })
unfolding lookup_opened section_s late
no_row = refl

-- ---- wrong offsets: "Source 001 writes the repeated case as a mask; the remainder rule stands."

-- the row by how the offset is taken from d minus the start, and ours
row_by : (Block → ℕ → ℕ) → ℤ → Function → Option Hit
row_by offset d f = last_row (offset f.block (natural (d -ℤ f.start))) 0 f.rows

ours : (d : ℤ) (f : Function) → row_for d f ≡ row_by in_block d f
unfolding lookup_opened row_by
ours d f = refl

masked : Block → ℕ → ℕ
masked plain past = past
masked (repeated size) past = bit_and past (size - 1)

-- S, its first function repeated by 6: 6 leaves 0, and 6 masked by 5 is 4
repeating : List ℕ
repeating = set (set section_s 44 0x10) 45 0x06

repeated_row : lookup_of repeating 0x400000 0x401006 ≡ (record { outcome = Found at_entry 0 0; compared = 2 })
unfolding lookup_opened section_s repeating at_entry
repeated_row = refl

number_in : Option Hit → ℕ
number_in None = 0
number_in (Some hit) = hit.number

masked_differs : ¬ (row_by masked (pos 0x1006) (function_in repeating 0) ≡ row_for (pos 0x1006) (function_in repeating 0))
unfolding lookup_opened section_s repeating row_by masked number_in
masked_differs e = let z : ◌≡◌ {A = ℕ} 1 0 = ap number_in e in omega arith

-- ---- "Letting the later of two covering entries win."

later : List ℕ → Cover
later [] = Nobody
later (i ∷ []) = One i
later (i ∷ j ∷ more) = later (j ∷ more)

later_differs : ¬ (with_cover (pos 0x101f) (functions_of unsorted_s) (later (covering (pos 0x101f) (functions_of unsorted_s)))
    ≡ (lookup_of unsorted_s 0x400000 0x40101f).outcome)
unfolding lookup_opened section_s overlapping_s unsorted_s later
later_differs e = let z : ◌≡◌ {A = ℕ} 0 1 = cc in omega arith

-- ---- "Taking PC minus section address as a wrapped signed 64-bit number, so that a far PC is found."

wrapped : ℕ → ℕ → ℤ
wrapped address pc = signed_of 8 ((pc + 2 ^ 64 - address) % 2 ^ 64)

-- S at the end of memory, and a PC at its beginning
far : lookup_of section_s 0xfffffffffffff000 0x3 ≡ (record { outcome = NoFunction; compared = 2 })
unfolding lookup_opened section_s
far = refl

wrapped_finds : outcome (wrapped 0xfffffffffffff000 0x3) (functions_of section_s) ≡ Found at_entry 0 0
unfolding lookup_opened section_s wrapped at_entry
wrapped_finds = refl

-- ---- "Comparing raw start fields under flag 0x4, where order and meaning need the field's position."

raw_landing : ℤ → List ℕ → Landing
raw_landing d s = halve (λ i. le_z (signed_of 4 (entry_in s i).start) d) (layout_of s).functions 0 (layout_of s).functions 0

-- the fields are 0x1000 and 0x1010; the starts 0x101c and 0x1040
relative : List ℕ
relative = set (set section_s 3 0x05) 48 0x10

by_position : lookup_of relative 0x400000 0x401020 ≡ (record { outcome = Found with_frame 0 1; compared = 2 })
unfolding lookup_opened section_s relative with_frame
by_position = refl

-- raw fields land on the second function, after one comparison
raw_differs : ¬ ((raw_landing (pos 0x1020) relative).compared ≡ (lookup_of relative 0x400000 0x401020).compared)
unfolding lookup_opened section_s relative raw_landing
raw_differs e = let z : ◌≡◌ {A = ℕ} 1 2 = e in omega arith

-- ---- "a lookup with one fixed row, or always 21 ..; a made-up count", already in S

not_one_row : (row : Row) → ¬ ((pc i k : ℕ) (found : Row) → (lookup_of section_s 0x400000 pc).outcome ≡ Found found i k → found ≡ row)
unfolding at_entry with_frame
not_one_row row all =
    let same : at_entry ≡ with_frame = all _ 0 0 _ (ap (λ a. a.outcome) K4) ∙ sym (all _ 0 1 _ (ap (λ a. a.outcome) K5-low)) in
    let z : ◌≡◌ {A = ℕ} 0 4 = ap (λ r. r.start) same in
    omega arith

not_always_21 : ¬ ((pc : ℕ) → outcome_number (lookup_of section_s 0x400000 pc).outcome ≡ 21)
unfolding outcome_number number_of_unfound
not_always_21 all = let z : ◌≡◌ {A = ℕ} 0 21 = sym (ap (λ a. outcome_number a.outcome) K4) ∙ all 0x401003 in omega arith

not_made_up : (count : ℕ) → ¬ ((pc : ℕ) → (lookup_of section_s 0x400000 pc).compared ≡ count)
not_made_up count all =
    let two : ◌≡◌ {A = ℕ} 2 count = sym (ap (λ a. a.compared) K4) ∙ all 0x401003 in
    let one : ◌≡◌ {A = ℕ} 1 count = sym (ap (λ a. a.compared) K7) ∙ all 0x401040 in
    omega arith
