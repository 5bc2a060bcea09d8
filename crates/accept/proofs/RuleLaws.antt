-- Each test of the checks decides its rule: it is true exactly where the rule, as a plain proposition, is broken.
-- Assumes nothing.
use mathlib.Core.Path.{◌≡◌, refl, sym, ◌∙◌, ap}
use mathlib.Core.Bool.{Bool, not, ◌&&◌, ◌||◌}
use mathlib.Core.List.{List, [], ◌∷◌, sum}
use Prim.Native.Nat.{ℕ, zero, suc, ◌+◌, ◌-◌, ◌^◌}
use native.Mathlib.Nat.{add-zero, zero-add}
use native.Mathlib.Omega.{arith}
use lib.Dec.{ltb, eqb}
use lib.IntN.{ℤ, pos, negsuc}
use lib.ListN.{length}
use lib.Signed.{◌≤ℤ◌, le_z, lt_z, lt_z_no, lt_z_yes, clash_ℤ}
use Rattle.numbers.specs.declared.field.Order.{Order}
use Rattle.numbers.specs.declared.field.Order.TheVariants.{Little, Big}
use Rattle.numbers.specs.declared.offset.Offset.{Offset}
use Rattle.section.specs.Entry.{type_of, repeats}
use Rattle.section.specs.Header.{magic_in, order_of, marks_of, sizes_of, layout_from, layout_of}
use Rattle.section.specs.Meaning.{area_of, shape_of, entry_in, listed, row_place_at}
use Rattle.section.specs.Shape.{known_abi}
use Rattle.accept.specs.Rules.{function_count, row_count, row_info_at, row_length_at, row_start_at, Rule1, Rule2, Rule3, Rule4, Rule5, Rule6, Rule7, Rule8, Rule9, Rule10, Rule11First, Rule11Fixed, Rule11Offsets, Rule12, Rule13, Rule14, Rule15}
use Rattle.accept.specs.Computed.Checks.{same_order, wrong_abi, same_offset, wrong_fixed, wrong_sizes, header_tests, wrong_entry_info, entry_tests, wrong_row_info, row_tests, low_of, out_of_order, rows_below}
use Rattle.accept.proofs.Decides.{Decides, Shows, always, never, shown, denied, not_below, positive, at_most, equal, same_rule, unless, neither, none_of, where_set, both, either}
use Rattle.accept.proofs.FaultLaws.{Table, end, line}
use Rattle.accept.proofs.RowLaws.{row_info_decides, entry_info_decides}

-- ---- the header

pub rule1 : (s : List ℕ) → Decides (ltb (length s) 28) (Rule1 s)
rule1 s = not_below (length s) 28

pub rule2 : (s : List ℕ) → Decides (ltb 16777216 (length s)) (Rule2 s)
rule2 s = not_below 16777216 (length s)

pub rule3 : (s : List ℕ) → Decides (not (magic_in s Little || magic_in s Big)) (Rule3 s)
unfolding magic_in
rule3 s = unless (either (equal _ _) (equal _ _))

pub rule4 : (s : List ℕ) → Decides (not (eqb (marks_of s).version 2)) (Rule4 s)
rule4 s = unless (equal (marks_of s).version 2)

pub rule5 : (s : List ℕ) → Decides (ltb 0x07 (marks_of s).flags) (Rule5 s)
rule5 s = not_below 0x07 (marks_of s).flags

little_or_big : Little ≡ Big → ⊥
little_or_big e = let z : ◌≡◌ {A = ℕ} 0 1 = cc in omega arith

same_order_lem : (a b : Order) → Shows (same_order a b) (a ≡ b)
unfolding same_order
same_order_lem Little Little = shown refl
same_order_lem Little Big = denied little_or_big
same_order_lem Big Little = denied (λ e. little_or_big (sym e))
same_order_lem Big Big = shown refl

pub rule6 : (s : List ℕ) → Decides (wrong_abi (marks_of s).abi (order_of s)) (Rule6 s)
unfolding wrong_abi known_abi shape_of layout_of layout_from
rule6 s =
    same_rule (λ h. (h.0.0, h.0.1, h.1), λ h. ((h.0, h.1), h.2))
    (neither (unless (both (at_most 1 (marks_of s).abi) (at_most (marks_of s).abi 3))) (unless (same_order_lem _ _)))

pos_or_negsuc : {a b : ℕ} → pos a ≡ negsuc b → ⊥
pos_or_negsuc e = let z : ◌≡◌ {A = ℕ} 0 1 = cc in omega arith

number_decides : (y z : ℤ) → Decides (not (le_z y z && le_z z y)) (y ≡ z)
number_decides (pos a) (pos b) =
    same_rule (λ h. ap pos (omega arith), λ e. let same : a ≡ b = cc in (omega arith, omega arith)) (unless (both (at_most a b) (at_most b a)))
number_decides (pos a) (negsuc b) = never pos_or_negsuc
number_decides (negsuc a) (pos b) = never (λ e. pos_or_negsuc (sym e))
number_decides (negsuc a) (negsuc b) =
    same_rule (λ h. ap negsuc (omega arith), λ e. let same : a ≡ b = cc in (omega arith, omega arith)) (unless (both (at_most b a) (at_most a b)))

offset_decides : (a b : Offset) → Decides (not (same_offset a b)) (a ≡ b)
unfolding same_offset
offset_decides a b = same_rule (λ e. ap (λ z. record { by = z }) e, λ e. ap (λ o. o.by) e) (number_decides a.by b.by)

pub rule7 : (s : List ℕ) → Decides (wrong_fixed (marks_of s)) (Rule7 s)
unfolding wrong_fixed shape_of layout_of layout_from
rule7 s = neither (offset_decides _ _) (offset_decides _ _)

pub rule8 : (s : List ℕ) → Decides (wrong_sizes (length s) (marks_of s).auxiliary (sizes_of s (order_of s))) (Rule8 s)
unfolding wrong_sizes function_count layout_of layout_from
rule8 s = none_of (unless (equal _ _)) (unless (equal _ _)) (unless (equal _ _))

-- ---- entry i

pub rule9 : (s : List ℕ) (i : ℕ) → Decides (wrong_entry_info (entry_in s i).info) (Rule9 s i)
rule9 s i = entry_info_decides (entry_in s i).info

pub rule10 : (s : List ℕ) (i : ℕ) → Decides (repeats (entry_in s i).info && eqb (entry_in s i).repeat 0) (Rule10 s i)
rule10 s i = where_set (positive (entry_in s i).repeat)

pub rule11_first : (s : List ℕ) (i : ℕ) → Decides (ltb (length (area_of s)) (entry_in s i).first) (Rule11First s i)
rule11_first s i = not_below _ _

-- ---- row k of entry i

pub rule11_fixed : (s : List ℕ) (i k : ℕ) → Decides (ltb (length (area_of s)) (row_place_at s i k + 2 ^ type_of (entry_in s i).info + 1)) (Rule11Fixed s i k)
rule11_fixed s i k = not_below _ _

pub rule12 : (s : List ℕ) (i k : ℕ) → Decides (wrong_row_info (shape_of s).most (row_info_at s i k)) (Rule12 s i k)
rule12 s i k = row_info_decides (shape_of s).most (row_info_at s i k)

pub rule11_offsets : (s : List ℕ) (i k : ℕ) → Decides (ltb (length (area_of s)) (row_place_at s i k + row_length_at s i k)) (Rule11Offsets s i k)
rule11_offsets s i k = not_below _ _

-- the least start that row k may have, against the start of the row before it
pub rule13 : (s : List ℕ) (i k : ℕ)
    → Decides (ltb (row_start_at s i k) (low_of (area_of s) (shape_of s).order (type_of (entry_in s i).info) (entry_in s i).first k)) (Rule13 s i k)
unfolding low_of row_start_at
rule13 s i zero = same_rule (λ le lt. absurd (omega arith), λ rule. omega arith) (not_below (row_start_at s i 0) 0)
rule13 s i (suc k) =
    let before : suc k - 1 ≡ k = omega arith in
    same_rule (λ le lt. rw before le, λ rule. rw before at (rule (omega arith))) (not_below (row_start_at s i (suc k)) (suc (row_start_at s i k)))

-- ---- entry i and the one before it

not_less : (y z : ℤ) → Decides (lt_z y z) (z ≤ℤ y)
not_less y z = record { holds = λ e. lt_z_no (rw e tt); broken = λ e le. clash_ℤ (lt_z_yes (rw e tt)) le }

pub rule14 : (s : List ℕ) (i : ℕ) → Decides (out_of_order s i) (Rule14 s i)
unfolding out_of_order
rule14 s zero = always (λ set lt. absurd (omega arith))
rule14 s (suc i) =
    let before : suc i - 1 ≡ i = omega arith in
    same_rule (λ rule set lt. rw before (rule set), λ rule set. rw before at (rule set (omega arith))) (where_set (not_less _ _))

-- ---- the sum

-- the row counts of the first entries, and of those that follow
below_sum : (s : List ℕ) (count k : ℕ) → rows_below s (k + count) ≡ rows_below s k + sum ◌+◌ 0 (listed (row_count s) count k)
unfolding rows_below row_count listed sum
below_sum s zero k = simp add-zero
below_sum s (suc count) k =
    let next : k + suc count ≡ suc k + count = omega arith in
    rw next (below_sum s count (suc k) ∙ omega arith)

pub below_all : (s : List ℕ) (count : ℕ) → rows_below s count ≡ sum ◌+◌ 0 (listed (row_count s) count 0)
unfolding rows_below
below_all s count = simp zero-add at (below_sum s count 0)

pub rule15 : (s : List ℕ) → Decides (not (eqb (rows_below s (layout_of s).functions) (layout_of s).rows)) (Rule15 s)
unfolding function_count
rule15 s = rw (below_all s (layout_of s).functions) (unless (equal _ _))

-- ---- the tables

abbrev pub header_rules : List ℕ → List (Type 0)
header_rules s = Rule1 s ∷ Rule2 s ∷ Rule3 s ∷ Rule4 s ∷ Rule5 s ∷ Rule6 s ∷ Rule7 s ∷ Rule8 s ∷ []

pub header_table : (s : List ℕ) → Table (header_tests s) (header_rules s)
unfolding header_tests
header_table s =
    line (rule1 s) (line (rule2 s) (line (rule3 s) (line (rule4 s) (line (rule5 s) (line (rule6 s) (line (rule7 s) (line (rule8 s) end)))))))

abbrev pub entry_rules : List ℕ → ℕ → List (Type 0)
entry_rules s i = Rule9 s i ∷ Rule10 s i ∷ Rule11First s i ∷ []

pub entry_table : (s : List ℕ) (i : ℕ) → Table (entry_tests (area_of s) (entry_in s i)) (entry_rules s i)
unfolding entry_tests
entry_table s i = line (rule9 s i) (line (rule10 s i) (line (rule11_first s i) end))

-- the tests of row k of entry i
abbrev pub row_tests_at : List ℕ → ℕ → ℕ → List (Bool × ℕ)
row_tests_at s i k =
    row_tests (area_of s) (shape_of s) (type_of (entry_in s i).info) (row_place_at s i k)
    (low_of (area_of s) (shape_of s).order (type_of (entry_in s i).info) (entry_in s i).first k)

abbrev pub row_rules : List ℕ → ℕ → ℕ → List (Type 0)
row_rules s i k = Rule11Fixed s i k ∷ Rule12 s i k ∷ Rule11Offsets s i k ∷ Rule13 s i k ∷ []

pub row_table : (s : List ℕ) (i k : ℕ) → Table (row_tests_at s i k) (row_rules s i k)
unfolding row_tests row_info_at row_length_at row_start_at
row_table s i k = line (rule11_fixed s i k) (line (rule12 s i k) (line (rule11_offsets s i k) (line (rule13 s i k) end)))

pub order_table : (s : List ℕ) (i : ℕ) → Table ((out_of_order s i, 14) ∷ []) (Rule14 s i ∷ [])
order_table s i = line (rule14 s i) end

pub sum_table : (s : List ℕ) → Table ((not (eqb (rows_below s (layout_of s).functions) (layout_of s).rows), 15) ∷ []) (Rule15 s ∷ [])
sum_table s = line (rule15 s) end
