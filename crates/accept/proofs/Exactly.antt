-- The verdict and the rules: a section is accepted exactly when it obeys every rule, and a number is given exactly when its rule
-- is the first broken one, with the entry that breaks it. The theorems are `accepted_exactly_when`, `given_exactly_when` and
-- `refused_by_a_rule`; `obeys_or_refusal` and `given_once` say that exactly one of these cases is every section's.
-- Assumes nothing.
use mathlib.Core.Path.{◌≡◌, refl, sym, ◌∙◌, ap}
use mathlib.Core.List.{List, [], ◌∷◌}
use mathlib.Core.Logic.Iff
use mathlib.Core.Logic.{◌⊎◌, inl, inr, ◌↔◌, ⊎_elim}
use Prim.Native.Nat.{ℕ, ◌-◌, ◌≤◌, ◌<◌}
use native.Mathlib.Omega.{arith}
use lib.ListN.{get_or}
use Rattle.section.specs.Entry.{type_of}
use Rattle.section.specs.Meaning.{area_of, shape_of, entry_in, row_place_at}
use Rattle.accept.specs.Given.{number_of_rule, Reached, RowsReached, RowReached, Given}
use Rattle.accept.specs.declared.verdict.Rule.{Rule}
use Rattle.accept.specs.declared.verdict.Rule.TheVariants.{Short, Long, Magic, Version, Flags, Abi, Fixed, Sizes, EntryInfo, RepeatSize, RowsInside, RowInfo, RowsRising, Sorted, RowSum}
use Rattle.accept.specs.Rules.{function_count, row_count, row_info_at, row_length_at, row_start_at, Rule9, Rule10, Rule11First, Rule14, Rule15, HeaderObeys, RowObeys, EntryObeys, Obeys}
use Rattle.accept.specs.Computed.Checks.{header_tests, header_fault, entry_tests, row_tests, row_fault, low_of, row_fault_in, rows_fault, entry_fault, turn_fault, sum_fault, entries_verdict, verdict}
use Rattle.accept.specs.Fault.{Sound, Breaks}
use Rattle.accept.specs.Verdict.{Accepted, Refused}
use Rattle.accept.proofs.Decides.{not_below, by_test_lem, one_test}
use Rattle.accept.proofs.FaultLaws.{accepted_or_refused, FirstBroken, table_sound, table_breaks, and_sound, and_breaks, try_accepted, try_refused, at_accepted, at_refused, fault_breaks, each_sound, one_breaks}
use Rattle.accept.proofs.InOrder.{in_turn}
use Rattle.accept.proofs.RowLaws.{RowSound, row_sound, entry_sound}
use Rattle.accept.proofs.RuleLaws.{rule1, rule2, rule3, rule4, rule5, rule6, rule7, rule8, rule9, rule10, rule11_first, rule11_fixed, rule12, rule11_offsets, rule13, rule14, rule15, header_rules, header_table, entry_rules, entry_table, row_tests_at, row_rules, row_table, order_table, sum_table}

-- ---- what is accepted

pub header_exactly_when : (s : List ℕ) → (header_fault s ≡ Sound) ↔ HeaderObeys s
unfolding header_fault
header_exactly_when s =
    Iff.trans (table_sound (header_table s)) (
      λ h.
          record {
            rule1 = h.0;
            rule2 = h.1.0;
            rule3 = h.1.1.0;
            rule4 = h.1.1.1.0;
            rule5 = h.1.1.1.1.0;
            rule6 = h.1.1.1.1.1.0;
            rule7 = h.1.1.1.1.1.1.0;
            rule8 = h.1.1.1.1.1.1.1.0;
          },
      λ h. (h.rule1, (h.rule2, (h.rule3, (h.rule4, (h.rule5, (h.rule6, (h.rule7, (h.rule8, tt)))))))),
    )

-- a row's rules, over the section and over its row area
row_rules_lem : (s : List ℕ) (i k : ℕ)
    → RowSound (area_of s) (shape_of s) (type_of (entry_in s i).info) (row_place_at s i k)
    (low_of (area_of s) (shape_of s).order (type_of (entry_in s i).info) (entry_in s i).first k)
    ↔ RowObeys s i k
unfolding row_info_at row_length_at row_start_at
row_rules_lem s i k =
    let rising = one_test (not_below _ _) (rule13 s i k) in (
      λ r. record { fixed = r.fixed; rule12 = r.info; offsets = r.whole; rule13 = rising.0 r.above },
      λ r. record { fixed = r.fixed; info = r.rule12; whole = r.offsets; above = rising.1 r.rule13 },
    )

pub row_exactly_when : (s : List ℕ) (i k : ℕ)
    → (row_fault_in (area_of s) (shape_of s) (type_of (entry_in s i).info) (entry_in s i).first k ≡ Sound) ↔ RowObeys s i k
unfolding row_fault_in
row_exactly_when s i k = Iff.trans (row_sound _ _ _ _ _) (row_rules_lem s i k)

-- 9 to 13
pub entry_exactly_when : (s : List ℕ) (i : ℕ)
    → (entry_fault (area_of s) (shape_of s) (entry_in s i) ≡ Sound)
    ↔ (Rule9 s i × Rule10 s i × Rule11First s i × ((k : ℕ) → k < row_count s i → RowObeys s i k))
unfolding row_count
entry_exactly_when s i =
    Iff.trans (entry_sound (area_of s) (shape_of s) (entry_in s i)) (
      λ h. (h.info, h.repeat, h.first, λ k lt. (row_rules_lem s i k).0 (h.rows k lt)),
      λ h. record { info = h.0; repeat = h.1; first = h.2; rows = λ k lt. (row_rules_lem s i k).1 (h.3 k lt) },
    )

-- 9 to 14
pub turn_exactly_when : (s : List ℕ) (i : ℕ) → (turn_fault s i ≡ Sound) ↔ EntryObeys s i
unfolding turn_fault
turn_exactly_when s i =
    let entry = entry_exactly_when s i in
    let order = table_sound (order_table s i) in (
      λ e.
          let (own, last) = (and_sound _ _).0 e in
          let h = entry.0 own in
          record { rule9 = h.0; rule10 = h.1; first = h.2; rows = h.3; rule14 = (order.0 last).0 },
      λ h. (and_sound _ _).1 (entry.1 (h.rule9, h.rule10, h.first, h.rows), order.1 (h.rule14, tt)),
    )

pub accepted_exactly_when : (s : List ℕ) → (verdict s ≡ Accepted) ↔ Obeys s
unfolding verdict entries_verdict function_count sum_fault
accepted_exactly_when s =
    let header = Iff.trans (at_accepted 0 (header_fault s)) (header_exactly_when s) in
    let entries = each_sound (turn_fault s) (function_count s) (turn_exactly_when s) in
    let last = Iff.trans (at_accepted 0 (sum_fault s)) (table_sound (sum_table s)) in (
      λ e.
          let (first, rest) = (try_accepted _ _).0 e in
          let (middle, end) = (try_accepted _ _).0 rest in
          record { header = header.0 first; entries = entries.0 middle; rule15 = (last.0 end).0 },
      λ h. (try_accepted _ _).1 (header.1 h.header, (try_accepted _ _).1 (entries.1 h.entries, last.1 (h.rule15, tt))),
    )

-- ---- what is given: each rule that is the first broken one makes the verdict

-- 1 to 8
header_given : (s : List ℕ) (number i : ℕ) → i ≡ 0 → FirstBroken (header_tests s) (header_rules s) number → verdict s ≡ Refused number i
unfolding verdict header_fault
header_given s number i z broken =
    (try_refused _ _ number i).1 (inl ((at_refused 0 (header_fault s) number i).1 ((table_breaks (header_table s) number).1 broken, z)))

-- 9 to 14
turn_given : (s : List ℕ) (number i : ℕ) → Reached s i → turn_fault s i ≡ Breaks number → verdict s ≡ Refused number i
unfolding verdict entries_verdict function_count
turn_given s number i reached breaks =
    let header = (at_accepted 0 (header_fault s)).1 ((header_exactly_when s).1 reached.header) in
    let turns = one_breaks (turn_fault s) (function_count s) (turn_exactly_when s) number i reached.inside breaks reached.earlier in
    (try_refused _ _ number i).1 (inr (header, (try_refused _ _ number i).1 (inl turns)))

-- 9, 10 and the first part of 11
entry_given : (s : List ℕ) (number i : ℕ) → Reached s i → FirstBroken (entry_tests (area_of s) (entry_in s i)) (entry_rules s i) number
    → verdict s ≡ Refused number i
unfolding turn_fault entry_fault
entry_given s number i reached broken =
    turn_given s number i reached
    ((and_breaks _ _ number).1 (inl ((and_breaks _ _ number).1 (inl ((table_breaks (entry_table s i) number).1 broken)))))

-- 11 to 13 at row k
row_given : (s : List ℕ) (number i k : ℕ) → RowReached s i k → FirstBroken (row_tests_at s i k) (row_rules s i k) number → verdict s ≡ Refused number i
unfolding turn_fault entry_fault rows_fault row_fault_in row_fault row_count
row_given s number i k reached broken =
    let at = reached.rows in
    let own = (table_sound (entry_table s i)).1 (at.rule9, (at.rule10, (at.first, tt))) in
    let breaks = (table_breaks (row_table s i k) number).1 broken in
    let rows = one_breaks _ (entry_in s i).rows (row_exactly_when s i) number k reached.inside breaks reached.earlier in
    turn_given s number i at.entry
    ((and_breaks _ _ number).1 (inl ((and_breaks _ _ number).1 (inr (own, (fault_breaks _ number).1 (k, rows))))))

-- 14
order_given : (s : List ℕ) (i : ℕ) → RowsReached s i → ((k : ℕ) → k < row_count s i → RowObeys s i k) → ¬ Rule14 s i → verdict s ≡ Refused 14 i
unfolding turn_fault
order_given s i at rows bad =
    turn_given s 14 i at.entry
    ((and_breaks _ _ 14).1
    (inr ((entry_exactly_when s i).1 (at.rule9, at.rule10, at.first, rows), (table_breaks (order_table s i) 14).1 (inl (refl, bad)))))

-- 15
sum_given : (s : List ℕ) (i : ℕ) → i ≡ 0 → HeaderObeys s → ((j : ℕ) → j < function_count s → EntryObeys s j) → ¬ Rule15 s → verdict s ≡ Refused 15 i
unfolding verdict entries_verdict function_count sum_fault
sum_given s i z header entries bad =
    let first = (at_accepted 0 (header_fault s)).1 ((header_exactly_when s).1 header) in
    let turns = (each_sound (turn_fault s) (function_count s) (turn_exactly_when s)).1 entries in
    let last = (at_refused 0 (sum_fault s) 15 i).1 ((table_breaks (sum_table s) 15).1 (inl (refl, bad)), z) in
    (try_refused _ _ 15 i).1 (inr (first, (try_refused _ _ 15 i).1 (inr (turns, last))))

given_refused : (s : List ℕ) (rule : Rule) (i : ℕ) → Given s rule i → verdict s ≡ Refused (number_of_rule rule) i
unfolding header_tests entry_tests row_tests number_of_rule
given_refused s Short i g = header_given s 1 i g.0 (inl (refl, g.1))
given_refused s Long i g = header_given s 2 i g.0 (inr (g.1, inl (refl, g.2)))
given_refused s Magic i g = header_given s 3 i g.0 (inr (g.1, inr (g.2, inl (refl, g.3))))
given_refused s Version i g = header_given s 4 i g.0 (inr (g.1, inr (g.2, inr (g.3, inl (refl, g.4)))))
given_refused s Flags i g = header_given s 5 i g.0 (inr (g.1, inr (g.2, inr (g.3, inr (g.4, inl (refl, g.5))))))
given_refused s Abi i g = header_given s 6 i g.0 (inr (g.1, inr (g.2, inr (g.3, inr (g.4, inr (g.5, inl (refl, g.6)))))))
given_refused s Fixed i g = header_given s 7 i g.0 (inr (g.1, inr (g.2, inr (g.3, inr (g.4, inr (g.5, inr (g.6, inl (refl, g.7))))))))
given_refused s Sizes i g =
    header_given s 8 i g.0 (inr (g.1, inr (g.2, inr (g.3, inr (g.4, inr (g.5, inr (g.6, inr (g.7, inl (refl, g.8)))))))))
given_refused s EntryInfo i g = entry_given s 9 i g.0 (inl (refl, g.1))
given_refused s RepeatSize i g = entry_given s 10 i g.0 (inr (g.1, inl (refl, g.2)))
given_refused s RowsInside i (inl g) = entry_given s 11 i g.0 (inr (g.1, inr (g.2, inl (refl, g.3))))
given_refused s RowsInside i (inr g) =
    row_given s 11 i g.0 g.1 (⊎_elim (λ bad. inl (refl, bad)) (λ r. inr (r.0, inr (r.1, inl (refl, r.2)))) g.2)
given_refused s RowInfo i g = row_given s 12 i g.0 g.1 (inr (g.2, inl (refl, g.3)))
given_refused s RowsRising i g = row_given s 13 i g.0 g.1 (inr (g.2, inr (g.3, inr (g.4, inl (refl, g.5)))))
given_refused s Sorted i g = order_given s i g.0 g.1 g.2
given_refused s RowSum i g = sum_given s i g.0 g.1 g.2 g.3

-- ---- every section obeys the rules, or one is given

abbrev pub Refusal : List ℕ → Type 0
Refusal s = (rule : Rule) × (i : ℕ) × Given s rule i

row_decided : (s : List ℕ) (i k : ℕ) → RowReached s i k → RowObeys s i k ⊎ Refusal s
row_decided s i k reached =
    by_test_lem (rule11_fixed s i k) (λ bad. inr (RowsInside, i, inr (k, reached, inl bad))) λ fixed.
    by_test_lem (rule12 s i k) (λ bad. inr (RowInfo, i, (k, reached, fixed, bad))) λ r12.
    by_test_lem (rule11_offsets s i k) (λ bad. inr (RowsInside, i, inr (k, reached, inr (fixed, r12, bad)))) λ offsets.
    by_test_lem (rule13 s i k) (λ bad. inr (RowsRising, i, (k, reached, fixed, r12, offsets, bad))) λ r13.
    inl (record { fixed = fixed; rule12 = r12; offsets = offsets; rule13 = r13 })

entry_decided : (s : List ℕ) (i : ℕ) → Reached s i → EntryObeys s i ⊎ Refusal s
entry_decided s i reached =
    by_test_lem (rule9 s i) (λ bad. inr (EntryInfo, i, (reached, bad))) λ r9.
    by_test_lem (rule10 s i) (λ bad. inr (RepeatSize, i, (reached, r9, bad))) λ r10.
    by_test_lem (rule11_first s i) (λ bad. inr (RowsInside, i, inl (reached, r9, r10, bad))) λ first.
    let rows : RowsReached s i = record { entry = reached; rule9 = r9; rule10 = r10; first = first } in
    ⊎_elim
    (λ all.
    by_test_lem (rule14 s i) (λ bad. inr (Sorted, i, (rows, all, bad))) λ r14.
    inl (record { rule9 = r9; rule10 = r10; first = first; rows = all; rule14 = r14 }))
    inr
    (in_turn (row_count s i) (λ k lt earlier. row_decided s i k (record { rows = rows; inside = lt; earlier = earlier })))

pub obeys_or_refusal : (s : List ℕ) → Obeys s ⊎ Refusal s
obeys_or_refusal s =
    by_test_lem (rule1 s) (λ bad. inr (Short, 0, (refl, bad))) λ r1.
    by_test_lem (rule2 s) (λ bad. inr (Long, 0, (refl, r1, bad))) λ r2.
    by_test_lem (rule3 s) (λ bad. inr (Magic, 0, (refl, r1, r2, bad))) λ r3.
    by_test_lem (rule4 s) (λ bad. inr (Version, 0, (refl, r1, r2, r3, bad))) λ r4.
    by_test_lem (rule5 s) (λ bad. inr (Flags, 0, (refl, r1, r2, r3, r4, bad))) λ r5.
    by_test_lem (rule6 s) (λ bad. inr (Abi, 0, (refl, r1, r2, r3, r4, r5, bad))) λ r6.
    by_test_lem (rule7 s) (λ bad. inr (Fixed, 0, (refl, r1, r2, r3, r4, r5, r6, bad))) λ r7.
    by_test_lem (rule8 s) (λ bad. inr (Sizes, 0, (refl, r1, r2, r3, r4, r5, r6, r7, bad))) λ r8.
    let header : HeaderObeys s = record { rule1 = r1; rule2 = r2; rule3 = r3; rule4 = r4; rule5 = r5; rule6 = r6; rule7 = r7; rule8 = r8 } in
    ⊎_elim
    (λ all.
    by_test_lem (rule15 s) (λ bad. inr (RowSum, 0, (refl, header, all, bad))) λ r15.
    inl (record { header = header; entries = all; rule15 = r15 }))
    inr
    (in_turn (function_count s) (λ i lt earlier. entry_decided s i (record { header = header; inside = lt; earlier = earlier })))

-- ---- so a refusal names the rule

pub refused_by_a_rule : (s : List ℕ) (number i : ℕ) → verdict s ≡ Refused number i → (rule : Rule) × (number ≡ number_of_rule rule) × Given s rule i
refused_by_a_rule s number i e =
    ⊎_elim
    (λ obeys. absurd (accepted_or_refused (sym ((accepted_exactly_when s).1 obeys) ∙ e)))
    (λ refusal.
    let (rule, j, given) = refusal in
    let is : Refused number i ≡ Refused (number_of_rule rule) j = sym e ∙ given_refused s rule j given in
    let same : i ≡ j = cc in
    (rule, cc, rw same given))
    (obeys_or_refusal s)

-- its number is 1 to 15
pub number_of_rule_lem : (rule : Rule) → (1 ≤ number_of_rule rule) × (number_of_rule rule ≤ 15)
unfolding number_of_rule
number_of_rule_lem Short = omega arith
number_of_rule_lem Long = omega arith
number_of_rule_lem Magic = omega arith
number_of_rule_lem Version = omega arith
number_of_rule_lem Flags = omega arith
number_of_rule_lem Abi = omega arith
number_of_rule_lem Fixed = omega arith
number_of_rule_lem Sizes = omega arith
number_of_rule_lem EntryInfo = omega arith
number_of_rule_lem RepeatSize = omega arith
number_of_rule_lem RowsInside = omega arith
number_of_rule_lem RowInfo = omega arith
number_of_rule_lem RowsRising = omega arith
number_of_rule_lem Sorted = omega arith
number_of_rule_lem RowSum = omega arith

pub verdict_number_lem : (s : List ℕ) (number i : ℕ) → verdict s ≡ Refused number i → (1 ≤ number) × (number ≤ 15)
verdict_number_lem s number i e =
    let (rule, is, given) = refused_by_a_rule s number i e in
    rw is (number_of_rule_lem rule)

-- the rules by their numbers, from 1 on
rules : List Rule
rules =
    Short ∷ Long ∷ Magic ∷ Version ∷ Flags ∷ Abi ∷ Fixed ∷ Sizes ∷ EntryInfo ∷ RepeatSize ∷ RowsInside ∷ RowInfo ∷ RowsRising ∷ Sorted ∷ RowSum ∷ []

abbrev rule_of : ℕ → Rule
unfolding rules
rule_of number = get_or rules (number - 1) Short

at_its_number : (rule : Rule) → rule_of (number_of_rule rule) ≡ rule
unfolding rule_of number_of_rule
at_its_number Short = refl
at_its_number Long = refl
at_its_number Magic = refl
at_its_number Version = refl
at_its_number Flags = refl
at_its_number Abi = refl
at_its_number Fixed = refl
at_its_number Sizes = refl
at_its_number EntryInfo = refl
at_its_number RepeatSize = refl
at_its_number RowsInside = refl
at_its_number RowInfo = refl
at_its_number RowsRising = refl
at_its_number Sorted = refl
at_its_number RowSum = refl

-- no two rules have one number
pub by_number : (rule other : Rule) → number_of_rule rule ≡ number_of_rule other → rule ≡ other
by_number rule other e = sym (at_its_number rule) ∙ ap rule_of e ∙ at_its_number other

pub given_exactly_when : (s : List ℕ) (rule : Rule) (i : ℕ) → (verdict s ≡ Refused (number_of_rule rule) i) ↔ Given s rule i
given_exactly_when s rule i = (
  λ e.
      let (other, same, given) = refused_by_a_rule s (number_of_rule rule) i e in
      rw (by_number rule other same) given,
  given_refused s rule i,
)

-- at most one rule is given, with one index
pub given_once : (s : List ℕ) (rule other : Rule) (i j : ℕ) → Given s rule i → Given s other j → (rule ≡ other) × (i ≡ j)
given_once s rule other i j given also =
    let is : Refused (number_of_rule rule) i ≡ Refused (number_of_rule other) j = sym (given_refused s rule i given) ∙ given_refused s other j also in
    (by_number rule other cc, cc)
