-- The header's rules are 1 to 8: a fault of the header has the number of the one that is the first broken one, and a header without a
-- fault obeys them all.
-- Assumes nothing.
use mathlib.Core.Path.{◌≡◌, refl, sym, ◌∙◌, ap}
use mathlib.Core.List.{List}
use mathlib.Core.Logic.{◌⊎◌, inl, inr, ◌↔◌, ⊎_elim}
use Prim.Native.Nat.{ℕ, ◌≤◌}
use native.Mathlib.Omega.{arith}
use Rattle.accept.specs.Given.{number_of_rule, Given, HeaderBreaks}
use Rattle.accept.specs.declared.verdict.Rule.{Rule}
use Rattle.accept.specs.declared.verdict.Rule.TheVariants.{Short, Long, Magic, Version, Flags, Abi, Fixed, Sizes, EntryInfo, RepeatSize, RowsInside, RowInfo, RowsRising, Sorted, RowSum}
use Rattle.accept.specs.Rules.{HeaderObeys}
use Rattle.accept.specs.Computed.Checks.{given_at, then_try, header_fault, entries_verdict, verdict}
use Rattle.accept.specs.Fault.{Fault, Sound, Breaks}
use Rattle.accept.specs.Verdict.{Refused}
use Rattle.accept.proofs.CauseLaws.{Due}
use Rattle.accept.proofs.Exactly.{header_exactly_when, refused_by_a_rule, verdict_number_lem, given_exactly_when}
use Rattle.accept.proofs.FaultLaws.{sound_or_breaks}

-- ---- a rule that is given is one of them, or the header obeys and the rule comes later

abbrev Splits : List ℕ → Rule → Type 0
Splits s rule = ((number_of_rule rule ≤ 8) × ¬ HeaderObeys s) ⊎ ((9 ≤ number_of_rule rule) × HeaderObeys s)

given_splits : (s : List ℕ) (rule : Rule) (i : ℕ) → Given s rule i → Splits s rule
unfolding number_of_rule
given_splits s Short i g = inl (omega arith, λ obeys. g.1 obeys.rule1)
given_splits s Long i g = inl (omega arith, λ obeys. g.2 obeys.rule2)
given_splits s Magic i g = inl (omega arith, λ obeys. g.3 obeys.rule3)
given_splits s Version i g = inl (omega arith, λ obeys. g.4 obeys.rule4)
given_splits s Flags i g = inl (omega arith, λ obeys. g.5 obeys.rule5)
given_splits s Abi i g = inl (omega arith, λ obeys. g.6 obeys.rule6)
given_splits s Fixed i g = inl (omega arith, λ obeys. g.7 obeys.rule7)
given_splits s Sizes i g = inl (omega arith, λ obeys. g.8 obeys.rule8)
given_splits s EntryInfo i g = inr (omega arith, g.0.header)
given_splits s RepeatSize i g = inr (omega arith, g.0.header)
given_splits s RowsInside i (inl g) = inr (omega arith, g.0.header)
given_splits s RowsInside i (inr g) = inr (omega arith, g.1.rows.entry.header)
given_splits s RowInfo i g = inr (omega arith, g.1.rows.entry.header)
given_splits s RowsRising i g = inr (omega arith, g.1.rows.entry.header)
given_splits s Sorted i g = inr (omega arith, g.0.entry.header)
given_splits s RowSum i g = inr (omega arith, g.1)

-- ---- so a fault of the header has the number of one of these

unfoldable pub number_of_fault : Fault → ℕ
number_of_fault Sound = 0
number_of_fault (Breaks number) = number

module _ (s : List ℕ) where
  breaks-refused : (number : ℕ) → header_fault s ≡ Breaks number → verdict s ≡ Refused number 0
  unfolding verdict given_at then_try
  breaks-refused number is = ap (λ fault. then_try (given_at 0 fault) (entries_verdict s)) is

  pub breaks_not_obeys : (number : ℕ) → header_fault s ≡ Breaks number → ¬ HeaderObeys s
  breaks_not_obeys number is obeys = sound_or_breaks (sym ((header_exactly_when s).1 obeys) ∙ is)

  pub fault_due : Due number_of_rule (number_of_fault (header_fault s)) (HeaderBreaks s)
  unfolding number_of_fault
  fault_due = by (header_fault s) refl
    where
      by : (fault : Fault) → header_fault s ≡ fault → Due number_of_rule (number_of_fault fault) (HeaderBreaks s)
      by Sound is = inl refl
      by (Breaks number) is =
          let (rule, same, given) = refused_by_a_rule s number 0 (breaks-refused number is) in
          ⊎_elim
          (λ broken. inr (rule, same, (broken.0, given)))
          (λ later. absurd (breaks_not_obeys number is later.1))
          (given_splits s rule 0 given)

  pub fault_makes : (rule : Rule) → HeaderBreaks s rule → number_of_fault (header_fault s) ≡ number_of_rule rule
  unfolding number_of_fault
  fault_makes rule (small, given) = by (header_fault s) refl
    where
      by : (fault : Fault) → header_fault s ≡ fault → number_of_fault fault ≡ number_of_rule rule
      by Sound is =
          ⊎_elim
          (λ broken. absurd (broken.1 ((header_exactly_when s).0 is)))
          (λ later. absurd (omega (arith, later.0, small)))
          (given_splits s rule 0 given)
      by (Breaks number) is =
          let same : Refused number 0 ≡ Refused (number_of_rule rule) 0 = sym (breaks-refused number is) ∙ (given_exactly_when s rule 0).1 given in
          cc

  pub fault_none : (number_of_fault (header_fault s) ≡ 0) ↔ HeaderObeys s
  unfolding number_of_fault
  fault_none = (by (header_fault s) refl, λ obeys. ap number_of_fault ((header_exactly_when s).1 obeys))
    where
      by : (fault : Fault) → header_fault s ≡ fault → number_of_fault fault ≡ 0 → HeaderObeys s
      by Sound is none = (header_exactly_when s).0 is
      by (Breaks number) is none = absurd (omega (arith, none, verdict_number_lem s number 0 (breaks-refused number is)))
