-- A test and the rule that it decides: the test is true exactly where the rule is broken. How such tests are made, joined and
-- used, for any rule.
-- Assumes nothing.
use mathlib.Core.Path.{◌≡◌, refl, sym, ◌∙◌}
use mathlib.Core.Bool.{Bool, true, false, not, ◌&&◌, ◌||◌, true≢false, false≢true}
use mathlib.Core.Logic.{◌⊎◌, inl, inr, ◌↔◌, ⊎_elim}
use Prim.Native.Nat.{ℕ, ◌≤◌, ◌<◌}
use native.Mathlib.Omega.{arith}
use lib.Dec.{leb, ltb, eqb}
use borrow.Author.Tests.{ltb-true, ltb-false, leb-true, leb-false, eqb-true, eqb-false}

pub record Decides (test : Bool) (P : Type 0) : Type 0 where
  pub holds : test ≡ false → P
  pub broken : test ≡ true → ¬ P

-- the other way round: the test is true exactly where P holds
pub record Shows (test : Bool) (P : Type 0) : Type 0 where
  pub holds : test ≡ true → P
  pub broken : test ≡ false → ¬ P

-- ---- what one tells

pub passes : {test : Bool} {P : Type 0} → Decides test P → P → test ≡ false
passes {test = true} d good = absurd (d.broken refl good)
passes {test = false} d good = refl

pub fails : {test : Bool} {P : Type 0} → Decides test P → ¬ P → test ≡ true
fails {test = true} d bad = refl
fails {test = false} d bad = absurd (bad (d.holds refl))

-- go on by whether the rule is broken
pub by_test_lem : {test : Bool} {P X : Type 0} → Decides test P → (¬ P → X) → (P → X) → X
by_test_lem {test = true} d bad good = bad (d.broken refl)
by_test_lem {test = false} d bad good = good (d.holds refl)

-- two rules that one test decides are the same
pub one_test : {test : Bool} {P Q : Type 0} → Decides test P → Decides test Q → P ↔ Q
one_test d e = (λ p. e.holds (passes d p), λ q. d.holds (passes e q))

-- ---- a test whose value is known

pub always : {P : Type 0} → P → Decides false P
always p = record { holds = λ e. p; broken = λ e. absurd (false≢true e) }

pub never : {P : Type 0} → ¬ P → Decides true P
never bad = record { holds = λ e. absurd (true≢false e); broken = λ e. bad }

pub shown : {P : Type 0} → P → Shows true P
shown p = record { holds = λ e. p; broken = λ e. absurd (true≢false e) }

pub denied : {P : Type 0} → ¬ P → Shows false P
denied bad = record { holds = λ e. absurd (false≢true e); broken = λ e. bad }

-- ---- single tests

pub not_below : (a b : ℕ) → Decides (ltb a b) (b ≤ a)
not_below a b = record { holds = ltb-false a b; broken = λ e le. let lt : a < b = ltb-true a b e in omega arith }

pub positive : (a : ℕ) → Decides (eqb a 0) (0 < a)
positive a =
    record {
      holds = λ e. let far : ¬ (a ≡ 0) = eqb-false a 0 e in omega arith;
      broken = λ e lt. let same : a ≡ 0 = eqb-true a 0 e in omega arith;
    }

pub unset : (bit : Bool) → Decides bit (bit ≡ false)
unset bit = record { holds = λ e. e; broken = λ e f. true≢false (sym e ∙ f) }

pub at_most : (a b : ℕ) → Shows (leb a b) (a ≤ b)
at_most a b = record { holds = leb-true a b; broken = λ e le. let lt : b < a = leb-false a b e in omega arith }

pub equal : (a b : ℕ) → Shows (eqb a b) (a ≡ b)
equal a b = record { holds = eqb-true a b; broken = eqb-false a b }

-- ---- joined ones

pub same_rule : {test : Bool} {P Q : Type 0} → P ↔ Q → Decides test P → Decides test Q
same_rule same d = record { holds = λ e. same.0 (d.holds e); broken = λ e q. d.broken e (same.1 q) }

pub unless : {test : Bool} {P : Type 0} → Shows test P → Decides (not test) P
unless {test = true} d = always (d.holds refl)
unless {test = false} d = never (d.broken refl)

pub neither : {a b : Bool} {P Q : Type 0} → Decides a P → Decides b Q → Decides (a || b) (P × Q)
neither {a = true} p q = never (λ pq. p.broken refl pq.0)
neither {a = false} p q = record { holds = λ e. (p.holds refl, q.holds e); broken = λ e pq. q.broken e pq.1 }

pub none_of : {a b c : Bool} {P Q R : Type 0} → Decides a P → Decides b Q → Decides c R → Decides (a || b || c) (P × Q × R)
none_of p q r = same_rule (λ h. (h.0.0, h.0.1, h.1), λ h. ((h.0, h.1), h.2)) (neither (neither p q) r)

-- a rule that asks something only where a bit is set
pub where_set : {bit test : Bool} {P : Type 0} → Decides test P → Decides (bit && test) (bit ≡ true → P)
where_set {bit = true} d = record { holds = λ e set. d.holds e; broken = λ e rule. d.broken e (rule refl) }
where_set {bit = false} d = always (λ set. absurd (false≢true set))

pub both : {a b : Bool} {P Q : Type 0} → Shows a P → Shows b Q → Shows (a && b) (P × Q)
both {a = true} p q = record { holds = λ e. (p.holds refl, q.holds e); broken = λ e pq. q.broken e pq.1 }
both {a = false} p q = denied (λ pq. p.broken refl pq.0)

pub either : {a b : Bool} {P Q : Type 0} → Shows a P → Shows b Q → Shows (a || b) (P ⊎ Q)
either {a = true} p q = shown (inl (p.holds refl))
either {a = false} p q = record { holds = λ e. inr (q.holds e); broken = λ e. ⊎_elim (p.broken refl) (q.broken e) }
