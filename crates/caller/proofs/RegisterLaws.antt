-- The registers as the code reads them: the mark by its number, the PC asked, the test of 26 by one comparison with the mark and one
-- without, and CFA by its base.
-- Assumes nothing.
use borrow.Author.Tests.{ltb-true, ltb-false, eqb-true, eqb-false, le-leb, lt-leb, eq-eqb, ne_eqb}
use native.Mathlib.Omega.{arith}
use mathlib.Core.Bool.{Bool, true, false, not, ◌&&◌, ◌||◌}
use mathlib.Core.Path.{◌≡◌, refl, ◌∙◌, ap}
use Prim.Native.Nat.{ℕ, zero, suc, ◌-◌, ◌<◌, ◌≤◌}
use lib.Dec.{eqb, ltb, leb}
use Rattle.std.specs.Prelude.{Option, Some, None}
use Rattle.numbers.specs.Computed.Address.{in_memory, address_of}
use Rattle.section.specs.declared.row.Row.{Row}
use Rattle.lookup.proofs.CoveringLaws.{by_value}
use Rattle.caller.specs.Frame.{has_mark, just_before, asked_of, base_value, cfa_of}
use Rattle.caller.specs.Computed.Caller.{is_low}
use Rattle.caller.specs.declared.registers.Registers.{Registers}

pub twice_not : (test : Bool) → test ≡ not (not test)
twice_not true = refl
twice_not false = refl

at_most : (a b : ℕ) → leb a b ≡ (ltb a b || eqb a b)
at_most a b =
    by_value (ltb a b)
    (λ e. rw (e, le-leb a b (omega (arith, ltb-true a b e))))
    (λ e.
    by_value (eqb a b)
    (λ same. rw (e, same, le-leb a b (omega (arith, eqb-true a b same))))
    (λ other. rw (e, other, lt-leb a b (above (ltb-false a b e) (eqb-false a b other)))))
  where
    above : b ≤ a → ¬ (a ≡ b) → b < a
    above h other = omega arith

or_none : (a b : Bool) → a ≡ (a || (b && false))
or_none true b = refl
or_none false true = refl
or_none false false = refl

or_both : (a b : Bool) → (a || b) ≡ (a || (b && true))
or_both true b = refl
or_both false true = refl
or_both false false = refl

module _ (registers : Registers) (sp : ℕ) where
  pub low_unmarked : registers.first ≡ 0 → leb sp registers.sp ≡ is_low registers sp
  unfolding is_low has_mark
  low_unmarked none = rw (eq-eqb _ _ none) (at_most sp registers.sp ∙ or_both (ltb sp registers.sp) (eqb sp registers.sp))

  pub low_marked : ¬ (registers.first ≡ 0) → ltb sp registers.sp ≡ is_low registers sp
  unfolding is_low has_mark
  low_marked set = rw (ne_eqb _ _ set) (or_none (ltb sp registers.sp) (eqb sp registers.sp))

-- ---- the PC asked

pub none_before : (pc : ℕ) → pc ≡ 0 → None ≡ just_before pc
unfolding just_before
none_before zero e = refl
none_before (suc pc) e = absurd (omega arith)

pub one_before : (pc : ℕ) → ¬ (pc ≡ 0) → Some (pc - 1) ≡ just_before pc
unfolding just_before
one_before zero e = absurd (e refl)
one_before (suc pc) e = ap Some (omega arith)

module _ (registers : Registers) where
  pub asked_unmarked : registers.first ≡ 0 → just_before registers.pc ≡ asked_of registers
  unfolding asked_of has_mark
  asked_unmarked none = rw (eq-eqb _ _ none, asked_of)

  pub asked_marked : ¬ (registers.first ≡ 0) → Some registers.pc ≡ asked_of registers
  unfolding asked_of has_mark
  asked_marked set = rw (ne_eqb _ _ set, asked_of)

-- CFA, by the value of the base and the sum
pub cfa_is : (registers : Registers) (row : Row) {base : ℕ} {sum : Option ℕ} → base ≡ base_value registers row.base
    → sum ≡ address_of base row.cfa.by → sum ≡ in_memory (cfa_of registers row)
unfolding cfa_of address_of
cfa_is registers row value sum = sum ∙ ap (λ b. address_of b row.cfa.by) value
