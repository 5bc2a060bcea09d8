-- A number with the bits of a mask cleared, bit by bit: which number that is (`clear_exactly_when`), that it is the number itself where the
-- mask has no bit (`clear_none`), that once is as good as twice (`clear_twice`), and when nothing is left (`clear_all_exactly_when`). And
-- which mask is cleared, by the row.
-- Assumes nothing.
use mathlib.Core.Path.{◌≡◌, refl, sym, ◌∙◌, ap}
use mathlib.Core.Logic.{◌⊎◌, inl, inr, ◌↔◌, ⊎_elim}
use Prim.Native.Nat.{ℕ, zero, suc, ◌+◌, ◌-◌, ◌*◌, ◌/◌, ◌%◌, ◌^◌, ◌≤◌, ◌<◌, min}
use native.Mathlib.Nat.{div-one, div-div-eq-div-mul, pow-succ', mod-lt, zero-lt-suc}
use native.Mathlib.Omega.{arith}
use lib.Arith.{bin_ind}
use lib.Bits.{bit_and, and_step, and_le_r}
use Rattle.section.specs.declared.row.Row.{Row}
use Rattle.section.specs.declared.shape.Shape.{Shape}
use Rattle.lookup.proofs.CoveringLaws.{is_true, is_false}
use Rattle.caller.specs.Signature.{Signed, mask_of, clear, bit, Cleared, OnlySignature}
use Rattle.caller.specs.declared.registers.Process.{Process}
use Rattle.caller.proofs.TestLaws.{signed_shows}

-- ---- bits

bit_first : (n : ℕ) → bit n 0 ≡ n % 2
bit_first n = ap (λ x. x % 2) (div-one n)

bit_next : (n k : ℕ) → bit n (suc k) ≡ bit (n / 2) k
bit_next n k = ap (λ x. n / x % 2) (pow-succ' 2 k) ∙ ap (λ x. x % 2) (sym (div-div-eq-div-mul n 2 (2 ^ k)))

bit_none : (k : ℕ) → bit 0 k ≡ 0
bit_none zero = bit_first 0
bit_none (suc k) = bit_next 0 k ∙ bit_none k

-- a bit is 0 or 1
bit_decided : (n k : ℕ) → (bit n k ≡ 0) ⊎ (bit n k ≡ 1)
bit_decided n k = two (bit n k) (mod-lt (n / 2 ^ k) (zero-lt-suc 1))
  where
    two : (d : ℕ) → d < 2 → (d ≡ 0) ⊎ (d ≡ 1)
    two zero h = inl refl
    two (suc d) h = inr (omega arith)

-- two numbers are equal when their bits are
same_bits : (a b : ℕ) → ((k : ℕ) → bit a k ≡ bit b k) → a ≡ b
same_bits =
    bin_ind (λ a. (b : ℕ) → ((k : ℕ) → bit a k ≡ bit b k) → a ≡ b) none
    (λ a half b same.
    let first : a % 2 ≡ b % 2 = sym (bit_first a) ∙ same 0 ∙ bit_first b in
    let rest : a / 2 ≡ b / 2 = half (b / 2) (λ k. sym (bit_next a k) ∙ same (suc k) ∙ bit_next b k) in
    omega arith)
  where
    none : (b : ℕ) → ((k : ℕ) → bit 0 k ≡ bit b k) → 0 ≡ b
    none =
        bin_ind (λ b. ((k : ℕ) → bit 0 k ≡ bit b k) → 0 ≡ b) (λ same. refl)
        (λ b half same.
        let first : 0 ≡ b % 2 = same 0 ∙ bit_first b in
        let rest : 0 ≡ b / 2 = half (λ k. sym (bit_next 0 k) ∙ same (suc k) ∙ bit_next b k) in
        omega arith)

-- ---- the bits of what is left

module _ (mask ra : ℕ) where
  clear-half : clear mask ra / 2 ≡ clear (mask / 2) (ra / 2)
  unfolding clear
  clear-half =
      let half = bit_and (mask / 2) (ra / 2) in
      let step : bit_and mask ra ≡ half * 2 + min (mask % 2) (ra % 2) = and_step mask ra in
      let most : half ≤ ra / 2 = and_le_r (mask / 2) (ra / 2) in
      omega arith

  clear_first : clear mask ra % 2 ≡ ra % 2 - min (mask % 2) (ra % 2)
  unfolding clear
  clear_first =
      let half = bit_and (mask / 2) (ra / 2) in
      let step : bit_and mask ra ≡ half * 2 + min (mask % 2) (ra % 2) = and_step mask ra in
      let most : half ≤ ra / 2 = and_le_r (mask / 2) (ra / 2) in
      omega arith

bit_left : (k mask ra : ℕ) → bit (clear mask ra) k ≡ bit ra k - min (bit mask k) (bit ra k)
bit_left zero mask ra = rw (bit_first (clear mask ra), bit_first mask, bit_first ra) (clear_first mask ra)
bit_left (suc k) mask ra =
    rw (bit_next (clear mask ra) k, bit_next mask k, bit_next ra k, clear-half mask ra) (bit_left k (mask / 2) (ra / 2))

cleared : (mask ra : ℕ) → Cleared mask ra (clear mask ra)
cleared mask ra =
    record {
      none = λ k set. ⊎_elim (λ e. by_bits k (omega arith)) (λ e. by_bits k (omega arith)) (bit_decided ra k);
      others = λ k unset. by_bits k (omega arith);
    }
  where
    by_bits : (k : ℕ) {b : ℕ} → bit ra k - min (bit mask k) (bit ra k) ≡ b → bit (clear mask ra) k ≡ b
    by_bits k e = bit_left k mask ra ∙ e

-- ---- the theorems

-- "has the mask's bits cleared from RA": it is the one number of which no bit of the mask is set and every other bit is RA's
pub clear_exactly_when : (mask ra value : ℕ) → (clear mask ra ≡ value) ↔ Cleared mask ra value
clear_exactly_when mask ra value = (
  λ e. rw e at (cleared mask ra),
  λ c.
      same_bits (clear mask ra) value
      (λ k.
      ⊎_elim
      (λ unset. (cleared mask ra).others k unset ∙ sym (c.others k unset))
      (λ set. (cleared mask ra).none k set ∙ sym (c.none k set))
      (bit_decided mask k)),
)

-- with mask 0 nothing is cleared
pub clear_none : (ra : ℕ) → clear 0 ra ≡ ra
unfolding clear
clear_none ra = omega arith

-- clearing twice changes nothing
pub clear_twice : (mask ra : ℕ) → clear mask (clear mask ra) ≡ clear mask ra
clear_twice mask ra =
    (clear_exactly_when mask (clear mask ra) (clear mask ra)).1 record { none = (cleared mask ra).none; others = λ k unset. refl }

-- nothing is left exactly where only bits of the mask are set
pub clear_all_exactly_when : (mask ra : ℕ) → (clear mask ra ≡ 0) ↔ OnlySignature mask ra
clear_all_exactly_when mask ra = (
  λ e k set.
      ⊎_elim
      (λ unset. absurd (let left = (cleared mask ra).others k unset in let gone = ap (λ n. bit n k) e ∙ bit_none k in omega (arith, left, gone, set)))
      (λ is. is)
      (bit_decided mask k),
  λ only.
      same_bits (clear mask ra) 0
      (λ k.
      ⊎_elim
      (λ unset.
      (cleared mask ra).others k unset
      ∙ ⊎_elim (λ e. e) (λ set. absurd (let is = only k set in omega (arith, is, unset))) (bit_decided ra k)
      ∙ sym (bit_none k))
      (λ set. (cleared mask ra).none k set ∙ sym (bit_none k))
      (bit_decided mask k)),
)

-- ---- which mask, by the row

module _ (shape : Shape) (row : Row) (process : Process) where
  pub mask_of_signed : Signed shape row → mask_of shape row process ≡ process.mask
  unfolding mask_of
  mask_of_signed signed = rw (is_true (signed_shows shape row) signed, mask_of)

  pub mask_of_unsigned : ¬ Signed shape row → mask_of shape row process ≡ 0
  unfolding mask_of
  mask_of_unsigned unsigned = rw (is_false (signed_shows shape row) unsigned, mask_of)
