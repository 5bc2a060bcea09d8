-- The laws of signed numbers that the code needs where it computes on an i64: turning a negative one over, taking one
-- apart, and the difference that a signed field is. Assumes nothing.
use mathlib.Core.Path.{◌≡◌, refl, sym, ap}
use mathlib.Core.Bool.{true, false}
use Prim.Native.Nat.{ℕ, suc, ◌-◌, ◌^◌, ◌/◌, ◌≤◌, ◌<◌}
use native.Mathlib.Omega.{arith}
use lib.IntN.{ℤ, pos, negsuc, ◌-ℤ◌}
use lib.Signed.{lt_z}
use mir.Syntax.{w64}
use mir.Val.{SFits, to_z, of_z}
use mir.Facts.{to_z-of_z}
use borrow.Author.Tests.{ltb-true, le-ltb, lt-ltb}
use Rattle.numbers.specs.Signed.{signed_of, offset_of}
use Rattle.numbers.proofs.DiffLaws.{diff_less, diff_mag}

-- a negative number, and what -1 less it is, as it is computed and as it is read back
pub record Below (z : ℤ) : Type 0 where
  pub k : ℕ
  pub is : z ≡ negsuc k
  pub small : k < 2 ^ 63
  pub turned : negsuc 0 -ℤ to_z w64 (of_z w64 z) ≡ pos k
  pub back : to_z w64 (of_z w64 (negsuc 0 -ℤ to_z w64 (of_z w64 z))) ≡ pos k

-- a number that is not negative, and as it is read back
pub record Above (z : ℤ) : Type 0 where
  pub k : ℕ
  pub is : z ≡ pos k
  pub small : k < 2 ^ 63
  pub back : to_z w64 (of_z w64 z) ≡ pos k

minus_one : (k : ℕ) → negsuc 0 -ℤ negsuc k ≡ pos k
minus_one k =
    let e : suc k - suc 0 ≡ k = omega arith in
    rw (le-ltb (suc k) 1 (omega arith), e)

pub below : (z : ℤ) → SFits w64 z → lt_z (to_z w64 (of_z w64 z)) (pos 0) ≡ true → Below z
below (pos k) f e =
    let h : k < 0 = ltb-true k 0 (rw (to_z-of_z f) at e) in
    absurd (omega arith)
below (negsuc k) f e =
    let t : negsuc 0 -ℤ to_z w64 (of_z w64 (negsuc k)) ≡ pos k = rw (to_z-of_z f) (minus_one k) in
    let fits : SFits w64 (pos k) = record { sfits = f.sfits } in
    record { k = k; is = refl; small = f.sfits; turned = t; back = rw t (to_z-of_z fits) }

pub above : (z : ℤ) → SFits w64 z → lt_z (to_z w64 (of_z w64 z)) (pos 0) ≡ false → Above z
above (pos k) f e = record { k = k; is = refl; small = f.sfits; back = to_z-of_z f }
above (negsuc k) f e =
    let h : lt_z (negsuc k) (pos 0) ≡ false = rw (to_z-of_z f) at e in
    absurd (let z : ◌≡◌ {A = ℕ} 0 1 = cc in omega arith)

-- a number below 2 ^ 63 is the same as an i64
pub as_signed : (n : ℕ) → n < 2 ^ 63 → to_z w64 n ≡ pos n
as_signed n h =
    let fits : SFits w64 (pos n) = record { sfits = h } in
    to_z-of_z fits

-- the difference that a signed field is, as the code computes it
pub less_fits : (n full : ℕ) → n < 2 ^ 63 → full < 2 ^ 63 → SFits w64 (pos n -ℤ pos full)
less_fits n full p q = record { sfits = diff_mag (2 ^ 63) (diff_less n full) p (omega arith) }

-- a signed field in the lower half and in the upper half
pub signed_low : (width n : ℕ) → n < 256 ^ width / 2 → signed_of width n ≡ pos n
unfolding signed_of
signed_low width n h = rw (lt-ltb _ _ h, signed_of)

pub signed_high : (width n : ℕ) → 256 ^ width / 2 ≤ n → signed_of width n ≡ pos n -ℤ pos (256 ^ width)
unfolding signed_of
signed_high width n h = rw (le-ltb _ _ h, signed_of)

-- the offset of a signed field that is known
pub offset_is : (width n : ℕ) {z : ℤ} → signed_of width n ≡ z → record { by = z } ≡ offset_of width n
unfolding offset_of
offset_is width n e = ap (λ z. record { by = z }) (sym e)
