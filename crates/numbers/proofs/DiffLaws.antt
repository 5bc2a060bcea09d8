-- A whole number as a difference of two natural ones: `Diff z a b` says that z is a less b, exactly. It is how a statement
-- over ℤ is carried to the unsigned numbers that the code compares, by laws that `omega` then finishes.
-- Assumes nothing.
use mathlib.Core.Path.{◌≡◌, refl, ap}
use mathlib.Core.Bool.{Bool, true, false, cond}
use Prim.Native.Nat.{ℕ, zero, suc, ◌+◌, ◌-◌, ◌≤◌, ◌<◌}
use native.Mathlib.Omega.{arith}
use lib.Dec.{ltb, leb}
use lib.IntN.{ℤ, pos, negsuc, ◌+ℤ◌, ◌-ℤ◌, neg_ℤ, sub_ℕ}
use lib.Signed.{lt_z, le_z, mag}
use borrow.Author.Tests.{ltb-true, ltb-false, leb-true, leb-false, le-ltb, lt-ltb, le-leb, lt-leb}

abbrev pub Apart : ℤ → ℕ → ℕ → Type 0
Apart (pos k) a b = a ≡ b + k
Apart (negsuc k) a b = b ≡ a + suc k

pub record Diff (z : ℤ) (a b : ℕ) : Type 0 where
  pub apart : Apart z a b

-- ---- making one

pub diff_pos : (k : ℕ) → Diff (pos k) k 0
diff_pos k = record { apart = omega arith }

sub_at : (a b : ℕ) (t : Bool) → ltb a b ≡ t → Apart (cond t (negsuc (b - suc a)) (pos (a - b))) a b
sub_at a b true e = let h : a < b = ltb-true a b e in omega arith
sub_at a b false e = let h : b ≤ a = ltb-false a b e in omega arith

pub diff_sub : (a b : ℕ) → Diff (sub_ℕ a b) a b
diff_sub a b = record { apart = sub_at a b (ltb a b) refl }

-- the same number, by two others that are as far apart
same_at : (z : ℤ) (a b c d : ℕ) → a + d ≡ c + b → Apart z a b → Apart z c d
same_at (pos k) a b c d e h = omega arith
same_at (negsuc k) a b c d e h = omega arith

pub diff_same : {z : ℤ} {a b : ℕ} (c d : ℕ) → a + d ≡ c + b → Diff z a b → Diff z c d
diff_same {z} {a} {b} c d e h = record { apart = same_at z a b c d e h.apart }

neg_at : (z : ℤ) (a b : ℕ) → Apart z a b → Apart (neg_ℤ z) b a
neg_at (pos zero) a b h = omega arith
neg_at (pos (suc k)) a b h = h
neg_at (negsuc k) a b h = h

pub diff_neg : {z : ℤ} {a b : ℕ} → Diff z a b → Diff (neg_ℤ z) b a
diff_neg {z} {a} {b} h = record { apart = neg_at z a b h.apart }

add_at : (y z : ℤ) (a b c d : ℕ) → Apart y a b → Apart z c d → Apart (y +ℤ z) (a + c) (b + d)
add_at (pos j) (pos k) a b c d h i = omega arith
add_at (pos j) (negsuc k) a b c d h i = same_at (sub_ℕ j (suc k)) j (suc k) (a + c) (b + d) (omega arith) (diff_sub j (suc k)).apart
add_at (negsuc j) (pos k) a b c d h i = same_at (sub_ℕ k (suc j)) k (suc j) (a + c) (b + d) (omega arith) (diff_sub k (suc j)).apart
add_at (negsuc j) (negsuc k) a b c d h i = omega arith

pub diff_add : {y z : ℤ} {a b c d : ℕ} → Diff y a b → Diff z c d → Diff (y +ℤ z) (a + c) (b + d)
diff_add {y} {z} {a} {b} {c} {d} h i = record { apart = add_at y z a b c d h.apart i.apart }

-- a less b, written as document 01 writes it
pub diff_less : (a b : ℕ) → Diff (pos a -ℤ pos b) a b
diff_less a b = diff_same a b (omega arith) (diff_add (diff_pos a) (diff_neg (diff_pos b)))

-- ---- what one tells

unique_at : (y z : ℤ) (a b : ℕ) → Apart y a b → Apart z a b → y ≡ z
unique_at (pos j) (pos k) a b h i = ap pos (omega arith)
unique_at (pos j) (negsuc k) a b h i = absurd (omega arith)
unique_at (negsuc j) (pos k) a b h i = absurd (omega arith)
unique_at (negsuc j) (negsuc k) a b h i = ap negsuc (omega arith)

pub diff_unique : {y z : ℤ} {a b : ℕ} → Diff y a b → Diff z a b → y ≡ z
diff_unique {y} {z} {a} {b} h i = unique_at y z a b h.apart i.apart

-- a comparison of two whole numbers is one of natural numbers
le_at : (y z : ℤ) (a b c d : ℕ) (t : Bool) → leb (a + d) (c + b) ≡ t → Apart y a b → Apart z c d → le_z y z ≡ t
le_at (pos j) (pos k) a b c d true e h i = let w : a + d ≤ c + b = leb-true _ _ e in le-leb j k (omega arith)
le_at (pos j) (pos k) a b c d false e h i = let w : c + b < a + d = leb-false _ _ e in lt-leb j k (omega arith)
le_at (pos j) (negsuc k) a b c d true e h i = let w : a + d ≤ c + b = leb-true _ _ e in absurd (omega arith)
le_at (pos j) (negsuc k) a b c d false e h i = refl
le_at (negsuc j) (pos k) a b c d true e h i = refl
le_at (negsuc j) (pos k) a b c d false e h i = let w : c + b < a + d = leb-false _ _ e in absurd (omega arith)
le_at (negsuc j) (negsuc k) a b c d true e h i = let w : a + d ≤ c + b = leb-true _ _ e in le-leb k j (omega arith)
le_at (negsuc j) (negsuc k) a b c d false e h i = let w : c + b < a + d = leb-false _ _ e in lt-leb k j (omega arith)

pub diff_le : {y z : ℤ} {a b c d : ℕ} → Diff y a b → Diff z c d → le_z y z ≡ leb (a + d) (c + b)
diff_le {y} {z} {a} {b} {c} {d} h i = le_at y z a b c d (leb (a + d) (c + b)) refl h.apart i.apart

lt_at : (y z : ℤ) (a b c d : ℕ) (t : Bool) → ltb (a + d) (c + b) ≡ t → Apart y a b → Apart z c d → lt_z y z ≡ t
lt_at (pos j) (pos k) a b c d true e h i = let w : a + d < c + b = ltb-true _ _ e in lt-ltb j k (omega arith)
lt_at (pos j) (pos k) a b c d false e h i = let w : c + b ≤ a + d = ltb-false _ _ e in le-ltb j k (omega arith)
lt_at (pos j) (negsuc k) a b c d true e h i = let w : a + d < c + b = ltb-true _ _ e in absurd (omega arith)
lt_at (pos j) (negsuc k) a b c d false e h i = refl
lt_at (negsuc j) (pos k) a b c d true e h i = refl
lt_at (negsuc j) (pos k) a b c d false e h i = let w : c + b ≤ a + d = ltb-false _ _ e in absurd (omega arith)
lt_at (negsuc j) (negsuc k) a b c d true e h i = let w : a + d < c + b = ltb-true _ _ e in lt-ltb k j (omega arith)
lt_at (negsuc j) (negsuc k) a b c d false e h i = let w : c + b ≤ a + d = ltb-false _ _ e in le-ltb k j (omega arith)

pub diff_lt : {y z : ℤ} {a b c d : ℕ} → Diff y a b → Diff z c d → lt_z y z ≡ ltb (a + d) (c + b)
diff_lt {y} {z} {a} {b} {c} {d} h i = lt_at y z a b c d (ltb (a + d) (c + b)) refl h.apart i.apart

-- a number is no further from 0 than the larger of the two
mag_at : (z : ℤ) (a b bound : ℕ) → Apart z a b → a < bound → b ≤ bound → mag z < bound
mag_at (pos k) a b bound h p q = omega arith
mag_at (negsuc k) a b bound h p q = omega arith

pub diff_mag : {z : ℤ} {a b : ℕ} (bound : ℕ) → Diff z a b → a < bound → b ≤ bound → mag z < bound
diff_mag {z} {a} {b} bound h p q = mag_at z a b bound h.apart p q
