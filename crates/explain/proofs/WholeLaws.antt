-- The order of whole numbers, by the natural ones whose differences they are, so that `omega` finishes; and what it is to be nearer to a
-- place on one side of it.
-- Assumes nothing.
use mathlib.Core.Path.{sym, ◌∙◌}
use Prim.Native.Nat.{ℕ, suc, ◌+◌, ◌≤◌, ◌<◌}
use native.Mathlib.Omega.{arith}
use lib.IntN.{ℤ, pos, negsuc}
use lib.Signed.{◌≤ℤ◌, ◌<ℤ◌}
use borrow.Author.Tests.{leb-true, ltb-true, le-leb, lt-ltb}
use Rattle.numbers.proofs.DiffLaws.{Diff, diff_pos, diff_le, diff_lt}
use Rattle.lookup.proofs.CoveringLaws.{is_true, le_shows, lt_shows}

-- some two natural numbers of which z is the difference
pub record Split (z : ℤ) : Type 0 where
  pub up : ℕ
  pub down : ℕ
  pub diff : Diff z up down

pub split : (z : ℤ) → Split z
split (pos k) = record { up = k; down = 0; diff = diff_pos k }
split (negsuc k) = record { up = 0; down = suc k; diff = record { apart = omega arith } }

module _ {y z : ℤ} {a b c d : ℕ} (h : Diff y a b) (i : Diff z c d) where
  pub le_of : y ≤ℤ z → a + d ≤ c + b
  le_of le = leb-true (a + d) (c + b) (sym (diff_le h i) ∙ is_true (le_shows y z) le)

  pub of_le : a + d ≤ c + b → y ≤ℤ z
  of_le le = (le_shows y z).holds (diff_le h i ∙ le-leb (a + d) (c + b) le)

  pub lt_of : y <ℤ z → a + d < c + b
  lt_of lt = ltb-true (a + d) (c + b) (sym (diff_lt h i) ∙ is_true (lt_shows y z) lt)

  pub of_lt : a + d < c + b → y <ℤ z
  of_lt lt = (lt_shows y z).holds (diff_lt h i ∙ lt-ltb (a + d) (c + b) lt)

-- ---- the one or the other

pub not_less : {y z : ℤ} → ¬ (y <ℤ z) → z ≤ℤ y
not_less {y} {z} no_less =
    let a = (split y).diff in
    let b = (split z).diff in
    let far : ¬ ((split y).up + (split z).down < (split z).up + (split y).down) = λ lt. no_less (of_lt a b lt) in
    of_le b a (omega arith)

pub not_le : {y z : ℤ} → ¬ (y ≤ℤ z) → z <ℤ y
not_le {y} {z} no_more =
    let a = (split y).diff in
    let b = (split z).diff in
    let far : ¬ ((split y).up + (split z).down ≤ (split z).up + (split y).down) = λ le. no_more (of_le a b le) in
    of_lt b a (omega arith)

pub less_at_most : {y z : ℤ} → y <ℤ z → y ≤ℤ z
less_at_most {y} {z} lt = of_le (split y).diff (split z).diff (omega (arith, lt_of (split y).diff (split z).diff lt))
