-- The exact sum of a base and an offset is what is said of it.
-- Assumes nothing.
use mathlib.Core.Path.{◌≡◌}
use Prim.Native.Nat.{ℕ, suc, ◌+◌, ◌-◌, ◌^◌, ◌≤◌, ◌<◌}
use native.Mathlib.Omega.{arith}
use lib.Dec.{leb}
use lib.IntN.{ℤ, pos, negsuc, ◌+ℤ◌}
use borrow.Author.Tests.{leb-true, leb-false}
use Rattle.numbers.specs.Inner.Shift.{shift_of}
use Rattle.numbers.proofs.DiffLaws.{Diff, diff_pos, diff_add, diff_same, diff_unique}
use Rattle.lookup.proofs.CoveringLaws.{by_value}
use Rattle.explain.specs.Why.{SumIs}
use Rattle.explain.specs.Computed.Sum.{sum_up, sum_down, sum_by, sum_of}

-- a sum as it is counted
is_pos : {z : ℤ} {a b : ℕ} (n : ℕ) → Diff z a b → a ≡ n + b → z ≡ pos n
is_pos n h e = diff_unique (diff_same n 0 (omega arith) h) (diff_pos n)

pub sum_is : (base : ℕ) (by : ℤ) → base < 2 ^ 64 → SumIs (pos base +ℤ by) (sum_of base by)
unfolding sum_of sum_by shift_of sum_up sum_down
sum_is base (pos k) lt =
    let sum = diff_add (diff_pos base) (diff_pos k) in
    by_value (leb k (2 ^ 64 - 1 - base))
    (λ e. let le : k ≤ 2 ^ 64 - 1 - base = leb-true _ _ e in rw (e, sum_up) (is_pos (base + k) sum (omega arith), omega arith))
    (λ e.
    let far : 2 ^ 64 - 1 - base < k = leb-false _ _ e in
    rw (e, sum_up) (is_pos (2 ^ 64 - 1 + (k - (2 ^ 64 - 1 - base))) sum (omega arith), omega arith))
sum_is base (negsuc k) lt =
    let less : Diff (negsuc k) 0 (suc k) = record { apart = omega arith } in
    let sum = diff_add (diff_pos base) less in
    by_value (leb (k + 1) base)
    (λ e. let le : k + 1 ≤ base = leb-true _ _ e in rw (e, sum_down) (is_pos (base - (k + 1)) sum (omega arith), omega arith))
    (λ e.
    let far : base < k + 1 = leb-false _ _ e in
    rw (e, sum_down) (is_pos 0 (diff_add sum (diff_pos (k + 1 - base))) (omega arith), omega arith))
