-- Two ways to go through many things in order: up to the first that is not as it should be, and from neighbours to any two.
-- Assumes nothing.
use mathlib.Core.Path.{sym, subst}
use mathlib.Core.Logic.{◌⊎◌, inl, inr, ⊎_elim}
use Prim.Native.Nat.{ℕ, zero, suc, ◌≤◌, ◌<◌}
use native.Mathlib.Nat.{eq-or-lt_of_le}
use native.Mathlib.Omega.{arith}

-- what holds below a number, and at it
and_here : {P : ℕ → Type 0} (count : ℕ) → ((k : ℕ) → k < count → P k) → P count → (k : ℕ) → k < suc count → P k
and_here {P} count all here k lt =
    let le : k ≤ count = omega arith in
    ⊎_elim (λ same. subst P (sym same) here) (all k) (eq-or-lt_of_le le)

-- each of `count` things is as it should be, or one of them, with all before it as they should be, leads to X
pub in_turn : {P : ℕ → Type 0} {X : Type 0} (count : ℕ) → ((k : ℕ) → k < count → ((j : ℕ) → j < k → P j) → P k ⊎ X)
    → ((k : ℕ) → k < count → P k) ⊎ X
in_turn zero turn = inl (λ k lt. absurd (omega arith))
in_turn (suc count) turn =
    ⊎_elim
    (λ all. ⊎_elim (λ here. inl (and_here count all here)) inr (turn count (omega arith) all))
    inr
    (in_turn count (λ k lt. turn k (omega arith)))

-- what holds of neighbours and passes on holds of any two in order
pub in_order : (R : ℕ → ℕ → Type 0) → ((i j k : ℕ) → R i j → R j k → R i k) → (count : ℕ) → ((i : ℕ) → suc i < count → R i (suc i))
    → (i j : ℕ) → i < j → j < count → R i j
in_order R pass count next i zero lt inside = absurd (omega arith)
in_order R pass count next i (suc j) lt inside =
    and_here {P = λ i. R i (suc j)} j
    (λ i less. pass i j (suc j) (in_order R pass count next i j less (omega arith)) (next j inside))
    (next j inside) i lt
