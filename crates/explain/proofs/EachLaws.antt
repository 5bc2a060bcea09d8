-- Going through numbers in turn: one turn, the end, and what holds after all of them.
-- Assumes nothing.
use mathlib.Core.Path.{◌≡◌, refl, sym, ◌∙◌, ap}
use Prim.Native.Nat.{ℕ, zero, suc, ◌+◌, ◌-◌, ◌≤◌, ◌<◌}
use native.Mathlib.Numerals.{add-one}
use native.Mathlib.Omega.{arith}
use Rattle.explain.specs.Computed.Each.{each}

module _ {A : Type 0} (turn : A → ℕ → A) where
  on-at : (left n i : ℕ) (known : A) → n - i ≡ suc left → n - suc i ≡ left
      → each turn (n - i) i known ≡ each turn (n - suc i) (suc i) (turn known i)
  unfolding each
  on-at left n i known e less = ap (λ m. each turn m i known) e ∙ ap (λ m. each turn m (suc i) (turn known i)) (sym less)

  each_on : (n i : ℕ) (known : A) → i < n → each turn (n - i) i known ≡ each turn (n - (i + 1)) (i + 1) (turn known i)
  each_on n i known lt =
      on-at (n - suc i) n i known (omega arith) refl ∙ ap (λ m. each turn (n - m) m (turn known i)) (sym (add-one i))

  each-end : (n i : ℕ) (known : A) → n ≤ i → each turn (n - i) i known ≡ known
  unfolding each
  each-end n i known le = let none : n - i ≡ 0 = omega arith in ap (λ m. each turn m i known) none

  -- a loop that makes each turn: what is left comes to the whole

  pub each_next : (n i : ℕ) {known next whole : A} → i < n → next ≡ turn known i → each turn (n - i) i known ≡ whole
      → each turn (n - (i + 1)) (i + 1) next ≡ whole
  each_next n i {known} lt e so_far = ap (each turn (n - (i + 1)) (i + 1)) e ∙ sym (each_on n i known lt) ∙ so_far

  pub each_ends : (n i : ℕ) {known whole : A} → n ≤ i → each turn (n - i) i known ≡ whole → known ≡ whole
  each_ends n i {known} le so_far = sym (each-end n i known le) ∙ so_far

  -- what holds at first, and passes from one turn to the next, holds after all of them

  holds-from : (P : ℕ → A → Type 0) (n left i : ℕ) (known : A) → i + left ≡ n → ((j : ℕ) (a : A) → j < n → P j a → P (suc j) (turn a j))
      → P i known → P n (each turn left i known)
  unfolding each
  holds-from P n zero i known e next here = let same : n ≡ i = omega arith in rw same here
  holds-from P n (suc left) i known e next here = holds-from P n left (suc i) (turn known i) (omega arith) next (next i known (omega arith) here)

  pub each_holds : (P : ℕ → A → Type 0) (n : ℕ) (known : A) → ((j : ℕ) (a : A) → j < n → P j a → P (suc j) (turn a j))
      → P 0 known → P n (each turn n 0 known)
  each_holds P n known next here = holds-from P n n 0 known (omega arith) next here
