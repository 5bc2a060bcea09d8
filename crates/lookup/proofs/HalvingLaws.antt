-- The halving rule: what one turn of it does, how many entries it compares at the most, and where it lands among entries that
-- are in order.
-- Assumes nothing.
use mathlib.Core.Path.{◌≡◌, refl, sym, ◌∙◌}
use mathlib.Core.Bool.{Bool, true, false, true≢false}
use mathlib.Core.List.{List}
use Prim.Native.Nat.{ℕ, zero, suc, ◌+◌, ◌/◌, ◌^◌, ◌≤◌, ◌<◌}
use native.Mathlib.Omega.{arith}
use lib.Dec.{ltb}
use lib.IntN.{ℤ}
use lib.ListN.{length}
use borrow.Author.Tests.{ltb-true, ltb-false, lt-ltb, le-ltb}
use Rattle.section.specs.Meaning.{Function}
use Rattle.lookup.specs.Halving.{halve, starts_at_most, landing}
use Rattle.lookup.proofs.CoveringLaws.{by_value, unless_true}

-- ---- one turn

module _ (at_most : ℕ → Bool) where
  pub halve_up : (turns low high compared : ℕ) → low < high → at_most ((low + high) / 2) ≡ true
      → halve at_most (suc turns) low high compared ≡ halve at_most turns (suc ((low + high) / 2)) high (suc compared)
  unfolding halve
  halve_up turns low high compared lt e = rw (lt-ltb low high lt, halve) (rw e)

  pub halve_down : (turns low high compared : ℕ) → low < high → at_most ((low + high) / 2) ≡ false
      → halve at_most (suc turns) low high compared ≡ halve at_most turns low ((low + high) / 2) (suc compared)
  unfolding halve
  halve_down turns low high compared lt e = rw (lt-ltb low high lt, halve) (rw e)

  pub halve_stop : (turns low high compared : ℕ) → high ≤ low → halve at_most turns low high compared ≡ record { low = low; compared = compared }
  unfolding halve
  halve_stop zero low high compared le = refl
  halve_stop (suc turns) low high compared le = rw (le-ltb low high le, halve)

  -- go on by what the turn does
  pub by_turn : {X : Type 0} (low high : ℕ) → (high ≤ low → X) → (low < high → at_most ((low + high) / 2) ≡ true → X)
      → (low < high → at_most ((low + high) / 2) ≡ false → X) → X
  by_turn low high stop up down =
      by_value (ltb low high)
      (λ t. by_value (at_most ((low + high) / 2)) (up (ltb-true low high t)) (down (ltb-true low high t)))
      (λ t. stop (ltb-false low high t))

  -- ---- the rule ends by itself

  -- where there are as many turns as entries between low and high, more of them change nothing
  pub turns_enough : (turns more low high compared : ℕ) → turns ≤ more → high ≤ low + turns
      → halve at_most more low high compared ≡ halve at_most turns low high compared
  turns_enough zero more low high compared fewer le =
      halve_stop more low high compared (omega arith) ∙ sym (halve_stop zero low high compared (omega arith))
  turns_enough (suc turns) zero low high compared fewer le = absurd (omega arith)
  turns_enough (suc turns) (suc more) low high compared fewer le =
      by_turn low high
      (λ over. halve_stop (suc more) low high compared over ∙ sym (halve_stop (suc turns) low high compared over))
      (λ less e.
      halve_up more low high compared less e
      ∙ turns_enough turns more (suc ((low + high) / 2)) high (suc compared) (omega arith) (omega arith)
      ∙ sym (halve_up turns low high compared less e))
      (λ less e.
      halve_down more low high compared less e
      ∙ turns_enough turns more low ((low + high) / 2) (suc compared) (omega arith) (omega arith)
      ∙ sym (halve_down turns low high compared less e))

  -- ---- how many are compared

  -- fewer than 2 ^ j entries are left: at most j of them are compared
  pub count_from : (turns low high compared j : ℕ) → high < low + 2 ^ j → (halve at_most turns low high compared).compared ≤ compared + j
  unfolding halve
  count_from zero low high compared j lt = omega arith
  count_from (suc turns) low high compared zero lt = rw (halve_stop (suc turns) low high compared (omega arith)) (omega arith)
  count_from (suc turns) low high compared (suc j) lt =
      by_turn low high
      (λ stop. rw (halve_stop (suc turns) low high compared stop) (omega arith))
      (λ less e.
      rw (halve_up turns low high compared less e)
      (omega (arith, count_from turns (suc ((low + high) / 2)) high (suc compared) j (omega arith))))
      (λ less e.
      rw (halve_down turns low high compared less e) (omega (arith, count_from turns low ((low + high) / 2) (suc compared) j (omega arith))))

-- ---- where it lands

-- of n entries, exactly those below `low` pass the test
pub record Lands (at_most : ℕ → Bool) (n low : ℕ) : Type 0 where
  pub inside : low ≤ n
  pub below : (i : ℕ) → i < low → at_most i ≡ true
  pub above : (i : ℕ) → low ≤ i → i < n → at_most i ≡ false

module _ (at_most : ℕ → Bool) (n : ℕ) (ordered : (i j : ℕ) → i ≤ j → j < n → at_most j ≡ true → at_most i ≡ true) where
  stops : (turns low high compared : ℕ) → high ≤ low → low ≤ n → ((i : ℕ) → i < low → at_most i ≡ true)
      → ((i : ℕ) → high ≤ i → i < n → at_most i ≡ false) → Lands at_most n (halve at_most turns low high compared).low
  stops turns low high compared stop inside below above =
      rw (halve_stop at_most turns low high compared stop)
      (record { inside = inside; below = below; above = λ i from lt. above i (omega arith) lt })

  -- all below `low` pass, none from `high` on does, and the turns suffice
  lands-from : (turns low high compared : ℕ) → high ≤ low + turns → low ≤ high → high ≤ n → ((i : ℕ) → i < low → at_most i ≡ true)
      → ((i : ℕ) → high ≤ i → i < n → at_most i ≡ false) → Lands at_most n (halve at_most turns low high compared).low
  lands-from zero low high compared few le inside below above = stops zero low high compared (omega arith) (omega arith) below above
  lands-from (suc turns) low high compared few le inside below above =
      by_turn at_most low high
      (λ stop. stops (suc turns) low high compared stop (omega arith) below above)
      (λ less e.
      rw (halve_up at_most turns low high compared less e)
      (lands-from turns (suc ((low + high) / 2)) high (suc compared) (omega arith) (omega arith) inside
      (λ i lt. ordered i ((low + high) / 2) (omega arith) (omega arith) e) above))
      (λ less e.
      rw (halve_down at_most turns low high compared less e)
      (lands-from turns low ((low + high) / 2) (suc compared) (omega arith) (omega arith) (omega arith) below
      (λ i from lt. unless_true (at_most i) (λ t. true≢false (sym (ordered ((low + high) / 2) i from lt t) ∙ e)))))

  pub halve_lands : Lands at_most n (halve at_most n 0 n 0).low
  halve_lands =
      lands-from n 0 n 0 (omega arith) (omega arith) (omega arith) (λ i lt. absurd (omega arith)) (λ i from lt. absurd (omega arith))

-- ---- a list of functions

module _ (d : ℤ) (fs : List Function) where
  pub count_none : length fs ≡ 0 → (landing d fs).compared ≡ 0
  unfolding landing
  count_none none = rw (halve_stop (starts_at_most d fs) (length fs) 0 (length fs) 0 (omega arith))

  pub count_below : (j : ℕ) → length fs < 2 ^ j → (landing d fs).compared ≤ j
  unfolding landing
  count_below j lt = omega (arith, count_from (starts_at_most d fs) (length fs) 0 (length fs) 0 j (omega arith))

  -- at most 1 + the whole part of the logarithm of n to the base 2, which is j
  pub count_log : (j : ℕ) → 2 ^ j ≤ length fs → length fs < 2 ^ (1 + j) → (landing d fs).compared ≤ 1 + j
  count_log j least most = count_below (1 + j) most

  pub count_twenty : length fs ≤ 838859 → (landing d fs).compared ≤ 20
  count_twenty few = count_below 20 (omega arith)
