-- Which entries the halving rule compares: as many as it counts, all below `high`, and the one before where it lands is one of them. Where it
-- lands rests on no other entry.
-- Assumes nothing.
use mathlib.Core.Path.{◌≡◌, refl, sym, ◌∙◌, ap, subst}
use mathlib.Core.Bool.{Bool, true, false, true≢false}
use mathlib.Core.List.Memᴰ
use mathlib.Core.List.{List, ◌∷◌, Memᴰ}
use mathlib.Core.Logic.{◌⊎◌, inl, inr, ◌↔◌, ⊎_elim}
use Prim.Native.Nat.{ℕ, zero, suc, ◌+◌, ◌/◌, ◌≤◌, ◌<◌}
use native.Mathlib.Omega.{arith}
use lib.IntN.{ℤ}
use lib.ListN.{length}
use borrow.Author.Tests.{lt-ltb, le-ltb}
use Rattle.section.specs.Meaning.{Function}
use Rattle.lookup.specs.Halving.{halve, starts_at_most, landing}
use Rattle.lookup.proofs.HalvingLaws.{halve_up, halve_down, halve_stop, by_turn}
use Rattle.ask.specs.Compared.{middles, entries_compared}

-- ---- one turn

module _ (at_most : ℕ → Bool) where
  middles-up : (turns low high : ℕ) → low < high → at_most ((low + high) / 2) ≡ true
      → middles at_most (suc turns) low high ≡ (low + high) / 2 ∷ middles at_most turns (suc ((low + high) / 2)) high
  unfolding middles
  middles-up turns low high lt e = rw (lt-ltb low high lt, middles) (rw e)

  middles-down : (turns low high : ℕ) → low < high → at_most ((low + high) / 2) ≡ false
      → middles at_most (suc turns) low high ≡ (low + high) / 2 ∷ middles at_most turns low ((low + high) / 2)
  unfolding middles
  middles-down turns low high lt e = rw (lt-ltb low high lt, middles) (rw e)

  middles-stop : (turns low high : ℕ) → high ≤ low → middles at_most (suc turns) low high ≡ middles at_most zero low high
  unfolding middles
  middles-stop turns low high le = rw (le-ltb low high le, middles)

  -- ---- how many, and which

  as-many-from : (turns low high compared : ℕ)
      → (halve at_most turns low high compared).compared ≡ compared + length (middles at_most turns low high)
  unfolding halve middles
  as-many-from zero low high compared = omega arith
  as-many-from (suc turns) low high compared =
      by_turn at_most low high
      (λ stop. rw (halve_stop at_most (suc turns) low high compared stop, middles-stop turns low high stop) (omega arith))
      (λ less e.
      rw (halve_up at_most turns low high compared less e, middles-up turns low high less e)
      (as-many-from turns (suc ((low + high) / 2)) high (suc compared) ∙ omega arith))
      (λ less e.
      rw (halve_down at_most turns low high compared less e, middles-down turns low high less e)
      (as-many-from turns low ((low + high) / 2) (suc compared) ∙ omega arith))

  below-high : (turns low high i : ℕ) → Memᴰ i (middles at_most turns low high) → i < high
  unfolding middles
  below-high zero low high i member = absurd (Memᴰ.not-nil member)
  below-high (suc turns) low high i member =
      by_turn at_most low high
      (λ stop. absurd (Memᴰ.not-nil (subst (Memᴰ i) (middles-stop turns low high stop) member)))
      (λ less e.
      ⊎_elim
      (λ is. omega arith)
      (λ later. below-high turns (suc ((low + high) / 2)) high i later)
      (Memᴰ.cases_cons (subst (Memᴰ i) (middles-up turns low high less e) member)))
      (λ less e.
      ⊎_elim
      (λ is. omega arith)
      (λ later. omega (arith, below-high turns low ((low + high) / 2) i later))
      (Memᴰ.cases_cons (subst (Memᴰ i) (middles-down turns low high less e) member)))

  -- ---- where it lands

  low-within : (turns low high compared : ℕ) → low ≤ high → (halve at_most turns low high compared).low ≤ high
  unfolding halve
  low-within zero low high compared le = le
  low-within (suc turns) low high compared le =
      by_turn at_most low high
      (λ stop. rw (halve_stop at_most (suc turns) low high compared stop) le)
      (λ less e.
      rw (halve_up at_most turns low high compared less e) (low-within turns (suc ((low + high) / 2)) high (suc compared) (omega arith)))
      (λ less e.
      rw (halve_down at_most turns low high compared less e)
      (omega (arith, low-within turns low ((low + high) / 2) (suc compared) (omega arith))))

  -- where low moved, the entry before it was compared
  before-low : (turns low high compared i : ℕ) → (halve at_most turns low high compared).low ≡ suc i
      → (low ≡ suc i) ⊎ Memᴰ i (middles at_most turns low high)
  unfolding halve
  before-low zero low high compared i is = inl is
  before-low (suc turns) low high compared i is =
      by_turn at_most low high
      (λ stop. inl (rw (halve_stop at_most (suc turns) low high compared stop) at is))
      (λ less e.
      let back = subst (Memᴰ i) (sym (middles-up turns low high less e)) in
      ⊎_elim
      (λ moved. inr (back (Memᴰ.head (omega arith))))
      (λ later. inr (back (Memᴰ.tail later)))
      (before-low turns (suc ((low + high) / 2)) high (suc compared) i (sym (ap (λ l. l.low) (halve_up at_most turns low high compared less e)) ∙ is)))
      (λ less e.
      let back = subst (Memᴰ i) (sym (middles-down turns low high less e)) in
      ⊎_elim
      inl
      (λ later. inr (back (Memᴰ.tail later)))
      (before-low turns low ((low + high) / 2) (suc compared) i (sym (ap (λ l. l.low) (halve_down at_most turns low high compared less e)) ∙ is)))

  -- and it passed the test
  passes-before : (turns low high compared i : ℕ) → (halve at_most turns low high compared).low ≡ suc i → (low ≡ suc i) ⊎ (at_most i ≡ true)
  unfolding halve
  passes-before zero low high compared i is = inl is
  passes-before (suc turns) low high compared i is =
      by_turn at_most low high
      (λ stop. inl (rw (halve_stop at_most (suc turns) low high compared stop) at is))
      (λ less e.
      ⊎_elim
      (λ moved. let same : (low + high) / 2 ≡ i = omega arith in inr (rw same at e))
      inr
      (passes-before turns (suc ((low + high) / 2)) high (suc compared) i (sym (ap (λ l. l.low) (halve_up at_most turns low high compared less e)) ∙ is)))
      (λ less e.
      passes-before turns low ((low + high) / 2) (suc compared) i (sym (ap (λ l. l.low) (halve_down at_most turns low high compared less e)) ∙ is))

  low-grows : (turns low high compared : ℕ) → low ≤ (halve at_most turns low high compared).low
  unfolding halve
  low-grows zero low high compared = omega arith
  low-grows (suc turns) low high compared =
      by_turn at_most low high
      (λ stop. rw (halve_stop at_most (suc turns) low high compared stop) (omega arith))
      (λ less e.
      rw (halve_up at_most turns low high compared less e) (omega (arith, low-grows turns (suc ((low + high) / 2)) high (suc compared))))
      (λ less e. rw (halve_down at_most turns low high compared less e) (low-grows turns low ((low + high) / 2) (suc compared)))

  -- every entry compared that passes stands before where it lands
  up-to-low : (turns low high compared j : ℕ) → Memᴰ j (middles at_most turns low high) → at_most j ≡ true
      → j < (halve at_most turns low high compared).low
  unfolding middles
  up-to-low zero low high compared j member set = absurd (Memᴰ.not-nil member)
  up-to-low (suc turns) low high compared j member set =
      by_turn at_most low high
      (λ stop. absurd (Memᴰ.not-nil (subst (Memᴰ j) (middles-stop turns low high stop) member)))
      (λ less e.
      rw (halve_up at_most turns low high compared less e)
      (⊎_elim
      (λ is. omega (arith, is, low-grows turns (suc ((low + high) / 2)) high (suc compared)))
      (λ later. up-to-low turns (suc ((low + high) / 2)) high (suc compared) j later set)
      (Memᴰ.cases_cons (subst (Memᴰ j) (middles-up turns low high less e) member))))
      (λ less e.
      rw (halve_down at_most turns low high compared less e)
      (⊎_elim
      (λ is. absurd (true≢false (sym set ∙ ap at_most is ∙ e)))
      (λ later. up-to-low turns low ((low + high) / 2) (suc compared) j later set)
      (Memᴰ.cases_cons (subst (Memᴰ j) (middles-down turns low high less e) member))))

-- two tests that agree on the entries compared land alike, and count alike
halve_agrees : (f g : ℕ → Bool) (turns low high compared : ℕ) → ((i : ℕ) → Memᴰ i (middles f turns low high) → f i ≡ g i)
    → halve f turns low high compared ≡ halve g turns low high compared
unfolding halve
halve_agrees f g zero low high compared same = refl
halve_agrees f g (suc turns) low high compared same =
    by_turn f low high
    (λ stop. halve_stop f (suc turns) low high compared stop ∙ sym (halve_stop g (suc turns) low high compared stop))
    (λ less e.
    let also = sym (same ((low + high) / 2) (subst (Memᴰ _) (sym (middles-up f turns low high less e)) (Memᴰ.head refl))) ∙ e in
    halve_up f turns low high compared less e
    ∙ halve_agrees f g turns (suc ((low + high) / 2)) high (suc compared)
    (λ i later. same i (subst (Memᴰ i) (sym (middles-up f turns low high less e)) (Memᴰ.tail later)))
    ∙ sym (halve_up g turns low high compared less also))
    (λ less e.
    let also = sym (same ((low + high) / 2) (subst (Memᴰ _) (sym (middles-down f turns low high less e)) (Memᴰ.head refl))) ∙ e in
    halve_down f turns low high compared less e
    ∙ halve_agrees f g turns low ((low + high) / 2) (suc compared)
    (λ i later. same i (subst (Memᴰ i) (sym (middles-down f turns low high less e)) (Memᴰ.tail later)))
    ∙ sym (halve_down g turns low high compared less also))

-- ---- a list of functions

module _ (d : ℤ) (fs : List Function) where
  -- the list of those compared is as long as the count
  pub as_many_compared : length (entries_compared d fs) ≡ (landing d fs).compared
  unfolding entries_compared landing
  as_many_compared = sym (as-many-from (starts_at_most d fs) (length fs) 0 (length fs) 0 ∙ omega arith)

  pub compared_within : (i : ℕ) → Memᴰ i (entries_compared d fs) → i < length fs
  unfolding entries_compared
  compared_within i member = below-high (starts_at_most d fs) (length fs) 0 (length fs) i member

  pub landing_within : (landing d fs).low ≤ length fs
  unfolding landing
  landing_within = low-within (starts_at_most d fs) (length fs) 0 (length fs) 0 (omega arith)

  -- the function landed on is one of those compared
  pub landed_compared : (i : ℕ) → (landing d fs).low ≡ suc i → Memᴰ i (entries_compared d fs)
  unfolding entries_compared landing
  landed_compared i is =
      ⊎_elim (λ none. absurd (omega arith)) (λ member. member) (before-low (starts_at_most d fs) (length fs) 0 (length fs) 0 i is)

  -- so it is the last of those compared that start at most at d: by its place among the entries, and by when it is compared
  pub lands_exactly_when : (i : ℕ) → ((landing d fs).low ≡ suc i)
      ↔ (Memᴰ i (entries_compared d fs) × (starts_at_most d fs i ≡ true)
      × ((j : ℕ) → Memᴰ j (entries_compared d fs) → starts_at_most d fs j ≡ true → j ≤ i))
  unfolding entries_compared landing
  lands_exactly_when i = (
    λ is. (landed_compared i is, passed i is, λ j member set. omega (arith, before j member set, is)),
    λ h.
        let (member, set, last) = h in
        by (halve (starts_at_most d fs) (length fs) 0 (length fs) 0).low refl (before i member set) last,
  )
    where
      before : (j : ℕ) → Memᴰ j (middles (starts_at_most d fs) (length fs) 0 (length fs)) → starts_at_most d fs j ≡ true
          → j < (halve (starts_at_most d fs) (length fs) 0 (length fs) 0).low
      before j member set = up-to-low (starts_at_most d fs) (length fs) 0 (length fs) 0 j member set

      passed : (j : ℕ) → (halve (starts_at_most d fs) (length fs) 0 (length fs) 0).low ≡ suc j → starts_at_most d fs j ≡ true
      passed j is =
          ⊎_elim (λ none. absurd (omega arith)) (λ set. set) (passes-before (starts_at_most d fs) (length fs) 0 (length fs) 0 j is)

      by : (low : ℕ) → (halve (starts_at_most d fs) (length fs) 0 (length fs) 0).low ≡ low → i < (halve (starts_at_most d fs) (length fs) 0 (length fs) 0).low
          → ((j : ℕ) → Memᴰ j (middles (starts_at_most d fs) (length fs) 0 (length fs)) → starts_at_most d fs j ≡ true → j ≤ i)
          → (halve (starts_at_most d fs) (length fs) 0 (length fs) 0).low ≡ suc i
      by zero is lt last = absurd (omega arith)
      by (suc k) is lt last = let le = last k (landed_compared k is) (passed k is) in omega arith

-- two lists of one length that agree on the starts of those compared
pub landing_agrees : (d : ℤ) (fs gs : List Function) → length fs ≡ length gs
    → ((i : ℕ) → Memᴰ i (entries_compared d fs) → starts_at_most d fs i ≡ starts_at_most d gs i) → landing d fs ≡ landing d gs
unfolding entries_compared landing
landing_agrees d fs gs long same =
    rw (← long) (halve_agrees (starts_at_most d fs) (starts_at_most d gs) (length fs) 0 (length fs) 0 same)
