-- All functions that cover: trying function after function numbers them from 0 on, rising, and keeps the first sixteen.
-- Assumes nothing.
use mathlib.Core.Path.{◌≡◌, refl, sym, ◌∙◌}
use mathlib.Core.Bool.{Bool, true, false, true≢false}
use mathlib.Core.List.{List}
use mathlib.Core.Logic.{◌⊎◌, inl, inr, ⊎_elim}
use Prim.Native.Nat.{ℕ, suc, ◌+◌, ◌≤◌, ◌<◌}
use native.Mathlib.Nat.{eq-or-lt_of_le}
use native.Mathlib.Omega.{arith}
use lib.Dec.{ltb, eqb}
use lib.IntN.{ℤ}
use lib.ListN.{length, get_or, set, length-set, length-replicate}
use lib.Seq.{get_or-set_same, get_or-set_other}
use borrow.Author.Tests.{lt-ltb, ltb-true, ltb-false, eq-eqb, ne_eqb}
use Rattle.section.specs.Meaning.{function_in}
use Rattle.accept.specs.Rules.{function_count}
use Rattle.lookup.specs.Cases.{Covers}
use Rattle.lookup.specs.Computed.Covering.{covers}
use Rattle.lookup.proofs.CoveringLaws.{by_value}
use Rattle.explain.specs.Why.{AllCovering}
use Rattle.explain.specs.Computed.Coverers.{no_coverers, placed, with_index, with_if, coverers_in}
use Rattle.explain.specs.declared.why.Coverers.{Coverers}
use Rattle.explain.proofs.CoversLaws.{cover_tests, tests_cover}
use Rattle.explain.proofs.EachLaws.{each_holds}

-- ---- the first sixteen

module _ (indexes : List ℕ) (room : length indexes ≡ 16) (count i : ℕ) where
  placed-room : length (placed count i indexes) ≡ 16
  unfolding placed
  placed-room =
      by_value (ltb count 16) (λ e. rw (e, placed) (length-set indexes count i ∙ room)) (λ e. rw (e, placed) room)

  placed-here : count < 16 → get_or (placed count i indexes) count 0 ≡ i
  unfolding placed
  placed-here lt = rw (lt-ltb count 16 lt, placed) (get_or-set_same indexes count i 0 (rw room lt))

  placed-others : (k : ℕ) → k < count → get_or (placed count i indexes) k 0 ≡ get_or indexes k 0
  unfolding placed
  placed-others k less =
      by_value (ltb count 16)
      (λ e. rw (e, placed) (get_or-set_other indexes count k i 0 (λ same. omega arith)))
      (λ e. rw (e, placed))

-- ---- those of the first n numbers of which a test is true

record Gathered (test : ℕ → Bool) (n : ℕ) (known : Coverers) : Type 0 where
  nth : ℕ → ℕ
  below : (k : ℕ) → k < known.count → nth k < n
  tested : (k : ℕ) → k < known.count → test (nth k) ≡ true
  rises : (j k : ℕ) → j < k → k < known.count → nth j < nth k
  every : (i : ℕ) → i < n → test i ≡ true → (k : ℕ) × (k < known.count) × (nth k ≡ i)
  shown : (k : ℕ) → k < 16 → k < known.count → get_or known.indexes k 0 ≡ nth k
  room : length known.indexes ≡ 16

module _ (test : ℕ → Bool) where
  begun : Gathered test 0 no_coverers
  unfolding no_coverers
  begun =
      record {
        nth = λ k. k;
        below = λ k lt. absurd (omega arith);
        tested = λ k lt. absurd (omega arith);
        rises = λ j k less lt. absurd (omega arith);
        every = λ i lt e. absurd (omega arith);
        shown = λ k lt some. absurd (omega arith);
        room = length-replicate {A = ℕ} 16 0;
      }

  module _ (n : ℕ) (known : Coverers) (h : Gathered test n known) where
    -- number n is none of them
    passed : test n ≡ false → Gathered test (suc n) known
    passed unset =
        record {
          nth = h.nth;
          below = λ k lt. omega (arith, h.below k lt);
          tested = h.tested;
          rises = h.rises;
          every = λ i lt e.
              let le : i ≤ n = omega arith in
              ⊎_elim
              (λ same. absurd (true≢false (sym e ∙ rw same unset)))
              (λ less. h.every i less e)
              (eq-or-lt_of_le le);
          shown = h.shown;
          room = h.room;
        }

    -- it is one more: the last so far
    nth-now : ℕ → ℕ
    nth-now k = elim (eqb k known.count) [ true ↦ n | false ↦ h.nth k ]

    nth_last : nth-now known.count ≡ n
    unfolding nth-now
    nth_last = rw (eq-eqb known.count known.count refl, nth-now)

    nth-before : (k : ℕ) → k < known.count → nth-now k ≡ h.nth k
    unfolding nth-now
    nth-before k lt = let far : ¬ (k ≡ known.count) = λ e. omega arith in rw (ne_eqb k known.count far, nth-now)

    -- what holds of those before, and of the last
    or-last : {P : ℕ → Type 0} → ((k : ℕ) → k < known.count → P k) → P known.count → (k : ℕ) → k < known.count + 1 → P k
    or-last {P} before last k lt =
        let le : k ≤ known.count = omega arith in
        ⊎_elim (λ same. rw same last) (before k) (eq-or-lt_of_le le)

    taken : test n ≡ true → Gathered test (suc n) (with_index known n)
    unfolding with_index
    taken set =
        record {
          nth = nth-now;
          below = or-last (λ k lt. rw (nth-before k lt) (omega (arith, h.below k lt))) (rw nth_last (omega arith));
          tested = or-last (λ k lt. rw (nth-before k lt) (h.tested k lt)) (rw nth_last set);
          rises = λ j k less lt.
              or-last {P = λ k. j < k → nth-now j < nth-now k}
              (λ k lt less. rw (nth-before k lt, nth-before j (omega arith)) (h.rises j k less lt))
              (λ less. rw (nth_last, nth-before j less) (h.below j less)) k lt less;
          every = λ i lt e.
              let le : i ≤ n = omega arith in
              ⊎_elim
              (λ same. (known.count, omega arith, nth_last ∙ sym same))
              (λ less. let (k, lt, is) = h.every i less e in (k, omega arith, nth-before k lt ∙ is))
              (eq-or-lt_of_le le);
          shown = λ k small lt.
              or-last {P = λ k. k < 16 → get_or (placed known.count n known.indexes) k 0 ≡ nth-now k}
              (λ k lt small. placed-others known.indexes h.room known.count n k lt ∙ h.shown k small lt ∙ sym (nth-before k lt))
              (λ small. placed-here known.indexes h.room known.count n small ∙ sym nth_last) k lt small;
          room = placed-room known.indexes h.room known.count n;
        }

    turn : Gathered test (suc n) (with_if (test n) n known)
    unfolding with_if
    turn = by_value (test n) (λ e. rw e (taken e)) (λ e. rw e (passed e))

-- ---- the functions that cover

pub all_covering : (s : List ℕ) (d : ℤ) → AllCovering s d (coverers_in s d)
unfolding coverers_in function_count
all_covering s d =
    let all =
    each_holds (λ known i. with_if (covers d (function_in s i)) i known) (Gathered (λ i. covers d (function_in s i))) (function_count s) no_coverers
    (λ n known lt h. turn (λ i. covers d (function_in s i)) n known h) (begun (λ i. covers d (function_in s i))) in
    record {
      nth = all.nth;
      covers = λ k lt. tests_cover s d (all.nth k) (all.below k lt) (all.tested k lt);
      rises = all.rises;
      every = λ i here. all.every i here.0 (cover_tests s d i here);
      shown = all.shown;
    }

-- ---- what is told of them

module _ (s : List ℕ) (d : ℤ) (coverers : Coverers) (all : AllCovering s d coverers) where
  abbrev told : ℕ → ℕ
  told k = get_or coverers.indexes k 0

  -- each covers
  pub told_cover : (k : ℕ) → k < 16 → k < coverers.count → Covers s d (told k)
  told_cover k small lt = rw (all.shown k small lt) (all.covers k lt)

  -- they rise
  pub told_rise : (j k : ℕ) → j < k → k < 16 → k < coverers.count → told j < told k
  told_rise j k less small lt = rw (all.shown k small lt, all.shown j (omega arith) (omega arith)) (all.rises j k less lt)

  -- every covering function is among them, or past the sixteenth
  pub told_or_past : (i : ℕ) → Covers s d i
      → ((k : ℕ) × (k < 16) × (k < coverers.count) × (told k ≡ i)) ⊎ ((16 < coverers.count) × (told 15 < i))
  told_or_past i here =
      let (k, lt, is) = all.every i here in
      by_value (ltb k 16)
      (λ e. let small : k < 16 = ltb-true k 16 e in inl (k, small, lt, all.shown k small lt ∙ is))
      (λ e.
      let late : 16 ≤ k = ltb-false k 16 e in
      inr (omega arith, rw (all.shown 15 (omega arith) (omega arith), ← is) (all.rises 15 k (omega arith) lt)))
