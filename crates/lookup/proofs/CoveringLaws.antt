-- Which functions of a list cover, for any list and any d: what `covering` comes to where none does, one does, or two or more
-- do, and that one of the three is the case.
-- Assumes nothing.
use mathlib.Core.Path.{◌≡◌, refl, sym, ◌∙◌, ap}
use mathlib.Core.Bool.{Bool, true, false, true≢false}
use mathlib.Core.List.{List, [], ◌∷◌}
use mathlib.Core.Logic.{◌⊎◌, inl, inr, ⊎_elim}
use Prim.Native.Nat.{ℕ, zero, suc, ◌+◌, ◌-◌, ◌≤◌, ◌<◌}
use native.Mathlib.Nat.{zero-add, eq-or-lt_of_le}
use native.Mathlib.Omega.{arith}
use lib.Dec.{ltb}
use lib.IntN.{ℤ, pos, ◌+ℤ◌}
use lib.ListN.{length, get_or, drop, length-drop}
use lib.Seq.{get_or-drop}
use lib.Signed.{◌≤ℤ◌, ◌<ℤ◌, le_z, lt_z, le_z_yes, lt_z_yes}
use borrow.Author.Tests.{ltb-true, ltb-false}
use Rattle.section.specs.Meaning.{Function}
use Rattle.accept.proofs.Decides.{Shows, both}
use Rattle.accept.proofs.InOrder.{in_turn}
use Rattle.lookup.specs.Halving.{empty_function}
use Rattle.lookup.specs.Computed.Covering.{covers, covering_from, covering, cover_of}
use Rattle.lookup.specs.declared.search.Cover.TheVariants.{Nobody, One, Two}

-- ---- tests

-- go on by what a test says
pub by_value : {X : Type 0} (test : Bool) → (test ≡ true → X) → (test ≡ false → X) → X
by_value true set unset = set refl
by_value false set unset = unset refl

pub unless_true : (test : Bool) → ¬ (test ≡ true) → test ≡ false
unless_true test bad = by_value test (λ e. absurd (bad e)) (λ e. e)

module _ {test : Bool} {P : Type 0} (shows : Shows test P) where
  pub is_true : P → test ≡ true
  is_true good = by_value test (λ e. e) (λ e. absurd (shows.broken e good))

  pub is_false : ¬ P → test ≡ false
  is_false bad = unless_true test (λ e. bad (shows.holds e))

-- ---- one function

pub le_shows : (y z : ℤ) → Shows (le_z y z) (y ≤ℤ z)
le_shows y z = record { holds = λ e. le_z_yes (rw e tt); broken = λ e h. rw e at h.le }

pub lt_shows : (y z : ℤ) → Shows (lt_z y z) (y <ℤ z)
lt_shows y z = record { holds = λ e. lt_z_yes (rw e tt); broken = λ e h. rw e at h.lt }

pub covers_shows : (d : ℤ) (f : Function) → Shows (covers d f) ((f.start ≤ℤ d) × (d <ℤ (f.start +ℤ pos f.size)))
unfolding covers
covers_shows d f = both (le_shows f.start d) (lt_shows d (f.start +ℤ pos f.size))

-- ---- which of a list

-- whether the function with index k covers
abbrev pub covers_at : ℤ → List Function → ℕ → Bool
covers_at d fs k = covers d (get_or fs k empty_function)

abbrev pub NoneAt : ℤ → List Function → Type 0
NoneAt d fs = (k : ℕ) → k < length fs → covers_at d fs k ≡ false

-- the one with index i covers, and no other does
abbrev pub OnlyAt : ℤ → List Function → ℕ → Type 0
OnlyAt d fs i = (i < length fs) × (covers_at d fs i ≡ true) × ((k : ℕ) → k < length fs → covers_at d fs k ≡ true → k ≡ i)

-- i and j are the two lowest indexes of those that cover
abbrev pub LowestAt : ℤ → List Function → ℕ → ℕ → Type 0
LowestAt d fs i j =
    (i < j) × (j < length fs) × (covers_at d fs i ≡ true) × (covers_at d fs j ≡ true) × ((k : ℕ) → k < j → covers_at d fs k ≡ true → k ≡ i)

-- ---- the list of indexes, from any index on

module _ (d : ℤ) where
  skipped : (from : ℕ) (f : Function) (fs : List Function) → covers d f ≡ false → covering_from d from (f ∷ fs) ≡ covering_from d (suc from) fs
  unfolding covering_from
  skipped from f fs e = rw (e, covering_from)

  taken : (from : ℕ) (f : Function) (fs : List Function) → covers d f ≡ true → covering_from d from (f ∷ fs) ≡ from ∷ covering_from d (suc from) fs
  unfolding covering_from
  taken from f fs e = rw (e, covering_from)

  none_from : (from : ℕ) (fs : List Function) → NoneAt d fs → covering_from d from fs ≡ []
  unfolding covering_from
  none_from from [] none = refl
  none_from from (f ∷ fs) none = skipped from f fs (none zero (omega arith)) ∙ none_from (suc from) fs (λ k lt. none (suc k) (omega arith))

  -- up to the first that covers, and then the rest of the list
  first-from : (from : ℕ) (fs : List Function) (i : ℕ) → i < length fs → covers_at d fs i ≡ true → ((k : ℕ) → k < i → covers_at d fs k ≡ false)
      → covering_from d from fs ≡ (from + i) ∷ covering_from d (suc (from + i)) (drop (suc i) fs)
  first-from from [] i lt here before = absurd (omega arith)
  first-from from (f ∷ fs) zero lt here before = taken from f fs here ∙ ap (λ n. n ∷ covering_from d (suc n) fs) (omega arith)
  first-from from (f ∷ fs) (suc i) lt here before =
      skipped from f fs (before zero (omega arith))
      ∙ first-from (suc from) fs i (omega arith) here (λ k less. before (suc k) (omega arith))
      ∙ ap (λ n. n ∷ covering_from d (suc n) (drop (suc i) fs)) (omega arith)

  -- of two lists as long, whose functions cover alike at every place, the same indexes cover
  covering-same : (from : ℕ) (fs gs : List Function) → length fs ≡ length gs → ((k : ℕ) → k < length fs → covers_at d fs k ≡ covers_at d gs k)
      → covering_from d from fs ≡ covering_from d from gs
  unfolding covering_from
  covering-same from [] [] e same = refl
  covering-same from [] (g ∷ gs) e same = absurd (omega arith)
  covering-same from (f ∷ fs) [] e same = absurd (omega arith)
  covering-same from (f ∷ fs) (g ∷ gs) e same =
      let rest = covering-same (suc from) fs gs (omega arith) (λ k lt. same (suc k) (omega arith)) in
      let alike : covers d f ≡ covers d g = same zero (omega arith) in
      by_value (covers d f)
      (λ t. taken from f fs t ∙ ap (from ∷◌) rest ∙ sym (taken from g gs (sym alike ∙ t)))
      (λ t. skipped from f fs t ∙ rest ∙ sym (skipped from g gs (sym alike ∙ t)))

-- ---- the cover

pub covering_alike : (d : ℤ) (fs gs : List Function) → length fs ≡ length gs → ((k : ℕ) → k < length fs → covers_at d fs k ≡ covers_at d gs k)
    → covering d fs ≡ covering d gs
unfolding covering
covering_alike d fs gs e same = covering-same d 0 fs gs e same

module _ (d : ℤ) (fs : List Function) where
  pub none_cover : NoneAt d fs → cover_of (covering d fs) ≡ Nobody
  unfolding covering cover_of
  none_cover none = ap cover_of (none_from d 0 fs none)

  covers-after : (i k : ℕ) → covers_at d (drop (suc i) fs) k ≡ covers_at d fs (suc i + k)
  covers-after i k = ap (covers d) (get_or-drop (suc i) fs k empty_function)

  -- i is the only one below j that covers: none of the others does, the first index is i, and none after it does
  module _ (i j : ℕ) (less : i < j) (only : (k : ℕ) → k < j → covers_at d fs k ≡ true → k ≡ i) where
    no_other : (k : ℕ) → k < j → ¬ (k ≡ i) → covers_at d fs k ≡ false
    no_other k lt other = unless_true (covers_at d fs k) (λ e. other (only k lt e))

    first-covers : i < length fs → covers_at d fs i ≡ true → covering d fs ≡ i ∷ covering_from d (suc i) (drop (suc i) fs)
    unfolding covering
    first-covers lt here =
        first-from d 0 fs i lt here (λ k before. no_other k (omega arith) (omega arith))
        ∙ ap (λ n. n ∷ covering_from d (suc n) (drop (suc i) fs)) (zero-add i)

    none_after : (k : ℕ) → suc i + k < j → covers_at d (drop (suc i) fs) k ≡ false
    none_after k lt = covers-after i k ∙ no_other (suc i + k) lt (omega arith)

  pub one_covers : (i : ℕ) → OnlyAt d fs i → cover_of (covering d fs) ≡ One i
  unfolding cover_of
  one_covers i h =
      let (lt, here, only) = h in
      ap cover_of
      (first-covers i (length fs) lt only lt here
      ∙ ap (i ∷◌)
      (none_from d (suc i) (drop (suc i) fs) (λ k inside. none_after i (length fs) lt only k (omega (arith, length-drop (suc i) fs)))))

  pub two_cover : (i j : ℕ) → LowestAt d fs i j → cover_of (covering d fs) ≡ Two i j
  unfolding cover_of
  two_cover i j h =
      let (less, lt, here, there, only) = h in
      let back : suc i + (j - suc i) ≡ j = omega arith in
      ap cover_of
      (first-covers i j less only (omega arith) here
      ∙ ap (i ∷◌)
      (first-from d (suc i) (drop (suc i) fs) (j - suc i) (omega (arith, length-drop (suc i) fs))
      (covers-after i (j - suc i) ∙ ap (covers_at d fs) back ∙ there)
      (λ k before. none_after i j less only k (omega arith))))
      ∙ ap (Two i) back

-- ---- one of the three is the case

pub data Coverage (d : ℤ) (fs : List Function) : Type 0 where
  no_one : NoneAt d fs → Coverage d fs
  just_one : (i : ℕ) → OnlyAt d fs i → Coverage d fs
  two_or_more : (i j : ℕ) → LowestAt d fs i j → Coverage d fs

-- the one with index i covers, and none before it does
record FirstAt (d : ℤ) (fs : List Function) (i : ℕ) : Type 0 where
  inside : i < length fs
  here : covers_at d fs i ≡ true
  before : (k : ℕ) → k < i → covers_at d fs k ≡ false

module _ (d : ℤ) (fs : List Function) where
  none-or-first : NoneAt d fs ⊎ ((i : ℕ) × FirstAt d fs i)
  none-or-first =
      in_turn (length fs) λ k lt before.
      by_value (covers_at d fs k) (λ e. inr (k, record { inside = lt; here = e; before = before })) inl

  only-or-lowest : (i : ℕ) → FirstAt d fs i → Coverage d fs
  only-or-lowest i first =
      ⊎_elim (λ only. just_one i (first.inside, first.here, only)) (λ h. two_or_more i h.0 h.1) (in_turn (length fs) turn)
    where
      up-to-i : (k : ℕ) → k ≤ i → covers_at d fs k ≡ true → k ≡ i
      up-to-i k le e = ⊎_elim (λ same. same) (λ less. absurd (true≢false (sym e ∙ first.before k less))) (eq-or-lt_of_le le)

      turn : (k : ℕ) → k < length fs → ((j : ℕ) → j < k → covers_at d fs j ≡ true → j ≡ i)
          → (covers_at d fs k ≡ true → k ≡ i) ⊎ ((j : ℕ) × LowestAt d fs i j)
      turn k lt only =
          by_value (covers_at d fs k)
          (λ e. by_value (ltb i k) (λ t. inr (k, (ltb-true i k t, lt, first.here, e, only))) (λ t. inl (up-to-i k (ltb-false i k t))))
          (λ e. inl (λ t. absurd (true≢false (sym t ∙ e))))

  pub cover_cases : Coverage d fs
  cover_cases = ⊎_elim no_one (λ h. only-or-lowest h.0 h.1) none-or-first
