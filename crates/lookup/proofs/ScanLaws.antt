-- The scan of a section that need not be sorted: the next function that covers, from an index on, begins what is left of the
-- list of all that do.
-- Assumes nothing.
use mathlib.Core.Path.{◌≡◌, refl, sym, ◌∙◌}
use mathlib.Core.Bool.{Bool, true, false}
use mathlib.Core.List.{List, [], ◌∷◌}
use Prim.Native.Nat.{ℕ, zero, suc, ◌+◌, ◌-◌, ◌≤◌, ◌<◌}
use native.Mathlib.Omega.{arith}
use lib.IntN.{ℤ}
use Rattle.section.specs.Header.{layout_of}
use Rattle.section.specs.Meaning.{Function, listed, function_in, functions_of}
use Rattle.lookup.specs.Computed.Covering.{covers, covering_from, covering, cover_of}
use Rattle.lookup.specs.Inner.Search.{first_where}
use Rattle.lookup.specs.declared.search.Cover.TheVariants.{Nobody, One, Two}

-- ---- the first index of which a test is true

module _ (test : ℕ → Bool) where
  here : (count i : ℕ) → test i ≡ true → first_where test (suc count) i ≡ i
  unfolding first_where
  here count i e = rw (e, first_where)

  on : (count i : ℕ) → test i ≡ false → first_where test (suc count) i ≡ first_where test count (suc i)
  unfolding first_where
  on count i e = rw (e, first_where)

  -- at i of n
  pub first_here : (n i : ℕ) → i < n → test i ≡ true → first_where test (n - i) i ≡ i
  first_here n i lt e = let left : n - i ≡ suc (n - suc i) = omega arith in rw left (here (n - suc i) i e)

  pub first_on : (n i : ℕ) → i < n → test i ≡ false → first_where test (n - i) i ≡ first_where test (n - suc i) (suc i)
  first_on n i lt e = let left : n - i ≡ suc (n - suc i) = omega arith in rw left (on (n - suc i) i e)

  pub first_end : (n i : ℕ) → n ≤ i → first_where test (n - i) i ≡ i
  unfolding first_where
  first_end n i le = let over : n - i ≡ 0 = omega arith in rw over

-- ---- what is left of the list of those that cover, from an index on

module _ (d : ℤ) (f : ℕ → Function) where
  abbrev test : ℕ → Bool
  test i = covers d (f i)

  cover-here : (count i : ℕ) → test i ≡ true → covering_from d i (listed f (suc count) i) ≡ i ∷ covering_from d (suc i) (listed f count (suc i))
  unfolding listed covering_from
  cover-here count i e = rw (e, covering_from)

  cover_on : (count i : ℕ) → test i ≡ false → covering_from d i (listed f (suc count) i) ≡ covering_from d (suc i) (listed f count (suc i))
  unfolding listed covering_from
  cover_on count i e = rw (e, covering_from)

  none_left : (count i : ℕ) → first_where test count i ≡ i + count → covering_from d i (listed f count i) ≡ []
  unfolding first_where listed covering_from
  none_left zero i e = refl
  none_left (suc count) i e = by_test_lem (none_left count (suc i)) (test i) refl
    where
      by_test_lem : (first_where test count (suc i) ≡ suc i + count → covering_from d (suc i) (listed f count (suc i)) ≡ [])
          → (t : Bool)
          → test i ≡ t
          → covering_from d i (listed f (suc count) i) ≡ []
      by_test_lem again true h = absurd (omega (arith, here test count i h, e))
      by_test_lem again false h = cover_on count i h ∙ again (omega (arith, on test count i h, e))

  next-left : (count i r : ℕ) → first_where test count i ≡ r → r < i + count
      → covering_from d i (listed f count i) ≡ r ∷ covering_from d (suc r) (listed f (i + count - suc r) (suc r))
  unfolding first_where
  next-left zero i r e lt = absurd (omega arith)
  next-left (suc count) i r e lt = by_test_lem (next-left count (suc i) r) (test i) refl
    where
      by_test_lem : (first_where test count (suc i) ≡ r
          → r < suc i + count
          → covering_from d (suc i) (listed f count (suc i)) ≡ r ∷ covering_from d (suc r) (listed f (suc i + count - suc r) (suc r)))
          → (t : Bool)
          → test i ≡ t
          → covering_from d i (listed f (suc count) i) ≡ r ∷ covering_from d (suc r) (listed f (i + suc count - suc r) (suc r))
      by_test_lem again true h =
          let is : i ≡ r = sym (here test count i h) ∙ e in
          let rest : i + suc count - suc r ≡ count = omega arith in
          rw (rest, ← is) (cover-here count i h)
      by_test_lem again false h =
          let rest : i + suc count - suc r ≡ suc i + count - suc r = omega arith in
          rw rest (cover_on count i h ∙ again (sym (on test count i h) ∙ e) (omega arith))

  -- of n functions, from index i on
  pub left_covering : ℕ → ℕ → List ℕ
  left_covering n i = covering_from d i (listed f (n - i) i)

  pub no_next : (n i : ℕ) → i ≤ n → first_where test (n - i) i ≡ n → left_covering n i ≡ []
  unfolding left_covering
  no_next n i le e = none_left (n - i) i (omega (arith, e))

  pub next_is : (n i r : ℕ) → i ≤ n → first_where test (n - i) i ≡ r → r < n → left_covering n i ≡ r ∷ left_covering n (suc r)
  unfolding left_covering
  next_is n i r le e lt =
      let rest : i + (n - i) ≡ n = omega arith in
      let next = next-left (n - i) i r e (omega arith) in
      rw rest at next

-- ---- the three ends of the scan

module _ (s : List ℕ) (d : ℤ) where
  abbrev next : ℕ → ℕ
  next i = first_where (λ k. covers d (function_in s k)) ((layout_of s).functions - i) i

  all_left : covering d (functions_of s) ≡ left_covering d (function_in s) (layout_of s).functions 0
  unfolding covering functions_of left_covering
  all_left = let all : (layout_of s).functions - 0 ≡ (layout_of s).functions = omega arith in rw all

  pub scan_none : next 0 ≡ (layout_of s).functions → cover_of (covering d (functions_of s)) ≡ Nobody
  unfolding cover_of
  scan_none e = rw (all_left, no_next d (function_in s) _ 0 (omega arith) e)

  pub scan_one : (i : ℕ) → next 0 ≡ i → i < (layout_of s).functions → next (suc i) ≡ (layout_of s).functions
      → cover_of (covering d (functions_of s)) ≡ One i
  unfolding cover_of
  scan_one i e lt none =
      rw (all_left, next_is d (function_in s) _ 0 i (omega arith) e lt, no_next d (function_in s) _ (suc i) (omega arith) none)

  pub scan_two : (i j : ℕ) → next 0 ≡ i → i < (layout_of s).functions → next (suc i) ≡ j → j < (layout_of s).functions
      → cover_of (covering d (functions_of s)) ≡ Two i j
  unfolding cover_of
  scan_two i j e lt f less =
      rw (all_left, next_is d (function_in s) _ 0 i (omega arith) e lt, next_is d (function_in s) _ (suc i) j (omega arith) f less)
