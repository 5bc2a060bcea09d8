-- The last row that starts at or below o, among rows that are given by their numbers: when there is none, which it is, that one
-- of the two holds, and that where starts rise a scan from the first row on finds it.
-- Assumes nothing.
use mathlib.Core.Path.{◌≡◌, refl, ◌∙◌, subst}
use mathlib.Core.List.{List, ◌∷◌}
use mathlib.Core.Logic.{◌⊎◌, inl, inr, ⊎_elim}
use Prim.Native.Nat.{ℕ, zero, suc, ◌+◌, ◌-◌, ◌≤◌, ◌<◌}
use native.Mathlib.Nat.{eq-or-lt_of_le}
use native.Mathlib.Omega.{arith}
use borrow.Author.Tests.{le-leb, lt-leb}
use Rattle.std.specs.Prelude.{Some, None}
use Rattle.section.specs.Meaning.{listed}
use Rattle.section.specs.declared.row.Row.{Row}
use Rattle.accept.proofs.Decides.{not_below, by_test_lem}
use Rattle.lookup.specs.Computed.Rows.{or_else, last_row}
use Rattle.lookup.specs.Inner.Search.{leading}
use Rattle.lookup.specs.declared.rows.Hit.{Hit}

-- ---- one more row in front

module _ (o k : ℕ) (row : Row) (rows : List Row) where
  row-later : (later : Hit) → last_row o (suc k) rows ≡ Some later → last_row o k (row ∷ rows) ≡ Some later
  unfolding last_row or_else
  row-later later e = rw (e, or_else)

  row_here : row.start ≤ o → last_row o (suc k) rows ≡ None → last_row o k (row ∷ rows) ≡ Some (record { row = row; number = k })
  unfolding last_row or_else
  row_here le e = rw e (rw (le-leb row.start o le))

  row-above : o < row.start → last_row o (suc k) rows ≡ None → last_row o k (row ∷ rows) ≡ None
  unfolding last_row or_else
  row-above lt e = rw e (rw (lt-leb row.start o lt))

-- ---- the rows that a function makes, from one number on

module _ (o : ℕ) (f : ℕ → Row) where
  pub last_none : (count from : ℕ) → ((j : ℕ) → from ≤ j → j < from + count → o < (f j).start) → last_row o from (listed f count from) ≡ None
  unfolding listed last_row
  last_none zero from above = refl
  last_none (suc count) from above =
      row-above o from (f from) (listed f count (suc from)) (above from (omega arith) (omega arith))
      (last_none count (suc from) (λ j le lt. above j (omega arith) (omega arith)))

  pub last_is : (count from k : ℕ) → from ≤ k → k < from + count → (f k).start ≤ o → ((j : ℕ) → k < j → j < from + count → o < (f j).start)
      → last_row o from (listed f count from) ≡ Some (record { row = f k; number = k })
  unfolding listed
  last_is zero from k le lt here above = absurd (omega arith)
  last_is (suc count) from k le lt here above =
      let rows = listed f count (suc from) in
      ⊎_elim
      (λ same.
      let none = last_none count (suc from) (λ j le lt. above j (omega arith) (omega arith)) in
      rw (← same) (row_here o from (f from) rows (rw same here) none))
      (λ less. row-later o from (f from) rows _ (last_is count (suc from) k less (omega arith) here (λ j lt inside. above j lt (omega arith))))
      (eq-or-lt_of_le le)

-- ---- one of the two holds

-- what holds at a number, and above it
from_here : {P : ℕ → Type 0} (k : ℕ) → P k → ((j : ℕ) → k < j → P j) → (j : ℕ) → k ≤ j → P j
from_here {P} k here later j le = ⊎_elim (λ same. subst P same here) (later j) (eq-or-lt_of_le le)

module _ (start : ℕ → ℕ) (o : ℕ) where
  -- of the `count` starts from one number on, none is at or below o; or number k has the last that is
  abbrev pub AllAbove : ℕ → ℕ → Type 0
  AllAbove count from = (j : ℕ) → from ≤ j → j < from + count → o < start j

  abbrev pub LastAt : ℕ → ℕ → ℕ → Type 0
  LastAt count from k = (from ≤ k) × (k < from + count) × (start k ≤ o) × ((j : ℕ) → k < j → j < from + count → o < start j)

  pub row_cases : (count from : ℕ) → AllAbove count from ⊎ ((k : ℕ) × LastAt count from k)
  row_cases zero from = inl (λ j le lt. absurd (omega arith))
  row_cases (suc count) from =
      ⊎_elim
      (λ above.
      by_test_lem (not_below o (start from))
      (λ here. inl (from_here from (λ lt. omega arith) (λ j lt inside. above j lt (omega arith))))
      (λ here. inr (from, (omega arith, omega arith, here, λ j lt inside. above j lt (omega arith)))))
      (λ last.
      let (k, (le, lt, here, above)) = last in
      inr (k, (omega arith, omega arith, here, λ j lt inside. above j lt (omega arith))))
      (row_cases count (suc from))

-- ---- a scan from the first row on, that stops at the first start above o

module _ (start : ℕ → ℕ) (o : ℕ) where
  pub leading_on : (left k : ℕ) → start k ≤ o → leading start o (suc left) k ≡ leading start o left (suc k)
  unfolding leading
  leading_on left k le = rw (le-leb (start k) o le, leading)

  pub leading_stop : (left k : ℕ) → o < start k → leading start o (suc left) k ≡ k
  unfolding leading
  leading_stop left k lt = rw (lt-leb (start k) o lt, leading)

  -- of `count` starts, from number k on, those below number n are at or below o, and number n, if there is one, is above it
  pub record Halts (count k n : ℕ) : Type 0 where
    pub from : k ≤ n
    pub within : n ≤ count
    pub below : (j : ℕ) → k ≤ j → j < n → start j ≤ o
    pub stop : n < count → o < start n

  -- so it is with where the scan ends, and with no other number
  halts-from : (count left k : ℕ) → k + left ≡ count → Halts count k (leading start o left k)
  unfolding leading
  halts-from count zero k e =
      record { from = omega arith; within = omega arith; below = λ j le lt. absurd (omega arith); stop = λ lt. absurd (omega arith) }
  halts-from count (suc left) k e =
      by_test_lem (not_below o (start k))
      (λ above.
      let lt : o < start k = omega arith in
      rw (leading_stop left k lt)
      (record { from = omega arith; within = omega arith; below = λ j le less. absurd (omega arith); stop = λ less. lt }))
      (λ here.
      let rest = halts-from count left (suc k) (omega arith) in
      rw (leading_on left k here)
      (record { from = omega arith; within = rest.within; below = from_here k (λ lt. here) rest.below; stop = rest.stop }))

  pub halts : (count : ℕ) → Halts count 0 (leading start o count 0)
  halts count = halts-from count count 0 (omega arith)

  halts-here : (count left k n : ℕ) → k + left ≡ count → Halts count k n → leading start o left k ≡ n
  unfolding leading
  halts-here count zero k n e h = omega arith
  halts-here count (suc left) k n e h =
      ⊎_elim
      (λ same. leading_stop left k (rw same (h.stop (omega arith))) ∙ same)
      (λ less.
      leading_on left k (h.below k (omega arith) less)
      ∙ halts-here count left (suc k) n (omega arith)
      (record { from = less; within = h.within; below = λ j le lt. h.below j (omega arith) lt; stop = h.stop }))
      (eq-or-lt_of_le h.from)

  pub halts_alone : (count n : ℕ) → Halts count 0 n → leading start o count 0 ≡ n
  halts_alone count n h = halts-here count count 0 n (omega arith) h

  -- where starts rise, all others are above o too
  pub record Leads (count k n : ℕ) : Type 0 where
    pub from : k ≤ n
    pub within : n ≤ count
    pub below : (j : ℕ) → k ≤ j → j < n → start j ≤ o
    pub past : (j : ℕ) → n ≤ j → j < count → o < start j

  module _ (count : ℕ) (rising : (j k : ℕ) → j < k → k < count → start j < start k) where
    pub leads : Leads count 0 (leading start o count 0)
    leads =
        let scan = halts count in
        let end = leading start o count 0 in
        record {
          from = scan.from;
          within = scan.within;
          below = scan.below;
          past = from_here end scan.stop (λ j less inside. omega (arith, rising end j less inside, scan.stop (omega arith)));
        }

    -- so it ends one past the last row at or below o, for rows with these starts
    module _ (f : ℕ → Row) (same : (k : ℕ) → k < count → start k ≡ (f k).start) where
      pub leading_none : leading start o count 0 ≡ 0 → last_row o 0 (listed f count 0) ≡ None
      leading_none e = last_none o f count 0 (λ j le lt. omega (arith, same j (omega arith), leads.past j (omega arith) (omega arith)))

      pub leading_last : 0 < leading start o count 0
          → last_row o 0 (listed f count 0)
          ≡ Some (record { row = f (leading start o count 0 - 1); number = leading start o count 0 - 1 })
      leading_last lt =
          let last = leading start o count 0 - 1 in
          let inside : last < count = omega (arith, leads.within) in
          last_is o f count 0 last (omega arith) (omega arith)
          (omega (arith, same last inside, leads.below last (omega arith) (omega arith)))
          (λ j less lt. omega (arith, same j (omega arith), leads.past j (omega arith) (omega arith)))
