-- The nearest covered address on one side of d, which nothing covers: trying function after function finds it, with the lowest function
-- that covers it. Both sides at once, by what it is to be nearer.
-- Assumes nothing.
use mathlib.Core.Path.{◌≡◌, refl}
use mathlib.Core.Bool.{true≢false}
use mathlib.Core.List.{List}
use mathlib.Core.Logic.{⊎_elim}
use Prim.Native.Nat.{ℕ, suc, ◌+◌, ◌≤◌, ◌<◌}
use native.Mathlib.Nat.{eq-or-lt_of_le}
use native.Mathlib.Omega.{arith}
use lib.Dec.{eqb}
use lib.IntN.{ℤ, pos, ◌+ℤ◌}
use lib.Signed.{◌≤ℤ◌, ◌<ℤ◌, ≤ℤ_refl, <ℤ-≤ℤ_trans}
use borrow.Author.Tests.{eqb-true, eqb-false}
use Rattle.std.specs.Prelude.{Option, Some, None}
use Rattle.numbers.proofs.DiffLaws.{Diff, diff_pos, diff_add, diff_neg}
use Rattle.section.specs.Meaning.{entry_in, function_start}
use Rattle.accept.specs.Rules.{function_count}
use Rattle.accept.proofs.Decides.{Shows}
use Rattle.lookup.specs.Cases.{Covers, NoneCovers}
use Rattle.lookup.proofs.CoveringLaws.{by_value, le_shows, lt_shows}
use Rattle.explain.specs.Why.{NearestBelow, NearestAbove}
use Rattle.explain.specs.Computed.Nearest.{edge_of, on_side, is_nearer, tried, nearest_in}
use Rattle.explain.specs.declared.nearby.Side.{Side}
use Rattle.explain.specs.declared.nearby.Side.TheVariants.{Below, Above}
use Rattle.explain.specs.declared.why.Covered.{Covered}
use Rattle.explain.proofs.EachLaws.{each_holds}
use Rattle.explain.proofs.KeyLaws.{tried_nearer, tried_farther, tried_elsewhere, tried_empty}
use Rattle.explain.proofs.WholeLaws.{Split, split, le_of, of_le, lt_of, of_lt, not_less, not_le}

-- ---- nearer, seen from d: below it the higher address, above it the lower

abbrev Nearer : Side → ℤ → ℤ → Type 0
Nearer Below y z = z <ℤ y
Nearer Above y z = y <ℤ z

abbrev AsNear : Side → ℤ → ℤ → Type 0
AsNear Below y z = z ≤ℤ y
AsNear Above y z = y ≤ℤ z

nearer_on : (side : Side) (x y z : ℤ) → Nearer side x y → AsNear side y z → Nearer side x z
nearer_on Below x y z lt le =
    let a = (split x).diff in
    let b = (split y).diff in
    let c = (split z).diff in
    of_lt c a (omega (arith, lt_of b a lt, le_of c b le))
nearer_on Above x y z lt le = <ℤ-≤ℤ_trans lt le

not_both : (side : Side) (y z : ℤ) → Nearer side y z → ¬ AsNear side z y
not_both Below y z lt le = omega (arith, lt_of (split z).diff (split y).diff lt, le_of (split y).diff (split z).diff le)
not_both Above y z lt le = omega (arith, lt_of (split y).diff (split z).diff lt, le_of (split z).diff (split y).diff le)

nearer_as : (side : Side) (y z : ℤ) → Nearer side y z → AsNear side y z
nearer_as Below y z lt = of_le (split z).diff (split y).diff (omega (arith, lt_of (split z).diff (split y).diff lt))
nearer_as Above y z lt = of_le (split y).diff (split z).diff (omega (arith, lt_of (split y).diff (split z).diff lt))

as_near_itself : (side : Side) (z : ℤ) → AsNear side z z
as_near_itself Below z = ≤ℤ_refl z
as_near_itself Above z = ≤ℤ_refl z

-- as near as one that is as near as a third
as_near_on : (side : Side) (x y z : ℤ) → AsNear side x y → AsNear side y z → AsNear side x z
as_near_on Below x y z p q =
    let a = (split x).diff in
    let b = (split y).diff in
    let c = (split z).diff in
    of_le c a (omega (arith, le_of b a p, le_of c b q))
as_near_on Above x y z p q =
    let a = (split x).diff in
    let b = (split y).diff in
    let c = (split z).diff in
    of_le a c (omega (arith, le_of a b p, le_of b c q))

not_nearer : (side : Side) (y z : ℤ) → ¬ Nearer side y z → AsNear side z y
not_nearer Below y z far = not_less far
not_nearer Above y z far = not_less far

-- ---- the tests

abbrev OnSide : Side → ℤ → ℤ → ℕ → Type 0
OnSide Below d start size = (start +ℤ pos size) ≤ℤ d
OnSide Above d start size = d <ℤ start

side_shows : (side : Side) (d start : ℤ) (size : ℕ) → Shows (on_side side d start size) (OnSide side d start size)
unfolding on_side
side_shows Below d start size = le_shows (start +ℤ pos size) d
side_shows Above d start size = lt_shows d start

-- the one known, if there is one, is farther
abbrev Beats : Side → ℤ → Option Covered → Type 0
Beats side z None = Unit {0}
Beats side z (Some known) = Nearer side z known.offset.by

beats_shows : (side : Side) (z : ℤ) (known : Option Covered) → Shows (is_nearer side z known) (Beats side z known)
unfolding is_nearer
beats_shows Below z None = record { holds = λ e. tt; broken = λ e h. true≢false e }
beats_shows Above z None = record { holds = λ e. tt; broken = λ e h. true≢false e }
beats_shows Below z (Some known) = lt_shows known.offset.by z
beats_shows Above z (Some known) = lt_shows z known.offset.by

module _ (s : List ℕ) (d : ℤ) (side : Side) where
  abbrev size : ℕ → ℕ
  size j = (entry_in s j).size

  abbrev edge : ℕ → ℤ
  edge j = edge_of side (function_start s j) (size j)

  -- function j is not empty, and lies on that side
  abbrev Candidate : ℕ → Type 0
  Candidate j = (¬ (size j ≡ 0)) × OnSide side d (function_start s j) (size j)

  -- ---- of the first n functions

  abbrev SoFar : ℕ → Option Covered → Type 0
  SoFar n None = (j : ℕ) → j < n → ¬ Candidate j
  SoFar n (Some known) =
      (known.function < n)
      × Candidate known.function
      × (known.offset.by ≡ edge known.function)
      × ((j : ℕ) → j < n → Candidate j → AsNear side known.offset.by (edge j))
      × ((j : ℕ) → j < known.function → Candidate j → Nearer side known.offset.by (edge j))

  -- one more, which is not nearer or none at all
  module _ (n : ℕ) where
    up_to : {P : ℕ → Type 0} → ((j : ℕ) → j < n → P j) → P n → (j : ℕ) → j < suc n → P j
    up_to {P} before here j lt =
        let le : j ≤ n = omega arith in
        ⊎_elim (λ same. rw same here) (before j) (eq-or-lt_of_le le)

    more : (known : Option Covered) → SoFar n known → (Candidate n → ¬ Beats side (edge n) known) → SoFar (suc n) known
    more None h beaten = up_to h (λ candidate. beaten candidate tt)
    more (Some known) h beaten =
        let (lt, here, is, nearest, lower) = h in
        (omega arith, here, is, up_to nearest (λ candidate. not_nearer side (edge n) known.offset.by (beaten candidate)), lower)

    taken : (known : Option Covered) → SoFar n known → Candidate n → Beats side (edge n) known → SoFar (suc n) (Some (record { offset = record { by = edge n }; function = n }))
    taken None none candidate beats = (
      omega arith,
      candidate,
      refl,
      up_to (λ j lt other. absurd (none j lt other)) (λ other. as_near_itself side (edge n)),
      λ j lt other. absurd (none j lt other),
    )
    taken (Some known) h candidate beats =
        let (lt, here, is, nearest, lower) = h in
        let farther : (j : ℕ) → j < n → Candidate j → Nearer side (edge n) (edge j) = λ j less other.
        nearer_on side (edge n) known.offset.by (edge j) beats (nearest j less other) in (
          omega arith,
          candidate,
          refl,
          up_to (λ j less other. nearer_as side (edge n) (edge j) (farther j less other)) (λ other. as_near_itself side (edge n)),
          farther,
        )

    turn : (known : Option Covered) → SoFar n known → SoFar (suc n) (tried side d (function_start s n) (size n) n known)
    turn known h =
        let there = side_shows side d (function_start s n) (size n) in
        let nearer = beats_shows side (edge n) known in
        by_value (eqb (size n) 0)
        (λ e.
        let none = eqb-true (size n) 0 e in
        rw (tried_empty side d (function_start s n) (size n) n known none) (more known h (λ candidate. absurd (candidate.0 none))))
        (λ e.
        let some = eqb-false (size n) 0 e in
        by_value (on_side side d (function_start s n) (size n))
        (λ on.
        by_value (is_nearer side (edge n) known)
        (λ yes.
        rw (tried_nearer side d (function_start s n) (size n) n known some on yes)
        (taken known h (some, there.holds on) (nearer.holds yes)))
        (λ away.
        rw (tried_farther side d (function_start s n) (size n) n known on away) (more known h (λ candidate. nearer.broken away))))
        (λ off.
        rw (tried_elsewhere side d (function_start s n) (size n) n known off)
        (more known h (λ candidate. absurd (there.broken off candidate.1)))))

  so_far : SoFar (function_count s) (nearest_in s side d)
  unfolding nearest_in function_count
  so_far = each_holds _ SoFar (function_count s) None (λ n known lt h. turn n known h) (λ j lt. absurd (omega arith))

  -- ---- an address that is covered, on that side of d or at d, which is not

  module _ (none : NoneCovers s d) where
    -- its function is on that side, and the edge is as near
    reach : (z : ℤ) (j : ℕ) → AsNear side d z → Covers s z j → Candidate j × AsNear side (edge j) z
    unfolding edge_of
    reach z j beyond (inside, from, before) = by_side side beyond
      where
        start : Split (function_start s j)
        start = split (function_start s j)

        end : Diff (function_start s j +ℤ pos (size j)) (start.up + size j) (start.down + 0)
        end = diff_add start.diff (diff_pos (size j))

        some : ¬ (size j ≡ 0)
        some e = omega (arith, le_of start.diff (split z).diff from, lt_of (split z).diff end before)

        by_side : (side : Side) → AsNear side d z
            → ((¬ (size j ≡ 0)) × OnSide side d (function_start s j) (size j)) × AsNear side (edge_of side (function_start s j) (size j)) z
        by_side Below le = (
          (some, not_less (λ lt. none j (inside, of_le start.diff (split d).diff (omega (arith, le_of start.diff (split z).diff from, le_of (split z).diff (split d).diff le)), lt))),
          of_le (split z).diff (diff_add end (diff_neg (diff_pos 1))) (omega (arith, lt_of (split z).diff end before)),
        )
        by_side Above le = (
          (some, not_le (λ early. none j (inside, early, of_lt (split d).diff end (omega (arith, le_of (split d).diff (split z).diff le, lt_of (split z).diff end before))))),
          from,
        )

    -- a candidate covers its own edge, which lies beyond d
    covers-edge : (i : ℕ) → i < function_count s → Candidate i → Covers s (edge i) i × Nearer side d (edge i)
    unfolding edge_of
    covers-edge i inside (some, there) = by_side side there
      where
        start : Split (function_start s i)
        start = split (function_start s i)

        end : Diff (function_start s i +ℤ pos (size i)) (start.up + size i) (start.down + 0)
        end = diff_add start.diff (diff_pos (size i))

        by_side : (side : Side) → OnSide side d (function_start s i) (size i)
            → Covers s (edge_of side (function_start s i) (size i)) i × Nearer side d (edge_of side (function_start s i) (size i))
        by_side Below le =
            let last = diff_add end (diff_neg (diff_pos 1)) in (
              (inside, of_le start.diff last (omega arith), of_lt last end (omega arith)),
              of_lt last (split d).diff (omega (arith, le_of end (split d).diff le)),
            )
        by_side Above lt = ((inside, ≤ℤ_refl (function_start s i), of_lt start.diff end (omega arith)), lt)

    -- ---- the nearest of all, in the words of Why

    abbrev NearestOn : Option Covered → Type 0
    NearestOn (Some known) =
        Covers s known.offset.by known.function
        × Nearer side d known.offset.by
        × ((z : ℤ) → Nearer side z known.offset.by → AsNear side d z → NoneCovers s z)
        × ((j : ℕ) → Covers s known.offset.by j → known.function ≤ j)
    NearestOn None = (z : ℤ) → AsNear side d z → NoneCovers s z

    nearest-on : (known : Option Covered) → SoFar (function_count s) known → NearestOn known
    nearest-on None h = λ z beyond j covered. h j covered.0 (reach z j beyond covered).0
    nearest-on (Some known) h =
        let (lt, here, is, nearest, lower) = h in
        let (covered, beyond) = covers-edge known.function lt here in (
          rw is covered,
          rw is beyond,
          λ z nearer past j other.
              let (candidate, edged) = reach z j past other in
              not_both side z known.offset.by nearer
              (as_near_on side known.offset.by (edge j) z (nearest j other.0 candidate) edged),
          λ j other.
              let (candidate, edged) = reach known.offset.by j (nearer_as side d known.offset.by (rw is beyond)) other in
              let early : ¬ (j < known.function) = λ less. not_both side known.offset.by (edge j) (lower j less candidate) edged in
              omega arith,
        )

-- ---- both sides

pub nearest_below : (s : List ℕ) (d : ℤ) → NoneCovers s d → NearestBelow s d (nearest_in s Below d)
nearest_below s d none = below (nearest_in s Below d) (nearest-on s d Below none (nearest_in s Below d) (so_far s d Below))
  where
    below : (known : Option Covered) → NearestOn s d Below none known → NearestBelow s d known
    below (Some known) h = h
    below None h = h

pub nearest_above : (s : List ℕ) (d : ℤ) → NoneCovers s d → NearestAbove s d (nearest_in s Above d)
nearest_above s d none = above (nearest_in s Above d) (nearest-on s d Above none (nearest_in s Above d) (so_far s d Above))
  where
    above : (known : Option Covered) → NearestOn s d Above none known → NearestAbove s d known
    above (Some known) h = h
    above None h = h
