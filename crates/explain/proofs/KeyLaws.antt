-- The keys of functions on one side of d: the largest is that of the nearest, which is what trying function after function finds.
-- Assumes nothing.
use mathlib.Core.Path.{◌≡◌, refl, sym, ◌∙◌, ap}
use mathlib.Core.Bool.{true, false, not, ◌&&◌}
use Prim.Native.Nat.{ℕ, ◌+◌, ◌-◌, ◌^◌, ◌≤◌, ◌<◌, min}
use native.Mathlib.Omega.{arith}
use lib.Dec.{leb, ltb, eqb}
use lib.IntN.{ℤ, pos, ◌-ℤ◌}
use borrow.Author.Tests.{leb-true, leb-false, ltb-true, ltb-false, eqb-true, eqb-false, le-leb, lt-leb, lt-ltb, le-ltb, eq-eqb, ne_eqb}
use Rattle.std.specs.Prelude.{Option, Some, None}
use Rattle.numbers.specs.Inner.Held.{near, Held, Near}
use Rattle.numbers.proofs.DiffLaws.{Diff, diff_pos, diff_add, diff_neg, diff_same, diff_less, diff_unique, diff_le, diff_lt}
use Rattle.numbers.proofs.HeldLaws.{near_is, held_less}
use Rattle.lookup.proofs.CoveringLaws.{by_value}
use Rattle.explain.specs.Computed.Nearest.{edge_of, on_side, is_nearer, tried}
use Rattle.explain.specs.Inner.Keys.{side_key, key_by, better, held_of, nearest_of}
use Rattle.explain.specs.declared.nearby.Best.{Best}
use Rattle.explain.specs.declared.nearby.Side.{Side}
use Rattle.explain.specs.declared.nearby.Side.TheVariants.{Below, Above}
use Rattle.explain.specs.declared.why.Covered.{Covered}
use Rattle.explain.proofs.WholeLaws.{split}

pub near_small : (d : ℤ) → near d ≤ 2 ^ 34
unfolding near
near_small d = omega arith

-- ---- no key is above 2 ^ 34, where d is not

side_small : (side : Side) (start size d : ℕ) → d ≤ 2 ^ 34 → side_key side start size d ≤ 2 ^ 34
unfolding side_key
side_small Below start size d le =
    by_value (leb (start + size) d)
    (λ e. rw (e, side_key) (let within : start + size ≤ d = leb-true _ _ e in omega arith))
    (λ e. rw (e, side_key) (omega arith))
side_small Above start size d le = by_value (ltb d start) (λ e. rw (e, side_key) (omega arith)) (λ e. rw (e, side_key) (omega arith))

pub key_small : (side : Side) (start size d : ℕ) → d ≤ 2 ^ 34 → key_by side start size d ≤ 2 ^ 34
unfolding key_by
key_small side start size d le =
    by_value (eqb size 0) (λ e. rw (e, key_by) (omega arith)) (λ e. rw (e, key_by) (side_small side start size d le))

pub better_small : (best : Best) (key i : ℕ) → best.key ≤ 2 ^ 34 → key ≤ 2 ^ 34 → (better best key i).key ≤ 2 ^ 34
unfolding better
better_small best key i le also = by_value (ltb best.key key) (λ e. rw (e, better) also) (λ e. rw (e, better) le)

-- ---- what a key tells

-- a test that compares two numbers, by which of them is larger
same_le : (a b c d : ℕ) → (a ≤ b → c ≤ d) → (c ≤ d → a ≤ b) → leb a b ≡ leb c d
same_le a b c d there back =
    by_value (leb c d)
    (λ e. le-leb a b (back (leb-true c d e)) ∙ sym e)
    (λ e.
    let far : d < c = leb-false c d e in
    let less : ¬ (a ≤ b) = λ le. omega (arith, there le) in
    lt-leb a b (omega arith) ∙ sym e)

same_lt : (a b c d : ℕ) → (a < b → c < d) → (c < d → a < b) → ltb a b ≡ ltb c d
same_lt a b c d there back =
    by_value (ltb c d)
    (λ e. lt-ltb a b (back (ltb-true c d e)) ∙ sym e)
    (λ e.
    let far : d ≤ c = ltb-false c d e in
    let less : ¬ (a < b) = λ lt. omega (arith, there lt) in
    le-ltb a b (omega arith) ∙ sym e)

-- a start is how it is held, less 2 ^ 32
held_diff : {start : ℤ} {h : ℕ} → Held start h → Diff start h (2 ^ 32)
held_diff {start} {h} held = let same = held_less held in rw (← same) (diff_less h (2 ^ 32))

-- an address from how it is held
abbrev low : ℕ → ℤ
low held = pos held -ℤ pos (2 ^ 32)

nearest_none : (side : Side) (best : Best) → best.key ≡ 0 → nearest_of side best ≡ None
unfolding nearest_of
nearest_none side best e = rw (eq-eqb best.key 0 e, nearest_of)

nearest_some : (side : Side) (best : Best) → 0 < best.key
    → nearest_of side best ≡ Some (record { offset = record { by = low (held_of side best.key) }; function = best.function })
unfolding nearest_of
nearest_some side best lt = let far : ¬ (best.key ≡ 0) = λ e. omega arith in rw (ne_eqb best.key 0 far, nearest_of)

-- ---- one function tried, by the three tests

module _ (side : Side) (d start : ℤ) (size i : ℕ) (known : Option Covered) where
  pub tried_nearer : ¬ (size ≡ 0) → on_side side d start size ≡ true → is_nearer side (edge_of side start size) known ≡ true
      → tried side d start size i known ≡ Some (record { offset = record { by = edge_of side start size }; function = i })
  unfolding tried
  tried_nearer some there nearer =
      let test : (not (eqb size 0) && (on_side side d start size && is_nearer side (edge_of side start size) known)) ≡ true =
      rw (ne_eqb size 0 some, there, nearer) in
      rw (test, tried)

  pub tried_farther : on_side side d start size ≡ true → is_nearer side (edge_of side start size) known ≡ false → tried side d start size i known ≡ known
  unfolding tried
  tried_farther there farther = by_value (not (eqb size 0)) (λ e. rw (and_no e, tried)) (λ e. rw (no-and e, tried))
    where
      and_no : not (eqb size 0) ≡ true → (not (eqb size 0) && (on_side side d start size && is_nearer side (edge_of side start size) known)) ≡ false
      and_no e = rw (e, there, farther)

      no-and : not (eqb size 0) ≡ false → (not (eqb size 0) && (on_side side d start size && is_nearer side (edge_of side start size) known)) ≡ false
      no-and e = rw e

  pub tried_elsewhere : on_side side d start size ≡ false → tried side d start size i known ≡ known
  unfolding tried
  tried_elsewhere away = by_value (not (eqb size 0)) (λ e. rw (and_no e, tried)) (λ e. rw (no-and e, tried))
    where
      and_no : not (eqb size 0) ≡ true → (not (eqb size 0) && (on_side side d start size && is_nearer side (edge_of side start size) known)) ≡ false
      and_no e = rw (e, away)

      no-and : not (eqb size 0) ≡ false → (not (eqb size 0) && (on_side side d start size && is_nearer side (edge_of side start size) known)) ≡ false
      no-and e = rw e

  pub tried_empty : size ≡ 0 → tried side d start size i known ≡ known
  unfolding tried
  tried_empty none =
      let test : (not (eqb size 0) && (on_side side d start size && is_nearer side (edge_of side start size) known)) ≡ false = rw (eq-eqb size 0 none) in
      rw (test, tried)

-- ---- the same by keys, of a function that lies on that side, with its key

better_not : (best : Best) (key i : ℕ) → key ≤ best.key → better best key i ≡ best
unfolding better
better_not best key i le = rw (le-ltb best.key key le, better)

better_now : (best : Best) (key i : ℕ) → best.key < key → better best key i ≡ record { key = key; function = i }
unfolding better
better_now best key i lt = rw (lt-ltb best.key key lt, better)

module _ (side : Side) (d start : ℤ) (size i key : ℕ) (best : Best) (some : ¬ (size ≡ 0)) (positive : 0 < key) where
  by_key : on_side side d start size ≡ true
      → low (held_of side key) ≡ edge_of side start size
      → (0 < best.key → is_nearer side (edge_of side start size) (nearest_of side best) ≡ ltb best.key key)
      → nearest_of side (better best key i) ≡ tried side d start size i (nearest_of side best)
  unfolding is_nearer
  by_key there edge nearer =
      by_value (ltb best.key key)
      (λ e.
      let more : best.key < key = ltb-true best.key key e in
      ap (nearest_of side) (better_now best key i more)
      ∙ nearest_some side (record { key = key; function = i }) positive
      ∙ ap (λ z. Some (record { offset = record { by = z }; function = i })) edge
      ∙ sym (tried_nearer side d start size i (nearest_of side best) some there (is-nearer e)))
      (λ e.
      let less : key ≤ best.key = ltb-false best.key key e in
      ap (nearest_of side) (better_not best key i less)
      ∙ sym (tried_farther side d start size i (nearest_of side best) there (nearer (omega arith) ∙ e)))
    where
      is-nearer : ltb best.key key ≡ true → is_nearer side (edge_of side start size) (nearest_of side best) ≡ true
      is-nearer e =
          by_value (eqb best.key 0)
          (λ none. rw (nearest_none side best (eqb-true best.key 0 none)) (always side))
          (λ one. let far : ¬ (best.key ≡ 0) = eqb-false best.key 0 one in nearer (omega arith) ∙ e)
        where
          always : (side : Side) → is_nearer side (edge_of side start size) None ≡ true
          always Below = refl
          always Above = refl

module _ {start d : ℤ} {h n : ℕ} (size : ℕ) (held : Held start h) (dist : Near d n) (small : size < 2 ^ 32) where
  near-at : n ≡ min ((split d).up + 2 ^ 32 - (split d).down) (2 ^ 34)
  near-at = dist.is ∙ near_is (split d).diff

  -- the tests of a side
  side-below : on_side Below d start size ≡ leb (h + size) n
  unfolding on_side
  side-below =
      let m = near-at in
      let above = held.above in
      let room = held.room in
      diff_le (diff_add (held_diff held) (diff_pos size)) (split d).diff
      ∙ same_le (h + size + (split d).down) ((split d).up + (2 ^ 32 + 0)) (h + size) n (λ le. omega arith) (λ le. omega arith)

  side-above : on_side Above d start size ≡ ltb n h
  unfolding on_side
  side-above =
      let m = near-at in
      let above = held.above in
      let room = held.room in
      diff_lt (split d).diff (held_diff held)
      ∙ same_lt ((split d).up + 2 ^ 32) (h + (split d).down) n h (λ lt. omega arith) (λ lt. omega arith)

  -- the last address
  edge-diff : Diff (edge_of Below start size) (h + size + 0) (2 ^ 32 + 0 + 1)
  unfolding edge_of
  edge-diff = diff_add (diff_add (held_diff held) (diff_pos size)) (diff_neg (diff_pos 1))

  edge-below : low (held_of Below (h + size)) ≡ edge_of Below start size
  unfolding held_of
  edge-below =
      let above = held.above in
      diff_unique (diff_less (h + size - 1) (2 ^ 32)) (diff_same (h + size - 1) (2 ^ 32) (omega arith) edge-diff)

  edge-above : low (held_of Above (2 ^ 34 - h)) ≡ edge_of Above start size
  unfolding held_of edge_of
  edge-above =
      let room = held.room in
      let same : 2 ^ 34 - (2 ^ 34 - h) ≡ h = omega arith in
      rw same (held_less held)

  module _ (best : Best) (bounded : best.key ≤ 2 ^ 34) where
    nearer-below : 0 < best.key → is_nearer Below (edge_of Below start size) (nearest_of Below best) ≡ ltb best.key (h + size)
    unfolding is_nearer held_of
    nearer-below lt =
        rw (nearest_some Below best lt)
        (diff_lt (diff_less (best.key - 1) (2 ^ 32)) edge-diff
        ∙ same_lt (best.key - 1 + (2 ^ 32 + 0 + 1)) (h + size + 0 + 2 ^ 32) best.key (h + size) (λ l. omega arith) (λ l. omega arith))

    nearer-above : 0 < best.key → is_nearer Above (edge_of Above start size) (nearest_of Above best) ≡ ltb best.key (2 ^ 34 - h)
    unfolding is_nearer held_of edge_of
    nearer-above lt =
        let room = held.room in
        rw (nearest_some Above best lt)
        (diff_lt (held_diff held) (diff_less (2 ^ 34 - best.key) (2 ^ 32))
        ∙ same_lt (h + 2 ^ 32) (2 ^ 34 - best.key + 2 ^ 32) best.key (2 ^ 34 - h) (λ l. omega arith) (λ l. omega arith))

    -- a function that is not empty
    side-tried : (side : Side) (i : ℕ) → ¬ (size ≡ 0)
        → nearest_of side (better best (side_key side h size n) i) ≡ tried side d start size i (nearest_of side best)
    unfolding side_key
    side-tried Below i some =
        let above = held.above in
        by_value (leb (h + size) n)
        (λ e. rw (e, side_key) (by_key Below d start size i (h + size) best some (omega arith) (side-below ∙ e) edge-below nearer-below))
        (λ e.
        rw (e, side_key)
        (ap (nearest_of Below) (better_not best 0 i (omega arith)) ∙ sym (tried_elsewhere Below d start size i (nearest_of Below best) (side-below ∙ e))))
    side-tried Above i some =
        let room = held.room in
        by_value (ltb n h)
        (λ e. rw (e, side_key) (by_key Above d start size i (2 ^ 34 - h) best some (omega arith) (side-above ∙ e) edge-above nearer-above))
        (λ e.
        rw (e, side_key)
        (ap (nearest_of Above) (better_not best 0 i (omega arith)) ∙ sym (tried_elsewhere Above d start size i (nearest_of Above best) (side-above ∙ e))))

    -- any function
    pub key_tried : (side : Side) (i : ℕ) → nearest_of side (better best (key_by side h size n) i) ≡ tried side d start size i (nearest_of side best)
    unfolding key_by
    key_tried side i =
        by_value (eqb size 0)
        (λ e.
        rw (e, key_by)
        (ap (nearest_of side) (better_not best 0 i (omega arith)) ∙ sym (tried_empty side d start size i (nearest_of side best) (eqb-true size 0 e))))
        (λ e. rw (e, key_by) (side-tried side i (eqb-false size 0 e)))
