-- One turn of the walk over a function's rows at a time: how many start at or below o is the same from each of them on.
-- Assumes nothing.
use mathlib.Core.Path.{◌≡◌, refl, sym, ◌∙◌}
use mathlib.Core.List.{List}
use Prim.Native.Nat.{ℕ, suc, ◌+◌, ◌-◌, ◌≤◌, ◌<◌}
use native.Mathlib.Omega.{arith}
use Rattle.numbers.specs.declared.field.Order.{Order}
use Rattle.section.specs.Row.{row_length, row_place, row_start}
use Rattle.lookup.specs.Inner.Search.{leading, stop_of}
use Rattle.lookup.proofs.LastRowLaws.{leading_on, leading_stop}

module _ (area : List ℕ) (order : Order) (code first count o : ℕ) where
  abbrev start : ℕ → ℕ
  start k = row_start area order code (row_place area code first k)

  -- the walk before row k, which stands at `at`; the row before it stands at `place`
  pub record Passed (place at k : ℕ) : Type 0 where
    pub within : k ≤ count
    pub at_is : at ≡ row_place area code first k
    pub place_is : place ≡ row_place area code first (k - 1)
    pub same : leading start o (count - k) k ≡ leading start o count 0

  pub passing_begins : Passed first first 0
  unfolding row_place
  passing_begins =
      let all : count - 0 ≡ count = omega arith in
      record { within = omega arith; at_is = refl; place_is = refl; same = rw all }

module _ {area : List ℕ} {order : Order} {code first count o place at k : ℕ} (passed : Passed area order code first count o place at k) where
  stop-at : (rows : ℕ) → leading (start area order code first count o) o count 0 ≡ rows → place ≡ row_place area code first (rows - 1)
      → (record { rows = rows; place = place }) ≡ stop_of area order code first count o
  unfolding stop_of
  stop-at rows e f = rw (e, f)

  module _ (lt : k < count) where
    left : count - k ≡ suc (count - suc k)
    left = omega arith

    pub passes_on : row_start area order code at ≤ o → Passed area order code first count o at (at + row_length area code at) (suc k)
    unfolding row_place
    passes_on le =
        let before : suc k - 1 ≡ k = omega arith in
        record {
          within = omega arith;
          at_is = rw passed.at_is;
          place_is = rw before passed.at_is;
          same = sym (leading_on _ o (count - suc k) k (rw passed.at_is at le)) ∙ (rw left at passed.same);
        }

    pub passing_stops : o < row_start area order code at → (record { rows = k; place = place }) ≡ stop_of area order code first count o
    passing_stops above =
        stop-at k (sym (rw left at passed.same) ∙ leading_stop _ o (count - suc k) k (rw passed.at_is at above)) passed.place_is

  pub passing_ends : count ≤ k → (record { rows = k; place = place }) ≡ stop_of area order code first count o
  unfolding leading
  passing_ends le =
      let over : count - k ≡ 0 = omega arith in
      stop-at k (sym (rw over at passed.same)) passed.place_is
