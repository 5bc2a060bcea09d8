-- One walk over the rows of a function that checks them and remembers the last at or below o: turn by turn, where the rows at or below end so
-- far, and that it is where a scan of sound rows stops.
-- Assumes nothing.
use mathlib.Core.Path.{◌≡◌, refl, sym, ◌∙◌, ap}
use mathlib.Core.List.{List}
use Prim.Native.Nat.{ℕ, ◌+◌, ◌-◌, ◌≤◌, ◌<◌}
use native.Mathlib.Omega.{arith}
use lib.Dec.{leb}
use borrow.Author.Tests.{leb-true, leb-false}
use Rattle.std.specs.Prelude.{Ok, Err}
use Rattle.numbers.specs.declared.field.Order.{Order}
use Rattle.section.specs.Row.{row_place}
use Rattle.section.specs.declared.shape.Shape.{Shape}
use Rattle.accept.specs.Computed.Checks.{rows_fault}
use Rattle.accept.specs.Fault.{Sound, Breaks}
use Rattle.accept.specs.Inner.Passed.{unless_broken}
use Rattle.lookup.specs.Scanned.{start_in}
use Rattle.lookup.specs.declared.rows.Stop.{Stop}
use Rattle.lookup.specs.Inner.Search.{stop_of}
use Rattle.lookup.proofs.CoveringLaws.{by_value}
use Rattle.lookup.proofs.LastRowLaws.{halts_alone}
use Rattle.ask.specs.Inner.Parts.{stop_after, walk_of}

-- of the first k rows, those before `rows` start at or below o and the others above it; the next one may start at `low`
pub record StopSoFar (area : List ℕ) (order : Order) (code first o low k : ℕ) (stop : Stop) : Type 0 where
  pub few : stop.rows ≤ k
  pub below : (j : ℕ) → j < stop.rows → start_in area order code first j ≤ o
  pub above : (j : ℕ) → stop.rows ≤ j → j < k → o < start_in area order code first j
  -- where one was above, none may come at or below
  pub settled : stop.rows < k → o < low
  pub place_is : stop.place ≡ row_place area code first (stop.rows - 1)

module _ (area : List ℕ) (order : Order) (code first o : ℕ) where
  pub stop_begins : StopSoFar area order code first o 0 0 (record { rows = 0; place = first })
  unfolding row_place
  stop_begins =
      record {
        few = omega arith;
        below = λ j lt. absurd (omega arith);
        above = λ j from lt. absurd (omega arith);
        settled = λ lt. absurd (omega arith);
        place_is = refl;
      }

  module _ (low k : ℕ) (stop : Stop) (sofar : StopSoFar area order code first o low k stop) (start : ℕ) (is : start ≡ start_in area order code first k)
      (least : low ≤ start) where
    abbrev Next : Stop → Type 0
    Next next = StopSoFar area order code first o (start + 1) (k + 1) next

    -- at or below: so were all before it
    taken : start ≤ o → Next (record { rows = k + 1; place = row_place area code first k })
    taken le =
        let late : ¬ (stop.rows < k) = λ less. let above = sofar.settled less in omega arith in
        let all : stop.rows ≡ k = omega (arith, sofar.few, late) in
        record {
          few = omega arith;
          below = λ j lt.
              by_value (leb k j)
              (λ e. let same : j ≡ k = omega (arith, leb-true k j e) in rw same (rw (← is) le))
              (λ e. sofar.below j (omega (arith, leb-false k j e)));
          above = λ j from lt. absurd (omega arith);
          settled = λ lt. absurd (omega arith);
          place_is = ap (row_place area code first) (omega arith);
        }

    left : o < start → Next stop
    left lt =
        record {
          few = omega (arith, sofar.few);
          below = sofar.below;
          above = λ j from less.
              by_value (leb k j)
              (λ e. let same : j ≡ k = omega (arith, leb-true k j e) in rw same (rw (← is) lt))
              (λ e. sofar.above j from (leb-false k j e));
          settled = λ less. omega arith;
          place_is = sofar.place_is;
        }

    pub stop_goes_on : (at : ℕ) → at ≡ row_place area code first k → Next (stop_after stop (k + 1) at start o)
    unfolding stop_after
    stop_goes_on at place =
        by_value (leb start o)
        (λ e. rw (e, stop_after) (rw place (taken (leb-true start o e))))
        (λ e. rw (e, stop_after) (left (leb-false start o e)))

  pub stop_ends : (low count : ℕ) (stop : Stop) → StopSoFar area order code first o low count stop → stop ≡ stop_of area order code first count o
  unfolding stop_of
  stop_ends low count stop sofar i =
      let rows_are = halts_alone (start_in area order code first) o count stop.rows
      (record { from = omega arith; within = omega (arith, sofar.few); below = λ j le lt. sofar.below j lt; stop = λ lt. sofar.above stop.rows (omega arith) lt }) in
      record { rows = sym rows_are i; place = (sofar.place_is ∙ ap (λ rows. row_place area code first (rows - 1)) (sym rows_are)) i }

-- ---- what the walk answers

module _ (area : List ℕ) (shape : Shape) (code first count o : ℕ) where
  pub walk_faulty : {number : ℕ} → Breaks number ≡ rows_fault area shape code first count → Err number ≡ walk_of area shape code first count o
  unfolding walk_of unless_broken
  walk_faulty is = rw (← is)

  pub walk_whole : {stop : Stop} → Sound ≡ rows_fault area shape code first count → stop ≡ stop_of area shape.order code first count o
      → Ok stop ≡ walk_of area shape code first count o
  unfolding walk_of unless_broken
  walk_whole is stops = rw (← is, stops)
