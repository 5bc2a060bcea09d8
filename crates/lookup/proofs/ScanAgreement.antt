-- What the scan of one function looks at decides what it finds: two row areas that agree on those bytes (specs/Scanned) have the same stop,
-- the same row found and, where both entries are sound, the same last row, whatever else they hold. So the offsets of a row that is passed
-- change nothing. Assumes nothing.
use mathlib.Core.Path.{◌≡◌, refl, sym, ◌∙◌, ap}
use mathlib.Core.List.{List}
use mathlib.Core.Logic.{◌↔◌}
use Prim.Native.Nat.{ℕ, zero, suc, ◌+◌, ◌-◌, ◌^◌, ◌≤◌, ◌<◌}
use native.Mathlib.Omega.{arith}
use lib.Dec.{ltb}
use lib.ListN.{take, drop}
use borrow.Author.Tests.{ltb-true, ltb-false}
use Rattle.numbers.specs.Agree.{InSpan, AgreeOn}
use Rattle.numbers.specs.declared.field.Order.{Order}
use Rattle.numbers.proofs.AgreeLaws.{part_agrees}
use Rattle.section.specs.Entry.{type_of}
use Rattle.section.specs.Meaning.{listed, row_in}
use Rattle.section.specs.Row.{info_of, count_of, row_length, row_place, row_of}
use Rattle.section.specs.declared.entry.Entry.{Entry}
use Rattle.section.specs.declared.shape.Shape.{Shape}
use Rattle.section.proofs.RowAgreement.{start_agrees, length_agrees, row_agrees}
use Rattle.accept.specs.Computed.Checks.{entry_fault}
use Rattle.accept.specs.Fault.{Sound}
use Rattle.accept.proofs.RowLaws.{entry_readable}
use Rattle.lookup.specs.Scanned.{start_in, RowPassed, LastPassed, StopsAt, LookedAt, of_passed, of_found, of_stop}
use Rattle.lookup.specs.Computed.Rows.{last_row}
use Rattle.lookup.specs.Inner.Search.{stop_of}
use Rattle.lookup.proofs.CoveringLaws.{by_value}
use Rattle.lookup.proofs.EntryRows.{entry_stop, stop_none, stop_last}
use Rattle.lookup.proofs.LastRowLaws.{Halts, halts, halts_alone}

-- ---- the scan passes the rows below the number at which it stops, and no others

module _ (area : List ℕ) (order : Order) (code first count o : ℕ) where
  abbrev start : ℕ → ℕ
  start k = start_in area order code first k

  abbrev passed : ℕ
  passed = (stop_of area order code first count o).rows

  stopped : Halts start o count 0 passed
  unfolding stop_of
  stopped = halts start o count

  is-passed : (k : ℕ) → k < passed → RowPassed area order code first count o k
  is-passed k lt = (omega (arith, stopped.within), λ j le. stopped.below j (omega arith) (omega arith))

  below-stop : (k : ℕ) → RowPassed area order code first count o k → k < passed
  below-stop k row =
      by_value (ltb k passed) (ltb-true k passed) λ e.
      let past : passed ≤ k = ltb-false k passed e in
      absurd (omega (arith, row.0, row.1 passed past, stopped.stop (omega (arith, row.0))))

  pub passed_exactly_when : (k : ℕ) → RowPassed area order code first count o k ↔ (k < passed)
  passed_exactly_when k = (below-stop k, is-passed k)

  pub last_passed_exactly_when : (k : ℕ) → LastPassed area order code first count o k ↔ (suc k ≡ passed)
  last_passed_exactly_when k = (
    λ last.
        by_value (ltb (suc k) passed)
        (λ e. absurd (omega (arith, last.1 (suc k) (is-passed (suc k) (ltb-true (suc k) passed e)))))
        (λ e. let past : passed ≤ suc k = ltb-false (suc k) passed e in omega (arith, below-stop k last.0)),
    λ e. (is-passed k (omega arith), λ j row. omega (arith, below-stop j row)),
  )

  pub stops_exactly_when : (k : ℕ) → StopsAt area order code first count o k ↔ ((k ≡ passed) × (k < count))
  unfolding stop_of
  stops_exactly_when k = (
    λ stop.
        let (inside, above, before) = stop in
        (sym (halts_alone start o count k (record { from = omega arith; within = omega arith; below = λ j le lt. before j lt; stop = λ lt. above })), inside),
    λ h.
        let (is, inside) = h in
        (inside, rw is (stopped.stop (rw is at inside)), λ j lt. stopped.below j (omega arith) (omega arith)),
  )

-- every byte that is looked at lies in one of the function's rows
pub looked_at_in_rows : {area : List ℕ} {order : Order} {code first count o : ℕ} (p : ℕ) → LookedAt area order code first count o p
    → (k : ℕ) × (k < count) × InSpan (row_place area code first k) (row_length area code (row_place area code first k)) p
unfolding row_length
looked_at_in_rows p (of_passed k row span) = (k, row.0, (span.0, omega (arith, span.1)))
looked_at_in_rows p (of_found k last span) = (k, last.0.0, span)
looked_at_in_rows p (of_stop k stop span) = (k, stop.0, (span.0, omega (arith, span.1)))

-- ---- two row areas that agree on what the scan of the first looks at

module _ (area other : List ℕ) (order : Order) (code first count o : ℕ) (same : AgreeOn (LookedAt area order code first count o) area other) where
  abbrev rows : ℕ
  rows = (stop_of area order code first count o).rows

  fixed : (k : ℕ) → k < rows → AgreeOn (InSpan (row_place area code first k) (2 ^ code + 1)) area other
  fixed k lt p said = same p (of_passed k (is-passed area order code first count o k lt) said)

  -- up to the row at which it stops, rows stand at the same places
  pub place_agrees : (k : ℕ) → k ≤ rows → row_place area code first k ≡ row_place other code first k
  unfolding row_place
  place_agrees zero le = refl
  place_agrees (suc k) le =
      rw (← place_agrees k (omega arith), length_agrees area other code (row_place area code first k) (fixed k (omega arith)))

  -- and start alike
  start-same : (k : ℕ) → k ≤ rows → AgreeOn (InSpan (row_place area code first k) (2 ^ code)) area other
      → start_in area order code first k ≡ start_in other order code first k
  start-same k le agree = rw (← place_agrees k le) (start_agrees area other code (row_place area code first k) order agree)

  stops-alike : Halts (λ k. start_in other order code first k) o count 0 rows
  stops-alike =
      let here = stopped area order code first count o in
      record {
        from = omega arith;
        within = here.within;
        below = λ j le lt.
            let alike = start-same j (omega arith) (λ p said. fixed j lt p (said.0, omega (arith, said.1))) in
            rw (← alike) (here.below j le lt);
        stop = λ lt.
            let stop = (stops_exactly_when area order code first count o rows).1 (refl, lt) in
            let alike = start-same rows (omega arith) (λ p said. same p (of_stop rows stop said)) in
            rw (← alike) (here.stop lt);
      }

  -- the same stop: as many rows are passed, and the last of them stands at the same place
  pub stop_agrees : stop_of area order code first count o ≡ stop_of other order code first count o
  unfolding stop_of
  stop_agrees =
      rw (halts_alone (λ k. start_in other order code first k) o count rows stops-alike, place_agrees (rows - 1) (omega arith))

  -- the row found is the same byte for byte
  module _ (k : ℕ) (last : LastPassed area order code first count o k) where
    found_at : row_place area code first k ≡ row_place other code first k
    found_at = place_agrees k (omega (arith, (last_passed_exactly_when area order code first count o k).0 last))

    found : AgreeOn (InSpan (row_place area code first k) (row_length area code (row_place area code first k))) area other
    found p said = same p (of_found k last said)

    pub found_bytes_agree : take (row_length area code (row_place area code first k)) (drop (row_place area code first k) area)
        ≡ take (row_length other code (row_place other code first k)) (drop (row_place other code first k) other)
    unfolding row_length
    found_bytes_agree =
        let length = length_agrees area other code (row_place area code first k) (λ p said. found p (said.0, omega (arith, said.1))) in
        rw (← found_at, ← length) (part_agrees area other (row_place area code first k) (row_length area code (row_place area code first k)) found)

    -- and, if it has an offset for CFA, as a row
    pub found_row_agrees : (shape : Shape) → 0 < count_of (info_of area code (row_place area code first k))
        → row_of area shape code (row_place area code first k) ≡ row_of other shape code (row_place other code first k)
    found_row_agrees shape some = rw (← found_at) (row_agrees area other code (row_place area code first k) some found shape)

-- ---- the rows of an entry that is sound over both

module _ (area other : List ℕ) (shape : Shape) (entry : Entry) (o : ℕ) (sound : entry_fault area shape entry ≡ Sound)
    (also : entry_fault other shape entry ≡ Sound)
    (same : AgreeOn (LookedAt area shape.order (type_of entry.info) entry.first entry.rows o) area other) where
  abbrev code : ℕ
  code = type_of entry.info

  one-stop : entry_stop area shape entry o ≡ entry_stop other shape entry o
  one-stop = stop_agrees area other shape.order code entry.first entry.rows o same

  -- the row at which both stop
  one_found : 0 < (entry_stop area shape entry o).rows
      → row_of area shape code (entry_stop area shape entry o).place ≡ row_of other shape code (entry_stop area shape entry o).place
  unfolding stop_of
  one_found some =
      let k = (entry_stop area shape entry o).rows - 1 in
      let last = (last_passed_exactly_when area shape.order code entry.first entry.rows o k).1 (omega arith) in
      let announced = (entry_readable area shape entry sound k last.0.0).some in
      found_row_agrees area other shape.order code entry.first entry.rows o same k last shape announced
      ∙ ap (row_of other shape code) (sym (place_agrees area other shape.order code entry.first entry.rows o same k (omega arith)))

  -- the same last row at or below o, with the same number, or none in both
  pub last_row_agrees : last_row o 0 (listed (row_in area shape entry) entry.rows 0) ≡ last_row o 0 (listed (row_in other shape entry) entry.rows 0)
  last_row_agrees =
      by_value (ltb 0 (entry_stop area shape entry o).rows)
      (λ e.
      let some : 0 < (entry_stop area shape entry o).rows = ltb-true 0 _ e in
      stop_last area shape entry o sound some
      ∙ rw (one_found some, one-stop) (sym (stop_last other shape entry o also (rw one-stop at some))))
      (λ e.
      let none : (entry_stop area shape entry o).rows ≡ 0 = omega (arith, ltb-false 0 (entry_stop area shape entry o).rows e) in
      stop_none area shape entry o sound none ∙ sym (stop_none other shape entry o also (rw one-stop at none)))
