-- What the checks of rows look at decides what they find: two row areas of one length that agree on the starts and info bytes of the rows
-- that are tried (specs/Tried) have the same fault, or none, whatever their offsets are. Assumes nothing.
use mathlib.Core.Path.{◌≡◌, refl, ap}
use mathlib.Core.List.{List}
use mathlib.Core.Logic.{⊎_elim}
use Prim.Native.Nat.{ℕ, zero, suc, ◌+◌, ◌^◌, ◌≤◌, ◌<◌}
use native.Mathlib.Nat.{eq-or-lt_of_le}
use native.Mathlib.Omega.{arith}
use lib.ListN.{length, length-drop}
use Rattle.numbers.specs.Agree.{InSpan, AgreeOn}
use Rattle.numbers.specs.declared.field.Order.TheVariants.{Little, Big}
use Rattle.section.specs.Entry.{type_of}
use Rattle.section.specs.Header.{order_of, layout_of}
use Rattle.section.specs.Meaning.{area_of, shape_of, entry_in}
use Rattle.section.specs.Row.{row_place}
use Rattle.section.specs.declared.entry.Entry.{Entry}
use Rattle.section.specs.declared.shape.Shape.{Shape}
use Rattle.section.proofs.PartAgreement.{magic_agrees, order_agrees, marks_agree, sizes_agree, layout_agrees, shape_agrees, entries_agree}
use Rattle.section.proofs.RowAgreement.{start_agrees, info_agrees, length_agrees}
use Rattle.accept.specs.Tried.{RowTried, TriedAt, CheckAlike}
use Rattle.accept.specs.Computed.Checks.{given_at, then_try, first_of, fault_of, header_tests, header_fault, entry_tests, row_tests, row_fault, low_of, row_fault_in, rows_fault, entry_fault, out_of_order, turn_fault, rows_below, sum_fault, entries_verdict, verdict}
use Rattle.accept.specs.Fault.{Fault, Sound, Breaks}

-- ---- the first fault of two lists of things that are alike up to it

first_alike : (f g : ℕ → Fault) (left k : ℕ)
    → ((j : ℕ) → k ≤ j → j < k + left → ((i : ℕ) → k ≤ i → i < j → f i ≡ Sound) → f j ≡ g j)
    → first_of f left k ≡ first_of g left k
unfolding first_of given_at then_try
first_alike f g zero k alike = refl
first_alike f g (suc left) k alike =
    by (f k) refl (alike k (omega arith) (omega arith) (λ i le lt. absurd (omega arith)))
    (λ here.
    first_alike f g left (suc k)
    (λ j le lt sound.
    alike j (omega arith) (omega arith) (λ i from less. ⊎_elim (λ is. rw (← is) here) (λ past. sound i past less) (eq-or-lt_of_le from))))
  where
    by : (fault : Fault) → f k ≡ fault → f k ≡ g k → (f k ≡ Sound → first_of f left (suc k) ≡ first_of g left (suc k))
        → first_of f (suc left) k ≡ first_of g (suc left) k
    by Sound e same rest = rw (← same, e) (rest e)
    by (Breaks number) e same rest = rw (← same, e)

-- ---- rows

module _ (area other : List ℕ) (shape : Shape) (code first count : ℕ) (long : length area ≡ length other)
    (same : AgreeOn (TriedAt area shape code first count) area other) where
  fixed : (k : ℕ) → RowTried area shape code first count k → AgreeOn (InSpan (row_place area code first k) (2 ^ code + 1)) area other
  fixed k tried p said = same p (record { row = k; tried = tried; span = said })

  before : (k : ℕ) → RowTried area shape code first count (suc k) → RowTried area shape code first count k
  before k tried = (omega (arith, tried.0), λ j lt. tried.1 j (omega arith))

  one_place : (k : ℕ) → RowTried area shape code first count k → row_place area code first k ≡ row_place other code first k
  unfolding row_place
  one_place zero tried = refl
  one_place (suc k) tried =
      rw (← one_place k (before k tried), length_agrees area other code (row_place area code first k) (fixed k (before k tried)))

  one-low : (k : ℕ) → RowTried area shape code first count k → low_of area shape.order code first k ≡ low_of other shape.order code first k
  unfolding low_of
  one-low zero tried = refl
  one-low (suc k) tried =
      let here = fixed k (before k tried) in
      rw (
        ← one_place k (before k tried),
        start_agrees area other code (row_place area code first k) shape.order (λ p said. here p (said.0, omega (arith, said.1))),
      )

  one-fault : (k : ℕ) → RowTried area shape code first count k → row_fault_in area shape code first k ≡ row_fault_in other shape code first k
  unfolding row_fault_in row_fault row_tests
  one-fault k tried =
      let here = fixed k tried in
      let at = row_place area code first k in
      rw (
        ← one_place k tried,
        ← one-low k tried,
        long,
        info_agrees area other code at here,
        length_agrees area other code at here,
        start_agrees area other code at shape.order (λ p said. here p (said.0, omega (arith, said.1))),
      )

  -- the same number, or none
  pub rows_fault_agrees : rows_fault area shape code first count ≡ rows_fault other shape code first count
  unfolding rows_fault
  rows_fault_agrees =
      ap fault_of
      (first_alike (row_fault_in area shape code first) (row_fault_in other shape code first) count 0
      (λ j le lt sound. one-fault j (omega arith, λ i less. sound i (omega arith) less)))

-- ---- an entry

-- 9 and 10 look at no row area, and the first test of 11 at its length
pub entry_fault_agrees : (area other : List ℕ) (shape : Shape) (entry : Entry) → length area ≡ length other
    → AgreeOn (TriedAt area shape (type_of entry.info) entry.first entry.rows) area other
    → entry_fault area shape entry ≡ entry_fault other shape entry
unfolding entry_fault entry_tests
entry_fault_agrees area other shape entry long same =
    rw (long, rows_fault_agrees area other shape (type_of entry.info) entry.first entry.rows long same)

-- ---- the header

-- 1 to 8 look at the length and the first 28 bytes
pub header_fault_agrees : (s t : List ℕ) → length s ≡ length t → AgreeOn (InSpan 0 28) s t → header_fault s ≡ header_fault t
unfolding header_fault header_tests
header_fault_agrees s t long same =
    rw (
      long,
      magic_agrees s t same Little,
      magic_agrees s t same Big,
      marks_agree s t same,
      order_agrees s t same,
      sizes_agree s t same (order_of t),
    )

-- ---- a whole section

module _ (s t : List ℕ) (alike : CheckAlike s t) where
  one-layout : layout_of s ≡ layout_of t
  one-layout = layout_agrees s t alike.header

  one_entry : (i : ℕ) → i < (layout_of s).functions → entry_in s i ≡ entry_in t i
  one_entry i lt = entries_agree s t alike.header alike.table i lt

  one-header : header_fault s ≡ header_fault t
  one-header = header_fault_agrees s t alike.long alike.header

  as_long : length (area_of s) ≡ length (area_of t)
  unfolding area_of
  as_long = simp length-drop (rw (one-layout, alike.long))

  one-entry-fault : (i : ℕ) → i < (layout_of s).functions
      → entry_fault (area_of s) (shape_of s) (entry_in s i) ≡ entry_fault (area_of t) (shape_of t) (entry_in t i)
  one-entry-fault i lt =
      rw (← shape_agrees s t alike.header, ← one_entry i lt) (entry_fault_agrees (area_of s) (area_of t) (shape_of s) (entry_in s i) as_long (alike.rows i lt))

  one-order : (i : ℕ) → i < (layout_of s).functions → out_of_order s i ≡ out_of_order t i
  unfolding out_of_order
  one-order zero lt = refl
  one-order (suc i) lt = rw (one-layout, one_entry (suc i) lt, one_entry i (omega arith))

  one-turn : (i : ℕ) → i < (layout_of s).functions → turn_fault s i ≡ turn_fault t i
  unfolding turn_fault
  one-turn i lt = rw (one-entry-fault i lt, one-order i lt)

  one-sum : (i : ℕ) → i ≤ (layout_of s).functions → rows_below s i ≡ rows_below t i
  unfolding rows_below
  one-sum zero le = refl
  one-sum (suc i) le = rw (one-sum i (omega arith), one_entry i (omega arith))

  one-sum-fault : sum_fault s ≡ sum_fault t
  unfolding sum_fault
  one-sum-fault = rw (one-sum (layout_of s).functions (omega arith), one-layout)

  -- the same verdict: accepted, or the same number and index
  pub verdict_agrees : verdict s ≡ verdict t
  unfolding verdict entries_verdict
  verdict_agrees =
      let entries = first_alike (turn_fault s) (turn_fault t) (layout_of s).functions 0 (λ j le lt sound. one-turn j (omega arith)) in
      rw (one-header, entries, one-sum-fault, one-layout)
