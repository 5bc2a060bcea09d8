-- The walk over the entries of a section, turn by turn: where the entry before ends, how many rows there were, and that what
-- is left to try decides as the whole does.
-- Assumes nothing.
use mathlib.Core.Path.{◌≡◌, refl, sym, ◌∙◌, ap}
use mathlib.Core.Bool.{Bool, true, false, ◌&&◌}
use mathlib.Core.List.{List, [], ◌∷◌}
use Prim.Native.Nat.{ℕ, zero, suc, ◌+◌, ◌-◌, ◌*◌, ◌≤◌, ◌<◌}
use native.Mathlib.Nat.{sub-zero}
use native.Mathlib.Numerals.{add-one}
use native.Mathlib.Omega.{arith}
use lib.Dec.{ltb}
use lib.IntN.{ℤ, pos, ◌+ℤ◌}
use lib.Signed.{lt_z}
use borrow.Author.Tests.{ltb-true, ltb-false, le-ltb}
use Rattle.numbers.specs.Inner.Held.{Held}
use Rattle.numbers.proofs.HeldLaws.{overlaps, follows}
use Rattle.section.specs.Header.{layout_of}
use Rattle.section.specs.Meaning.{area_of, shape_of, entry_in, function_start}
use Rattle.accept.specs.Computed.Checks.{first_bad, and_then, given_at, then_try, first_of, entry_fault, out_of_order, turn_fault, rows_below, sum_fault, entries_verdict}
use Rattle.accept.specs.Fault.{Sound, Breaks}
use Rattle.accept.specs.Verdict.{Refused}
use Rattle.accept.proofs.FaultLaws.{left_goes_on, left_stops, left_ends}

-- `low` holds where the entry before entry i ends, and is 0 before the first
abbrev pub EndsAt : List ℕ → ℕ → ℕ → Type 0
EndsAt s zero low = low ≡ 0
EndsAt s (suc i) low = (h : ℕ) × Held (function_start s i) h × (low ≡ h + (entry_in s i).size)

-- i entries are behind; `rows` are their rows
pub record Turned (s : List ℕ) (low rows i : ℕ) : Type 0 where
  pub end : EndsAt s i low
  pub sum : rows ≡ rows_below s i
  pub small : rows ≤ i * 0xffff_ffff
  pub within : i ≤ (layout_of s).functions
  pub rest : first_of (turn_fault s) ((layout_of s).functions - i) i ≡ first_of (turn_fault s) (layout_of s).functions 0

pub turns_begin : (s : List ℕ) → Turned s 0 0 0
unfolding rows_below
turns_begin s = record { end = refl; sum = refl; small = omega arith; within = omega arith; rest = rw sub-zero }

-- two starts compare as they are held
same_test : {later earlier : ℤ} {h i : ℕ} (size : ℕ) (test : Bool) → Held later h → Held earlier i → ltb h (i + size) ≡ test
    → lt_z later (earlier +ℤ pos size) ≡ test
same_test {h = h} {i = i} size true held held' e = overlaps size held held' (ltb-true h (i + size) e)
same_test {h = h} {i = i} size false held held' e = follows size held held' (ltb-false h (i + size) e)

and_false : (test : Bool) → (test && false) ≡ false
and_false true = refl
and_false false = refl

-- the test of 14, as the code makes it
order_test : (s : List ℕ) (i start low : ℕ) → Held (function_start s i) start → EndsAt s i low
    → ((layout_of s).sorted && ltb start low) ≡ out_of_order s i
unfolding out_of_order
order_test s zero start low held end = rw (end, le-ltb start 0 (omega arith)) (and_false (layout_of s).sorted)
order_test s (suc i) start low held end =
    rw end.2 (ap (λ test. (layout_of s).sorted && test) (sym (same_test (entry_in s i).size _ held end.1 refl)))

-- a turn, as the code makes it
pub turn_is : (s : List ℕ) (i start low : ℕ) → Held (function_start s i) start → EndsAt s i low
    → and_then (entry_fault (area_of s) (shape_of s) (entry_in s i)) (first_bad (((layout_of s).sorted && ltb start low, 14) ∷ [])) ≡ turn_fault s i
unfolding turn_fault
turn_is s i start low held end = rw (order_test s i start low held end)

pub turns_go_on : {s : List ℕ} {low rows i start : ℕ} → Turned s low rows i → i < (layout_of s).functions
    → Held (function_start s i) start → (entry_in s i).rows < 0x1_0000_0000 → turn_fault s i ≡ Sound
    → Turned s (start + (entry_in s i).size) (rows + (entry_in s i).rows) (i + 1)
unfolding rows_below
turns_go_on {s} {low} {rows} {i} {start} t lt held small sound =
    rw (add-one i)
    (record {
      end = (start, held, refl);
      sum = rw t.sum;
      small = omega (arith, t.small);
      within = lt;
      rest = sym (left_goes_on _ (layout_of s).functions i lt sound) ∙ t.rest;
    })

pub turns_stop : {s : List ℕ} {low rows i number : ℕ} → Turned s low rows i → i < (layout_of s).functions → turn_fault s i ≡ Breaks number
    → Refused number i ≡ entries_verdict s
unfolding then_try entries_verdict
turns_stop {s} {i = i} t lt breaks =
    ap (λ verdict. then_try verdict (given_at 0 (sum_fault s))) (sym (left_stops _ (layout_of s).functions i lt breaks) ∙ t.rest)

pub turns_end : {s : List ℕ} {low rows i : ℕ} → Turned s low rows i → (layout_of s).functions ≤ i → given_at 0 (sum_fault s) ≡ entries_verdict s
unfolding then_try entries_verdict
turns_end {s} {i = i} t le = ap (λ verdict. then_try verdict (given_at 0 (sum_fault s))) (sym (left_ends _ (layout_of s).functions i le) ∙ t.rest)
