-- What the layers above rely on in a section that obeys the rules: where its parts lie, how many functions it has, that its rows
-- can be read and rise, and that sorted functions lie apart.
-- Assumes nothing.
use mathlib.Core.Path.{◌≡◌, refl}
use mathlib.Core.Bool.{Bool, true, false}
use mathlib.Core.List.{List}
use mathlib.Core.Logic.{◌↔◌}
use Prim.Native.Nat.{ℕ, suc, ◌+◌, ◌-◌, ◌*◌, ◌≤◌, ◌<◌}
use native.Mathlib.Omega.{arith}
use lib.IntN.{ℤ, pos, negsuc, ◌+ℤ◌}
use lib.ListN.{length, length-drop}
use lib.Signed.{◌≤ℤ◌, lt_z, le_z_yes, lt_z_yes, lt_z_no, <ℤ-≤ℤ_trans, clash_ℤ}
use borrow.Author.Tests.{le-leb}
use Rattle.numbers.proofs.DiffLaws.{Diff, diff_pos, diff_add, diff_le}
use Rattle.section.specs.Entry.{type_of}
use Rattle.section.specs.Header.{order_of, marks_of, sizes_of, layout_from, layout_of}
use Rattle.section.specs.Meaning.{area_of, shape_of, entry_in, row_place_at, function_in, function_start, function_end}
use Rattle.section.specs.Same.{AllowedRows, SameFunction}
use Rattle.section.specs.Shape.{known_abi}
use Rattle.section.specs.Inner.Reading.{Readable}
use Rattle.section.proofs.SameLaws.{function_same}
use Rattle.accept.specs.Rules.{function_count, row_count, row_info_at, row_start_at, HeaderObeys, Obeys}
use Rattle.accept.specs.Computed.Checks.{entry_fault, verdict}
use Rattle.accept.specs.Inner.Reliable.{Reliable}
use Rattle.accept.specs.Fault.{Sound}
use Rattle.accept.specs.Verdict.{Accepted}
use Rattle.accept.proofs.Exactly.{accepted_exactly_when, entry_exactly_when}
use Rattle.accept.proofs.InOrder.{in_order}
use Rattle.accept.proofs.RowLaws.{entry_readable, entry_rising}

-- ---- the header

pub few_functions : {s : List ℕ} → HeaderObeys s → function_count s ≤ 838859
few_functions h = omega arith

pub area_inside : {s : List ℕ} → HeaderObeys s → (layout_of s).area ≤ length s
unfolding function_count layout_of layout_from
area_inside h = omega arith

pub area_length : {s : List ℕ} → HeaderObeys s → length (area_of s) ≡ (sizes_of s (order_of s)).bytes
unfolding area_of function_count layout_of layout_from
area_length h = simp length-drop (omega arith)

pub entry_inside : {s : List ℕ} → HeaderObeys s → (i : ℕ) → i < function_count s → (layout_of s).table + 20 * i + 20 ≤ (layout_of s).area
unfolding function_count layout_of layout_from
entry_inside h i lt = omega arith

pub known_abi_lem : {s : List ℕ} → HeaderObeys s → known_abi (marks_of s).abi ≡ true
unfolding known_abi
known_abi_lem h = rw (le-leb 1 _ h.rule6.0) (le-leb _ 3 h.rule6.1)

-- ---- rows

fault_free : {s : List ℕ} → Obeys s → (i : ℕ) → i < function_count s → entry_fault (area_of s) (shape_of s) (entry_in s i) ≡ Sound
fault_free {s} obeys i lt =
    let entry = obeys.entries i lt in
    (entry_exactly_when s i).1 (entry.rule9, entry.rule10, entry.first, entry.rows)

pub row_readable : {s : List ℕ} → Obeys s → (i k : ℕ) → i < function_count s → k < row_count s i
    → Readable (area_of s) (type_of (entry_in s i).info) (row_place_at s i k)
unfolding row_count
row_readable obeys i k lt inside = entry_readable _ _ _ (fault_free obeys i lt) k inside

pub rows_rising_lem : {s : List ℕ} → Obeys s → (i j k : ℕ) → i < function_count s → j < k → k < row_count s i → row_start_at s i j < row_start_at s i k
unfolding row_count row_start_at
rows_rising_lem obeys i j k lt less inside = entry_rising _ _ _ (fault_free obeys i lt) j k less inside

-- ---- sorted functions

pub pass_on : {a b c : ℤ} → a ≤ℤ b → b ≤ℤ c → a ≤ℤ c
pass_on {a} {b} {c} p q = by_less (lt_z c a) refl
  where
    by_less : (less : Bool) → lt_z c a ≡ less → a ≤ℤ c
    by_less true e = clash_ℤ (<ℤ-≤ℤ_trans (lt_z_yes (rw e tt)) p) q
    by_less false e = lt_z_no (rw e tt)

grown : {z : ℤ} {a b : ℕ} → Diff z a b → (size : ℕ) → z ≤ℤ (z +ℤ pos size)
grown {z} {a} {b} h size = le_z_yes (rw (diff_le h (diff_add h (diff_pos size)), le-leb (a + (b + 0)) (a + size + b) (omega arith)) tt)

pub no_less : (z : ℤ) (size : ℕ) → z ≤ℤ (z +ℤ pos size)
no_less (pos k) size = grown (diff_pos k) size
no_less (negsuc k) size = grown {a = 0} {b = suc k} (record { apart = omega arith }) size

pub sorted_apart : {s : List ℕ} → Obeys s → (layout_of s).sorted ≡ true → (i j : ℕ) → i < j → j < function_count s → function_end s i ≤ℤ function_start s j
sorted_apart {s} obeys set =
    in_order (λ i j. function_end s i ≤ℤ function_start s j)
    (λ i j k p q. pass_on p (pass_on (no_less (function_start s j) (entry_in s j).size) q))
    (function_count s)
    (λ i lt. let before : suc i - 1 ≡ i = omega arith in rw before at ((obeys.entries (suc i) lt).rule14 set (omega arith)))

-- ---- the same functions

allowed : {s : List ℕ} → Obeys s → (i : ℕ) → i < function_count s → AllowedRows s i
unfolding row_count row_info_at
allowed obeys i lt k inside =
    let rule = ((obeys.entries i lt).rows k inside).rule12 in
    (rule.1, rule.2)

-- in two accepted sections of one ABI, two functions are decoded to equal ones exactly when they are the same
pub accepted_same : (s t : List ℕ) → verdict s ≡ Accepted → verdict t ≡ Accepted → (layout_of s).abi ≡ (layout_of t).abi
    → (i j : ℕ) → i < function_count s → j < function_count t → (function_in s i ≡ function_in t j) ↔ SameFunction s i t j
accepted_same s t e f abi i j lt less =
    function_same s t i j abi (allowed ((accepted_exactly_when s).0 e) i lt) (allowed ((accepted_exactly_when t).0 f) j less)

-- ---- all of it, from the verdict

pub accepted_laws : (s : List ℕ) → verdict s ≡ Accepted → Reliable s
accepted_laws s e =
    let obeys = (accepted_exactly_when s).0 e in
    record {
      header = obeys.header;
      few = few_functions obeys.header;
      entries = fault_free obeys;
      rows = row_readable obeys;
      apart = sorted_apart obeys;
    }
