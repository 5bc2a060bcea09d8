-- The rules of document 01's table, 1 to 15 (SPECIFICATION 3.1 to 3.15), each as a plain proposition: what a section that obeys it
-- is like, under the line of the table that says when it is broken. A rule of an entry speaks of entry i, a rule of a row of row k
-- of entry i. Nothing here says how or in which order they are tried.
use Rattle.std.specs.Prelude.{◌≡◌, true, false, ◌⊎◌, ℕ, ◌+◌, ◌-◌, ◌*◌, ◌^◌, ◌≤◌, ◌<◌, length, ◌≤ℤ◌}
use mathlib.Core.List.{List, sum}
use Rattle.numbers.specs.Field.{field_of}
use Rattle.numbers.specs.declared.field.Order.TheVariants.{Little, Big}
use Rattle.section.specs.Entry.{type_of, repeats}
use Rattle.section.specs.Header.{bit_of, order_of, marks_of, sizes_of, layout_of}
use Rattle.section.specs.Meaning.{area_of, shape_of, entry_in, listed, function_start, function_end, row_place_at}
use Rattle.section.specs.Row.{info_of, count_of, offset_size_of, row_length, row_start}

-- ---- the section's parts, in short

-- n, the number of functions
unfoldable pub function_count : List ℕ → ℕ
function_count s = (layout_of s).functions

-- how many rows function i has
unfoldable pub row_count : List ℕ → ℕ → ℕ
row_count s i = (entry_in s i).rows

-- the info byte of row k of function i, how long it is, and its start
unfoldable pub row_info_at : List ℕ → ℕ → ℕ → ℕ
row_info_at s i k = info_of (area_of s) (type_of (entry_in s i).info) (row_place_at s i k)

unfoldable pub row_length_at : List ℕ → ℕ → ℕ → ℕ
row_length_at s i k = row_length (area_of s) (type_of (entry_in s i).info) (row_place_at s i k)

unfoldable pub row_start_at : List ℕ → ℕ → ℕ → ℕ
row_start_at s i k = row_start (area_of s) (shape_of s).order (type_of (entry_in s i).info) (row_place_at s i k)

-- ---- the header

-- 1: "fewer than 28 bytes"
abbrev pub Rule1 : List ℕ → Type 0
Rule1 s = 28 ≤ length s

-- 2: "more than 16,777,216 bytes"
abbrev pub Rule2 : List ℕ → Type 0
Rule2 s = length s ≤ 16777216

-- 3: "magic is neither order"
abbrev pub Rule3 : List ℕ → Type 0
Rule3 s = (field_of s 0 2 Little ≡ 0xdee2) ⊎ (field_of s 0 2 Big ≡ 0xdee2)

-- 4: "version is not 2"
abbrev pub Rule4 : List ℕ → Type 0
Rule4 s = (marks_of s).version ≡ 2

-- 5: "a flag outside 0x07 is set"
abbrev pub Rule5 : List ℕ → Type 0
Rule5 s = (marks_of s).flags ≤ 0x07

-- 6: "ABI is not 1, 2, 3, or disagrees with the byte order": 1 is big, 2 and 3 are little (`shape`)
abbrev pub Rule6 : List ℕ → Type 0
Rule6 s = (1 ≤ (marks_of s).abi) × ((marks_of s).abi ≤ 3) × ((shape_of s).order ≡ order_of s)

-- 7: "fixed FP, RA are not 0, -8 (AMD64) or 0, 0 (AArch64)": these four numbers stand in `shape`
abbrev pub Rule7 : List ℕ → Type 0
Rule7 s = ((marks_of s).fp ≡ (shape_of s).fixedfp) × ((marks_of s).ra ≡ (shape_of s).fixedra)

-- 8: "function table offset is not 0, or row area offset is not 20n, or 28 + auxiliary + 20n + row bytes is not the length"
abbrev pub Rule8 : List ℕ → Type 0
Rule8 s =
    ((sizes_of s (order_of s)).tableoffset ≡ 0)
    × ((sizes_of s (order_of s)).areaoffset ≡ 20 * function_count s)
    × (28 + (marks_of s).auxiliary + 20 * function_count s + (sizes_of s (order_of s)).bytes ≡ length s)

-- ---- entry i

-- 9: "entry info: bit 6 or 7 set, or row type above 2"
abbrev pub Rule9 : List ℕ → ℕ → Type 0
Rule9 s i = (bit_of 6 (entry_in s i).info ≡ false) × (bit_of 7 (entry_in s i).info ≡ false) × (type_of (entry_in s i).info ≤ 2)

-- 10: "PCMASK with repeat size 0"
abbrev pub Rule10 : List ℕ → ℕ → Type 0
Rule10 s i = repeats (entry_in s i).info ≡ true → 0 < (entry_in s i).repeat

-- 11: "first row offset above the row bytes", which by rule 8 are the row area's length
abbrev pub Rule11First : List ℕ → ℕ → Type 0
Rule11First s i = (entry_in s i).first ≤ length (area_of s)

-- ---- row k of entry i

-- 11: "or a row ends past them": its fixed part, start and info byte, and with it its offsets
abbrev pub Rule11Fixed : List ℕ → ℕ → ℕ → Type 0
Rule11Fixed s i k = row_place_at s i k + 2 ^ type_of (entry_in s i).info + 1 ≤ length (area_of s)

abbrev pub Rule11Offsets : List ℕ → ℕ → ℕ → Type 0
Rule11Offsets s i k = row_place_at s i k + row_length_at s i k ≤ length (area_of s)

-- 12: "row info: offset size 3, or a count not allowed"; "Counts allowed: AMD64 1 or 2 (CFA, FP); AArch64 1 to 3 (CFA, RA, FP)." The
-- most, 2 or 3, stands in `shape`; an offset size has two bits, so that it is at most 2 where it is not 3
abbrev pub Rule12 : List ℕ → ℕ → ℕ → Type 0
Rule12 s i k = (offset_size_of (row_info_at s i k) ≤ 2) × (1 ≤ count_of (row_info_at s i k)) × (count_of (row_info_at s i k) ≤ (shape_of s).most)

-- 13: "a row start is not above that of the row before it in the same function"
abbrev pub Rule13 : List ℕ → ℕ → ℕ → Type 0
Rule13 s i k = 0 < k → row_start_at s i (k - 1) < row_start_at s i k

-- ---- entry i and the one before it, and the sum

-- 14: "sorted flag set, and the effective start is below the previous entry's start plus size"
abbrev pub Rule14 : List ℕ → ℕ → Type 0
Rule14 s i = (layout_of s).sorted ≡ true → 0 < i → function_end s (i - 1) ≤ℤ function_start s i

-- 15: "row counts of all entries do not add up to the header's"
abbrev pub Rule15 : List ℕ → Type 0
Rule15 s = sum ◌+◌ 0 (listed (row_count s) (function_count s) 0) ≡ (layout_of s).rows

-- ---- a section that obeys every rule

pub record HeaderObeys (s : List ℕ) : Type 0 where
  pub rule1 : Rule1 s
  pub rule2 : Rule2 s
  pub rule3 : Rule3 s
  pub rule4 : Rule4 s
  pub rule5 : Rule5 s
  pub rule6 : Rule6 s
  pub rule7 : Rule7 s
  pub rule8 : Rule8 s

pub record RowObeys (s : List ℕ) (i k : ℕ) : Type 0 where
  pub fixed : Rule11Fixed s i k
  pub rule12 : Rule12 s i k
  pub offsets : Rule11Offsets s i k
  pub rule13 : Rule13 s i k

pub record EntryObeys (s : List ℕ) (i : ℕ) : Type 0 where
  pub rule9 : Rule9 s i
  pub rule10 : Rule10 s i
  pub first : Rule11First s i
  pub rows : (k : ℕ) → k < row_count s i → RowObeys s i k
  pub rule14 : Rule14 s i

pub record Obeys (s : List ℕ) : Type 0 where
  pub header : HeaderObeys s
  pub entries : (i : ℕ) → i < function_count s → EntryObeys s i
  pub rule15 : Rule15 s
