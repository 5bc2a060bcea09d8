-- Document 01, "Section checks, in this order": the tests as tables, each line a test and the number that it refuses with,
-- and `verdict`, which tries them in order. It is what the code computes; what the numbers mean is said in Rules.
use Rattle.std.specs.Prelude.{ℕ, zero, suc, ◌+◌, ◌*◌, ◌^◌, Bool, true, false, not, ◌&&◌, ◌||◌, List, [], ◌∷◌, ltb, eqb, length}
use Rattle.std.specs.Int.Signed.{le_z, lt_z}
use Rattle.numbers.specs.declared.field.Order.{Order}
use Rattle.numbers.specs.declared.field.Order.TheVariants.{Little, Big}
use Rattle.numbers.specs.declared.offset.Offset.{Offset}
use Rattle.section.specs.Entry.{type_of, repeats}
use Rattle.section.specs.Header.{bit_of, magic_in, order_of, marks_of, sizes_of, layout_of}
use Rattle.section.specs.Meaning.{area_of, shape_of, entry_in, function_start, function_end}
use Rattle.section.specs.Row.{info_of, count_of, offset_size_of, row_length, row_place, row_start}
use Rattle.section.specs.Shape.{known_abi, abi_of, shape}
use Rattle.section.specs.declared.entry.Entry.{Entry}
use Rattle.section.specs.declared.header.Marks.{Marks}
use Rattle.section.specs.declared.header.Sizes.{Sizes}
use Rattle.section.specs.declared.shape.Shape.{Shape}
use Rattle.accept.specs.Fault.{Fault, Sound, Breaks}
use Rattle.accept.specs.Verdict.{Verdict, Accepted, Refused}

-- the number of the first test that is true
unfoldable pub first_bad : List (Bool × ℕ) → Fault
first_bad [] = Sound
first_bad (test ∷ tests) = elim test.0 [ true ↦ Breaks test.1 | false ↦ first_bad tests ]

-- what is tried next counts only where nothing was broken before
unfoldable pub and_then : Fault → Fault → Fault
and_then Sound next = next
and_then (Breaks number) next = Breaks number

-- a fault with the index that it is given with
unfoldable pub given_at : ℕ → Fault → Verdict
given_at index Sound = Accepted
given_at index (Breaks number) = Refused number index

unfoldable pub then_try : Verdict → Verdict → Verdict
then_try Accepted next = next
then_try (Refused number index) next = Refused number index

-- the first of `left` things, from k on, that has a fault
unfoldable pub first_of : (ℕ → Fault) → ℕ → ℕ → Verdict
first_of fault zero k = Accepted
first_of fault (suc left) k = then_try (given_at k (fault k)) (first_of fault left (suc k))

-- a verdict without its index
unfoldable pub fault_of : Verdict → Fault
fault_of Accepted = Sound
fault_of (Refused number index) = Breaks number

-- ---- 1 to 8: the header

-- "ABI is not 1, 2, 3, or disagrees with the byte order"
unfoldable pub same_order : Order → Order → Bool
same_order Little Little = true
same_order Little Big = false
same_order Big Little = false
same_order Big Big = true

unfoldable pub wrong_abi : ℕ → Order → Bool
wrong_abi code order = not (known_abi code) || not (same_order (shape (abi_of code)).order order)

-- "fixed FP, RA are not 0, -8 (AMD64) or 0, 0 (AArch64)"
unfoldable pub same_offset : Offset → Offset → Bool
same_offset a b = le_z a.by b.by && le_z b.by a.by

unfoldable pub wrong_fixed : Marks → Bool
wrong_fixed marks =
    not (same_offset marks.fp (shape (abi_of marks.abi)).fixedfp) || not (same_offset marks.ra (shape (abi_of marks.abi)).fixedra)

-- "function table offset is not 0, or row area offset is not 20n, or 28 + auxiliary + 20n + row bytes is not the length"
unfoldable pub wrong_sizes : ℕ → ℕ → Sizes → Bool
wrong_sizes all auxiliary sizes =
    not (eqb sizes.tableoffset 0)
    || not (eqb sizes.areaoffset (20 * sizes.functions))
    || not (eqb (28 + auxiliary + 20 * sizes.functions + sizes.bytes) all)

unfoldable pub header_tests : List ℕ → List (Bool × ℕ)
header_tests s =
    (ltb (length s) 28, 1)  -- fewer than 28 bytes
    ∷ (ltb 16777216 (length s), 2)  -- more than 16,777,216 bytes
    ∷ (not (magic_in s Little || magic_in s Big), 3)  -- magic is neither order
    ∷ (not (eqb (marks_of s).version 2), 4)  -- version is not 2
    ∷ (ltb 0x07 (marks_of s).flags, 5)  -- a flag outside 0x07 is set
    ∷ (wrong_abi (marks_of s).abi (order_of s), 6)  -- ABI is not 1, 2, 3, or disagrees
    ∷ (wrong_fixed (marks_of s), 7)  -- fixed FP, RA
    ∷ (wrong_sizes (length s) (marks_of s).auxiliary (sizes_of s (order_of s)), 8)  -- offsets and length
    ∷ []

unfoldable pub header_fault : List ℕ → Fault
header_fault s = first_bad (header_tests s)

-- ---- 9 to 13: one entry by itself, over the row area

-- "entry info: bit 6 or 7 set, or row type above 2"
unfoldable pub wrong_entry_info : ℕ → Bool
wrong_entry_info info = bit_of 6 info || bit_of 7 info || ltb 2 (type_of info)

unfoldable pub entry_tests : List ℕ → Entry → List (Bool × ℕ)
entry_tests area entry =
    (wrong_entry_info entry.info, 9)  -- entry info
    ∷ (repeats entry.info && eqb entry.repeat 0, 10)  -- PCMASK with repeat size 0
    ∷ (ltb (length area) entry.first, 11)  -- first row offset above the row bytes
    ∷ []

-- "row info: offset size 3, or a count not allowed"
unfoldable pub wrong_row_info : ℕ → ℕ → Bool
wrong_row_info most info = eqb (offset_size_of info) 3 || eqb (count_of info) 0 || ltb most (count_of info)

-- the row at `at`; `low` is the least start that it may have. "(row by row: fixed part inside, info, offsets inside, start)"
unfoldable pub row_tests : List ℕ → Shape → ℕ → ℕ → ℕ → List (Bool × ℕ)
row_tests area shape code at low =
    (ltb (length area) (at + 2 ^ code + 1), 11)  -- its fixed part ends past the row bytes
    ∷ (wrong_row_info shape.most (info_of area code at), 12)  -- row info
    ∷ (ltb (length area) (at + row_length area code at), 11)  -- its offsets end past them
    ∷ (ltb (row_start area shape.order code at) low, 13)  -- its start is not above the one before
    ∷ []

unfoldable pub row_fault : List ℕ → Shape → ℕ → ℕ → ℕ → Fault
row_fault area shape code at low = first_bad (row_tests area shape code at low)

-- the least start that row k may have: one above that of the row before it, and anything for the first
unfoldable pub low_of : List ℕ → Order → ℕ → ℕ → ℕ → ℕ
low_of area order code first zero = 0
low_of area order code first (suc k) = suc (row_start area order code (row_place area code first k))

-- row k of the rows that begin at `first`
unfoldable pub row_fault_in : List ℕ → Shape → ℕ → ℕ → ℕ → Fault
row_fault_in area shape code first k = row_fault area shape code (row_place area code first k) (low_of area shape.order code first k)

-- all `count` rows
unfoldable pub rows_fault : List ℕ → Shape → ℕ → ℕ → ℕ → Fault
rows_fault area shape code first count = fault_of (first_of (row_fault_in area shape code first) count 0)

unfoldable pub entry_fault : List ℕ → Shape → Entry → Fault
entry_fault area shape entry =
    and_then (first_bad (entry_tests area entry)) (rows_fault area shape (type_of entry.info) entry.first entry.rows)

-- ---- 14: an entry and the one before it

-- "sorted flag set, and the effective start is below the previous entry's start plus size"
unfoldable pub out_of_order : List ℕ → ℕ → Bool
out_of_order s zero = false
out_of_order s (suc i) = (layout_of s).sorted && lt_z (function_start s (suc i)) (function_end s i)

-- "each entry in order is tried for 9, 10, 11 to 13 .., 14"
unfoldable pub turn_fault : List ℕ → ℕ → Fault
turn_fault s i = and_then (entry_fault (area_of s) (shape_of s) (entry_in s i)) (first_bad ((out_of_order s i, 14) ∷ []))

-- ---- 15: the sum

-- the row counts of the first i entries, added up
unfoldable pub rows_below : List ℕ → ℕ → ℕ
rows_below s zero = 0
rows_below s (suc i) = rows_below s i + (entry_in s i).rows

-- "row counts of all entries do not add up to the header's"
unfoldable pub sum_fault : List ℕ → Fault
sum_fault s = first_bad ((not (eqb (rows_below s (layout_of s).functions) (layout_of s).rows), 15) ∷ [])

-- ---- the verdict

-- after the header: "each entry in order .. 15 is last"
unfoldable pub entries_verdict : List ℕ → Verdict
entries_verdict s = then_try (first_of (turn_fault s) (layout_of s).functions 0) (given_at 0 (sum_fault s))

-- "1 to 8 come first. Then each entry in order .. A refusal returns its number and the entry's index, 0 for 1 to 8 and 15."
unfoldable pub verdict : List ℕ → Verdict
verdict s = then_try (given_at 0 (header_fault s)) (entries_verdict s)
