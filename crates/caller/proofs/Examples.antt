-- Steps on written-out sections and rows, each by computation: those of K10 and K12, the AArch64 examples of document 01, and every
-- refusal; and wrong steps, each with a case on which it answers otherwise.
-- Assumes nothing.
use mathlib.Core.Path.{◌≡◌, refl, sym, ◌∙◌, ap}
use mathlib.Core.Bool.{Bool, true, false, ◌&&◌}
use mathlib.Core.List.{List, [], ◌∷◌, map}
use Prim.Native.Nat.{ℕ, ◌+◌, ◌-◌, ◌^◌, ◌%◌}
use native.Mathlib.Omega.{arith}
use lib.Dec.{leb, ltb}
use lib.IntN.{ℤ, pos, negsuc}
use lib.ListN.{length, take, replicate, set}
use Rattle.std.specs.Prelude.{Option, Some, None, Result, Ok, Err}
use Rattle.numbers.specs.Field.{field_of}
use Rattle.numbers.specs.Computed.Address.{in_memory, wholly}
use Rattle.numbers.specs.declared.field.Order.{Order}
use Rattle.numbers.specs.declared.field.Order.TheVariants.{Little, Big}
use Rattle.section.specs.SectionS.{section_s, overlapping_s, unsorted_s}
use Rattle.section.specs.Meaning.{shape_of}
use Rattle.section.specs.Shape.{aarch64_shape, amd64_shape}
use Rattle.section.specs.declared.row.Base.TheVariants.{Fp, Sp}
use Rattle.section.specs.declared.row.Place.{Place}
use Rattle.section.specs.declared.row.Place.TheVariants.{Register, AtOffset}
use Rattle.section.specs.declared.row.Row.{Row}
use Rattle.section.specs.declared.shape.Shape.{Shape}
use Rattle.lookup.specs.Finding.{Finding}
use Rattle.lookup.specs.Computed.Answers.{look_in}
use Rattle.caller.specs.Frame.{just_before, asked_of, cfa_of, caller_sp}
use Rattle.caller.specs.Numbers.{step_number, step_registers}
use Rattle.caller.specs.Signature.{is_signed, mask_of, clear}
use Rattle.caller.specs.Computed.Caller.{is_maskless, is_low, spot_of, is_lost, value_of, both_of, values_of, with_values, from_spots, from_cfa, with_cfa, from_row, from_finding, look_at, step_of, step_in, unless_lost, unless_low, unless_maskless}
use Rattle.caller.specs.Inner.Opened.{caller_opened}
use Rattle.caller.specs.declared.place.Spot.{Spot}
use Rattle.caller.specs.declared.place.Spot.TheVariants.{Kept, Saved, Beyond}
use Rattle.caller.specs.declared.place.Values.{Values}
use Rattle.caller.specs.declared.place.Needed.{Needed}
use Rattle.caller.specs.declared.place.Needed.TheVariants.{Fp}
use Rattle.caller.specs.declared.registers.Registers.{Registers}
use Rattle.caller.specs.Step.{Step}
use Rattle.caller.specs.Step.{Caller, Unsound, Refused}
use Rattle.caller.specs.declared.registers.Process.{Process}

-- ---- K10: "stack at 0x7000, 64 bytes, all zero but the word 0x401008 at 0x7000"

stack : List ℕ
stack = 0x08 ∷ 0x10 ∷ 0x40 ∷ replicate 61 0

loaded : Process
loaded = record { section = 0x400000; stack = 0x7000; mask = 0 }

-- "PC 0x401044, SP 0x7000, FP 0x7030", and the mark
start : Registers
start = record { pc = 0x401044; sp = 0x7000; fp = 0x7030; lr = 0; first = 1 }

second : Registers
second = record { pc = 0x401008; sp = 0x7008; fp = 0x7030; lr = 0; first = 0 }

last : Registers
last = record { pc = 0; sp = 0x7040; fp = 0; lr = 0; first = 0 }

K10-first : step_in section_s stack loaded start ≡ Caller second
unfolding caller_opened section_s stack loaded start second
K10-first = refl

K10-second : step_in section_s stack loaded second ≡ Caller last
unfolding caller_opened section_s stack loaded second last
K10-second = refl

-- K12: "63 stack bytes, one frame, 28"
K12-first : step_in section_s (take 63 stack) loaded start ≡ Caller second
unfolding caller_opened section_s stack loaded start second
K12-first = refl

K12-second : step_in section_s (take 63 stack) loaded second ≡ Refused second 28
unfolding caller_opened section_s stack loaded second
K12-second = refl

-- ---- "AArch64, first frame, SP base, offset 0: CFA = SP, RA = LR. The same row later: 26. With offset 16 later: 27.", in either
-- byte order; a row with count 1

one : ℤ → Row
one offset = record { start = 0; base = Sp; cfa = record { by = offset }; ra = Register; fp = Register; signed = false }

leaf : ℕ → Registers
leaf first = record { pc = 0x401044; sp = 0x7000; fp = 0x7030; lr = 0x401008; first = first }

first_frame : (order : Order) → from_row (aarch64_shape order) stack loaded (leaf 1) (one (pos 0))
    ≡ Caller (record { pc = 0x401008; sp = 0x7000; fp = 0x7030; lr = 0x401008; first = 0 })
unfolding caller_opened loaded leaf one
first_frame order = refl

same_later : (order : Order) → from_row (aarch64_shape order) stack loaded (leaf 0) (one (pos 0)) ≡ Refused (leaf 0) 26
unfolding caller_opened loaded leaf one
same_later order = refl

more_later : (order : Order) → from_row (aarch64_shape order) stack loaded (leaf 0) (one (pos 16)) ≡ Refused (leaf 0) 27
unfolding caller_opened loaded leaf one
more_later order = refl

-- "Words are 8 bytes in the section's byte order.": the same row and 8 bytes in both
saved : ℤ → Row
saved offset =
    record { start = 0; base = Sp; cfa = record { by = offset }; ra = AtOffset (record { by = negsuc 7 }); fp = Register; signed = false }

little : from_row (aarch64_shape Little) stack loaded (leaf 0) (saved (pos 8))
    ≡ Caller (record { pc = 0x401008; sp = 0x7008; fp = 0x7030; lr = 0x401008; first = 0 })
unfolding caller_opened stack loaded leaf saved
little = refl

big : from_row (aarch64_shape Big) stack loaded (leaf 0) (saved (pos 8))
    ≡ Caller (record { pc = 0x0810400000000000; sp = 0x7008; fp = 0x7030; lr = 0x401008; first = 0 })
unfolding caller_opened stack loaded leaf saved
big = refl

-- ---- every other refusal, in document 01's order

-- the first step of K10 at another PC
at_pc_lem : ℕ → Registers
at_pc_lem pc = record { pc = pc; sp = 0x7000; fp = 0x7030; lr = 0; first = 1 }

-- the window lies so that it ends here, for 64 bytes
ends : ℕ → Process
ends end = record { section = 0x400000; stack = end - 64; mask = 0 }

-- S, its first function with one row, which starts at 4
late : List ℕ
late = set (set (set section_s 36 0x03) 40 0x01) 12 0x02

answers : List (Step × Step)
answers =
    (step_in (take 77 section_s) stack (ends (2 ^ 64 + 1)) start, Refused start 41)
    ∷ (step_in (take 77 section_s) stack (ends (2 ^ 64)) start, Unsound start 8 0)
    ∷ (step_in overlapping_s stack loaded start, Unsound start 14 1)
    ∷ (step_in section_s stack loaded (at_pc_lem 0x401020), Refused (at_pc_lem 0x401020) 21)
    ∷ (step_in unsorted_s stack loaded (at_pc_lem 0x40101f), Refused (at_pc_lem 0x40101f) 22)
    ∷ (step_in late stack loaded (at_pc_lem 0x401003), Refused (at_pc_lem 0x401003) 23)
    ∷ (step_in section_s stack (ends (2 ^ 64)) start, Refused start 28)
    ∷ []

each_answer : map (λ pair. pair.0) answers ≡ map (λ pair. pair.1) answers
unfolding caller_opened section_s overlapping_s unsorted_s late stack loaded ends start at_pc_lem answers
each_answer = refl

-- 24 before all that follows; the row's CFA is below 0 as well
signed_row : Row
signed_row = record { start = 0; base = Sp; cfa = record { by = negsuc 0x7fff }; ra = Register; fp = Register; signed = true }

signed_first : (order : Order) → from_row (aarch64_shape order) stack loaded (leaf 0) signed_row ≡ Refused (leaf 0) 24
unfolding caller_opened loaded leaf signed_row
signed_first order = refl

-- 25 below 0; on AMD64 the bit says nothing
below_zero : from_row amd64_shape stack loaded (leaf 0) signed_row ≡ Refused (leaf 0) 25
unfolding caller_opened loaded leaf signed_row
below_zero = refl

-- ---- "Trusting LR in the second frame."

-- the step from the two places by the test for 27, and ours
spots_by : (Registers → Spot → Bool) → Shape → List ℕ → Process → Registers → ℕ → ℕ → Spot → Spot → Step
spots_by lost shape stack process registers mask cfa ra fp =
    elim (lost registers ra) [
      | true ↦ Refused registers 27
      | false ↦ with_values registers mask cfa (values_of stack process.stack shape.order registers ra fp)
    ]

our_27 : (shape : Shape) (stack : List ℕ) (process : Process) (registers : Registers) (mask cfa : ℕ) (ra fp : Spot)
    → from_spots shape stack process registers mask cfa ra fp ≡ spots_by is_lost shape stack process registers mask cfa ra fp
unfolding from_spots unless_lost spots_by
our_27 shape stack process registers mask cfa ra fp = refl

trusting : Registers → Spot → Bool
trusting registers ra = false

-- RA is in its register, without the mark
trusting_differs : (order : Order)
    → ¬ (spots_by trusting (aarch64_shape order) stack loaded (leaf 0) 0 0x7010 Kept Kept
    ≡ from_spots (aarch64_shape order) stack loaded (leaf 0) 0 0x7010 Kept Kept)
unfolding caller_opened loaded leaf spots_by trusting
trusting_differs order e = let z : ◌≡◌ {A = ℕ} 0 27 = ap step_number e in omega arith

-- the same slip by a mark that is kept: "no mark"
keeping : Registers → ℕ → Result Values Needed → Step
keeping registers cfa (Err word) = Refused registers 28
keeping registers cfa (Ok values) = Caller (record { pc = values.ra; sp = caller_sp cfa; fp = values.fp; lr = registers.lr; first = registers.first })

keeping_differs : ¬ (keeping (leaf 1) 0x7000 (Ok (record { ra = 0x401008; fp = 0x7030 })) ≡ with_values (leaf 1) 0 0x7000 (Ok (record { ra = 0x401008; fp = 0x7030 })))
unfolding caller_opened leaf keeping
keeping_differs e = let z : ◌≡◌ {A = ℕ} 1 0 = ap (λ o. (step_registers o).first) e in omega arith

-- ---- 26 by "CFA below SP" alone

cfa_by : (Registers → ℕ → Bool) → Shape → List ℕ → Process → Registers → Row → ℕ → Step
cfa_by low shape stack process registers row cfa =
    elim (low registers (caller_sp cfa)) [
      | true ↦ Refused registers 26
      | false ↦
          from_spots shape stack process registers (mask_of shape row process) cfa (spot_of cfa row.ra) (spot_of cfa row.fp)
    ]

our_26 : (shape : Shape) (stack : List ℕ) (process : Process) (registers : Registers) (row : Row) (cfa : ℕ)
    → from_cfa shape stack process registers row cfa ≡ cfa_by is_low shape stack process registers row cfa
unfolding from_cfa unless_low cfa_by
our_26 shape stack process registers row cfa = refl

only_below : Registers → ℕ → Bool
only_below registers sp = ltb sp registers.sp

-- CFA equals SP without the mark, and RA lies at CFA - 8, inside the window
level : Registers
level = record { pc = 0x401044; sp = 0x7008; fp = 0x7030; lr = 0; first = 0 }

below_differs : ¬ (cfa_by only_below amd64_shape stack loaded level (saved (pos 0)) 0x7008
    ≡ from_cfa amd64_shape stack loaded level (saved (pos 0)) 0x7008)
unfolding caller_opened stack loaded level saved cfa_by only_below
below_differs e = let z : ◌≡◌ {A = ℕ} 0 26 = ap step_number e in omega arith

-- ---- 28 for FP's word tried before 27; no section has a row that shows it, since FP is saved only where RA is (`fp_with_ra`)

or_outside : Registers → Option ℕ → Step → Step
or_outside registers None next = Refused registers 28
or_outside registers (Some fp) next = next

fp_before : Shape → List ℕ → Process → Registers → ℕ → ℕ → Spot → Spot → Step
fp_before shape stack process registers mask cfa ra fp =
    or_outside registers (value_of stack process.stack shape.order registers.fp fp)
    (from_spots shape stack process registers mask cfa ra fp)

-- RA is in its register, without the mark, and FP's word ends past the window
early_differs : (order : Order)
    → ¬ (fp_before (aarch64_shape order) stack loaded (leaf 0) 0 0x7010 Kept (Saved 0x7039)
    ≡ from_spots (aarch64_shape order) stack loaded (leaf 0) 0 0x7010 Kept (Saved 0x7039))
unfolding caller_opened stack loaded leaf fp_before or_outside
early_differs order e = let z : ◌≡◌ {A = ℕ} 28 27 = ap step_number e in omega arith

-- ---- CFA wrapped to 64 bits

row_by : (ℤ → Option ℕ) → Shape → List ℕ → Process → Registers → Row → Step
row_by memory shape stack process registers row =
    elim (is_maskless shape row process) [
      | true ↦ Refused registers 24
      | false ↦ with_cfa registers (memory (cfa_of registers row)) (from_cfa shape stack process registers row)
    ]

our_25 : (shape : Shape) (stack : List ℕ) (process : Process) (registers : Registers) (row : Row)
    → from_row shape stack process registers row ≡ row_by in_memory shape stack process registers row
unfolding from_row unless_maskless row_by
our_25 shape stack process registers row = refl

wrapped : ℤ → Option ℕ
wrapped (pos n) = Some (n % 2 ^ 64)
wrapped (negsuc n) = Some (2 ^ 64 - 1 - n % 2 ^ 64)

-- FP is 2^64 - 8, so that FP + 16, wrapped, is 8; the window lies at 0
high : Registers
high = record { pc = 0x401008; sp = 0; fp = 0xfffffffffffffff8; lr = 0; first = 0 }

bottom : Process
bottom = record { section = 0x400000; stack = 0; mask = 0 }

from_fp : Row
from_fp =
    record { start = 4; base = Fp; cfa = record { by = pos 16 }; ra = AtOffset (record { by = negsuc 7 }); fp = Register; signed = false }

wrapped_differs : ¬ (row_by wrapped amd64_shape stack bottom high from_fp ≡ from_row amd64_shape stack bottom high from_fp)
unfolding caller_opened stack bottom high from_fp row_by wrapped
wrapped_differs e = let z : ◌≡◌ {A = ℕ} 0 25 = ap step_number e in omega arith

-- ---- a word that ends one byte past the window

value_by : (List ℕ → ℕ → ℕ → Bool) → List ℕ → ℕ → Order → ℕ → Spot → Option ℕ
value_by inside stack lies order register Kept = Some register
value_by inside stack lies order register (Saved at) =
    elim (inside stack lies at) [ true ↦ Some (field_of stack (at - lies) 8 order) | false ↦ None ]
value_by inside stack lies order register Beyond = None

our_28 : (stack : List ℕ) (lies : ℕ) (order : Order) (register : ℕ) (spot : Spot)
    → value_of stack lies order register spot ≡ value_by wholly stack lies order register spot
unfolding caller_opened value_by
our_28 stack lies order register Kept = refl
our_28 stack lies order register (Saved at) = refl
our_28 stack lies order register Beyond = refl

loose : List ℕ → ℕ → ℕ → Bool
loose stack lies at = leb lies at && leb (at + 7) (lies + length stack)

-- K12's second step: RA's word is the last 8 of 64 bytes
loose_differs : (order : Order)
    → ¬ (with_values second 0 0x7040
    (both_of (value_by loose (take 63 stack) 0x7000 order 0 (Saved 0x7038)) (value_by loose (take 63 stack) 0x7000 order 0x7030 (Saved 0x7030)))
    ≡ with_values second 0 0x7040
    (both_of (value_of (take 63 stack) 0x7000 order 0 (Saved 0x7038)) (value_of (take 63 stack) 0x7000 order 0x7030 (Saved 0x7030))))
unfolding caller_opened stack second value_by loose
loose_differs order e = let z : ◌≡◌ {A = ℕ} 0 28 = ap step_number e in omega arith

-- ---- "The last call of a function is blamed on its neighbour.": the PC asked by another rule

-- the step by what is asked, and ours
step_by : (Registers → Option ℕ) → Shape → (ℕ → Finding) → List ℕ → Process → Registers → Step
step_by asked shape look stack process registers = from_finding shape stack process registers (look_at look (asked registers))

our_asked : (shape : Shape) (look : ℕ → Finding) (stack : List ℕ) (process : Process) (registers : Registers)
    → step_of shape look stack process registers ≡ step_by asked_of shape look stack process registers
unfolding step_of step_by
our_asked shape look stack process registers = refl

-- by S loaded here
number_by : (Registers → Option ℕ) → Process → Registers → ℕ
number_by asked process registers = step_number (step_by asked (shape_of section_s) (look_in section_s process.section) stack process registers)

-- document 01's: PC itself, with the mark and without. Just behind S's first function there is then none
itself : Registers → Option ℕ
itself registers = Some registers.pc

behind : Registers
behind = record { pc = 0x401020; sp = 0x7000; fp = 0x7030; lr = 0; first = 0 }

itself_differs : ¬ (number_by itself loaded behind ≡ number_by asked_of loaded behind)
unfolding caller_opened section_s stack loaded behind step_by number_by itself
itself_differs e = let z : ◌≡◌ {A = ℕ} 21 0 = e in omega arith

-- PC minus 1, with the mark and without. At the first byte of S's second function there is then none
always_before : Registers → Option ℕ
always_before registers = just_before registers.pc

always_differs : ¬ (number_by always_before loaded (at_pc_lem 0x401040) ≡ number_by asked_of loaded (at_pc_lem 0x401040))
unfolding caller_opened section_s stack loaded at_pc_lem step_by number_by always_before
always_differs e = let z : ◌≡◌ {A = ℕ} 21 0 = e in omega arith

-- PC minus 1 wrapped to 64 bits, with S loaded so that its first function ends at 2^64
wrapping : Registers → Option ℕ
wrapping registers = Some ((registers.pc + (2 ^ 64 - 1)) % 2 ^ 64)

at_zero : Registers
at_zero = record { pc = 0; sp = 0x7000; fp = 0x7030; lr = 0; first = 0 }

at_the_top : Process
at_the_top = record { section = 2 ^ 64 - 0x1020; stack = 0x7000; mask = 0 }

wrapping_differs : ¬ (number_by wrapping at_the_top at_zero ≡ number_by asked_of at_the_top at_zero)
unfolding caller_opened section_s stack at_the_top at_zero step_by number_by wrapping
wrapping_differs e = let z : ◌≡◌ {A = ℕ} 0 21 = e in omega arith

-- RA minus 1 written: "The RA written stays as read."
lowering : Registers → ℕ → Result Values Needed → Step
lowering registers cfa (Err word) = Refused registers 28
lowering registers cfa (Ok values) = Caller (record { pc = values.ra - 1; sp = caller_sp cfa; fp = values.fp; lr = registers.lr; first = 0 })

lowering_differs : ¬ (lowering (leaf 1) 0x7000 (Ok (record { ra = 0x401008; fp = 0x7030 })) ≡ with_values (leaf 1) 0 0x7000 (Ok (record { ra = 0x401008; fp = 0x7030 })))
unfolding caller_opened leaf lowering
lowering_differs e = let z : ◌≡◌ {A = ℕ} 0x401007 0x401008 = ap (λ o. (step_registers o).pc) e in omega arith

-- ---- signed return addresses

-- bits 48 to 54 are the signature, those above are not used; RA and LR are 0x401008 with a signature in them
masked : ℕ → Process
masked mask = record { section = 0x400000; stack = 0x7000; mask = mask }

usual : ℕ
usual = 0xff7f000000000000

signed_leaf : ℕ → Registers
signed_leaf first = record { pc = 0x401044; sp = 0x7000; fp = 0x0011000000007030; lr = 0x0035000000401008; first = first }

-- the row of a leaf that has signed LR, and one that has saved it
sealed : Row
sealed = record { start = 0; base = Sp; cfa = record { by = pos 0 }; ra = Register; fp = Register; signed = true }

sealed_saved : Row
sealed_saved =
    record { start = 0; base = Sp; cfa = record { by = pos 16 }; ra = AtOffset (record { by = negsuc 7 }); fp = AtOffset (record { by = negsuc 15 }); signed = true }

-- FP's word and RA's, both with bits of the mask set
sealed_stack : List ℕ
sealed_stack = 0x30 ∷ 0x70 ∷ 0 ∷ 0 ∷ 0 ∷ 0 ∷ 0x11 ∷ 0 ∷ 0x08 ∷ 0x10 ∷ 0x40 ∷ 0 ∷ 0 ∷ 0 ∷ 0x35 ∷ 0 ∷ []

-- "wherever RA came from": LR, which itself is unchanged
lr_cleared : (order : Order) → from_row (aarch64_shape order) [] (masked usual) (signed_leaf 1) sealed
    ≡ Caller (record { pc = 0x401008; sp = 0x7000; fp = 0x0011000000007030; lr = 0x0035000000401008; first = 0 })
unfolding caller_opened masked usual signed_leaf sealed
lr_cleared order = refl

-- and a word of the stack; FP is as read
word_cleared : from_row (aarch64_shape Little) sealed_stack (masked usual) (signed_leaf 0) sealed_saved
    ≡ Caller (record { pc = 0x401008; sp = 0x7010; fp = 0x0011000000007030; lr = 0x0035000000401008; first = 0 })
unfolding caller_opened masked usual signed_leaf sealed_saved sealed_stack
word_cleared = refl

-- "rows without it leave RA as read"
unsigned_kept : (order : Order) → from_row (aarch64_shape order) [] (masked usual) (signed_leaf 1) (one (pos 0))
    ≡ Caller (record { pc = 0x0035000000401008; sp = 0x7000; fp = 0x0011000000007030; lr = 0x0035000000401008; first = 0 })
unfolding caller_opened masked usual signed_leaf one
unsigned_kept order = refl

-- AMD64 never clears, also for a row made by hand
amd64_kept : from_row amd64_shape sealed_stack (masked usual) (signed_leaf 0) sealed_saved
    ≡ Caller (record { pc = 0x0035000000401008; sp = 0x7010; fp = 0x0011000000007030; lr = 0x0035000000401008; first = 0 })
unfolding caller_opened masked usual signed_leaf sealed_saved sealed_stack
amd64_kept = refl

-- "Refusal 24 now comes only when the mask is 0, in its old place": with a mask what comes after it
mask_goes_on : (order : Order) → from_row (aarch64_shape order) stack (masked 1) (leaf 0) signed_row ≡ Refused (leaf 0) 25
unfolding caller_opened masked leaf signed_row
mask_goes_on order = refl

-- a mask of all ones leaves nothing
all_cleared : (order : Order) → from_row (aarch64_shape order) [] (masked (2 ^ 64 - 1)) (signed_leaf 1) sealed
    ≡ Caller (record { pc = 0; sp = 0x7000; fp = 0x0011000000007030; lr = 0x0035000000401008; first = 0 })
unfolding caller_opened masked signed_leaf sealed
all_cleared order = refl

-- the step by which bits are cleared, what is handed back, and when it is 24; and ours
signed_by : (Shape → Row → Process → ℕ) → (Registers → ℕ → ℕ → Result Values Needed → Step) → (Shape → Row → Process → Bool)
    → Shape → List ℕ → Process → Registers → Row → ℕ → Step
signed_by mask handed refused shape stack process registers row cfa =
    elim (refused shape row process) [
      | true ↦ Refused registers 24
      | false ↦
          unless_low registers cfa
          (unless_lost registers (spot_of cfa row.ra)
          (handed registers (mask shape row process) cfa
          (values_of stack process.stack shape.order registers (spot_of cfa row.ra) (spot_of cfa row.fp))))
    ]

our_24 : (shape : Shape) (stack : List ℕ) (process : Process) (registers : Registers) (row : Row) (cfa : ℕ)
    → in_memory (cfa_of registers row) ≡ Some cfa
    → from_row shape stack process registers row ≡ signed_by mask_of with_values is_maskless shape stack process registers row cfa
unfolding from_row from_cfa from_spots unless_maskless with_cfa signed_by
our_24 shape stack process registers row cfa is = rw is

-- what is handed back of a leaf that has signed LR, at CFA = SP, and of a frame at CFA = SP + 16
leaf_by : (Shape → Row → Process → ℕ) → (Registers → ℕ → ℕ → Result Values Needed → Step) → (Shape → Row → Process → Bool) → Row → Step
leaf_by mask handed refused row = signed_by mask handed refused (aarch64_shape Little) sealed_stack (masked usual) (signed_leaf 1) row 0x7000

frame_by : (Shape → Row → Process → ℕ) → (Registers → ℕ → ℕ → Result Values Needed → Step) → (Shape → Row → Process → Bool) → Shape → Step
frame_by mask handed refused shape = signed_by mask handed refused shape sealed_stack (masked usual) (signed_leaf 0) sealed_saved 0x7010

-- clearing where the row is not signed
always : Shape → Row → Process → ℕ
always shape row process = process.mask

always_clearing_differs : ¬ (leaf_by always with_values is_maskless (one (pos 0)) ≡ leaf_by mask_of with_values is_maskless (one (pos 0)))
unfolding caller_opened masked usual signed_leaf sealed_stack one signed_by leaf_by always
always_clearing_differs e = let z : ◌≡◌ {A = ℕ} 0x401008 0x0035000000401008 = ap (λ o. (step_registers o).pc) e in omega arith

-- clearing by the row's bit alone, on a machine that signs none
by_bit : Shape → Row → Process → ℕ
by_bit shape row process = elim row.signed [ true ↦ process.mask | false ↦ 0 ]

by_bit_differs : ¬ (frame_by by_bit with_values is_maskless amd64_shape ≡ frame_by mask_of with_values is_maskless amd64_shape)
unfolding caller_opened masked usual signed_leaf sealed_saved sealed_stack signed_by frame_by by_bit
by_bit_differs e = let z : ◌≡◌ {A = ℕ} 0x401008 0x0035000000401008 = ap (λ o. (step_registers o).pc) e in omega arith

-- LR not cleared: "wherever RA came from"
saved_alone : Shape → Row → Process → ℕ
saved_alone shape row process = inPlace row.ra
  where
    inPlace : Place → ℕ
    inPlace Register = 0
    inPlace (AtOffset offset) = mask_of shape row process

lr_kept_differs : ¬ (leaf_by saved_alone with_values is_maskless sealed ≡ leaf_by mask_of with_values is_maskless sealed)
unfolding caller_opened masked usual signed_leaf sealed_stack sealed signed_by leaf_by saved_alone
lr_kept_differs e = let z : ◌≡◌ {A = ℕ} 0x0035000000401008 0x401008 = ap (λ o. (step_registers o).pc) e in omega arith

-- FP cleared too
clearing_fp : Registers → ℕ → ℕ → Result Values Needed → Step
clearing_fp registers mask cfa (Err word) = Refused registers 28
clearing_fp registers mask cfa (Ok values) =
    Caller (record { pc = clear mask values.ra; sp = caller_sp cfa; fp = clear mask values.fp; lr = registers.lr; first = 0 })

clearing_fp_differs : ¬ (frame_by mask_of clearing_fp is_maskless (aarch64_shape Little) ≡ frame_by mask_of with_values is_maskless (aarch64_shape Little))
unfolding caller_opened masked usual signed_leaf sealed_saved sealed_stack signed_by frame_by clearing_fp
clearing_fp_differs e = let z : ◌≡◌ {A = ℕ} 0x7030 0x0011000000007030 = ap (λ o. (step_registers o).fp) e in omega arith

-- 24 although there is a mask
any_signed : Shape → Row → Process → Bool
any_signed shape row process = is_signed shape row

any_signed_differs : ¬ (leaf_by mask_of with_values any_signed sealed ≡ leaf_by mask_of with_values is_maskless sealed)
unfolding caller_opened masked usual signed_leaf sealed_stack sealed signed_by leaf_by any_signed
any_signed_differs e = let z : ◌≡◌ {A = ℕ} 24 0 = ap step_number e in omega arith

-- ---- a step that answers the same of all registers, already in S

not_one_answer : (answer : Step) → ¬ ((registers : Registers) → step_in section_s stack loaded registers ≡ answer)
unfolding step_registers second last
not_one_answer answer all =
    let same : Caller second ≡ Caller last = sym K10-first ∙ all start ∙ sym (all second) ∙ K10-second in
    let z : ◌≡◌ {A = ℕ} 0x7008 0x7040 = ap (λ o. (step_registers o).sp) same in
    omega arith
