-- No `requires` of a public function excludes everything: each is met by section S of document 01, wherever it lies.
-- Assumes nothing.
use mathlib.Core.Path.{refl}
use mathlib.Core.Bool.{false≢true}
use mathlib.Core.List.{List, [], ◌∷◌}
use Prim.Native.Nat.{ℕ, ◌<◌}
use native.Mathlib.Omega.{arith}
use contract.Lifetimes.{Lfts}
use Rattle.numbers.specs.declared.field.Order.TheVariants.{Little}
use Rattle.numbers.proofs.field.field_at.Reads as field_at-reads
use Rattle.numbers.proofs.field.u16_at.Reads as u16_at-reads
use Rattle.numbers.proofs.field.u32_at.Reads as u32_at-reads
use Rattle.numbers.proofs.field.u64_at.Reads as u64_at-reads
use Rattle.numbers.proofs.field.u8_at.Reads as u8_at-reads
use Rattle.numbers.proofs.field.width_of.Reads as width_of-reads
use Rattle.numbers.proofs.offset.offset_at.Reads as offset_at-reads
use Rattle.numbers.proofs.offset.offset_of.Reads as offset_of-reads
use Rattle.section.specs.Entry.{type_of}
use Rattle.section.specs.Header.{layout_of}
use Rattle.section.specs.Meaning.{area_of, shape_of, entry_in}
use Rattle.section.specs.SectionS.{section_s}
use Rattle.section.proofs.entry.entry_at.Reads as entry_at-reads
use Rattle.section.proofs.header.bit_of.Reads as bit_of-reads
use Rattle.section.proofs.header.layout_at.Reads as layout_at-reads
use Rattle.section.proofs.header.magic_in.Reads as magic_in-reads
use Rattle.section.proofs.header.marks_at.Reads as marks_at-reads
use Rattle.section.proofs.header.order_at.Reads as order_at-reads
use Rattle.section.proofs.header.sizes_at.Reads as sizes_at-reads
use Rattle.section.proofs.row.info_at.Reads as info_at-reads
use Rattle.section.proofs.row.row_at.Reads as row_at-reads
use Rattle.section.proofs.row.row_length.Reads as row_length-reads
use Rattle.section.proofs.row.row_start_at.Reads as row_start_at-reads
use Rattle.accept.proofs.row_check.pass_row.Reads as pass_row-reads
use Rattle.accept.proofs.row_check.check_rows.Reads as check_rows-reads
use Rattle.listing.proofs.function.facts_at.Reads as facts_at-reads
use Rattle.lookup.specs.Inner.Opened.{lookup_opened}
use Rattle.lookup.proofs.look.block_offset.Reads as block_offset-reads
use Rattle.lookup.proofs.look.look.Reads as look-reads
use Rattle.lookup.proofs.look.reached_in.Reads as reached_in-reads
use Rattle.lookup.proofs.rows.scan_rows.Reads as scan_rows-reads
use Rattle.lookup.proofs.search.past_in.Reads as past_in-reads
use Rattle.lookup.proofs.search.find.Reads as find-reads
use Rattle.lookup.proofs.search.land.Reads as land-reads
use Rattle.lookup.proofs.table.entry_in.Reads as entry_in-reads
use Rattle.caller.specs.declared.registers.Registers.{Registers}
use Rattle.caller.specs.declared.registers.Process.{Process}
use Rattle.caller.proofs.registers.Registers.step_checked.Reads as step_checked-reads
use Rattle.explain.specs.declared.nearby.Side.{Side}
use Rattle.explain.proofs.coverers.all_covering.Reads as all_covering-reads
use Rattle.explain.proofs.looked.explain_look.Reads as explain_look-reads
use Rattle.explain.proofs.nearby.nearest_at.Reads as nearest_at-reads
use Rattle.trace.specs.declared.answer.Frame.{Frame}
use Rattle.trace.proofs.answer.write_frame.Reads as write_frame-reads
use Rattle.stored.proofs.start_in.Reads as start_in-reads
use Rattle.stored.proofs.word_in.Reads as word_in-reads
use Rattle.promises.specs.Inner.Lent.{Lies, lent, lent_to_write}

-- ---- numbers

-- the version
pub u8_at_met : (κs : Lfts 1) (here : Lies) → u8_at-reads.Asked κs (lent here section_s, (2, tt))
unfolding section_s
u8_at_met κs here = omega arith

-- the magic
pub u16_at_met : (κs : Lfts 1) (here : Lies) → u16_at-reads.Asked κs (lent here section_s, (0, (Little, tt)))
unfolding section_s
u16_at_met κs here = omega arith

-- the number of functions
pub u32_at_met : (κs : Lfts 1) (here : Lies) → u32_at-reads.Asked κs (lent here section_s, (8, (Little, tt)))
unfolding section_s
u32_at_met κs here = omega arith

-- the last 8 bytes
pub u64_at_met : (κs : Lfts 1) (here : Lies) → u64_at-reads.Asked κs (lent here section_s, (70, (Little, tt)))
unfolding section_s
u64_at_met κs here = omega arith

-- the row type of both entries
pub width_of_met : (κs : Lfts 0) → width_of-reads.Asked κs (0, tt)
width_of_met κs = omega arith

-- the start of the first row
pub field_at_met : (κs : Lfts 1) (here : Lies) → field_at-reads.Asked κs (lent here (area_of section_s), (0, (0, (Little, tt))))
unfolding lookup_opened section_s
field_at_met κs here = (omega arith, omega arith)

-- the fixed RA offset: a byte that stands for -8
pub offset_of_met : (κs : Lfts 0) → offset_of-reads.Asked κs (0xf8, (0, tt))
offset_of_met κs = omega arith

-- the offset of the first row
pub offset_at_met : (κs : Lfts 1) (here : Lies) → offset_at-reads.Asked κs (lent here (area_of section_s), (2, (0, (Little, tt))))
unfolding lookup_opened section_s
offset_at_met κs here = (omega arith, omega arith)

-- ---- section

-- both entries
pub entry_at_met :
    (κs : Lfts 1) (here : Lies)
    → entry_at-reads.Asked κs (lent here section_s, (Little, (28, tt))) × entry_at-reads.Asked κs (lent here section_s, (Little, (48, tt)))
unfolding section_s
entry_at_met κs here = (omega arith, omega arith)

-- whether the flags say sorted
pub bit_of_met : (κs : Lfts 0) → bit_of-reads.Asked κs (0, (0x01, tt))
bit_of_met κs = omega arith

pub magic_in_met : (κs : Lfts 1) (here : Lies) → magic_in-reads.Asked κs (lent here section_s, (Little, tt))
unfolding section_s
magic_in_met κs here = omega arith

pub order_at_met : (κs : Lfts 1) (here : Lies) → order_at-reads.Asked κs (lent here section_s, tt)
unfolding section_s
order_at_met κs here = omega arith

pub marks_at_met : (κs : Lfts 1) (here : Lies) → marks_at-reads.Asked κs (lent here section_s, tt)
unfolding section_s
marks_at_met κs here = omega arith

pub sizes_at_met : (κs : Lfts 1) (here : Lies) → sizes_at-reads.Asked κs (lent here section_s, (Little, tt))
unfolding section_s
sizes_at_met κs here = omega arith

pub layout_at_met : (κs : Lfts 1) (here : Lies) → layout_at-reads.Asked κs (lent here section_s, tt)
unfolding section_s
layout_at_met κs here = omega arith

-- the first row
pub row_start_at_met : (κs : Lfts 1) (here : Lies) → row_start_at-reads.Asked κs (lent here (area_of section_s), (Little, (0, (0, tt))))
unfolding lookup_opened section_s
row_start_at_met κs here = (omega arith, omega arith)

pub info_at_met : (κs : Lfts 1) (here : Lies) → info_at-reads.Asked κs (lent here (area_of section_s), (0, (0, tt)))
unfolding lookup_opened section_s
info_at_met κs here = (omega arith, omega arith)

pub row_length_met : (κs : Lfts 1) (here : Lies) → row_length-reads.Asked κs (lent here (area_of section_s), (0, (0, tt)))
unfolding lookup_opened section_s
row_length_met κs here = (omega arith, omega arith)

pub row_at_met : (κs : Lfts 1) (here : Lies) → row_at-reads.Asked κs (lent here (area_of section_s), (shape_of section_s, (0, (0, tt))))
unfolding lookup_opened section_s
row_at_met κs here =
    record { type = omega arith; fixed = omega arith; size = omega arith; some = omega arith; whole = omega arith }

-- ---- accept

-- the first row
pub pass_row_met : (κs : Lfts 1) (here : Lies) → pass_row-reads.Asked κs (lent here (area_of section_s), (shape_of section_s, (0, (0, (0, tt)))))
unfolding lookup_opened section_s
pass_row_met κs here = (omega arith, omega arith)

-- the rows of the first entry
pub check_rows_met :
    (κs : Lfts 1) (here : Lies)
    → check_rows-reads.Asked κs (
      lent here (area_of section_s),
      (shape_of section_s, (type_of (entry_in section_s 0).info, ((entry_in section_s 0).first, ((entry_in section_s 0).rows, tt)))),
    )
unfolding lookup_opened section_s
check_rows_met κs here = (omega arith, omega arith)

-- ---- listing

-- both functions
pub facts_at_met :
    (κs : Lfts 1) (here : Lies) (i : ℕ) → i < 2 → facts_at-reads.Asked κs (lent here section_s, (layout_of section_s, (i, tt)))
unfolding lookup_opened section_s
facts_at_met κs here i inside =
    record { long = omega arith; layout_is = refl; inside = omega arith; small = omega arith; known = inside }

-- ---- lookup: S is accepted, so that any address and PC may be asked for

pub look_met :
    (κs : Lfts 1) (here : Lies) (address pc : ℕ) → look-reads.Asked κs (lent here section_s, (layout_of section_s, (address, (pc, tt))))
unfolding lookup_opened section_s
look_met κs here address pc = record { accepted = refl; layout_is = refl }

-- its first function, at its fourth byte
pub reached_in_met :
    (κs : Lfts 1) (here : Lies) → reached_in-reads.Asked κs (lent here section_s, (layout_of section_s, (0, (0x400000, (0x401003, tt)))))
unfolding lookup_opened section_s
reached_in_met κs here =
    let inside : 0 < 2 = omega arith in
    record { section = record { accepted = refl; layout_is = refl }; inside = inside; within = refl }

pub scan_rows_met :
    (κs : Lfts 1) (here : Lies) (o : ℕ)
    → scan_rows-reads.Asked κs (lent here (area_of section_s), (shape_of section_s, (entry_in section_s 0, (o, tt))))
unfolding lookup_opened section_s
scan_rows_met κs here o = refl

pub find_met :
    (κs : Lfts 1) (here : Lies) (address pc : ℕ) → find-reads.Asked κs (lent here section_s, (layout_of section_s, (address, (pc, tt))))
unfolding lookup_opened section_s
find_met κs here address pc = record { sound = refl; layout_is = refl }

pub land_met :
    (κs : Lfts 1) (here : Lies) (address pc : ℕ) → land-reads.Asked κs (lent here section_s, (layout_of section_s, (address, (pc, tt))))
unfolding lookup_opened section_s
land_met κs here address pc = record { sound = refl; layout_is = refl }

-- both functions
pub past_in_met :
    (κs : Lfts 1) (here : Lies) (i address pc : ℕ) → i < 2 → past_in-reads.Asked κs (lent here section_s, (layout_of section_s, (i, (address, (pc, tt)))))
unfolding lookup_opened section_s
past_in_met κs here i address pc inside = (record { sound = refl; layout_is = refl }, inside)

-- its functions are plain blocks
pub block_offset_met : (κs : Lfts 0) (d : ℕ) → block_offset-reads.Asked κs (entry_in section_s 0, (d, tt))
unfolding lookup_opened section_s
block_offset_met κs d repeats = absurd (false≢true repeats)

-- both entries
pub entry_in_met :
    (κs : Lfts 1) (here : Lies) (i : ℕ) → i < 2 → entry_in-reads.Asked κs (lent here section_s, (layout_of section_s, (Little, (i, tt))))
unfolding lookup_opened section_s
entry_in_met κs here i inside = (record { header = record { sound = refl; layout_is = refl }; order_is = refl }, inside)

-- ---- caller: any registers and any stack, wherever both slices lie

pub step_checked_met :
    (κs : Lfts 2) (here there : Lies) (registers : Registers) (stack : List ℕ) (process : Process)
    → step_checked-reads.Asked κs (registers, (lent here section_s, (layout_of section_s, (lent there stack, (process, tt)))))
unfolding lookup_opened section_s
step_checked_met κs here there registers stack process = record { accepted = refl; layout_is = refl }

-- ---- explain: any address and PC, and either side of it

pub explain_look_met :
    (κs : Lfts 1) (here : Lies) (address pc : ℕ) → explain_look-reads.Asked κs (lent here section_s, (layout_of section_s, (address, (pc, tt))))
unfolding lookup_opened section_s
explain_look_met κs here address pc = record { accepted = refl; layout_is = refl }

pub all_covering_met :
    (κs : Lfts 1) (here : Lies) (address pc : ℕ) → all_covering-reads.Asked κs (lent here section_s, (layout_of section_s, (address, (pc, tt))))
unfolding lookup_opened section_s
all_covering_met κs here address pc = record { sound = refl; layout_is = refl }

pub nearest_at_met :
    (κs : Lfts 1) (here : Lies) (side : Side) (address pc : ℕ)
    → nearest_at-reads.Asked κs (lent here section_s, (layout_of section_s, (side, (address, (pc, tt)))))
unfolding lookup_opened section_s
nearest_at_met κs here side address pc = record { sound = refl; layout_is = refl }

-- ---- trace: a buffer of three words, and any frame

pub write_frame_met :
    (κs : Lfts 1) (here : Lies) (a b c : ℕ) (frame : Frame) → write_frame-reads.Asked κs (lent_to_write here (a ∷ b ∷ c ∷ []), (0, (frame, tt)))
write_frame_met κs here a b c frame = omega arith

-- ---- stored: S is longer than what a walk begins by

-- the last whole word
pub word_in_met : (κs : Lfts 1) (here : Lies) → word_in-reads.Asked κs (lent here section_s, (8, tt))
unfolding section_s
word_in_met κs here = omega arith

pub start_in_met : (κs : Lfts 1) (here : Lies) → start_in-reads.Asked κs (lent here section_s, tt)
unfolding section_s
start_in_met κs here = omega arith
