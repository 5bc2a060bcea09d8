-- Document 01, "Numbers to agree on" (SPECIFICATION 7.1 to 7.5, and 7.7): K1 to K12 as a single table of sections, questions and expected
-- replies, and beside it the three AArch64 examples, which bear no K, and those of requests 03, 04 and 06. The replies are asked of any four
-- calls.
use Rattle.std.specs.Prelude.{◌≡◌, List, [], ◌∷◌, ◌++◌, ℕ, zero, suc, ◌+◌, ◌^◌, ◌-◌, take, replicate, set}
use Rattle.section.specs.SectionS.{section_s, overlapping_s, unsorted_s, at_entry, with_frame}
use Rattle.accept.specs.Verdict.{Verdict, Accepted, Refused}
use Rattle.lookup.specs.Outcome.{Answer}
use Rattle.lookup.specs.Outcome.{Found, NoFunction, Dispute}
use Rattle.caller.specs.declared.registers.Registers.{Registers}
use Rattle.caller.specs.Step.{Step}
use Rattle.caller.specs.Step as step
use Rattle.caller.specs.declared.registers.Process.{Process}
use Rattle.trace.specs.Frames.{TraceReply, traced_as}
use Rattle.trace.specs.Ending as ending
use Rattle.promises.specs.Calls.{Calls}

-- ---- a row: a section, what is asked of it, and the reply

pub data Question : Type 0 where
  ask_check : Question
  -- the section's address and PC
  ask_lookup : ℕ → ℕ → Question
  -- the stack window, what is known of the process, and the registers
  ask_caller : List ℕ → Process → Registers → Question
  -- these, the limit and what the buffer holds
  ask_trace : List ℕ → Process → Registers → ℕ → List ℕ → Question

pub data Reply : Type 0 where
  a_verdict : Verdict → Reply
  an_answer : Answer → Reply
  a_step : Step → Reply
  a_trace : TraceReply → Reply

pub record Agreed : Type 0 where
  pub section : List ℕ
  pub question : Question
  pub expected : Reply

unfoldable pub reply_to : Calls → List ℕ → Question → Reply
reply_to calls s ask_check = a_verdict (calls.check s)
reply_to calls s (ask_lookup address pc) = an_answer (calls.lookup s address pc)
reply_to calls s (ask_caller stack process registers) = a_step (calls.step s stack process registers)
reply_to calls s (ask_trace stack process registers limit old) = a_trace (calls.trace s stack process registers limit old)

-- these calls reply to every row of a table as it expects
abbrev pub Holds : Calls → List Agreed → Type 0
Holds calls [] = Unit {0}
Holds calls (row ∷ rows) = (reply_to calls row.section row.question ≡ row.expected) × Holds calls rows

-- ---- what is asked, and of what

-- "Loaded at 0x400000."; for K10 to K12 "stack at 0x7000"; the mask is any
unfoldable pub loaded : ℕ → Process
loaded mask = record { section = 0x400000; stack = 0x7000; mask = mask }

unfoldable pub at : ℕ → Question
at pc = ask_lookup 0x400000 pc

-- "64 bytes, all zero but the word 0x401008 at 0x7000"
unfoldable pub stack_window : List ℕ
stack_window = 0x08 ∷ 0x10 ∷ 0x40 ∷ replicate 61 0

-- "PC 0x401044, SP 0x7000, FP 0x7030"; LR and the mark are any
unfoldable pub crashed : ℕ → ℕ → Registers
crashed lr first = record { pc = 0x401044; sp = 0x7000; fp = 0x7030; lr = lr; first = first }

unfoldable pub agreed : List ℕ → Question → Reply → Agreed
agreed section question expected = record { section = section; question = question; expected = expected }

-- ---- K1 to K12, for any mask, LR, mark and words that the buffer held

unfoldable pub table : (mask lr first a b c d e f : ℕ) → List Agreed
table mask lr first a b c d e f =
    -- "K1: S is accepted."
    agreed section_s ask_check (a_verdict Accepted)
    -- "K2: the first 77 bytes, 8."
    ∷ agreed (take 77 section_s) ask_check (a_verdict (Refused 8 0))
    -- "K3: 27 bytes, 1."
    ∷ agreed (take 27 section_s) ask_check (a_verdict (Refused 1 0))
    -- "K4: PC 0x401003, CFA = SP + 8, count 2."
    ∷ agreed section_s (at 0x401003) (an_answer (record { outcome = Found at_entry 0 0; compared = 2 }))
    -- "K5: 0x401004 and 0x40101f, CFA = FP + 16, FP at CFA - 16."
    ∷ agreed section_s (at 0x401004) (an_answer (record { outcome = Found with_frame 0 1; compared = 2 }))
    ∷ agreed section_s (at 0x40101f) (an_answer (record { outcome = Found with_frame 0 1; compared = 2 }))
    -- "K6: 0x400fff, 0x401020 and 0x40103f, 21."
    ∷ agreed section_s (at 0x400fff) (an_answer (record { outcome = NoFunction; compared = 2 }))
    ∷ agreed section_s (at 0x401020) (an_answer (record { outcome = NoFunction; compared = 2 }))
    ∷ agreed section_s (at 0x40103f) (an_answer (record { outcome = NoFunction; compared = 2 }))
    -- "K7: 0x401040, second function, count 1."
    ∷ agreed section_s (at 0x401040) (an_answer (record { outcome = Found at_entry 1 0; compared = 1 }))
    -- "K8: S with second start 0x101f, 14"
    ∷ agreed overlapping_s ask_check (a_verdict (Refused 14 1))
    -- "K9: the same with flags 00 is accepted, and PC 0x40101f is 22."
    ∷ agreed unsorted_s ask_check (a_verdict Accepted)
    ∷ agreed unsorted_s (at 0x40101f) (an_answer (record { outcome = Dispute 0 1; compared = 2 }))
    -- "K10: .. limit 2. Words 0x7008, 0x401008, 0x7030, 0x7040, 0, 0; two frames, ending 30."
    ∷ agreed section_s (ask_trace stack_window (loaded mask) (crashed lr first) 2 (a ∷ b ∷ c ∷ d ∷ e ∷ f ∷ []))
    (a_trace (traced_as (record { ending = ending.Outermost; frames = 2 }) (0x7008 ∷ 0x401008 ∷ 0x7030 ∷ 0x7040 ∷ 0 ∷ 0 ∷ [])))
    -- "K11: limit 1, one frame, 31."
    ∷ agreed section_s (ask_trace stack_window (loaded mask) (crashed lr first) 1 (a ∷ b ∷ c ∷ []))
    (a_trace (traced_as (record { ending = ending.Full; frames = 1 }) (0x7008 ∷ 0x401008 ∷ 0x7030 ∷ [])))
    -- "K12: limit 2 again, 63 stack bytes, one frame, 28."
    ∷ agreed section_s (ask_trace (take 63 stack_window) (loaded mask) (crashed lr first) 2 (a ∷ b ∷ c ∷ d ∷ e ∷ f ∷ []))
    (a_trace (traced_as (record { ending = ending.Refused 28; frames = 1 }) (0x7008 ∷ 0x401008 ∷ 0x7030 ∷ d ∷ e ∷ f ∷ [])))
    ∷ []

-- ---- "AArch64, first frame, SP base, offset 0: CFA = SP, RA = LR. The same row later: 26. With offset 16 later: 27."

-- one function of 0x20 bytes at 0x1000, with one row, of SP base, count 1 and this offset; little and big
unfoldable pub little_leaf : ℕ → List ℕ
little_leaf offset =
    0xe2 ∷ 0xde ∷ 0x02 ∷ 0x00 ∷ 0x02 ∷ 0x00 ∷ 0x00 ∷ 0x00 ∷ 0x01 ∷ 0x00 ∷ 0x00 ∷ 0x00 ∷ 0x01 ∷ 0x00 ∷ 0x00 ∷ 0x00
    ∷ 0x03 ∷ 0x00 ∷ 0x00 ∷ 0x00 ∷ 0x00 ∷ 0x00 ∷ 0x00 ∷ 0x00 ∷ 0x14 ∷ 0x00 ∷ 0x00 ∷ 0x00
    ∷ 0x00 ∷ 0x10 ∷ 0x00 ∷ 0x00 ∷ 0x20 ∷ 0x00 ∷ 0x00 ∷ 0x00 ∷ 0x00 ∷ 0x00 ∷ 0x00 ∷ 0x00 ∷ 0x01 ∷ 0x00 ∷ 0x00 ∷ 0x00 ∷ 0x00 ∷ 0x00 ∷ 0x00 ∷ 0x00
    ∷ 0x00 ∷ 0x03 ∷ offset ∷ []

unfoldable pub big_leaf : ℕ → List ℕ
big_leaf offset =
    0xde ∷ 0xe2 ∷ 0x02 ∷ 0x00 ∷ 0x01 ∷ 0x00 ∷ 0x00 ∷ 0x00 ∷ 0x00 ∷ 0x00 ∷ 0x00 ∷ 0x01 ∷ 0x00 ∷ 0x00 ∷ 0x00 ∷ 0x01
    ∷ 0x00 ∷ 0x00 ∷ 0x00 ∷ 0x03 ∷ 0x00 ∷ 0x00 ∷ 0x00 ∷ 0x00 ∷ 0x00 ∷ 0x00 ∷ 0x00 ∷ 0x14
    ∷ 0x00 ∷ 0x00 ∷ 0x10 ∷ 0x00 ∷ 0x00 ∷ 0x00 ∷ 0x00 ∷ 0x20 ∷ 0x00 ∷ 0x00 ∷ 0x00 ∷ 0x00 ∷ 0x00 ∷ 0x00 ∷ 0x00 ∷ 0x01 ∷ 0x00 ∷ 0x00 ∷ 0x00 ∷ 0x00
    ∷ 0x00 ∷ 0x03 ∷ offset ∷ []

-- in that function; "first frame" is the mark, "later" none
unfoldable pub in_leaf : ℕ → Registers
in_leaf first = record { pc = 0x401010; sp = 0x7000; fp = 0x7030; lr = 0x401008; first = first }

unfoldable pub of_leaf : ℕ → ℕ → Question
of_leaf mask first = ask_caller stack_window (loaded mask) (in_leaf first)

-- for any mask, since the row is not signed
unfoldable pub aarch64_table : ℕ → List Agreed
aarch64_table mask =
    agreed (little_leaf 0) (of_leaf mask 1) (a_step (step.Caller (record { pc = 0x401008; sp = 0x7000; fp = 0x7030; lr = 0x401008; first = 0 })))
    ∷ agreed (little_leaf 0) (of_leaf mask 0) (a_step (step.Refused (in_leaf 0) 26))
    ∷ agreed (little_leaf 16) (of_leaf mask 0) (a_step (step.Refused (in_leaf 0) 27))
    ∷ agreed (big_leaf 0) (of_leaf mask 1) (a_step (step.Caller (record { pc = 0x401008; sp = 0x7000; fp = 0x7030; lr = 0x401008; first = 0 })))
    ∷ agreed (big_leaf 0) (of_leaf mask 0) (a_step (step.Refused (in_leaf 0) 26))
    ∷ agreed (big_leaf 16) (of_leaf mask 0) (a_step (step.Refused (in_leaf 0) 27))
    ∷ []

-- ---- request 03: "A function that ends in a call which never returns leaves a return address just past its own end"

-- S with its second function at the very next byte behind the first
unfoldable pub adjacent_s : List ℕ
adjacent_s = set section_s 48 0x20

-- S, its first function with one row, `with_frame`, which starts at 4
unfoldable pub late_s : List ℕ
late_s = set (set (set section_s 36 0x03) 40 0x01) 12 0x02

-- S, its first function two repeated blocks of 16 bytes
unfoldable pub repeated_s : List ℕ
repeated_s = set (set section_s 44 0x10) 45 0x10

-- S with its first start -0x1000
unfoldable pub below_s : List ℕ
below_s = set (set (set section_s 29 0xf0) 30 0xff) 31 0xff

-- 64 bytes, all zero but FP's word 0x7038 and RA's 0x401044 behind it
unfoldable pub call_window : List ℕ
call_window = 0x38 ∷ 0x70 ∷ replicate 6 0 ++ 0x44 ∷ 0x10 ∷ 0x40 ∷ replicate 53 0

unfoldable pub called : ℕ → ℕ → Registers
called pc first = record { pc = pc; sp = 0x7000; fp = 0x7000; lr = 0; first = first }

-- a step with the mark or without, and one with the section at another address
unfoldable pub of_call : ℕ → ℕ → Question
of_call pc first = ask_caller call_window (loaded 0) (called pc first)

unfoldable pub lying_at : ℕ → ℕ → ℕ → Question
lying_at section pc first = ask_caller call_window (record { section = section; stack = 0x7000; mask = 0 }) (called pc first)

-- the callers by the two rows of S: RA is the word at CFA - 8 in both, as read
unfoldable pub by_entry : Reply
by_entry = a_step (step.Caller (record { pc = 0x7038; sp = 0x7008; fp = 0x7000; lr = 0; first = 0 }))

unfoldable pub by_frame : Reply
by_frame = a_step (step.Caller (record { pc = 0x401044; sp = 0x7010; fp = 0x7038; lr = 0; first = 0 }))

unfoldable pub last_call_table : List Agreed
last_call_table =
    -- the function's last call, its neighbour at the very next byte: the caller is the function's; with the mark, and in a lookup, the
    -- neighbour's
    agreed adjacent_s (of_call 0x401020 0) by_frame
    ∷ agreed adjacent_s (of_call 0x401020 1) by_entry
    ∷ agreed adjacent_s (at 0x401020) (an_answer (record { outcome = Found at_entry 1 0; compared = 1 }))
    -- the same with no neighbour
    ∷ agreed section_s (of_call 0x401020 0) by_frame
    ∷ agreed section_s (of_call 0x401020 1) (a_step (step.Refused (called 0x401020 1) 21))
    -- at a function's first byte, with nobody before it
    ∷ agreed section_s (of_call 0x401040 0) (a_step (step.Refused (called 0x401040 0) 21))
    ∷ agreed section_s (of_call 0x401040 1) by_entry
    -- at its first row's start, which is above 0
    ∷ agreed late_s (of_call 0x401004 0) (a_step (step.Refused (called 0x401004 0) 23))
    ∷ agreed late_s (of_call 0x401004 1) by_frame
    -- at the first byte of a repeated block: o is the last of the block before, 15
    ∷ agreed repeated_s (of_call 0x401010 0) by_frame
    ∷ agreed repeated_s (of_call 0x401010 1) by_entry
    -- "PC 0 without the mark": though a function covers PC 0, or 2^64 - 1; "after the section checks", and those after 41, here of a
    -- window of 64 bytes that ends at 2^64 + 1
    ∷ agreed below_s (lying_at 0x1000 0 1) by_entry
    ∷ agreed below_s (lying_at 0x1000 0 0) (a_step (step.Refused (called 0 0) 21))
    ∷ agreed section_s (lying_at (2 ^ 64 - 0x1020) (2 ^ 64 - 1) 1) by_frame
    ∷ agreed section_s (lying_at (2 ^ 64 - 0x1020) 0 0) (a_step (step.Refused (called 0 0) 21))
    ∷ agreed (take 77 section_s) (of_call 0 0) (a_step (step.Unsound (called 0 0) 8 0))
    ∷ agreed (take 77 section_s) (ask_caller call_window (record { section = 0x400000; stack = 2 ^ 64 - 63; mask = 0 }) (called 0 0))
    (a_step (step.Refused (called 0 0) 41))
    ∷ []

-- ---- request 04: "On AArch64, a row with the signed bit has the mask's bits cleared from RA, wherever RA came from"

-- one function of 0x20 bytes at 0x1000. At first LR is signed and not yet saved, and CFA is SP; from 8 on CFA is SP + 16, RA, signed, is at
-- CFA - 8, and FP at CFA - 16; from 16 on the same, not signed. Little and big
unfoldable pub sealed_rows : List ℕ
sealed_rows = 0x00 ∷ 0x83 ∷ 0x00 ∷ 0x08 ∷ 0x87 ∷ 0x10 ∷ 0xf8 ∷ 0xf0 ∷ 0x10 ∷ 0x07 ∷ 0x10 ∷ 0xf8 ∷ 0xf0 ∷ []

unfoldable pub little_sealed : List ℕ
little_sealed =
    0xe2 ∷ 0xde ∷ 0x02 ∷ 0x00 ∷ 0x02 ∷ 0x00 ∷ 0x00 ∷ 0x00 ∷ 0x01 ∷ 0x00 ∷ 0x00 ∷ 0x00 ∷ 0x03 ∷ 0x00 ∷ 0x00 ∷ 0x00
    ∷ 0x0d ∷ 0x00 ∷ 0x00 ∷ 0x00 ∷ 0x00 ∷ 0x00 ∷ 0x00 ∷ 0x00 ∷ 0x14 ∷ 0x00 ∷ 0x00 ∷ 0x00
    ∷ 0x00 ∷ 0x10 ∷ 0x00 ∷ 0x00 ∷ 0x20 ∷ 0x00 ∷ 0x00 ∷ 0x00 ∷ 0x00 ∷ 0x00 ∷ 0x00 ∷ 0x00 ∷ 0x03 ∷ 0x00 ∷ 0x00 ∷ 0x00 ∷ 0x00 ∷ 0x00 ∷ 0x00 ∷ 0x00
    ∷ sealed_rows

unfoldable pub big_sealed : List ℕ
big_sealed =
    0xde ∷ 0xe2 ∷ 0x02 ∷ 0x00 ∷ 0x01 ∷ 0x00 ∷ 0x00 ∷ 0x00 ∷ 0x00 ∷ 0x00 ∷ 0x00 ∷ 0x01 ∷ 0x00 ∷ 0x00 ∷ 0x00 ∷ 0x03
    ∷ 0x00 ∷ 0x00 ∷ 0x00 ∷ 0x0d ∷ 0x00 ∷ 0x00 ∷ 0x00 ∷ 0x00 ∷ 0x00 ∷ 0x00 ∷ 0x00 ∷ 0x14
    ∷ 0x00 ∷ 0x00 ∷ 0x10 ∷ 0x00 ∷ 0x00 ∷ 0x00 ∷ 0x00 ∷ 0x20 ∷ 0x00 ∷ 0x00 ∷ 0x00 ∷ 0x00 ∷ 0x00 ∷ 0x00 ∷ 0x00 ∷ 0x03 ∷ 0x00 ∷ 0x00 ∷ 0x00 ∷ 0x00
    ∷ sealed_rows

-- S with bit 7 set in the info of its first row
unfoldable pub signed_s : List ℕ
signed_s = set section_s 69 0x83

-- FP's word 0x0011000000007030 and RA's, a signature alone, 0x0022000000000000, in little-endian order; then the same in big-endian order
unfoldable pub sealed_window : List ℕ
sealed_window =
    0x30 ∷ 0x70 ∷ 0 ∷ 0 ∷ 0 ∷ 0 ∷ 0x11 ∷ 0 ∷ 0 ∷ 0 ∷ 0 ∷ 0 ∷ 0 ∷ 0 ∷ 0x22 ∷ 0
    ∷ 0 ∷ 0x11 ∷ 0 ∷ 0 ∷ 0 ∷ 0 ∷ 0x70 ∷ 0x30 ∷ 0 ∷ 0x22 ∷ 0 ∷ 0 ∷ 0 ∷ 0 ∷ 0 ∷ 0 ∷ []

-- LR has a signature too
unfoldable pub sealed : ℕ → ℕ → ℕ → Registers
sealed pc sp first = record { pc = pc; sp = sp; fp = 0x7030; lr = 0x0035000000401009; first = first }

unfoldable pub of_sealed : ℕ → ℕ → ℕ → ℕ → Question
of_sealed mask pc sp first = ask_caller sealed_window (loaded mask) (sealed pc sp first)

unfoldable pub from_sealed : ℕ → ℕ → ℕ → ℕ → Reply
from_sealed pc sp fp lr = a_step (step.Caller (record { pc = pc; sp = sp; fp = fp; lr = lr; first = 0 }))

-- the bits above those of a user's address, where these are 48, but for bit 55
unfoldable pub usual_mask : ℕ
usual_mask = 0xff7f000000000000

unfoldable pub signed_table : (a b c d e f : ℕ) → List Agreed
signed_table a b c d e f =
    -- "wherever RA came from": LR, which is itself unchanged, in either byte order
    agreed little_sealed (of_sealed usual_mask 0x401000 0x7000 1) (from_sealed 0x401009 0x7000 0x7030 0x0035000000401009)
    ∷ agreed big_sealed (of_sealed usual_mask 0x401000 0x7000 1) (from_sealed 0x401009 0x7000 0x7030 0x0035000000401009)
    -- and a word; FP is as read
    ∷ agreed little_sealed (of_sealed usual_mask 0x401009 0x7000 0) (from_sealed 0 0x7010 0x0011000000007030 0x0035000000401009)
    ∷ agreed big_sealed (of_sealed usual_mask 0x401009 0x7010 0) (from_sealed 0 0x7020 0x0011000000007030 0x0035000000401009)
    -- one bit of the mask, and all
    ∷ agreed little_sealed (of_sealed 0x0004000000000000 0x401000 0x7000 1) (from_sealed 0x0031000000401009 0x7000 0x7030 0x0035000000401009)
    ∷ agreed little_sealed (of_sealed (2 ^ 64 - 1) 0x401000 0x7000 1) (from_sealed 0 0x7000 0x7030 0x0035000000401009)
    -- "rows without it leave RA as read"
    ∷ agreed little_sealed (of_sealed usual_mask 0x401011 0x7000 0) (from_sealed 0x0022000000000000 0x7010 0x0011000000007030 0x0035000000401009)
    -- "Refusal 24 now comes only when the mask is 0, in its old place": before 26, here of the first row without the mark
    ∷ agreed little_sealed (of_sealed 0 0x401000 0x7000 1) (a_step (step.Refused (sealed 0x401000 0x7000 1) 24))
    ∷ agreed little_sealed (of_sealed 0 0x401001 0x7000 0) (a_step (step.Refused (sealed 0x401001 0x7000 0) 24))
    ∷ agreed little_sealed (of_sealed usual_mask 0x401001 0x7000 0) (a_step (step.Refused (sealed 0x401001 0x7000 0) 26))
    -- "The test for ending 30 uses the cleared RA.", and the PC asked in the second frame is one below the first one's
    ∷ agreed little_sealed (ask_trace sealed_window (loaded usual_mask) (sealed 0x401000 0x7000 0) 2 (a ∷ b ∷ c ∷ d ∷ e ∷ f ∷ []))
    (a_trace (traced_as (record { ending = ending.Outermost; frames = 2 }) (0x7000 ∷ 0x401009 ∷ 0x7030 ∷ 0x7010 ∷ 0 ∷ 0x0011000000007030 ∷ [])))
    ∷ agreed little_sealed (ask_trace sealed_window (loaded 0) (sealed 0x401000 0x7000 0) 2 (a ∷ b ∷ c ∷ d ∷ e ∷ f ∷ []))
    (a_trace (traced_as (record { ending = ending.Refused 24; frames = 0 }) (a ∷ b ∷ c ∷ d ∷ e ∷ f ∷ [])))
    -- AMD64: the bit is ignored, and nothing is cleared
    ∷ agreed signed_s (of_sealed (2 ^ 64 - 1) 0x401003 0x7000 1) (from_sealed 0x0011000000007030 0x7008 0x7030 0x0035000000401009)
    ∷ []

-- ---- request 06: "Limit 0 should mean 128."

-- the second function of S has called itself so often, each time from 0x401043 on: the words of the stack, which are return addresses, and
-- the words of the frames, from this CFA on
unfoldable pub deep_window : ℕ → List ℕ
deep_window zero = []
deep_window (suc calls) = 0x44 ∷ 0x10 ∷ 0x40 ∷ 0 ∷ 0 ∷ 0 ∷ 0 ∷ 0 ∷ deep_window calls

unfoldable pub deep_words : ℕ → ℕ → List ℕ
deep_words cfa zero = []
deep_words cfa (suc frames) = cfa ∷ 0x401044 ∷ 0x7030 ∷ deep_words (cfa + 8) frames

-- a trace with this limit, of so many calls, into so many words
unfoldable pub of_deep : ℕ → ℕ → ℕ → Question
of_deep limit calls words = ask_trace (deep_window calls) (loaded 0) (crashed 0 1) limit (replicate words 7)

unfoldable pub full_at : ℕ → List ℕ → Reply
full_at frames behind = a_trace (traced_as (record { ending = ending.Full; frames = frames }) (deep_words 0x7008 frames ++ behind))

unfoldable pub shut_with : ℕ → ℕ → Reply
shut_with number words = a_trace (traced_as (record { ending = ending.Shut number; frames = 0 }) (replicate words 7))

unfoldable pub limit_table : List Agreed
limit_table =
    -- 0 walks 128 frames into 384 words, and so does 128
    agreed section_s (of_deep 0 129 384) (full_at 128 [])
    ∷ agreed section_s (of_deep 128 129 384) (full_at 128 [])
    -- a word behind the frames keeps what it held
    ∷ agreed section_s (of_deep 0 129 385) (full_at 128 (7 ∷ []))
    -- a word fewer is 43
    ∷ agreed section_s (of_deep 0 129 383) (shut_with 43 383)
    -- "older builds lend 192 words and pass 0, and would now get 43, so our own callers that relied on 64 must pass 64"
    ∷ agreed section_s (of_deep 0 129 192) (shut_with 43 192)
    ∷ agreed section_s (of_deep 64 129 192) (full_at 64 [])
    ∷ []
