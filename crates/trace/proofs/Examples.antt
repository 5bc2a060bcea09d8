-- Traces of written-out stacks, each by computation: cases K10 to K12 of document 01, the numbers 41 to 43 and 1; and wrong traces,
-- of the kinds that document 01 lists and by other rules for limit 0, each with a case on which it answers otherwise.
-- Assumes nothing.
use mathlib.Core.Path.{◌≡◌, refl, sym, ◌∙◌, ap}
use mathlib.Core.Bool.{true, false, not}
use mathlib.Core.List.{List, [], ◌∷◌, ◌++◌}
use Prim.Native.Nat.{ℕ, zero, suc, ◌-◌, ◌*◌, ◌^◌}
use native.Mathlib.Omega.{arith}
use lib.Dec.{eqb, ltb}
use lib.IntN.{pos}
use lib.ListN.{length, get_or, take, replicate}
use Rattle.numbers.specs.Computed.Address.{window_fits}
use Rattle.numbers.specs.declared.field.Order.TheVariants.{Little}
use Rattle.section.specs.declared.row.Base.TheVariants.{Sp}
use Rattle.section.specs.declared.row.Place.TheVariants.{Register}
use Rattle.section.specs.declared.row.Row.{Row}
use Rattle.section.specs.SectionS.{section_s}
use Rattle.section.specs.Shape.{aarch64_shape}
use Rattle.accept.specs.Computed.Checks.{first_bad, verdict}
use Rattle.accept.specs.Fault.{Fault}
use Rattle.caller.specs.Computed.Caller.{from_row}
use Rattle.caller.specs.declared.registers.Registers.{Registers}
use Rattle.caller.specs.Step.{Step}
use Rattle.caller.specs.Step as stepped
use Rattle.caller.specs.declared.registers.Process.{Process}
use Rattle.trace.specs.Cases.{no_frame, EndsOutermost, WalkMade}
use Rattle.trace.specs.Frames.{TraceReply, in_force, frame_of, with_mark, all_words, over, traced_as}
use Rattle.trace.specs.Numbers.{number_of_trace_cause, ending_number}
use Rattle.trace.specs.Computed.Trace.{Walk, ended, with_frame, unless_outermost, onward, walk_of, door_fault, after_door, walk_after, traced, trace_of}
use Rattle.trace.specs.Inner.Opened.{trace_opened}
use Rattle.trace.specs.Ending.{Outermost, Full, Refused, Shut, Unsound}
use Rattle.trace.specs.declared.answer.Frame.{Frame}
use Rattle.trace.proofs.Exactly.{number_30_exactly_when}
use Rattle.trace.proofs.TraceLaws.{step_at}

-- ---- "PC 0x401044, SP 0x7000, FP 0x7030; stack at 0x7000, 64 bytes, all zero but the word 0x401008 at 0x7000"; LR, the mark and the
-- mask are any

stack : List ℕ
stack = 0x08 ∷ 0x10 ∷ 0x40 ∷ replicate 61 0

process : ℕ → Process
process mask = record { section = 0x400000; stack = 0x7000; mask = mask }

registers : ℕ → ℕ → Registers
registers lr first = record { pc = 0x401044; sp = 0x7000; fp = 0x7030; lr = lr; first = first }

-- "limit 2. Words 0x7008, 0x401008, 0x7030, 0x7040, 0, 0; two frames, ending 30."
K10 : (mask lr first a b c d e f : ℕ)
    → trace_of section_s stack (process mask) (registers lr first) 2 (a ∷ b ∷ c ∷ d ∷ e ∷ f ∷ [])
    ≡ traced_as (record { ending = Outermost; frames = 2 }) (0x7008 ∷ 0x401008 ∷ 0x7030 ∷ 0x7040 ∷ 0 ∷ 0 ∷ [])
unfolding trace_opened section_s stack process registers
K10 mask lr first a b c d e f = refl

-- so the case of 30 in specs/Cases holds here
K10-case : (mask lr first a b c d e f : ℕ)
    → (frames : List Frame) × WalkMade section_s stack (process mask) (registers lr first) 2 (a ∷ b ∷ c ∷ d ∷ e ∷ f ∷ []) frames (EndsOutermost 2)
unfolding traced_as ending_number number_of_trace_cause in_force
K10-case mask lr first a b c d e f =
    (number_30_exactly_when section_s stack (process mask) (registers lr first) 2 (a ∷ b ∷ c ∷ d ∷ e ∷ f ∷ [])).0
    (ap (λ t. ending_number t.answer.ending) (K10 mask lr first a b c d e f))

-- "Words after the written frames keep what they held."
K10-kept : (mask lr first a b c d e f g h : ℕ)
    → trace_of section_s stack (process mask) (registers lr first) 2 (a ∷ b ∷ c ∷ d ∷ e ∷ f ∷ g ∷ h ∷ [])
    ≡ traced_as (record { ending = Outermost; frames = 2 }) (0x7008 ∷ 0x401008 ∷ 0x7030 ∷ 0x7040 ∷ 0 ∷ 0 ∷ g ∷ h ∷ [])
unfolding trace_opened section_s stack process registers
K10-kept mask lr first a b c d e f g h = refl

-- "K11: limit 1, one frame, 31."
K11 : (mask lr first a b c : ℕ)
    → trace_of section_s stack (process mask) (registers lr first) 1 (a ∷ b ∷ c ∷ [])
    ≡ traced_as (record { ending = Full; frames = 1 }) (0x7008 ∷ 0x401008 ∷ 0x7030 ∷ [])
unfolding trace_opened section_s stack process registers
K11 mask lr first a b c = refl

-- "K12: limit 2 again, 63 stack bytes, one frame, 28."
K12 : (mask lr first a b c d e f : ℕ)
    → trace_of section_s (take 63 stack) (process mask) (registers lr first) 2 (a ∷ b ∷ c ∷ d ∷ e ∷ f ∷ [])
    ≡ traced_as (record { ending = Refused 28; frames = 1 }) (0x7008 ∷ 0x401008 ∷ 0x7030 ∷ d ∷ e ∷ f ∷ [])
unfolding trace_opened section_s stack process registers
K12 mask lr first a b c d e f = refl

-- ---- refused before the walk: no frames, and the buffer as it was

-- what a trace answers that is refused at its door
shut_with : ℕ → List ℕ → TraceReply
shut_with number old = traced_as (record { ending = Shut number; frames = 0 }) old

-- one past the end of memory; the limit and the buffer are wrong as well
past_memory : trace_of [] (0 ∷ 0 ∷ []) (record { section = 0; stack = 2 ^ 64 - 1; mask = 0 }) (registers 0 0) 257 [] ≡ shut_with 41 []
unfolding trace_opened registers shut_with
past_memory = refl

-- a window may end where memory does
limit_above_lem : trace_of [] (0 ∷ 0 ∷ []) (record { section = 0; stack = 2 ^ 64 - 2; mask = 0 }) (registers 0 0) 257 [] ≡ shut_with 42 []
unfolding trace_opened registers shut_with
limit_above_lem = refl

too_few_words_lem : trace_of section_s stack (process 0) (registers 0 0) 2 (replicate 5 7) ≡ shut_with 43 (replicate 5 7)
unfolding trace_opened section_s stack process registers shut_with
too_few_words_lem = refl

most_words : trace_of [] stack (process 0) (registers 0 0) 256 (replicate 767 7) ≡ shut_with 43 (replicate 767 7)
unfolding trace_opened stack process registers shut_with
most_words = refl

-- "Limit 0 should mean 128": 384 words
limit_0 : trace_of [] stack (process 0) (registers 0 0) 0 (replicate 383 7) ≡ shut_with 43 (replicate 383 7)
unfolding trace_opened stack process registers shut_with
limit_0 = refl

limit_0_fits : trace_of [] stack (process 0) (registers 0 0) 0 (replicate 384 7)
    ≡ traced_as (record { ending = Unsound 1 0; frames = 0 }) (replicate 384 7)
unfolding trace_opened stack process registers
limit_0_fits = refl

-- ---- wrong traces

-- the trace by how the walk is made, how it starts and what it leaves, and ours
abbrev Walking : Type 0
Walking = (Registers → Step) → ℕ → Registers → Walk

trace_by : Walking → (Registers → Registers) → (Walk → List ℕ → TraceReply) → List ℕ → List ℕ → Process → Registers → ℕ → List ℕ → TraceReply
trace_by walk start leave s window at from limit old =
    leave
    (after_door (door_fault window at limit (length old)) (walk_after (verdict s) (walk (step_at s window at) (in_force limit) (start from))))
    old

ours : (s window : List ℕ) (at : Process) (from : Registers) (limit : ℕ) (old : List ℕ)
    → trace_of s window at from limit old ≡ trace_by walk_of with_mark traced s window at from limit old
unfolding trace_opened trace_by
ours s window at from limit old = refl

-- K10, with eight words of 7
K10-by : Walking → (Registers → Registers) → (Walk → List ℕ → TraceReply) → TraceReply
K10-by walk start leave = trace_by walk start leave section_s stack (process 0) (registers 0 0) 2 (replicate 8 7)

K10-ours : TraceReply
K10-ours = trace_of section_s stack (process 0) (registers 0 0) 2 (replicate 8 7)

-- "a trace that writes nothing"
silent : Walk → List ℕ → TraceReply
silent walk old = traced_as (record { ending = walk.ending; frames = length walk.frames }) old

silent_differs : ¬ (K10-by walk_of with_mark silent ≡ K10-ours)
unfolding trace_opened section_s stack process registers trace_by K10-by K10-ours silent
silent_differs e = let z : ◌≡◌ {A = ℕ} 7 0x7008 = ap (λ t. get_or t.words 0 0) e in omega arith

-- a word past the frames is written
overrun : Walk → List ℕ → TraceReply
overrun walk old =
    traced_as (record { ending = walk.ending; frames = length walk.frames }) (over (all_words walk.frames ++ (0 ∷ [])) old)

overrun_differs : ¬ (K10-by walk_of with_mark overrun ≡ K10-ours)
unfolding trace_opened section_s stack process registers trace_by K10-by K10-ours overrun
overrun_differs e = let z : ◌≡◌ {A = ℕ} 0 7 = ap (λ t. get_or t.words 6 0) e in omega arith

-- "a trace that works out the first frame and repeats or invents the others"
repeating : Walking
repeating step zero from = ended Full
repeating step (suc left) from = onward (step from) (λ caller. repeating step left from)

repeating_differs : ¬ (K10-by repeating with_mark traced ≡ K10-ours)
unfolding trace_opened section_s stack process registers trace_by K10-by K10-ours repeating
repeating_differs e = let z : ◌≡◌ {A = ℕ} 0x7008 0x7040 = ap (λ t. get_or t.words 3 0) e in omega arith

-- the count and the ending are right, the second frame is made up
inventing : Walking
inventing step zero from = ended Full
inventing step (suc left) from = onward (step from) (λ caller. with_frame no_frame (ended Outermost))

inventing_counts : (K10-by inventing with_mark traced).answer ≡ K10-ours.answer
unfolding trace_opened section_s stack process registers trace_by K10-by K10-ours inventing
inventing_counts = refl

inventing_differs : ¬ (K10-by inventing with_mark traced ≡ K10-ours)
unfolding trace_opened section_s stack process registers trace_by K10-by K10-ours inventing
inventing_differs e = let z : ◌≡◌ {A = ℕ} 0 0x7040 = ap (λ t. get_or t.words 3 0) e in omega arith

-- "RA 0 ends it with 30 (outermost), also in the last allowed frame": one to which the full limit comes first
unless_full : ℕ → Walk → Walk
unless_full zero rest = ended Full
unless_full (suc left) rest = rest

hurried : ℕ → Step → (Registers → Walk) → Walk
hurried left (stepped.Caller caller) rest = with_frame (frame_of caller) (unless_full left (unless_outermost caller.pc (rest caller)))
hurried left (stepped.Unsound old number index) rest = ended (Refused number)
hurried left (stepped.Refused old number) rest = ended (Refused number)

full_first : Walking
full_first step zero from = ended Full
full_first step (suc left) from = hurried left (step from) (full_first step left)

full_first_differs : ¬ (K10-by full_first with_mark traced ≡ K10-ours)
unfolding trace_opened section_s stack process registers trace_by K10-by K10-ours unless_full hurried full_first
full_first_differs e = let z : ◌≡◌ {A = ℕ} 31 30 = ap (λ t. ending_number t.answer.ending) e in omega arith

-- "The walk starts with the mark set", whatever mark is handed in; here CFA is SP, and without the mark that is 26
at_sp : Registers
at_sp = record { pc = 0x401008; sp = 0x7010; fp = 0x7000; lr = 0; first = 0 }

marked_trace : trace_of section_s stack (process 0) at_sp 1 (7 ∷ 7 ∷ 7 ∷ [])
    ≡ traced_as (record { ending = Outermost; frames = 1 }) (0x7010 ∷ 0 ∷ 0x401008 ∷ [])
unfolding trace_opened section_s stack process at_sp
marked_trace = refl

unmarked_trace : trace_by walk_of (λ from. from) traced section_s stack (process 0) at_sp 1 (7 ∷ 7 ∷ 7 ∷ [])
    ≡ traced_as (record { ending = Refused 26; frames = 0 }) (7 ∷ 7 ∷ 7 ∷ [])
unfolding trace_opened section_s stack process at_sp trace_by
unmarked_trace = refl

unmarked_differs : ¬ (trace_by walk_of (λ from. from) traced section_s stack (process 0) at_sp 1 (7 ∷ 7 ∷ 7 ∷ [])
    ≡ trace_of section_s stack (process 0) at_sp 1 (7 ∷ 7 ∷ 7 ∷ []))
unfolding traced_as
unmarked_differs e = let z : ◌≡◌ {A = ℕ} 0 1 = ap (λ t. t.answer.frames) (sym unmarked_trace ∙ e ∙ marked_trace) in omega arith

-- ---- "The test for ending 30 uses the cleared RA."

-- a leaf on AArch64 that has signed its LR, of which only bits of the signature are set
sealed : Row
sealed = record { start = 0; base = Sp; cfa = record { by = pos 0 }; ra = Register; fp = Register; signed = true }

sealed_leaf : Registers
sealed_leaf = record { pc = 0x401010; sp = 0x7000; fp = 0x7030; lr = 0x0035000000000000; first = 1 }

sealed_step : Registers → Step
sealed_step from = from_row (aarch64_shape Little) [] (process 0xff7f000000000000) from sealed

signature_outermost : walk_of sealed_step 2 sealed_leaf ≡ with_frame (record { cfa = 0x7000; ra = 0; fp = 0x7030 }) (ended Outermost)
unfolding trace_opened process sealed sealed_leaf sealed_step
signature_outermost = refl

-- the walk by what 30 is tested on, and ours
onward_by : (Registers → ℕ) → Step → (Registers → Walk) → Walk
onward_by tested (stepped.Caller caller) rest = with_frame (frame_of caller) (unless_outermost (tested caller) (rest caller))
onward_by tested (stepped.Unsound old number index) rest = ended (Refused number)
onward_by tested (stepped.Refused old number) rest = ended (Refused number)

walk_by : (Registers → ℕ) → Walking
walk_by tested step zero from = ended Full
walk_by tested step (suc left) from = onward_by tested (step from) (walk_by tested step left)

our_30 : (answer : Step) (rest : Registers → Walk) → onward answer rest ≡ onward_by (λ caller. caller.pc) answer rest
unfolding trace_opened onward_by
our_30 (stepped.Caller caller) rest = refl
our_30 (stepped.Unsound old number index) rest = refl
our_30 (stepped.Refused old number) rest = refl

-- on RA as it was read: here it came from LR, which is unchanged
as_read : Registers → ℕ
as_read caller = caller.lr

as_read_differs : ¬ (walk_by as_read sealed_step 2 sealed_leaf ≡ walk_of sealed_step 2 sealed_leaf)
unfolding trace_opened process sealed sealed_leaf sealed_step onward_by walk_by as_read
as_read_differs e = let z : ◌≡◌ {A = ℕ} 26 30 = ap (λ w. ending_number w.ending) e in omega arith

-- ---- "Limit 0 should mean 128."

-- the trace by how many frames 43 asks words for and how many the walk may have, and ours
door_by : (ℕ → ℕ) → List ℕ → Process → ℕ → ℕ → Fault
door_by asked window at limit words =
    first_bad ((not (window_fits window at.stack), 41) ∷ (ltb 256 limit, 42) ∷ (ltb words (3 * asked limit), 43) ∷ [])

limited_by : (asked allowed : ℕ → ℕ) → List ℕ → List ℕ → Process → Registers → ℕ → List ℕ → TraceReply
limited_by asked allowed s window at from limit old =
    traced
    (after_door (door_by asked window at limit (length old))
    (walk_after (verdict s) (walk_of (step_at s window at) (allowed limit) (with_mark from))))
    old

our_limit : (s window : List ℕ) (at : Process) (from : Registers) (limit : ℕ) (old : List ℕ)
    → trace_of s window at from limit old ≡ limited_by in_force in_force s window at from limit old
unfolding trace_opened limited_by door_by
our_limit s window at from limit old = refl

-- "Limit 0 means 64", as document 01 had it
still64 : ℕ → ℕ
still64 limit = elim (eqb limit 0) [ true ↦ 64 | false ↦ limit ]

-- "our own callers that relied on 64 must pass 64": who passes 64 gets, word for word, what 0 gave, whatever is handed in beside it
as_0_was : (s window : List ℕ) (at : Process) (from : Registers) (old : List ℕ)
    → trace_of s window at from 64 old ≡ limited_by still64 still64 s window at from 0 old
unfolding trace_opened limited_by door_by still64
as_0_was s window at from old = refl

-- the window and the registers of K10, and these limits
limited : (asked allowed : ℕ → ℕ) → List ℕ → List ℕ → ℕ → List ℕ → TraceReply
limited asked allowed s window limit old = limited_by asked allowed s window (process 0) (registers 0 1) limit old

-- 192 words are taken for limit 0
still_64_differs : ¬ (limited still64 still64 [] stack 0 (replicate 192 7) ≡ limited in_force in_force [] stack 0 (replicate 192 7))
unfolding trace_opened stack process registers limited_by limited door_by still64
still_64_differs e = let z : ◌≡◌ {A = ℕ} 1 43 = ap (λ t. ending_number t.answer.ending) e in omega arith

-- 43 by the limit as given: limit 0 asks for no word
as_given_differs : ¬ (limited (λ limit. limit) in_force [] stack 0 [] ≡ limited in_force in_force [] stack 0 [])
unfolding trace_opened stack process registers limited_by limited door_by
as_given_differs e = let z : ◌≡◌ {A = ℕ} 1 43 = ap (λ t. ending_number t.answer.ending) e in omega arith

-- 128 for every limit: K11 has a second frame
always_128_differs : ¬ (limited in_force (λ limit. 128) section_s stack 1 (replicate 6 7) ≡ limited in_force in_force section_s stack 1 (replicate 6 7))
unfolding trace_opened section_s stack process registers limited_by limited door_by
always_128_differs e = let z : ◌≡◌ {A = ℕ} 2 1 = ap (λ t. t.answer.frames) e in omega arith

-- the walk of limit 0 ends after 64 frames still: a function that has called itself goes on
calls_itself : ℕ → List ℕ
calls_itself zero = []
calls_itself (suc calls) = 0x44 ∷ 0x10 ∷ 0x40 ∷ 0 ∷ 0 ∷ 0 ∷ 0 ∷ 0 ∷ calls_itself calls

walks_64_differs : ¬ (limited in_force still64 section_s (calls_itself 66) 0 (replicate 384 7)
    ≡ limited in_force in_force section_s (calls_itself 66) 0 (replicate 384 7))
unfolding trace_opened section_s process registers limited_by limited door_by still64 calls_itself
walks_64_differs e = let z : ◌≡◌ {A = ℕ} 64 66 = ap (λ t. t.answer.frames) e in omega arith
