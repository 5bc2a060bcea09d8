-- Document 01, "Shown to break": no calls of these kinds meet the demand that they are to break, whatever the others of the four
-- answer, by the table's K1, K4, K5, K7 and K10; and such calls there are.
-- Assumes nothing.
use mathlib.Core.Path.{◌≡◌, refl, sym, ◌∙◌, ap}
use mathlib.Core.Bool.{true}
use mathlib.Core.List.{List, [], ◌∷◌}
use mathlib.Core.Logic.{inl, ⊎_elim}
use Prim.Native.Nat.{ℕ, suc, ◌^◌}
use native.Mathlib.Omega.{arith}
use lib.ListN.{get_or, set, take}
use borrow.Author.Tests.{eq-eqb}
use Rattle.section.specs.Header.{layout_of}
use Rattle.section.specs.SectionS.{section_s, at_entry, with_frame}
use Rattle.section.specs.declared.row.Row.{Row}
use Rattle.accept.specs.Given.{number_of_rule, verdict_number}
use Rattle.accept.specs.declared.verdict.Rule.TheVariants.{RowSum}
use Rattle.accept.specs.Computed.Checks.{verdict}
use Rattle.accept.specs.Verdict.{Accepted}
use Rattle.accept.proofs.CauseLaws.{check_given}
use Rattle.accept.proofs.Exactly.{number_of_rule_lem}
use Rattle.accept.proofs.FaultLaws.{accepted_or_refused}
use Rattle.lookup.specs.Numbers.{no_function, number_of_unfound, unfound, number_of_lookup_cause, outcome_number}
use Rattle.lookup.specs.Computed.Answers.{lookup_of}
use Rattle.lookup.specs.Inner.Opened.{lookup_opened}
use Rattle.lookup.specs.Outcome.{Found}
use Rattle.lookup.proofs.NumberLaws.{lookup_given}
use Rattle.caller.specs.Cases.{Rule41}
use Rattle.caller.specs.Numbers.{number_of_step_cause}
use Rattle.caller.specs.declared.registers.Registers.{Registers}
use Rattle.caller.specs.declared.registers.Process.{Process}
use Rattle.trace.specs.Cases.{no_frame}
use Rattle.trace.specs.Frames.{all_words, over, words_of, traced_as}
use Rattle.trace.specs.Numbers.{window, number_of_trace_cause, ending_number}
use Rattle.trace.specs.Computed.Trace.{traced, trace_of}
use Rattle.trace.specs.Inner.Opened.{trace_opened}
use Rattle.trace.specs.Ending.{Outermost, Unsound}
use Rattle.trace.specs.declared.answer.Frame.{Frame}
use Rattle.trace.proofs.Exactly.{unsound_exactly_when}
use Rattle.promises.specs.Calls.{Calls}
use Rattle.promises.specs.Demand1.{Demand1}
use Rattle.promises.specs.Demand2.{Demand2}
use Rattle.promises.specs.Demand3.{Demand3}
use Rattle.promises.specs.Table.{reply_to, loaded, at, stack_window, crashed, agreed, table}
use Rattle.promises.specs.Wrong.{RefusesEverything, OneFixedRow, Always21, MadeUpCount, WritesNothing, RepeatsFrames, InventsFrames, WritesOn, refusing_everything, finding_one_row, answering21, counting_by, leaving, writing_nothing, frames_of, repeating_frames, inventing_frames, changed_where, writing_on}
use Rattle.promises.specs.Computed.Ours.{ours}
use Rattle.promises.proofs.Demand2Met.{demand_2_ours}
use Rattle.promises.proofs.NoChoice.{accepts_as_ours, finds_as_ours, traces_as_ours, counts_as_ours}
use Rattle.promises.proofs.TableHolds.{table_holds}

-- ---- the cases of the table that are used; the buffer held words of 7

table_K1 : verdict section_s ≡ Accepted
unfolding ours reply_to agreed table
table_K1 = let holds = (table_holds 0 0 0 7 7 7 7 7 7).0 in cc

table_K4 : lookup_of section_s 0x400000 0x401003 ≡ (record { outcome = Found at_entry 0 0; compared = 2 })
unfolding ours reply_to at agreed table
table_K4 = let holds = (table_holds 0 0 0 7 7 7 7 7 7).1.1.1.0 in cc

table_K5 : lookup_of section_s 0x400000 0x401004 ≡ (record { outcome = Found with_frame 0 1; compared = 2 })
unfolding ours reply_to at agreed table
table_K5 = let holds = (table_holds 0 0 0 7 7 7 7 7 7).1.1.1.1.0 in cc

table_K7 : lookup_of section_s 0x400000 0x401040 ≡ (record { outcome = Found at_entry 1 0; compared = 1 })
unfolding ours reply_to at agreed table
table_K7 = let holds = (table_holds 0 0 0 7 7 7 7 7 7).1.1.1.1.1.1.1.1.1.0 in cc

sevens : List ℕ
sevens = 7 ∷ 7 ∷ 7 ∷ 7 ∷ 7 ∷ 7 ∷ []

table_K10 : trace_of section_s stack_window (loaded 0) (crashed 0 0) 2 sevens
    ≡ traced_as (record { ending = Outermost; frames = 2 }) (0x7008 ∷ 0x401008 ∷ 0x7030 ∷ 0x7040 ∷ 0 ∷ 0 ∷ [])
unfolding ours reply_to agreed table sevens
table_K10 = let holds = (table_holds 0 0 0 7 7 7 7 7 7).1.1.1.1.1.1.1.1.1.1.1.1.1.0 in cc

-- K10 with another stack: the word at 0x7030 is 1, so that the second frame has FP 1
other_stack : List ℕ
other_stack = set stack_window 48 1

other_K10 : trace_of section_s other_stack (loaded 0) (crashed 0 0) 2 sevens
    ≡ traced_as (record { ending = Outermost; frames = 2 }) (0x7008 ∷ 0x401008 ∷ 0x7030 ∷ 0x7040 ∷ 0 ∷ 1 ∷ [])
unfolding trace_opened section_s stack_window other_stack loaded crashed sevens
other_K10 = refl

-- S with 4 rows in its header
wrong_sum : List ℕ
wrong_sum = set section_s 12 4

sum_refused : (trace_of wrong_sum stack_window (loaded 0) (crashed 0 0) 2 sevens).answer.ending ≡ Unsound 15 0
unfolding trace_opened section_s wrong_sum stack_window loaded crashed sevens
sum_refused = refl

s_sorted : (layout_of section_s).sorted ≡ true
unfolding lookup_opened section_s
s_sorted = refl

module _ (calls : Calls) where
  -- ---- "a checker that refuses everything (demand 2, K1)", and demand 1: it gives a number that is not due

  pub refuses_everything_breaks_2 : RefusesEverything calls → ¬ Demand2 calls
  refuses_everything_breaks_2 refuses demand = refuses section_s (accepts_as_ours calls demand section_s table_K1)

  pub refuses_everything_breaks_1 : RefusesEverything calls → ¬ Demand1 calls
  unfolding verdict_number
  refuses_everything_breaks_1 refuses demand =
      ⊎_elim (refuses section_s)
      (λ known.
      let (rule, is) = known in
      let due = (check_given section_s rule).1 (((demand.check section_s).given rule).0 is) in
      let none : 0 ≡ number_of_rule rule = sym (ap verdict_number table_K1) ∙ due in
      omega (arith, number_of_rule_lem rule, none))
      (demand.check section_s).known

  -- ---- "a lookup with one fixed row, or always 21 (demand 2, K4, K5)"

  pub one_fixed_row_breaks_2 : (row : List ℕ → Row) → OneFixedRow calls row → ¬ Demand2 calls
  unfolding at_entry with_frame
  one_fixed_row_breaks_2 row fixed demand =
      let first = finds_as_ours calls demand section_s table_K1 0x400000 0x401003 ∙ ap (λ a. a.outcome) table_K4 in
      let second = finds_as_ours calls demand section_s table_K1 0x400000 0x401004 ∙ ap (λ a. a.outcome) table_K5 in
      let same : at_entry ≡ with_frame = fixed _ _ _ _ 0 0 first ∙ sym (fixed _ _ _ _ 0 1 second) in
      let z : ◌≡◌ {A = ℕ} 0 4 = ap (λ r. r.start) same in
      omega arith

  pub always_21_breaks_2 : Always21 calls → ¬ Demand2 calls
  unfolding outcome_number number_of_unfound
  always_21_breaks_2 always demand =
      let found = finds_as_ours calls demand section_s table_K1 0x400000 0x401003 ∙ ap (λ a. a.outcome) table_K4 in
      let z : ◌≡◌ {A = ℕ} 0 21 = sym (ap outcome_number found) ∙ always section_s 0x400000 0x401003 in
      omega arith

  pub always_21_breaks_1 : Always21 calls → ¬ Demand1 calls
  unfolding outcome_number number_of_unfound number_of_lookup_cause
  always_21_breaks_1 always demand =
      let none = unfound no_function in
      let due = ((demand.lookup section_s 0x400000 0x401003).given none).0 (always section_s 0x400000 0x401003) in
      let z : ◌≡◌ {A = ℕ} 0 21 = sym (ap (λ a. outcome_number a.outcome) table_K4) ∙ (lookup_given section_s 0x400000 0x401003 none).1 due in
      omega arith

  -- ---- "a made-up count (demand 3 and K7, by the halving rule)"

  pub made_up_count_breaks_3 : (count : List ℕ → ℕ) → MadeUpCount calls count → ¬ Demand3 calls
  made_up_count_breaks_3 count made demand =
      let two : ◌≡◌ {A = ℕ} 2 (count section_s) =
      sym (ap (λ a. a.compared) table_K4) ∙ sym (counts_as_ours calls demand section_s table_K1 s_sorted 0x400000 0x401003) ∙ made section_s 0x400000 0x401003 in
      let one : ◌≡◌ {A = ℕ} 1 (count section_s) =
      sym (ap (λ a. a.compared) table_K7) ∙ sym (counts_as_ours calls demand section_s table_K1 s_sorted 0x400000 0x401040) ∙ made section_s 0x400000 0x401040 in
      omega arith

  -- ---- "a trace that writes nothing (demand 2, K10)"

  is-K10 : Demand2 calls → calls.trace section_s stack_window (loaded 0) (crashed 0 0) 2 sevens
      ≡ traced_as (record { ending = Outermost; frames = 2 }) (0x7008 ∷ 0x401008 ∷ 0x7030 ∷ 0x7040 ∷ 0 ∷ 0 ∷ [])
  is-K10 demand = traces_as_ours calls demand section_s stack_window (loaded 0) (crashed 0 0) 2 sevens ∙ table_K10

  is-other : Demand2 calls → calls.trace section_s other_stack (loaded 0) (crashed 0 0) 2 sevens
      ≡ traced_as (record { ending = Outermost; frames = 2 }) (0x7008 ∷ 0x401008 ∷ 0x7030 ∷ 0x7040 ∷ 0 ∷ 1 ∷ [])
  is-other demand = traces_as_ours calls demand section_s other_stack (loaded 0) (crashed 0 0) 2 sevens ∙ other_K10

  pub writes_nothing_breaks_2 : WritesNothing calls → ¬ Demand2 calls
  unfolding traced_as sevens
  writes_nothing_breaks_2 nothing demand =
      let same = sym (nothing section_s stack_window (loaded 0) (crashed 0 0) 2 sevens) ∙ ap (λ t. t.words) (is-K10 demand) in
      let z : ◌≡◌ {A = ℕ} 7 0x7008 = ap (λ words. get_or words 0 0) same in
      omega arith

  -- ---- "a trace that works out the first frame and repeats or invents the others (demand 2, since every frame comes from the last)"

  pub repeats_frames_breaks_2 : RepeatsFrames calls → ¬ Demand2 calls
  unfolding traced_as sevens all_words words_of over
  repeats_frames_breaks_2 repeats demand =
      let (frame, is) = repeats section_s stack_window (loaded 0) (crashed 0 0) 2 sevens in
      let words = rw (is-K10 demand) at is in
      let first : 0x7008 ≡ frame.cfa = ap (λ words. get_or words 0 0) words in
      let second : 0x7040 ≡ frame.cfa = ap (λ words. get_or words 3 0) words in
      omega (arith, first, second)

  pub invents_frames_breaks_2 : (made : List ℕ → Process → Registers → ℕ → List ℕ → List Frame) → InventsFrames calls made → ¬ Demand2 calls
  unfolding traced_as sevens all_words words_of over
  invents_frames_breaks_2 made invents demand =
      let (frame, is) = invents section_s stack_window (loaded 0) (crashed 0 0) 2 sevens in
      let (other, too) = invents section_s other_stack (loaded 0) (crashed 0 0) 2 sevens in
      by (made section_s (loaded 0) (crashed 0 0) 2 sevens) (rw (is-K10 demand) at is) (rw (is-other demand) at too)
    where
      by : {frame other : Frame} (made : List Frame)
          → (0x7008 ∷ 0x401008 ∷ 0x7030 ∷ 0x7040 ∷ 0 ∷ 0 ∷ []) ≡ over (all_words (take 2 (frame ∷ made))) sevens
          → (0x7008 ∷ 0x401008 ∷ 0x7030 ∷ 0x7040 ∷ 0 ∷ 1 ∷ []) ≡ over (all_words (take 2 (other ∷ made))) sevens
          → ⊥
      by [] here there = let z : ◌≡◌ {A = ℕ} 0x7040 7 = ap (λ words. get_or words 3 0) here in omega arith
      by (second ∷ more) here there =
          let one : 0 ≡ second.fp = ap (λ words. get_or words 5 0) here in
          let two : 1 ≡ second.fp = ap (λ words. get_or words 5 0) there in
          omega (arith, one, two)

  -- ---- a trace that writes a word where it is refused with 41, at its door, or with 15, the last of the section's

  pub writes_on_41_breaks_1 : WritesOn calls 41 → ¬ Demand1 calls
  unfolding number_of_trace_cause number_of_step_cause
  writes_on_41_breaks_1 writes demand =
      let past : Process = record { section = 0; stack = 2 ^ 64; mask = 0 } in
      let above : Rule41 (0 ∷ []) past = omega arith in
      let refuses = demand.trace [] (0 ∷ []) past (crashed 0 0) 2 sevens in
      writes [] (0 ∷ []) past (crashed 0 0) 2 sevens ((refuses.given window).1 above)
      (refuses.leaves.shut 41 ((refuses.at_door 41).1 (inl (refl, above)))).1

  pub writes_on_15_breaks_1 : WritesOn calls 15 → ¬ Demand1 calls
  unfolding number_of_rule ending_number
  writes_on_15_breaks_1 writes demand =
      let refuses = demand.trace wrong_sum stack_window (loaded 0) (crashed 0 0) 2 sevens in
      let given = (unsound_exactly_when wrong_sum stack_window (loaded 0) (crashed 0 0) 2 sevens RowSum 0).0 sum_refused in
      let is = (refuses.carries RowSum 0).1 given in
      writes wrong_sum stack_window (loaded 0) (crashed 0 0) 2 sevens (ap ending_number is) (refuses.leaves.unsound 15 0 is).1

-- ---- there are such calls

pub refusing_everything_refuses : RefusesEverything refusing_everything
unfolding refusing_everything
refusing_everything_refuses s e = accepted_or_refused (sym e)

pub finding_one_row_finds : (row : List ℕ → Row) → OneFixedRow (finding_one_row row) row
unfolding finding_one_row
finding_one_row_finds row s address pc found i k is = cc

pub answering_21_always : Always21 answering21
unfolding answering21 outcome_number number_of_unfound
answering_21_always s address pc = refl

pub counting_by_counts : (count : List ℕ → ℕ) → MadeUpCount (counting_by count) count
unfolding counting_by
counting_by_counts count s address pc = refl

pub writing_nothing_writes : WritesNothing writing_nothing
unfolding writing_nothing leaving traced_as
writing_nothing_writes s stack process registers limit old = refl

pub repeating_frames_repeats : RepeatsFrames repeating_frames
unfolding repeating_frames leaving trace_of traced traced_as
repeating_frames_repeats s stack process registers limit old = (get_or (frames_of s stack process registers limit old) 0 no_frame, refl)

pub inventing_frames_invents : (made : List ℕ → Process → Registers → ℕ → List ℕ → List Frame) → InventsFrames (inventing_frames made) made
unfolding inventing_frames leaving trace_of traced traced_as
inventing_frames_invents made s stack process registers limit old = (get_or (frames_of s stack process registers limit old) 0 no_frame, refl)

pub writing_on_writes : (number : ℕ) → WritesOn (writing_on number) number
unfolding writing_on leaving changed_where traced_as over
writing_on_writes number s stack process registers limit old is same =
    let words = rw (eq-eqb _ number is, changed_where) at same in
    let z : suc (get_or old 0 0) ≡ get_or old 0 0 = ap (λ l. get_or l 0 0) words in
    omega arith

-- ---- a made-up count meets demand 2, so that it is demand 3 that refuses it

pub counting_by_meets_2 : (count : List ℕ → ℕ) → Demand2 (counting_by count)
unfolding counting_by ours
counting_by_meets_2 count =
    record {
      accepts = demand_2_ours.accepts;
      finds = demand_2_ours.finds;
      values = demand_2_ours.values;
      steps = demand_2_ours.steps;
      in_bytes = demand_2_ours.in_bytes;
      traces = demand_2_ours.traces;
      from_the_last =
          λ s stack process registers limit old.
          let frames = demand_2_ours.from_the_last s stack process registers limit old in
          record {
            at = frames.at;
            starts = frames.starts;
            steps = frames.steps;
            defined = frames.defined;
            written = frames.written;
          };
    }

-- ---- so each of these wrong calls is refused by its demand

pub wrong_calls_broken :
    (¬ Demand2 refusing_everything)
    × ((row : List ℕ → Row) → ¬ Demand2 (finding_one_row row))
    × (¬ Demand2 answering21)
    × (¬ Demand2 writing_nothing)
    × (¬ Demand2 repeating_frames)
    × ((made : List ℕ → Process → Registers → ℕ → List ℕ → List Frame) → ¬ Demand2 (inventing_frames made))
    × ((count : List ℕ → ℕ) → ¬ Demand3 (counting_by count))
    × (¬ Demand1 (writing_on 41))
    × (¬ Demand1 (writing_on 15))
wrong_calls_broken = (
  refuses_everything_breaks_2 refusing_everything refusing_everything_refuses,
  λ row. one_fixed_row_breaks_2 (finding_one_row row) row (finding_one_row_finds row),
  always_21_breaks_2 answering21 answering_21_always,
  writes_nothing_breaks_2 writing_nothing writing_nothing_writes,
  repeats_frames_breaks_2 repeating_frames repeating_frames_repeats,
  λ made. invents_frames_breaks_2 (inventing_frames made) made (inventing_frames_invents made),
  λ count. made_up_count_breaks_3 (counting_by count) count (counting_by_counts count),
  writes_on_41_breaks_1 (writing_on 41) (writing_on_writes 41),
  writes_on_15_breaks_1 (writing_on 15) (writing_on_writes 15),
)
