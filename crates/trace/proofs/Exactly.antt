-- What a trace answers, on every section, stack, registers, limit and buffer: each ending is given exactly when document 01 says
-- so, each frame comes from the one before it, and every word of the buffer at exit is said. The propositions on the right stand
-- in specs/Cases, in document 01's words.
-- Assumes nothing.
use mathlib.Core.Path.{◌≡◌, refl, sym, ◌∙◌, ap, subst, fun_ext}
use mathlib.Core.List.{List, [], ◌∷◌}
use mathlib.Core.Logic.{◌↔◌, inr, ⊎_elim}
use Prim.Native.Nat.{ℕ, suc, ◌+◌, ◌*◌, ◌≤◌, ◌<◌}
use native.Mathlib.Omega.{arith}
use lib.ListN.{length, get_or, drop}
use borrow.Author.Tests.{ne_eqb}
use Rattle.section.specs.Meaning.{shape_of}
use Rattle.accept.specs.Given as accept
use Rattle.accept.specs.Given.{number_of_rule, BrokenFirst}
use Rattle.accept.specs.declared.verdict.Rule.{Rule}
use Rattle.accept.specs.Rules.{Obeys}
use Rattle.accept.specs.Computed.Checks.{verdict}
use Rattle.accept.specs.Verdict as verdict
use Rattle.accept.proofs.Exactly.{accepted_exactly_when, given_exactly_when, by_number}
use Rattle.accept.proofs.FaultLaws.{accepted_or_refused}
use Rattle.lookup.specs.Computed.Answers.{look_in}
use Rattle.caller.specs.Cases.{Rule41, OnRefusal, CallerCase}
use Rattle.caller.specs.Frame.{cfa_of_sp}
use Rattle.caller.specs.Numbers.{Refusal, number_of_refusal, number_of_step_cause}
use Rattle.caller.specs.declared.registers.Registers.{Registers}
use Rattle.caller.specs.Step.{Step}
use Rattle.caller.specs.declared.registers.Process.{Process}
use Rattle.caller.proofs.Exactly.{cfa_of_caller}
use Rattle.trace.specs.Cases.{LimitAbove, TooFewWords, AtDoor, DoorOpen, no_frame, Follows, EndsOutermost, EndsFull, EndsRefused, WalkMade, OnTrace, Case}
use Rattle.trace.specs.Frames.{TraceReply, in_force, frame_of, with_mark, all_words, over, traced_as}
use Rattle.trace.specs.Numbers.{TraceCause, window, limit_above, too_few_words, unsound, refused, outermost, full, number_of_trace_cause, ending_number, ending_indexes}
use Rattle.trace.specs.Computed.Trace.{Walk, walk_of, checked_walk, door_tests, door_fault, walk_after, walk_in, traced, trace_of}
use Rattle.trace.specs.Ending.{Ending}
use Rattle.trace.specs.Ending.{Outermost, Full, Refused, Shut, Unsound}
use Rattle.trace.specs.declared.answer.Frame.{Frame}
use Rattle.trace.proofs.BufferLaws.{over_length, over_first, over_after, over_kept, all_length, all_at}
use Rattle.trace.proofs.DoorLaws.{in_force_small, in_force_above, not_open}
use Rattle.trace.proofs.NumberLaws.{trace_distinct}
use Rattle.trace.proofs.TraceLaws as laws
use Rattle.trace.proofs.TraceLaws.{trace_case, case_whole, whole_follows, whole_room, whole_none, trace_given}

-- ---- "Limit 0 should mean 128"; "otherwise 1 to 256"

pub in_force_0 : in_force 0 ≡ 128
unfolding in_force
in_force_0 = refl

pub in_force_else : (limit : ℕ) → ¬ (limit ≡ 0) → in_force limit ≡ limit
unfolding in_force
in_force_else limit other = rw (ne_eqb limit 0 other, in_force)

-- a trace knows its limit by the one in force, alone: also whether it is above 256
pub trace_in_force : (s stack : List ℕ) (process : Process) (registers : Registers) (limit other : ℕ) (old : List ℕ)
    → in_force limit ≡ in_force other → trace_of s stack process registers limit old ≡ trace_of s stack process registers other old
unfolding trace_of walk_in door_fault door_tests
trace_in_force s stack process registers limit other old same = rw (in_force_above limit, in_force_above other, same)

-- so 0 and 128 give the same words, frame count and ending, whatever is handed in beside them
pub zero_as_128 : (s stack : List ℕ) (process : Process) (registers : Registers) (old : List ℕ)
    → trace_of s stack process registers 0 old ≡ trace_of s stack process registers 128 old
unfolding in_force
zero_as_128 s stack process registers old = trace_in_force s stack process registers 0 128 old refl

module _ (s stack : List ℕ) (process : Process) (registers : Registers) (limit : ℕ) (old : List ℕ) where
  abbrev trace : TraceReply
  trace = trace_of s stack process registers limit old

  -- its frames and its ending
  abbrev walk : Walk
  walk = walk_in s stack process registers limit (length old)

  -- ---- endings

  -- every ending at once, with its frames; the theorems below are its cases
  pub trace_exactly_when : (frames : List Frame) (ending : Ending)
      → (walk ≡ record { frames = frames; ending = ending }) ↔ Case s stack process registers limit old frames ending
  trace_exactly_when frames ending = (
    λ e. subst (λ w. Case s stack process registers limit old w.frames w.ending) e (trace_case s stack process registers limit old),
    case_whole s stack process registers limit old frames ending,
  )

  -- one case is every trace's, and no two are
  pub some_case : Case s stack process registers limit old walk.frames walk.ending
  some_case = trace_case s stack process registers limit old

  pub case_once : (frames others : List Frame) (ending other : Ending) → Case s stack process registers limit old frames ending
      → Case s stack process registers limit old others other → (frames ≡ others) × (ending ≡ other)
  case_once frames others ending other h also =
      let same = sym ((trace_exactly_when frames ending).1 h) ∙ (trace_exactly_when others other).1 also in
      (ap (λ w. w.frames) same, ap (λ w. w.ending) same)

  -- "The answer is the frame count and the ending."
  pub case_answers : (frames : List Frame) (ending : Ending) → Case s stack process registers limit old frames ending
      → trace ≡ traced_as (record { ending = ending; frames = length frames }) (over (all_words frames) old)
  unfolding trace_of traced
  case_answers frames ending h = ap (λ w. traced w old) ((trace_exactly_when frames ending).1 h)

  -- every number at once, and one is every trace's
  pub number_exactly_when : (cause : TraceCause)
      → (ending_number trace.answer.ending ≡ number_of_trace_cause cause) ↔ OnTrace s stack process registers limit old cause
  unfolding trace_of traced traced_as
  number_exactly_when = trace_given s stack process registers limit old

  pub some_cause : (cause : TraceCause) × OnTrace s stack process registers limit old cause
  some_cause = laws.some_cause s stack process registers limit old

  -- no two causes hold at once
  pub cause_once : (cause other : TraceCause) → OnTrace s stack process registers limit old cause → OnTrace s stack process registers limit old other
      → cause ≡ other
  cause_once cause other on also =
      trace_distinct.same cause other (sym ((number_exactly_when cause).1 on) ∙ (number_exactly_when other).1 also)

  -- "41 stack address plus length above 2^64"
  pub number_41_exactly_when : (ending_number trace.answer.ending ≡ 41) ↔ Rule41 stack process
  unfolding number_of_trace_cause number_of_step_cause
  number_41_exactly_when = number_exactly_when window

  -- "42 limit above 256"
  pub number_42_exactly_when : (ending_number trace.answer.ending ≡ 42) ↔ ((¬ Rule41 stack process) × LimitAbove limit)
  unfolding number_of_trace_cause
  number_42_exactly_when = number_exactly_when limit_above

  -- "43 fewer than 3 words per limit frame"
  pub number_43_exactly_when : (ending_number trace.answer.ending ≡ 43)
      ↔ ((¬ Rule41 stack process) × (¬ LimitAbove limit) × TooFewWords limit old)
  unfolding number_of_trace_cause
  number_43_exactly_when = number_exactly_when too_few_words

  -- the ending itself at the door, with each of the three
  pub door_exactly_when : (number : ℕ) → (trace.answer.ending ≡ Shut number) ↔ AtDoor stack process limit old number
  unfolding trace_of traced traced_as
  door_exactly_when number = (
    λ e. (subst (Case s stack process registers limit old walk.frames) e some_case).1,
    λ at. ap (λ w. w.ending) (case_whole s stack process registers limit old [] (Shut number) (refl, at)),
  )

  -- "then 1 to 15. These .. answer 0 frames with their number, and for 1 to 15 the entry's index."
  pub unsound_exactly_when : (rule : Rule) (index : ℕ)
      → (trace.answer.ending ≡ Unsound (number_of_rule rule) index) ↔ (DoorOpen stack process limit old × accept.Given s rule index)
  unfolding trace_of traced traced_as
  unsound_exactly_when rule index = (
    λ e.
        let (none, opened, other, is, given) = subst (Case s stack process registers limit old walk.frames) e some_case in
        (opened, rw (by_number rule other is) given),
    λ h. ap (λ w. w.ending) (case_whole s stack process registers limit old [] (Unsound (number_of_rule rule) index) (refl, h.0, rule, refl, h.1)),
  )

  pub rule_exactly_when : (rule : Rule)
      → (ending_number trace.answer.ending ≡ number_of_rule rule) ↔ (DoorOpen stack process limit old × BrokenFirst s rule)
  unfolding number_of_trace_cause
  rule_exactly_when rule = number_exactly_when (unsound rule)

  -- an index comes with 1 to 15 alone
  pub index_exactly_when : (index : ℕ)
      → (ending_indexes trace.answer.ending ≡ index ∷ []) ↔ (DoorOpen stack process limit old × (rule : Rule) × accept.Given s rule index)
  unfolding ending_indexes trace_of traced traced_as
  index_exactly_when index = (
    carried walk.frames walk.ending some_case,
    λ h. ap ending_indexes ((unsound_exactly_when h.1 index).1 (h.0, h.2)),
  )
    where
      carried : (frames : List Frame) (ending : Ending) → Case s stack process registers limit old frames ending → ending_indexes ending ≡ index ∷ []
          → DoorOpen stack process limit old × (rule : Rule) × accept.Given s rule index
      carried frames Outermost h is = absurd (let z : ◌≡◌ {A = ℕ} 0 1 = cc in omega arith)
      carried frames Full h is = absurd (let z : ◌≡◌ {A = ℕ} 0 1 = cc in omega arith)
      carried frames (Refused n) h is = absurd (let z : ◌≡◌ {A = ℕ} 0 1 = cc in omega arith)
      carried frames (Shut n) h is = absurd (let z : ◌≡◌ {A = ℕ} 0 1 = cc in omega arith)
      carried frames (Unsound n other) (none, opened, rule, number_is, given) is =
          let e : other ≡ index = cc in
          (opened, rule, rw e at given)

  -- "A refused step ends it with its own number, 21 to 28.": the refusal is that step's own
  pub refused_exactly_when : (refusal : Refusal)
      → (ending_number trace.answer.ending ≡ number_of_refusal refusal)
      ↔ ((frames : List Frame)
      × WalkMade s stack process registers limit old frames (EndsRefused (λ last. OnRefusal s stack process last refusal) (in_force limit)))
  unfolding number_of_trace_cause
  refused_exactly_when refusal = number_exactly_when (refused refusal)

  -- "RA 0 ends it with 30 (outermost), also in the last allowed frame"
  pub number_30_exactly_when : (ending_number trace.answer.ending ≡ 30)
      ↔ ((frames : List Frame) × WalkMade s stack process registers limit old frames (EndsOutermost (in_force limit)))
  unfolding number_of_trace_cause
  number_30_exactly_when = number_exactly_when outermost

  -- "otherwise a full limit ends it with 31."
  pub number_31_exactly_when : (ending_number trace.answer.ending ≡ 31)
      ↔ ((frames : List Frame) × WalkMade s stack process registers limit old frames (EndsFull (in_force limit)))
  unfolding number_of_trace_cause
  number_31_exactly_when = number_exactly_when full

  -- ---- frames

  -- "The walk starts with the mark set and writes each frame that a step yields.": frame 0 is the step from the registers handed in,
  -- with the mark, and each other frame the step from the registers of the one before it
  pub frames_follow : Follows (CallerCase s stack process) (with_mark registers) walk.frames
  frames_follow = whole_follows s stack process registers limit old

  pub frame_count : trace.answer.frames ≡ length walk.frames
  unfolding trace_of traced traced_as
  frame_count = refl

  pub at_most_limit : trace.answer.frames ≤ in_force limit
  at_most_limit = rw frame_count (⊎_elim (λ none. omega arith) (λ some. some.1) (whole_room s stack process registers limit old))

  pub at_most_256 : trace.answer.frames ≤ 256
  at_most_256 =
      rw frame_count
      (⊎_elim
      (λ none. omega arith)
      (λ some. let le : limit ≤ 256 = omega (arith, some.0.allowed) in omega (arith, in_force_small limit le))
      (whole_room s stack process registers limit old))

  -- ---- words

  words_are : trace.words ≡ over (all_words walk.frames) old
  unfolding trace_of traced traced_as
  words_are = refl

  fits : 3 * length walk.frames ≤ length old
  fits = ⊎_elim (λ none. omega arith) (λ some. omega (arith, some.0.room)) (whole_room s stack process registers limit old)

  -- "CFA, RA, FP each"
  pub words_written : (k : ℕ) → k < trace.answer.frames
      → (get_or trace.words (3 * k) 0 ≡ (get_or walk.frames k no_frame).cfa)
      × (get_or trace.words (3 * k + 1) 0 ≡ (get_or walk.frames k no_frame).ra)
      × (get_or trace.words (3 * k + 2) 0 ≡ (get_or walk.frames k no_frame).fp)
  words_written k lt =
      let less : k < length walk.frames = rw frame_count at lt in
      let size = all_length walk.frames in
      let (cfa, ra, fp) = all_at walk.frames k less in (
        rw words_are (over_first (all_words walk.frames) old (3 * k) (omega arith)) ∙ cfa,
        rw words_are (over_first (all_words walk.frames) old (3 * k + 1) (omega arith)) ∙ ra,
        rw words_are (over_first (all_words walk.frames) old (3 * k + 2) (omega arith)) ∙ fp,
      )

  -- the step that yields frame k
  pub step_of : (k : ℕ) → k < trace.answer.frames → CallerCase s stack process (frames_follow.at k) (frames_follow.at (suc k))
  step_of k lt = frames_follow.steps k (rw frame_count at lt)

  -- the same by the registers that the steps yield: CFA is the one that the step's row defines, RA the caller's PC, FP its FP
  pub words_follow : (k : ℕ) (lt : k < trace.answer.frames)
      → (get_or trace.words (3 * k) 0 ≡ (step_of k lt).cfa)
      × (get_or trace.words (3 * k + 1) 0 ≡ (frames_follow.at (suc k)).pc)
      × (get_or trace.words (3 * k + 2) 0 ≡ (frames_follow.at (suc k)).fp)
  unfolding frame_of
  words_follow k lt =
      let is = frames_follow.written k (rw frame_count at lt) in
      let (cfa, ra, fp) = words_written k lt in
      let row-cfa = ap cfa_of_sp (step_of k lt).sp_is ∙ cfa_of_caller (step_of k lt).cfa in
      (cfa ∙ ap (λ f. f.cfa) is ∙ row-cfa, ra ∙ ap (λ f. f.ra) is, fp ∙ ap (λ f. f.fp) is)

  -- "Words after the written frames keep what they held."
  pub words_kept : drop (3 * trace.answer.frames) trace.words ≡ drop (3 * trace.answer.frames) old
  words_kept = rw (frame_count, ← all_length walk.frames, words_are) (over_after (all_words walk.frames) old)

  pub word_kept : (j : ℕ) → 3 * trace.answer.frames ≤ j → get_or trace.words j 0 ≡ get_or old j 0
  word_kept j le =
      let past : length (all_words walk.frames) ≤ j = omega (arith, all_length walk.frames, rw frame_count at le) in
      rw words_are (over_kept (all_words walk.frames) old j past)

  pub words_length : length trace.words ≡ length old
  words_length = rw words_are (over_length (all_words walk.frames) old (omega (arith, all_length walk.frames, fits)))

  -- "These write nothing and answer 0 frames": where the trace is refused at its door, or the section by 1 to 15
  pub writes_nothing : ¬ (DoorOpen stack process limit old × Obeys s) → (trace.answer.frames ≡ 0) × (trace.words ≡ old)
  unfolding over all_words
  writes_nothing none-walks =
      let none : walk.frames ≡ [] = whole_none s stack process registers limit old none-walks in
      (frame_count ∙ ap length none, words_are ∙ ap (λ l. over (all_words l) old) none)

  -- the same by the ending
  pub door_writes_nothing : (number : ℕ) → trace.answer.ending ≡ Shut number → (trace.answer.frames ≡ 0) × (trace.words ≡ old)
  door_writes_nothing number e = writes_nothing λ h. not_open stack process limit old number ((door_exactly_when number).0 e) h.0

  pub unsound_writes_nothing : (number index : ℕ) → trace.answer.ending ≡ Unsound number index
      → (trace.answer.frames ≡ 0) × (trace.words ≡ old)
  unfolding trace_of traced traced_as
  unsound_writes_nothing number index e =
      let (none, opened, rule, is, given) = subst (Case s stack process registers limit old walk.frames) e some_case in
      writes_nothing λ h.
      accepted_or_refused (sym ((accepted_exactly_when s).1 h.1) ∙ (given_exactly_when s rule index).1 given)

-- ---- "older builds lend 192 words and pass 0, and would now get 43"

-- the whole reply to limit 0 with fewer than 384 words, in memory that there is and whatever is handed in beside them
pub too_few_for_0 : (s stack : List ℕ) (process : Process) (registers : Registers) (old : List ℕ) → ¬ Rule41 stack process → length old < 384
    → trace_of s stack process registers 0 old ≡ traced_as (record { ending = Shut 43; frames = 0 }) old
unfolding in_force over all_words number_of_trace_cause
too_few_for_0 s stack process registers old fits few =
    case_answers s stack process registers 0 old [] (Shut 43) (refl, inr (inr (refl, fits, (λ above. omega (arith, above)), few)))

-- ---- a trace knows its section by its shape and by what a lookup finds at each PC, alone

pub walk_through_step : (step other : Registers → Step) → ((registers : Registers) → step registers ≡ other registers)
    → (limit : ℕ) (registers : Registers) → walk_of step limit registers ≡ walk_of other limit registers
walk_through_step step other same limit registers = ap (λ f. walk_of f limit registers) (fun_ext same)

pub trace_through_look : (s other stack : List ℕ) (process : Process) (registers : Registers) (limit : ℕ) (old : List ℕ)
    → verdict s ≡ verdict.Accepted → verdict other ≡ verdict.Accepted → shape_of s ≡ shape_of other
    → ((pc : ℕ) → look_in s process.section pc ≡ look_in other process.section pc)
    → trace_of s stack process registers limit old ≡ trace_of other stack process registers limit old
unfolding trace_of walk_in walk_after checked_walk
trace_through_look s other stack process registers limit old accepted also shape look =
    rw (accepted, also, shape, fun_ext look)
