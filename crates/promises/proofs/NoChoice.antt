-- The demands leave no choice: calls that meet demand 2 accept, find and trace as ours do, calls that meet demand 3 count as ours do,
-- and calls that meet all three are ours (`demands_ours_alone`).
-- Assumes nothing.
use mathlib.Core.Path.{◌≡◌, refl, sym, ◌∙◌, ap}
use mathlib.Core.Bool.{true}
use mathlib.Core.List.{List}
use mathlib.Core.Logic.{⊎_elim}
use Prim.Native.Nat.{ℕ}
use native.Mathlib.Omega.{arith}
use Rattle.section.specs.Header.{layout_of}
use Rattle.accept.specs.Given.{number_of_rule}
use Rattle.accept.specs.Computed.Checks.{verdict}
use Rattle.accept.specs.Verdict.{Accepted}
use Rattle.accept.proofs.Exactly.{accepted_exactly_when, given_exactly_when, obeys_or_refusal}
use Rattle.lookup.specs.Computed.Answers.{lookup_of}
use Rattle.lookup.proofs.CoveringLaws.{by_value}
use Rattle.lookup.proofs.Exactly as looks
use Rattle.lookup.proofs.Exactly.{answer_exactly_when, count_halving}
use Rattle.caller.specs.Numbers.{step_number, step_indexes, step_registers}
use Rattle.caller.specs.Computed.Caller.{step_in}
use Rattle.caller.specs.declared.registers.Registers.{Registers}
use Rattle.caller.specs.Step.{Step}
use Rattle.caller.specs.Step.{Caller, Unsound, Refused}
use Rattle.caller.specs.declared.registers.Process.{Process}
use Rattle.caller.proofs.Exactly.{step_exactly_when, unsound_exactly_when, caller_exactly_when, number_0_exactly_when}
use Rattle.caller.proofs.NumberLaws.{step_due}
use Rattle.trace.specs.Computed.Trace.{trace_of}
use Rattle.trace.proofs.Exactly.{case_answers}
use Rattle.promises.specs.Calls.{Calls}
use Rattle.promises.specs.Demand2.{left_by, Demand2}
use Rattle.promises.specs.Demand3.{Demand3}
use Rattle.promises.specs.Promises.{Demands}
use Rattle.promises.specs.Computed.Ours.{ours}
use Rattle.promises.proofs.SameCalls.{same_calls}

module _ (calls : Calls) (demand : Demand2 calls) where
  pub accepts_as_ours : (s : List ℕ) → verdict s ≡ Accepted → calls.check s ≡ Accepted
  accepts_as_ours s accepted = (demand.accepts s).1 ((accepted_exactly_when s).0 accepted)

  pub finds_as_ours : (s : List ℕ) → verdict s ≡ Accepted → (address pc : ℕ)
      → (calls.lookup s address pc).outcome ≡ (lookup_of s address pc).outcome
  finds_as_ours s accepted address pc =
      (demand.finds s ((accepted_exactly_when s).0 accepted) address pc (lookup_of s address pc).outcome).1
      ((answer_exactly_when s accepted address pc (lookup_of s address pc).outcome).0 refl)

  pub traces_as_ours : (s stack : List ℕ) (process : Process) (registers : Registers) (limit : ℕ) (old : List ℕ)
      → calls.trace s stack process registers limit old ≡ trace_of s stack process registers limit old
  unfolding left_by
  traces_as_ours s stack process registers limit old =
      let traces = demand.traces s stack process registers limit old in
      traces.left ∙ sym (case_answers s stack process registers limit old traces.frames traces.ending traces.case)

pub counts_as_ours : (calls : Calls) → Demand3 calls → (s : List ℕ) → verdict s ≡ Accepted → (layout_of s).sorted ≡ true → (address pc : ℕ)
    → (calls.lookup s address pc).compared ≡ (lookup_of s address pc).compared
counts_as_ours calls demand s accepted sorted address pc =
    (demand.counts s (accepts_as_ours calls demand.over_demand_2 s accepted) address pc).halving sorted
    ∙ sym (count_halving s accepted address pc sorted)

-- ---- all three demands

module _ (calls : Calls) (demands : Demands calls) where
  checks-as-ours : (s : List ℕ) → calls.check s ≡ verdict s
  checks-as-ours s =
      ⊎_elim
      (λ obeys. (demands.demand_2.accepts s).1 obeys ∙ sym ((accepted_exactly_when s).1 obeys))
      (λ refusal.
      let (rule, index, given) = refusal in
      ((demands.demand_1.check s).carries rule index).1 given ∙ sym ((given_exactly_when s rule index).1 given))
      (obeys_or_refusal s)

  outcome-as-ours : (s : List ℕ) (address pc : ℕ) → (calls.lookup s address pc).outcome ≡ (lookup_of s address pc).outcome
  outcome-as-ours s address pc =
      ⊎_elim
      (λ obeys. finds_as_ours calls demands.demand_2 s ((accepted_exactly_when s).1 obeys) address pc)
      (λ refusal.
      let (rule, index, given) = refusal in
      ((demands.demand_1.lookup s address pc).carries rule index).1 given
      ∙ sym ((looks.unsound_exactly_when s address pc (number_of_rule rule) index).1 ((given_exactly_when s rule index).1 given)))
      (obeys_or_refusal s)

  count-as-ours : (s : List ℕ) (address pc : ℕ) → (calls.lookup s address pc).compared ≡ (lookup_of s address pc).compared
  count-as-ours s address pc =
      ⊎_elim
      (λ obeys.
      let accepted = (accepted_exactly_when s).1 obeys in
      by_value (layout_of s).sorted
      (λ sorted. counts_as_ours calls demands.demand_3 s accepted sorted address pc)
      (λ unsorted.
      (demands.demand_3.counts s (accepts_as_ours calls demands.demand_2 s accepted) address pc).unsorted unsorted
      ∙ sym (looks.count_unsorted s accepted address pc unsorted)))
      (λ refusal.
      let (rule, index, given) = refusal in
      (demands.demand_1.lookup s address pc).no_count rule index given
      ∙ sym (looks.count_refused s address pc (number_of_rule rule) index ((given_exactly_when s rule index).1 given)))
      (obeys_or_refusal s)

  lookup-as-ours : (s : List ℕ) (address pc : ℕ) → calls.lookup s address pc ≡ lookup_of s address pc
  lookup-as-ours s address pc i =
      record { outcome = outcome-as-ours s address pc i; compared = count-as-ours s address pc i }

  number-as-ours : (s stack : List ℕ) (process : Process) (registers : Registers)
      → step_number (calls.step s stack process registers) ≡ step_number (step_in s stack process registers)
  unfolding step_number
  number-as-ours s stack process registers =
      ⊎_elim
      (λ none.
      let (caller, case) = (number_0_exactly_when s stack process registers).0 none in
      ap step_number ((demands.demand_2.steps s stack process registers caller).1 case) ∙ sym none)
      (λ due.
      let (cause, is, on) = due in
      ((demands.demand_1.step s stack process registers).given cause).1 on ∙ sym is)
      (step_due s stack process registers)

  -- a step that ours refuses by a row or a lookup is no caller, has no index, and has our number and the old registers
  refused-as-ours : (s stack : List ℕ) (process : Process) (registers old : Registers) (number : ℕ)
      → step_in s stack process registers ≡ Refused old number
      → (o : Step)
      → calls.step s stack process registers ≡ o
      → o ≡ Refused old number
  unfolding step_number step_indexes step_registers
  refused-as-ours s stack process registers old number is (Caller caller) answers =
      let too = (caller_exactly_when s stack process registers caller).1 ((demands.demand_2.steps s stack process registers caller).0 answers) in
      let clash : Caller caller ≡ Refused old number = sym too ∙ is in
      absurd (let z : ◌≡◌ {A = ℕ} 0 1 = cc in omega arith)
  refused-as-ours s stack process registers old number is (Unsound other m index) answers =
      let (fits, rule, given) = ((demands.demand_1.step s stack process registers).indexed index).0 (ap step_indexes answers) in
      let too = (unsound_exactly_when s stack process registers rule index).1 (fits, given) in
      let clash : Unsound registers (number_of_rule rule) index ≡ Refused old number = sym too ∙ is in
      absurd (let z : ◌≡◌ {A = ℕ} 0 1 = cc in omega arith)
  refused-as-ours s stack process registers old number is (Refused other m) answers =
      let no_caller : (caller : Registers) → ¬ (calls.step s stack process registers ≡ Caller caller) =
      λ caller e. let clash : Caller caller ≡ Refused other m = sym e ∙ answers in let z : ◌≡◌ {A = ℕ} 0 1 = cc in omega arith in
      let theirs : other ≡ registers = sym (ap step_registers answers) ∙ (demands.demand_1.step s stack process registers).old no_caller in
      let ours-old : old ≡ registers = ((step_exactly_when s stack process registers (Refused old number)).0 is).0 in
      let same : m ≡ number = sym (ap step_number answers) ∙ number-as-ours s stack process registers ∙ ap step_number is in
      cc

  step-as-ours : (s stack : List ℕ) (process : Process) (registers : Registers) → calls.step s stack process registers ≡ step_in s stack process registers
  step-as-ours s stack process registers = by (step_in s stack process registers) refl
    where
      by : (o : Step) → step_in s stack process registers ≡ o → calls.step s stack process registers ≡ o
      by (Caller caller) is = (demands.demand_2.steps s stack process registers caller).1 ((caller_exactly_when s stack process registers caller).0 is)
      by (Unsound old number index) is =
          let (same, (fits, rule, number_is, given)) = (step_exactly_when s stack process registers (Unsound old number index)).0 is in
          rw (same, number_is) (((demands.demand_1.step s stack process registers).carries rule index).1 (fits, given))
      by (Refused old number) is = refused-as-ours s stack process registers old number is (calls.step s stack process registers) refl

  pub demands_ours_alone : calls ≡ ours
  unfolding ours
  demands_ours_alone =
      same_calls calls ours checks-as-ours lookup-as-ours step-as-ours (traces_as_ours calls demands.demand_2)
