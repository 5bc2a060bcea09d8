-- Demand 3 holds of what the contracts of our four functions name: lookups in sections that list the same functions find the same
-- (OrderLaws), and a step and a trace know a section through its machine and its lookups alone; a trace knows its limit through the one in
-- force.
-- Assumes nothing.
use mathlib.Core.Path.{◌≡◌, sym, ◌∙◌}
use mathlib.Core.Bool.{true}
use mathlib.Core.List.{List}
use Prim.Native.Nat.{ℕ}
use Rattle.numbers.specs.Start.{distance}
use Rattle.numbers.specs.Computed.Address.{window_fits}
use Rattle.section.specs.Header.{layout_of}
use Rattle.accept.specs.Computed.Checks.{verdict}
use Rattle.accept.specs.Verdict.{Accepted}
use Rattle.lookup.specs.Finding.{finding_of}
use Rattle.lookup.specs.Computed.Answers.{answer_after, lookup_of, look_in}
use Rattle.lookup.proofs.CoveringLaws.{by_value}
use Rattle.lookup.proofs.Exactly.{count_unsorted, count_halving, count_log, count_twenty}
use Rattle.caller.specs.Computed.Caller as caller
use Rattle.caller.specs.Computed.Caller.{step_in}
use Rattle.caller.specs.declared.registers.Registers.{Registers}
use Rattle.caller.specs.declared.registers.Process.{Process}
use Rattle.caller.proofs.Exactly.{through_look}
use Rattle.trace.proofs.Exactly.{trace_in_force, trace_through_look}
use Rattle.promises.specs.Demand3.{Alike, Counts, Demand3}
use Rattle.promises.specs.Computed.Ours.{ours}
use Rattle.promises.proofs.Demand2Met.{demand_2_ours}
use Rattle.promises.proofs.OrderLaws.{same_finding, same_shape}
use Rattle.promises.proofs.SortedLaws.{same_compared}

-- what a lookup finds in an accepted section
finding_is : (s : List ℕ) → verdict s ≡ Accepted → (address pc : ℕ) → finding_of (lookup_of s address pc).outcome ≡ look_in s address pc
unfolding lookup_of answer_after look_in
finding_is s accepted address pc = rw accepted

counts_ours : (s : List ℕ) → verdict s ≡ Accepted → (address pc : ℕ) → Counts ours s address pc
unfolding ours
counts_ours s accepted address pc =
    record {
      unsorted = count_unsorted s accepted address pc;
      halving = count_halving s accepted address pc;
      logarithm = count_log s accepted address pc;
      twenty = count_twenty s accepted address pc;
    }

module _ (s t : List ℕ) (alike : Alike ours s t) where
  accepted-s : verdict s ≡ Accepted
  unfolding ours
  accepted-s = alike.accepted

  accepted-t : verdict t ≡ Accepted
  unfolding ours
  accepted-t = alike.also

  looks-same : (address pc : ℕ) → look_in s address pc ≡ look_in t address pc
  looks-same = same_finding s t alike.same

  rows_same : (address pc : ℕ) → finding_of (lookup_of s address pc).outcome ≡ finding_of (lookup_of t address pc).outcome
  rows_same address pc =
      finding_is s accepted-s address pc ∙ looks-same address pc ∙ sym (finding_is t accepted-t address pc)

  callers-same : (stack : List ℕ) (process : Process) (registers : Registers) → step_in s stack process registers ≡ step_in t stack process registers
  unfolding step_in caller.if_fits caller.step_after
  callers-same stack process registers =
      let through = through_look s t process.section process.section (same_shape s t alike.same) (looks-same process.section) in
      by_value (window_fits stack process.stack)
      (λ fits. rw (fits, caller.if_fits) (rw (accepted-s, accepted-t, through)))
      (λ past. rw (past, caller.if_fits))

  counts_same : (layout_of s).sorted ≡ true → (layout_of t).sorted ≡ true → (address pc : ℕ)
      → (lookup_of s address pc).compared ≡ (lookup_of t address pc).compared
  counts_same sorted also address pc =
      count_halving s accepted-s address pc sorted
      ∙ same_compared s t accepted-s accepted-t sorted also alike.same (distance address pc)
      ∙ sym (count_halving t accepted-t address pc also)

pub demand_3_ours : Demand3 ours
unfolding ours
demand_3_ours =
    record {
      over_demand_2 = demand_2_ours;
      rows = rows_same;
      callers = λ s t stack alike. callers-same s t alike stack;
      traces =
          λ s t stack alike process registers limit other same old.
          trace_through_look s t stack process registers limit old (accepted-s s t alike) (accepted-t s t alike) (same_shape s t alike.same)
          (looks-same s t alike process.section)
          ∙ trace_in_force t stack process registers limit other old same;
      counts = counts_ours;
      sorted_counts = counts_same;
    }
