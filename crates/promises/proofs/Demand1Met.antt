-- Demand 1 holds of what the contracts of our four functions name: each line is a theorem of its layer.
-- Assumes nothing.
use mathlib.Core.List.{List}
use mathlib.Core.Logic.Iff
use mathlib.Core.Logic.{inl, inr, ⊎_elim}
use Prim.Native.Nat.{ℕ}
use Rattle.accept.specs.Given.{number_of_rule}
use Rattle.accept.proofs.CauseLaws.{check_given, check_index}
use Rattle.accept.proofs.Exactly.{accepted_exactly_when, given_exactly_when, obeys_or_refusal}
use Rattle.lookup.proofs.Exactly as looks
use Rattle.lookup.proofs.NumberLaws as lookup
use Rattle.caller.specs.declared.registers.Registers.{Registers}
use Rattle.caller.specs.declared.registers.Process.{Process}
use Rattle.caller.proofs.Exactly as steps
use Rattle.trace.specs.Computed.Trace.{trace_of}
use Rattle.trace.proofs.Exactly as traces
use Rattle.promises.specs.Demand1.{CheckRefuses, LookupRefuses, StepRefuses, BufferLeft, TraceRefuses, Demand1}
use Rattle.promises.specs.Computed.Ours.{ours}

check_refuses : (s : List ℕ) → CheckRefuses ours s
unfolding ours
check_refuses s =
    record {
      given = check_given s;
      known =
          ⊎_elim
          (λ obeys. inl ((accepted_exactly_when s).1 obeys))
          (λ refusal. let (rule, index, given) = refusal in inr (rule, (check_given s rule).1 (index, given)))
          (obeys_or_refusal s);
      carries = given_exactly_when s;
      indexed = check_index s;
    }

lookup_refuses : (s : List ℕ) (address pc : ℕ) → LookupRefuses ours s address pc
unfolding ours
lookup_refuses s address pc =
    record {
      given = lookup.lookup_given s address pc;
      known =
          ⊎_elim
          (λ found.
          let (obeys, (row, i, k, case)) = found in
          inl (row, i, k, (looks.found_exactly_when s ((accepted_exactly_when s).1 obeys) address pc row i k).1 case))
          (λ due. let (cause, on) = due in inr (cause, (lookup.lookup_given s address pc cause).1 on))
          (lookup.found_or_cause s address pc);
      carries =
          λ rule index.
          Iff.trans (looks.unsound_exactly_when s address pc (number_of_rule rule) index) (given_exactly_when s rule index);
      no_count =
          λ rule index given.
          looks.count_refused s address pc (number_of_rule rule) index ((given_exactly_when s rule index).1 given);
    }

step_refuses : (s stack : List ℕ) (process : Process) (registers : Registers) → StepRefuses ours s stack process registers
unfolding ours
step_refuses s stack process registers =
    record {
      given = steps.number_exactly_when s stack process registers;
      known =
          ⊎_elim
          (λ h. inl (h.0, (steps.caller_exactly_when s stack process registers h.0).1 h.1))
          (λ h. inr (h.0, (steps.number_exactly_when s stack process registers h.0).1 h.1))
          (steps.caller_or_cause s stack process registers);
      carries = steps.unsound_exactly_when s stack process registers;
      indexed = steps.index_exactly_when s stack process registers;
      old = steps.old_handed_back s stack process registers;
    }

module _ (s stack : List ℕ) (process : Process) (registers : Registers) (limit : ℕ) (old : List ℕ) where
  trace-leaves : BufferLeft (trace_of s stack process registers limit old) old
  trace-leaves =
      record {
        shut = traces.door_writes_nothing s stack process registers limit old;
        unsound = traces.unsound_writes_nothing s stack process registers limit old;
        kept = traces.words_kept s stack process registers limit old;
        as_many = traces.words_length s stack process registers limit old;
      }

  trace-refuses : TraceRefuses ours s stack process registers limit old
  unfolding ours
  trace-refuses =
      record {
        given = traces.number_exactly_when s stack process registers limit old;
        known =
            let (cause, on) = traces.some_cause s stack process registers limit old in
            (cause, (traces.number_exactly_when s stack process registers limit old cause).1 on);
        at_door = traces.door_exactly_when s stack process registers limit old;
        carries = traces.unsound_exactly_when s stack process registers limit old;
        indexed = traces.index_exactly_when s stack process registers limit old;
        leaves = trace-leaves;
      }

pub demand_1_ours : Demand1 ours
demand_1_ours = record { check = check_refuses; lookup = lookup_refuses; step = step_refuses; trace = trace-refuses }
