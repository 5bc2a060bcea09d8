-- Demand 2 holds of what the contracts of our four functions name.
-- Assumes nothing.
use mathlib.Core.List.{List}
use Prim.Native.Nat.{ℕ}
use lib.ListN.{length}
use Rattle.accept.proofs.Exactly.{accepted_exactly_when}
use Rattle.lookup.proofs.Exactly.{answer_exactly_when}
use Rattle.lookup.proofs.NumberLaws.{no_index_exactly_when, one_index_exactly_when, two_indexes_exactly_when, row_value_exactly_when}
use Rattle.caller.specs.declared.registers.Registers.{Registers}
use Rattle.caller.specs.declared.registers.Process.{Process}
use Rattle.caller.proofs.Exactly.{caller_exactly_when, case_in_bytes, caller_in_bytes}
use Rattle.trace.specs.Computed.Trace.{Walk, walk_in, trace_of}
use Rattle.trace.proofs.Exactly.{some_case, case_answers, frames_follow, step_of, words_follow}
use Rattle.promises.specs.Demand2.{left_by, TraceCase, FromTheLast, Demand2}
use Rattle.promises.specs.Computed.Ours.{ours}

trace_traces : (s stack : List ℕ) (process : Process) (registers : Registers) (limit : ℕ) (old : List ℕ)
    → TraceCase (trace_of s stack process registers limit old) s stack process registers limit old
unfolding left_by
trace_traces s stack process registers limit old =
    let walk : Walk = walk_in s stack process registers limit (length old) in
    let case = some_case s stack process registers limit old in
    record {
      frames = walk.frames;
      ending = walk.ending;
      case = case;
      left = case_answers s stack process registers limit old walk.frames walk.ending case;
    }

follows : (s stack : List ℕ) (process : Process) (registers : Registers) (limit : ℕ) (old : List ℕ)
    → FromTheLast ours s stack process registers limit old
unfolding ours case_in_bytes
follows s stack process registers limit old =
    let at = frames_follow s stack process registers limit old in
    let yields = step_of s stack process registers limit old in
    record {
      at = at.at;
      starts = at.starts;
      steps = λ k less. (caller_exactly_when s stack process _ _).1 (yields k less);
      defined = λ k less. case_in_bytes s stack process _ _ (yields k less);
      written = words_follow s stack process registers limit old;
    }

pub demand_2_ours : Demand2 ours
unfolding ours
demand_2_ours =
    record {
      accepts = accepted_exactly_when;
      finds = λ s obeys address pc o. answer_exactly_when s ((accepted_exactly_when s).1 obeys) address pc o;
      values =
          λ s obeys address pc.
          let accepted = (accepted_exactly_when s).1 obeys in
          record {
            none = no_index_exactly_when s accepted address pc;
            one = one_index_exactly_when s accepted address pc;
            two = two_indexes_exactly_when s accepted address pc;
            row = row_value_exactly_when s accepted address pc;
          };
      steps = caller_exactly_when;
      in_bytes = caller_in_bytes;
      traces = trace_traces;
      from_the_last = follows;
    }
