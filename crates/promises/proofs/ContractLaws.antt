-- What the contracts of the four public functions give, and that any calls that keep them answer as ours do.
-- Assumes nothing.
use mathlib.Core.Path.{◌≡◌, sym, ◌∙◌, ap}
use mathlib.Core.List.{List, []}
use Prim.Native.Nat.{ℕ}
use Rattle.accept.specs.Computed.Checks.{verdict}
use Rattle.lookup.specs.Computed.Answers.{lookup_of}
use Rattle.caller.specs.Computed.Caller.{step_in}
use Rattle.caller.specs.declared.registers.Registers.{Registers}
use Rattle.caller.specs.declared.registers.Process.{Process}
use Rattle.trace.specs.Frames.{traced_as}
use Rattle.trace.specs.Computed.Trace.{trace_of}
use Rattle.promises.specs.Calls.{Calls}
use Rattle.promises.specs.StatedContracts.{Keeps, GivenBy}
use Rattle.promises.specs.Computed.Ours.{ours}
use Rattle.promises.specs.Inner.Lent.{Lies, lent, lent_to_write}
use Rattle.promises.proofs.Replies.{check_replied, lookup_replied, step_replied, trace_replied}

pub contracts_give : GivenBy ours
unfolding ours
contracts_give =
    record {
      check = λ κs a z. (λ p. p, λ p. p);
      lookup = λ κs a z. (λ p. p, λ p. p);
      step = λ κs a z. (λ p. p, λ p. p);
      trace = λ κs a z words. (λ p. p, λ p. p);
    }

pub contracts_kept : Keeps ours
unfolding ours traced_as
contracts_kept =
    record {
      check = λ κs a. let it = check_replied a.0.now in (it.0, it.1, it.1);
      lookup = λ κs a. let it = lookup_replied a.0.now a.1.0 a.1.1.0 in (it.0, it.1, it.1);
      step = λ κs a. let it = step_replied a.1.0.now a.1.1.0.now a.1.1.1.0 a.0 in (it.0, it.1, it.1);
      trace = λ κs a.
          let it = trace_replied a.0.now a.1.0.now a.1.1.0 a.1.1.1.0 a.1.1.1.1.0 a.1.1.1.1.1.0.now in
          (it.0, it.1, ap (λ answer. traced_as answer (trace_of a.0.now a.1.0.now a.1.1.0 a.1.1.1.0 a.1.1.1.1.0 a.1.1.1.1.1.0.now).words) it.1);
    }

-- some place, since a contract holds wherever what is lent lies
pub somewhere : Lies
somewhere = record { place = (0, 0); name = 0 }

module _ (calls : Calls) (keeps : Keeps calls) where
  pub check_is : (s : List ℕ) → calls.check s ≡ verdict s
  check_is s = let it = keeps.check ([], tt) (lent somewhere s, tt) in sym it.1 ∙ it.2

  pub lookup_is : (s : List ℕ) (address pc : ℕ) → calls.lookup s address pc ≡ lookup_of s address pc
  lookup_is s address pc = let it = keeps.lookup ([], tt) (lent somewhere s, (address, (pc, tt))) in sym it.1 ∙ it.2

  pub step_is : (s stack : List ℕ) (process : Process) (registers : Registers) → calls.step s stack process registers ≡ step_in s stack process registers
  step_is s stack process registers =
      let it = keeps.step ([], ([], tt)) (registers, (lent somewhere s, (lent somewhere stack, (process, tt)))) in sym it.1 ∙ it.2

  pub trace_is : (s stack : List ℕ) (process : Process) (registers : Registers) (limit : ℕ) (old : List ℕ)
      → calls.trace s stack process registers limit old ≡ trace_of s stack process registers limit old
  unfolding traced_as
  trace_is s stack process registers limit old =
      let it = keeps.trace ([], ([], ([], tt))) (lent somewhere s, (lent somewhere stack, (process, (registers, (limit, (lent_to_write somewhere old, tt)))))) in
      ap (λ answer. traced_as answer (calls.trace s stack process registers limit old).words) (sym it.1) ∙ it.2
