-- Four calls are the same as four others where each answers as its fellow does, on every input, whatever they reply with.
-- Assumes nothing.
use mathlib.Core.Path.{◌≡◌, fun_ext}
use mathlib.Core.List.{List}
use Prim.Native.Nat.{ℕ}
use Rattle.caller.specs.declared.registers.Registers.{Registers}
use Rattle.caller.specs.declared.registers.Process.{Process}
use Rattle.promises.specs.Calls.{CallsOf}

pub same_calls : {Checks Looks Steps TraceCase : Type 0} (calls other : CallsOf Checks Looks Steps TraceCase)
    → ((s : List ℕ) → calls.check s ≡ other.check s)
    → ((s : List ℕ) (address pc : ℕ) → calls.lookup s address pc ≡ other.lookup s address pc)
    → ((s stack : List ℕ) (process : Process) (registers : Registers) → calls.step s stack process registers ≡ other.step s stack process registers)
    → ((s stack : List ℕ) (process : Process) (registers : Registers) (limit : ℕ) (old : List ℕ)
    → calls.trace s stack process registers limit old ≡ other.trace s stack process registers limit old)
    → calls ≡ other
same_calls calls other checks lookups steps traces i =
    record {
      check = fun_ext checks i;
      lookup = fun_ext (λ s. fun_ext λ address. fun_ext (lookups s address)) i;
      step = fun_ext (λ s. fun_ext λ stack. fun_ext λ process. fun_ext (steps s stack process)) i;
      trace = fun_ext (λ s. fun_ext λ stack. fun_ext λ process. fun_ext λ registers. fun_ext λ limit. fun_ext (traces s stack process registers limit)) i;
    }
