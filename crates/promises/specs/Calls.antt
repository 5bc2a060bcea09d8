-- Any four calls, whatever they answer: functions from what is lent to a reply and, for a trace, to the words left in the buffer as
-- well. Each demand is a predicate of such calls, so that it can be met and can be broken.
use Rattle.std.specs.Prelude.{List, ℕ}
use Rattle.accept.specs.Verdict.{Verdict}
use Rattle.lookup.specs.Outcome.{Answer}
use Rattle.caller.specs.declared.registers.Registers.{Registers}
use Rattle.caller.specs.Step.{Step}
use Rattle.caller.specs.declared.registers.Process.{Process}
use Rattle.trace.specs.Frames.{TraceReply}

-- by what each of the four replies with
pub record CallsOf (Checks Looks Steps Traces : Type 0) : Type 0 where
  -- of a section
  pub check : List ℕ → Checks
  -- of a section, its address and a PC
  pub lookup : List ℕ → ℕ → ℕ → Looks
  -- of a section, a stack window, what is known of the process, and registers
  pub step : List ℕ → List ℕ → Process → Registers → Steps
  -- of these, a limit and what the buffer holds
  pub trace : List ℕ → List ℕ → Process → Registers → ℕ → List ℕ → Traces

abbrev pub Calls : Type 0
Calls = CallsOf Verdict Answer Step TraceReply
