-- A step on a section that was checked: by the layout that is at hand and by what a lookup answers, it is the step of `step_of`,
-- which knows the section through `look` alone.
-- Assumes nothing.
use mathlib.Core.Path.{◌≡◌, sym, ◌∙◌}
use mathlib.Core.List.{List}
use Prim.Native.Nat.{ℕ}
use Rattle.std.specs.Prelude.{Option, Some, None}
use Rattle.section.specs.Meaning.{shape_of}
use Rattle.section.specs.Shape.{shape}
use Rattle.section.specs.declared.header.Layout.{Layout}
use Rattle.section.specs.declared.shape.Shape.{Shape}
use Rattle.lookup.specs.Finding.{Finding, finding_of}
use Rattle.lookup.specs.Computed.Answers.{answer_of, look_in}
use Rattle.lookup.specs.Inner.Requires.{AcceptedOf}
use Rattle.lookup.specs.Outcome.{Answer}
use Rattle.caller.specs.Frame.{asked_of}
use Rattle.caller.specs.Computed.Caller.{look_at, with_finding, from_finding, step_of}
use Rattle.caller.specs.declared.registers.Registers.{Registers}
use Rattle.caller.specs.Step.{Step}
use Rattle.caller.specs.Step.{Refused}
use Rattle.caller.specs.declared.registers.Process.{Process}

-- where there is no PC to look up, whatever a lookup would find
pub nowhere_refused : (registers : Registers) → asked_of registers ≡ None → (shape : Shape) (look : ℕ → Finding) (stack : List ℕ) (process : Process)
    → step_of shape look stack process registers ≡ Refused registers 21
unfolding look_at from_finding with_finding step_of
nowhere_refused registers nowhere shape look stack process = rw nowhere

module _ (s stack : List ℕ) (process : Process) (registers : Registers) where
  pub nowhere_step : {asked : Option ℕ} → asked ≡ asked_of registers → asked ≡ None
      → Refused registers 21 ≡ step_of (shape_of s) (look_in s process.section) stack process registers
  nowhere_step is nowhere = sym (nowhere_refused registers (sym is ∙ nowhere) _ _ stack process)

  pub looked_up_step : {layout : Layout} {asked : Option ℕ} {pc : ℕ} {answer : Answer} {here : Shape} {step : Step}
      → AcceptedOf s layout → asked ≡ asked_of registers → asked ≡ Some pc → answer ≡ answer_of s process.section pc → here ≡ shape layout.abi
      → step ≡ from_finding here stack process registers (finding_of answer.outcome)
      → step ≡ step_of (shape_of s) (look_in s process.section) stack process registers
  unfolding look_at step_of look_in shape_of
  looked_up_step accepted is at looked shaped e =
      rw (sym is ∙ at)
      (rw (looked, shaped, accepted.layout_is) at e)
