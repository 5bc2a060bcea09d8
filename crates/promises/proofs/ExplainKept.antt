-- What is promised of explanations holds of every calls that keep the contracts of our functions. Assumes nothing.
use mathlib.Core.Path.{◌≡◌, refl, sym, ◌∙◌, subst}
use mathlib.Core.List.{List, []}
use Prim.Native.Nat.{ℕ}
use Rattle.numbers.specs.declared.offset.Offset.{Offset}
use Rattle.lookup.specs.Computed.Answers.{lookup_of}
use Rattle.caller.specs.Computed.Caller.{step_in}
use Rattle.caller.specs.declared.registers.Process.{Process}
use Rattle.caller.specs.declared.registers.Registers.{Registers}
use Rattle.explain.specs.Why.{WhyLookup, WhyStep}
use Rattle.explain.specs.Computed.Lookup.{lookup_why}
use Rattle.explain.specs.Computed.Step.{step_why}
use Rattle.explain.specs.Computed.Sum.{sum_of}
use Rattle.explain.proofs.Holds.{lookup_explained_holds, step_explained_holds}
use Rattle.explain.proofs.Implies.{lookup_explained_implies, step_explained_implies}
use Rattle.explain.proofs.SumLaws.{sum_is}
use Rattle.promises.specs.ExplainCall.{ExplainCalls, Explains, KeepsExplain, ExplainPromised}
use Rattle.promises.specs.Computed.Ours.{ours}
use Rattle.promises.specs.Inner.Lent.{lent}
use Rattle.promises.proofs.ContractLaws.{somewhere}
use Rattle.promises.proofs.Kept.{kept_are_ours}
use Rattle.promises.proofs.Replies.{lookup_why_replied, step_why_replied}

-- ---- the contracts

pub explain_kept : KeepsExplain (record { lookup = lookup_why; step = step_why; sum = λ base offset. sum_of base offset.by })
explain_kept =
    record {
      lookup = λ κs a. let it = lookup_why_replied a.0.now a.1.0 a.1.1.0 in (it.0, it.1, it.1);
      step = λ κs a. let it = step_why_replied a.0.now a.1.0.now a.1.1.0 a.1.1.1.0 in (it.0, it.1, it.1);
      sum = λ κs a. refl;
    }

-- calls that keep them answer as ours do
module _ (explain : ExplainCalls) (keeps : KeepsExplain explain) where
  lookup-ours : (s : List ℕ) (address pc : ℕ) → explain.lookup s address pc ≡ lookup_why s address pc
  lookup-ours s address pc = let it = keeps.lookup ([], tt) (lent somewhere s, (address, (pc, tt))) in sym it.1 ∙ it.2

  step-ours : (s stack : List ℕ) (process : Process) (registers : Registers) → explain.step s stack process registers ≡ step_why s stack process registers
  step-ours s stack process registers =
      let it = keeps.step ([], ([], tt)) (lent somewhere s, (lent somewhere stack, (process, (registers, tt)))) in sym it.1 ∙ it.2

  sum-ours : (base : ℕ) (offset : Offset) → explain.sum base offset ≡ sum_of base offset.by
  sum-ours base offset = keeps.sum tt (base, (offset, tt))

  -- ---- and so they explain

  explains : Explains explain lookup_of step_in
  explains =
      record {
        lookup_holds = lookup_holds;
        lookup_implies = lookup_explained_implies;
        lookup_explained = λ s address pc. lookup_explained_implies s address pc _ (lookup_holds s address pc);
        step_holds = step_holds;
        step_implies = step_explained_implies;
        step_explained = λ s stack process registers.
            step_explained_implies s stack process registers _ (step_holds s stack process registers);
        sum_exact = λ base offset lt. rw (sum-ours base offset) (sum_is base offset.by lt);
      }
    where
      lookup_holds : (s : List ℕ) (address pc : ℕ) → WhyLookup s address pc (explain.lookup s address pc)
      lookup_holds s address pc = subst (WhyLookup s address pc) (sym (lookup-ours s address pc)) (lookup_explained_holds s address pc)

      step_holds : (s stack : List ℕ) (process : Process) (registers : Registers)
          → WhyStep s stack process registers (explain.step s stack process registers)
      step_holds s stack process registers =
          subst (WhyStep s stack process registers) (sym (step-ours s stack process registers)) (step_explained_holds s stack process registers)

pub explain_promised : ExplainPromised
unfolding ours
explain_promised explain calls keeps looks =
    subst (λ c. Explains explain c.lookup c.step) (sym (kept_are_ours calls looks)) (explains explain keeps)
