-- `land::where_landed` looks at the function before `low`, if there is one, and at its rows where it covers.
-- Assumes nothing.
use native.Mathlib.Omega.{arith}
use mathlib.Core.Path.{◌≡◌, sym, ◌∙◌, ap}
use mathlib.Core.List.{List}
use Prim.Native.Nat.{ℕ, suc, ◌-◌, ◌<◌}
use lib.IntN.{ℤ, ◌-ℤ◌}
use Rattle.std.proofs.Common.{Some, None}
use Rattle.numbers.specs.Inner.Held.{natural}
use Rattle.section.specs.Meaning.{function_start, function_in}
use Rattle.lookup.specs.Computed.Covering.{covers}
use Rattle.lookup.specs.Inner.Search.{past_in}
use Rattle.lookup.proofs.CoveringLaws.{by_value}
use Rattle.ask.specs.AskAnswer.{NoFunction}
use Rattle.ask.specs.Computed.Ask.{where_landed}
use Rattle.ask.specs.Inner.Parts.{past_function}
use Rattle.ask.proofs.SoughtLaws.{past_answer}
use Rattle.ask.proofs.land.where_landed.Goals as goal

module _ (s : List ℕ) (d : ℤ) (compared low : ℕ) (some : 0 < low) where
  before_low : where_landed s d compared low ≡ where_landed s d compared (suc (low - 1))
  before_low = ap (where_landed s d compared) (omega arith)

  inside : (past : ℕ) → past_in d (function_in s (low - 1)) ≡ Some past → past_function s (low - 1) past compared ≡ where_landed s d compared low
  unfolding where_landed past_in function_in
  inside past is =
      by_value (covers d (function_in s (low - 1)))
      (λ set.
      let by : Some (natural (d -ℤ function_start s (low - 1))) ≡ Some past = rw (set, past_in) at is in
      let same : natural (d -ℤ function_start s (low - 1)) ≡ past = cc in
      rw (← same) (past_answer s d (low - 1) compared ∙ sym (before_low ∙ (rw (set, where_landed)))))
      (λ unset. absurd (let other : None ≡ Some past = rw (unset, past_in) at is in let z : ◌≡◌ {A = ℕ} 0 1 = cc in omega arith))

  beside : past_in d (function_in s (low - 1)) ≡ None → NoFunction compared ≡ where_landed s d compared low
  unfolding where_landed past_in
  beside is =
      by_value (covers d (function_in s (low - 1)))
      (λ set. absurd (let other : Some _ ≡ None = rw (set, past_in) at is in let z : ◌≡◌ {A = ℕ} 0 1 = cc in omega arith))
      (λ unset. sym (before_low ∙ (rw (unset, where_landed))))

pub returns-in-None : goal.returns-in-None
returns-in-None c = beside _ _ _ _ (omega (arith, c.if-low-eq0.false)) (sym c.in-None.ensures)

pub returns-in-Some : goal.returns-in-Some
returns-in-Some c =
    c.in_function.ensures
    ∙ inside _ _ _ _ (omega (arith, c.if-low-eq0.false)) _ (sym c.in-Some.ensures)
