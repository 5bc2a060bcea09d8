-- Nothing is lost in the flat struct of an asked address: it is read back as the very answer that was flattened, and so equal structs come
-- from equal answers. Assumes nothing.
use mathlib.Core.Path.{◌≡◌, refl, ap}
use mathlib.Core.List.{List}
use Prim.Native.Nat.{ℕ}
use native.Mathlib.Omega.{arith}
use borrow.Author.Tests.{ne_eqb}
use Rattle.numbers.specs.Start.{distance}
use Rattle.accept.proofs.Exactly.{number_of_rule_lem}
use Rattle.lookup.specs.Numbers.{number_of_unfound}
use Rattle.ask.specs.AskAnswer.{AskAnswer}
use Rattle.ask.specs.AskAnswer as ask
use Rattle.ask.specs.Cases.{AskCase}
use Rattle.ask.specs.Numbers.{number_of_unanswered, ask_number, ask_indexes, ask_row, ask_compared}
use Rattle.ask.specs.Computed.Ask.{ask_of}
use Rattle.ask.proofs.CaseLaws.{some_case}
use Rattle.suntimpani.specs.Asked.{flat_asked, read_asked}
use Rattle.suntimpani.specs.Flat.{flat_row}
use Rattle.suntimpani.specs.Inner.Numbered.{AskNumbered}
use Rattle.suntimpani.proofs.Lossless.{read_row_lem, lossless}

read_asked_lem : (answer : AskAnswer) → AskNumbered answer → read_asked (flat_asked answer) ≡ answer
unfolding read_asked flat_asked flat_row ask_number number_of_unanswered number_of_unfound ask_indexes ask_row ask_compared
read_asked_lem (ask.Found function compared number row) numbered =
    ap (λ r. ask.Found function compared number r) (read_row_lem 0 function 0 compared number row)
read_asked_lem (ask.Unsound number) numbered =
    rw (ne_eqb number 0 λ is. omega (arith, numbered.0, is), read_asked)
    (rw (ne_eqb number 21 λ is. omega (arith, numbered.1, is))
    (rw (ne_eqb number 23 λ is. omega (arith, numbered.1, is))
    (rw (ne_eqb number 44 λ is. omega (arith, numbered.1, is)) (rw (ne_eqb number 45 λ is. omega (arith, numbered.1, is)) refl))))
read_asked_lem ask.Unsorted numbered = refl
read_asked_lem (ask.NoFunction compared) numbered = refl
read_asked_lem (ask.NoRow function compared) numbered = refl
read_asked_lem (ask.Damaged function compared) numbered = refl

module _ (s : List ℕ) (address pc : ℕ) where
  ask-numbered : AskNumbered (ask_of s address pc)
  ask-numbered = by (ask_of s address pc) (some_case s address pc)
    where
      by : (answer : AskAnswer) → AskCase s (distance address pc) answer → AskNumbered answer
      by (ask.Found function compared number row) case = tt
      by (ask.Unsound number) (rule, is, breaks) = (omega (arith, is, number_of_rule_lem rule), omega (arith, is, breaks.0))
      by ask.Unsorted case = tt
      by (ask.NoFunction compared) case = tt
      by (ask.NoRow function compared) case = tt
      by (ask.Damaged function compared) case = tt

  pub ask_read_back : read_asked (flat_asked (ask_of s address pc)) ≡ ask_of s address pc
  ask_read_back = read_asked_lem (ask_of s address pc) ask-numbered

pub ask_lossless : (s t : List ℕ) (address other pc also : ℕ)
    → flat_asked (ask_of s address pc) ≡ flat_asked (ask_of t other also) → ask_of s address pc ≡ ask_of t other also
ask_lossless s t address other pc also =
    lossless flat_asked read_asked _ _ (ask_read_back s address pc) (ask_read_back t other also)
