-- Document 01: "Every public function, on every input, determines its reply and the words left in lent buffers, refusals too. A
-- proof shows that two replies allowed for one input are equal". Stated of a function's own contract: `ps` and `r` are the kinds of
-- its parameters and of its result, `Learnt` is what a caller may rely on after a call, by its `ensures`; the toolchain makes the
-- three from the source.
use Rattle.std.specs.Prelude.{◌≡◌, List, ℕ}
use borrow.Fn.Kinds.{ParamKind, ResultKind, Out, Dens, res_t, ended_of}
use contract.Lifetimes.{Lfts}
use denote.Triple.Clauses.{Lasts, at_exit}

module _ {n : ℕ} (ps : List (ParamKind n)) (r : ResultKind n) (Learnt : Out n ps r) where
  -- the contract allows, for the arguments a, the reply z and the last values w of what is lent to be written
  abbrev pub Allows : (κs : Lfts n) (a : Dens κs ps) → (res_t r κs).Denot → Lasts (ended_of n ps r) κs a → Type 0
  Allows κs a z w = Learnt κs a z (at_exit (ended_of n ps r) κs a w)

  -- what is allowed for one input is one reply, and one list of words in every lent buffer
  abbrev pub Determined : Type 0
  Determined =
      (κs : Lfts n) (a : Dens κs ps) (z z' : (res_t r κs).Denot) (w w' : Lasts (ended_of n ps r) κs a)
      → Allows κs a z w
      → Allows κs a z' w'
      → (z ≡ z') × (w ≡ w')
