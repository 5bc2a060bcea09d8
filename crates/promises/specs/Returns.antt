-- Document 01, demand 1: "No call reads outside what was lent, every call ends". What that is for the code of a function, on the
-- toolchain's abstract machine (`prog.Machine`), which runs it over a memory of separate blocks of bytes. A run is done, is out of fuel,
-- or is stuck, as it is after a read or a store outside a block, and after a sum that does not fit.
--     κs, qs    the lifetimes of what is lent, and a share of the caller's hold on each: while the call has it, nothing lent is taken back
--     a, vss    the arguments, as the contract speaks of them, and as the machine has them, as pointers and words: one list for each
--     σ         the memory when the call begins. `σ has P`: P holds of it, in the closed model w₀ of the toolchain's logic
--     F         all the rest, whatever it is. `P ∗ F`: P and F side by side, so that no byte which the one may write is in the other
-- F holds before and after: nothing is changed that was not lent. And where σ has nothing but what is lent (`Runs`), nothing else is read:
-- such a read is stuck, and a run that is stuck is not done.
-- It does not say how large the fuel is, which bounds the turns of a loop and the depth of calls and counts no steps. It says nothing of
-- a memory that has not what is lent, as where a pointer of C is not valid for its length, and nothing of the compiled bytes, of time, or
-- of the stack, which the machine does not have.
use Rattle.std.specs.Prelude.{◌≡◌, List, [], ◌∷◌, ℕ}
use mir.Val.{Val}
use base.Logic.{SProp, sep}
use prog.Machine.{done}
use prog.Memory.{Memory}
use prog.Routine.{Routine, step}
use Rattle.std.specs.Borrow.{sem, RattleType}
use contract.Adequate.{Satisfies}
use contract.Lifetimes.{Lfts, Shares, AllOutlive}
use denote.Laws.{Is}
use denote.Triple.Clauses.{Lasts, lasts}
use denote.RattleType.{flat}
use denote.Signature.{types_at}
use denote.Triple.Entry.{Vals, alive, on_entry}
use borrow.Fn.Kinds.{ParamKind, ResultKind, Out, Dens, res_t, os_r, slots, sig_of, ended_of}
use borrow.Fn.World.{w₀}
use Rattle.promises.specs.Determined.{Allows}

abbrev pub Assertion : Type 2
Assertion = SProp w₀.𝓤

infixr 35 ◌∗◌
abbrev pub ◌∗◌ : Assertion → Assertion → Assertion
P ∗ Q = sep w₀.𝓤 P Q

infix 26 ◌has◌
abbrev pub ◌has◌ : Memory → Assertion → Type 1
σ has P = Satisfies w₀.𝓤 w₀.𝓛.H w₀.𝓜 σ P

-- the machine's value v is x, as the definitions have it: each number of x is in its field, and fits
abbrev pub StandsFor : (R : RattleType) → R.Denot → Val → Type 0
StandsFor R x v = Is R x (v ∷ [])

module _ {n : ℕ} (ps : List (ParamKind n)) (r : ResultKind n) (κs : Lfts n) (qs : Shares n) (a : Dens κs ps) where
  -- what is lent with the arguments, as the bytes of a slice are, to read or to write, and the hold on each lifetime
  abbrev pub Lent : Vals (sig_of n ps r) κs → Assertion
  Lent vss = on_entry w₀.𝓛 (sig_of n ps r) κs qs a vss

  -- what is handed back: w as the last values of what was lent to be written, the hold on each lifetime, and the reply z, in the value v
  abbrev pub HandedBack : (res_t r κs).Denot → Val → Lasts (ended_of n ps r) κs a → Assertion
  HandedBack z v w =
      sem w₀.𝓛 (lasts (ended_of n ps r) κs a w)
      ∗ alive w₀.𝓛 (sig_of n ps r) κs qs
      ∗ sem w₀.𝓛 ((res_t r κs).own_val z (v ∷ []))

module _ {n : ℕ} (ps : List (ParamKind n)) (r : ResultKind n) (Learnt : Out n ps r) (routine : Routine) where
  -- how the run from σ ends
  pub record Ends (κs : Lfts n) (qs : Shares n) (a : Dens κs ps) (vss : Vals (sig_of n ps r) κs) (σ : Memory) (F : Assertion) : Type 1 where
    pub fuel : ℕ
    pub value : Val
    pub after : Memory
    pub ends : step routine fuel (flat (types_at (slots ps) κs) vss) σ ≡ done (value, after)
    -- the value stands for a reply that the contract allows, with these last values of what was lent to be written
    pub reply : (res_t r κs).Denot
    pub last : Lasts (ended_of n ps r) κs a
    pub stands_for : StandsFor (res_t r κs) reply value
    pub allowed : Allows ps r Learnt κs a reply last
    -- beside what is handed back, the rest is as it was
    pub left : after has HandedBack ps r κs qs a reply value last ∗ F

  -- from every memory that has what is lent, beside any rest, there is such an end. Nothing else is asked: the function has no `requires`
  pub record Returns : Type 2 where
    pub run : (κs : Lfts n) → AllOutlive n (os_r r) κs → (qs : Shares n) (a : Dens κs ps) (vss : Vals (sig_of n ps r) κs) (σ : Memory) (F : Assertion)
        → σ has Lent ps r κs qs a vss ∗ F
        → ∥ Ends κs qs a vss σ F ∥₁
