-- `Determined` and `Returns` of a function that has a struct with a reference in it, as a row reader is. Of such a function the toolchain
-- makes no kinds of parameters and result, on which `Determined` and `Returns` stand: its contract is stated by `ended` (the types of its
-- parameters and result, and what is seen of them at exit) and `clauses` alone. What is said here is the same, of the two.
use Rattle.std.specs.Prelude.{◌≡◌, [], ◌∷◌, ℕ}
use seplogic.Ra.Ura.{Ura}
use mir.Val.{Val}
use base.Logic.{SProp}
use prog.Machine.{done}
use prog.Memory.{Memory}
use prog.Routine.{Routine, step}
use types.Logic.{Logic, sem}
use contract.Lifetimes.{Lfts, Shares, AllOutlive}
use contract.Monad.{Fun, fact}
use denote.RattleType.{flat}
use denote.Signature.{type_at, types_at}
use denote.Triple.Clauses.{Ended, Clauses, Lasts, AtExit, at_exit, lasts}
use denote.Triple.Entry.{Args, Vals, Res, alive, on_entry}
use borrow.Fn.World.{w₀}
use Rattle.promises.specs.Returns.{Assertion, ◌∗◌, ◌has◌, StandsFor}

-- the clauses of a contract, as the toolchain makes them, and those in its closed model
abbrev pub Stated : Ended → Type 2
Stated T = (𝓤 : Ura w₀.M) (𝓛 : Logic 𝓤) → (Memory → SProp 𝓤) → (Routine → Fun 𝓤) → Clauses 𝓤 T

module _ (T : Ended) (stated : Stated T) where
  abbrev pub closed : Clauses w₀.𝓤 T
  closed = stated w₀.𝓤 w₀.𝓛 w₀.𝓜.mem w₀.𝓡.returns

  -- what a caller may rely on after a call: a plain claim, which is all that the contract's `ensures` says
  pub record Plainly : Type 2 where
    pub Learnt : (κs : Lfts T.signature.lifetimes) → Args T.signature κs → Res T.signature κs → AtExit T κs → Type 0
    pub ensures : (κs : Lfts T.signature.lifetimes) (a : Args T.signature κs) (g : (closed κs a).ghost) (z : Res T.signature κs) (e : AtExit T κs)
        → (closed κs a).ensures g z e ≡ fact w₀.𝓤 (Learnt κs a z e)

  -- what is allowed for one input is one reply, and one last value of each thing that is lent to be written
  pub record DeterminedBy : Type 2 where
    pub says : Plainly
    pub determined : (κs : Lfts T.signature.lifetimes) (a : Args T.signature κs) (z z' : Res T.signature κs) (w w' : Lasts T κs a)
        → says.Learnt κs a z (at_exit T κs a w)
        → says.Learnt κs a z' (at_exit T κs a w')
        → (z ≡ z') × (w ≡ w')

  module _ (routine : Routine) where
    -- how the run from σ ends, on the machine's values vss of the arguments
    pub record EndsBy (says : Plainly) (κs : Lfts T.signature.lifetimes) (qs : Shares T.signature.lifetimes) (a : Args T.signature κs) (vss : Vals T.signature κs) (σ : Memory) (F : Assertion) : Type 1 where
      pub fuel : ℕ
      pub value : Val
      pub after : Memory
      pub ends : step routine fuel (flat (types_at T.signature.params κs) vss) σ ≡ done (value, after)
      pub reply : Res T.signature κs
      pub last : Lasts T κs a
      pub stands_for : StandsFor (type_at T.signature.result κs) reply value
      pub allowed : says.Learnt κs a reply (at_exit T κs a last)
      pub left : after has (sem w₀.𝓛 (lasts T κs a last)
          ∗ alive w₀.𝓛 T.signature κs qs
          ∗ sem w₀.𝓛 ((type_at T.signature.result κs).own_val reply (value ∷ []))) ∗ F

    -- from every memory that has what is lent, beside any rest, there is such an end. Nothing else is asked
    pub record ReturnsBy : Type 2 where
      pub says : Plainly
      pub run : (κs : Lfts T.signature.lifetimes) → AllOutlive T.signature.lifetimes T.signature.outlives κs
          → (qs : Shares T.signature.lifetimes) (a : Args T.signature κs) (vss : Vals T.signature κs) (σ : Memory) (F : Assertion)
          → σ has on_entry w₀.𝓛 T.signature κs qs a vss ∗ F
          → ∥ EndsBy says κs qs a vss σ F ∥₁
