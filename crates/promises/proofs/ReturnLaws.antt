-- A routine that meets a contract with no `requires` returns, as `Returns` says it: the toolchain's own theorem of what a met contract
-- comes to on the machine (`adequate`), taken at its closed model, with the reply and what is said of it taken out.
-- Assumes nothing.
use mathlib.Core.List.{List, [], ◌∷◌}
use mathlib.Core.Logic.{∥∥₁_prop, ∥∥₁_elim, ∥∥₁_map}
use Prim.Native.Nat.{ℕ}
use seplogic.Ra.Ura.{Ura}
use mir.Val.{Val}
use base.Logic.{ent, ex, emp, via, comm∗, assoc∗, assoc', mono_l, fst∗, snd∗, emp∗}
use prog.Memory.{Memory}
use prog.Model.{Model}
use prog.Routine.{Routine, Env, any_callee}
use prog.Wp.{Heap}
use ghost.Atoms.{Atoms}
use types.Logic.{Logic, sem}
use contract.Closed.{real⁺_strict}
use contract.Adequate.{sat_weaken, sat_fact, sat_ex∗, sat_⇛}
use contract.Lifetimes.{Lfts, Shares, AllOutlive}
use contract.Monad.{fact}
use contract.Running.{Running, tables, within}
use denote.Laws.{Is, shows}
use denote.Triple.Adequate.{adequate}
use denote.Triple.Clauses.{Clauses, Lasts, lasts, closing}
use denote.Triple.Entry.{Vals, alive}
use denote.Triple.Spec.{Meets, triple_of}
use borrow.Fn.Kinds.{ParamKind, ResultKind, Out, Dens, res_t, os_r, sig_of, ended_of}
use borrow.Fn.World.{w₀}
use Rattle.promises.specs.Determined.{Allows}
use Rattle.promises.specs.Returns.{Assertion, ◌∗◌, ◌has◌, Lent, Ends, Returns}

-- ---- the closed model

abbrev pub 𝓤 : Ura w₀.M
𝓤 = w₀.𝓤

abbrev pub H : Heap 𝓤
H = w₀.𝓛.H

abbrev pub 𝓜 : Model 𝓤 H
𝓜 = w₀.𝓜

abbrev pub 𝓖 : Logic 𝓤
𝓖 = w₀.𝓛

abbrev pub 𝓡 : Running 𝓤 H 𝓜
𝓡 = w₀.𝓡

-- the same, where a name means what it means in γ
abbrev pub reading : Env → Running 𝓤 H 𝓜
reading γ = within 𝓤 H 𝓜 𝓡 γ

abbrev pub A : Atoms 𝓤
A = 𝓖.A

-- a plain fact that something says which a memory has
pub is_told : (σ : Memory) (P Q : Assertion) (φ : Type 0) → ent 𝓤 P (fact 𝓤 φ) → σ has P ∗ Q → ∥ φ ∥₁
is_told σ P Q φ says s = sat_fact 𝓤 H 𝓜 σ (P ∗ Q) φ (via 𝓤 (P ∗ Q) (snd∗ 𝓤 (𝓜.mem σ) (P ∗ Q)) (via 𝓤 P (fst∗ 𝓤 P Q) says)) s

-- ---- a contract with no `requires`, and the run of a routine that meets it

module _ {n : ℕ} (ps : List (ParamKind n)) (r : ResultKind n) (Learnt : Out n ps r) (routine : Routine) where
  abbrev clauses : Clauses 𝓤 (ended_of n ps r)
  clauses κs a = record { ghost = Unit {0}; requires = λ _. emp 𝓤; ensures = λ _ z e. fact 𝓤 (Learnt κs a z e) }

  abbrev pub Met : Type 1
  Met = Meets 𝓖 (sig_of n ps r) (𝓡.run routine) (closing 𝓖 (ended_of n ps r) clauses)

  module _ (κs : Lfts n) (bounds : AllOutlive n (os_r r) κs) (qs : Shares n) (a : Dens κs ps) (vss : Vals (sig_of n ps r) κs) where
    abbrev Held : Assertion
    Held = alive 𝓖 (sig_of n ps r) κs qs

    abbrev Own : Val → (res_t r κs).Denot → Assertion
    Own v z = sem 𝓖 ((res_t r κs).own_val z (v ∷ []))

    abbrev Last : Lasts (ended_of n ps r) κs a → Assertion
    Last w = sem 𝓖 (lasts (ended_of n ps r) κs a w)

    abbrev Allowed : (res_t r κs).Denot → Lasts (ended_of n ps r) κs a → Assertion
    Allowed z w = fact 𝓤 (Allows ps r Learnt κs a z w)

    -- what the contract leaves: a reply, last values, and what it says of them
    abbrev Said : (res_t r κs).Denot → Assertion
    Said z = ex 𝓤 (λ (w : Lasts (ended_of n ps r) κs a). Last w ∗ Allowed z w)

    abbrev Replied : Val → (res_t r κs).Denot → Assertion
    Replied v z = (Held ∗ Own v z) ∗ Said z

    met-ends : Met → (σ : Memory) (F : Assertion) → σ has Lent ps r κs qs a vss ∗ F → ∥ Ends ps r Learnt routine κs qs a vss σ F ∥₁
    met-ends met σ F s =
        let lent : Assertion = Lent ps r κs qs a vss in
        ∥∥₁_elim
        (adequate 𝓤 H 𝓜 (tables 𝓤 H 𝓜 𝓡 (λ _. routine)) real⁺_strict any_callee
        (triple_of 𝓖 (sig_of n ps r) (closing 𝓖 (ended_of n ps r) clauses)) met
        ((κs, qs, bounds, a, vss), tt) σ F
        (sat_weaken 𝓤 H 𝓜 σ (mono_l 𝓤 F (via 𝓤 (emp 𝓤 ∗ lent) (emp∗ 𝓤 lent) (comm∗ 𝓤 (emp 𝓤) lent))) s))
        ∥∥₁_prop λ run.
        let (fuel, v, σ', ended, s₁) = run in
        ∥∥₁_elim (sat_ex∗ 𝓤 H 𝓜 σ' (Replied v) F (sat_⇛ 𝓤 H 𝓜 σ' (ex 𝓤 (Replied v)) F s₁)) ∥∥₁_prop λ replied.
        let (z, s₂) = replied in
        let back : Assertion = Held ∗ Own v z in
        ∥∥₁_elim
        (is_told σ' (Replied v z) F (Is (res_t r κs) z (v ∷ []))
        (via 𝓤 back (fst∗ 𝓤 back (Said z)) (via 𝓤 (Own v z) (snd∗ 𝓤 Held (Own v z)) (shows 𝓖 (res_t r κs) z (v ∷ [])))) s₂)
        ∥∥₁_prop λ is.
        ∥∥₁_elim
        (sat_ex∗ 𝓤 H 𝓜 σ' (λ w. Last w ∗ Allowed z w) (back ∗ F)
        (sat_weaken 𝓤 H 𝓜 σ' (via 𝓤 ((Said z ∗ back) ∗ F) (mono_l 𝓤 F (comm∗ 𝓤 back (Said z))) (assoc∗ 𝓤 (Said z) back F)) s₂))
        ∥∥₁_prop λ said.
        let (w, s₃) = said in
        ∥∥₁_map (is_told σ' (Last w ∗ Allowed z w) (back ∗ F) (Allows ps r Learnt κs a z w) (snd∗ 𝓤 (Last w) (Allowed z w)) s₃) λ allows.
        record {
          fuel = fuel;
          value = v;
          after = σ';
          ends = ended;
          reply = z;
          last = w;
          stands_for = is;
          allowed = allows;
          left =
              sat_weaken 𝓤 H 𝓜 σ'
              (via 𝓤 (Last w ∗ back ∗ F) (mono_l 𝓤 (back ∗ F) (fst∗ 𝓤 (Last w) (Allowed z w))) (assoc' 𝓤 (Last w) back F)) s₃;
        }

pub met_returns : {n : ℕ} {ps : List (ParamKind n)} {r : ResultKind n} {Learnt : Out n ps r} {routine : Routine} → Met ps r Learnt routine → Returns ps r Learnt routine
met_returns {ps = ps} {r = r} {Learnt = Learnt} {routine = routine} met =
    record { run = λ κs bounds qs a vss σ F s. met-ends ps r Learnt routine κs bounds qs a vss met σ F s }
