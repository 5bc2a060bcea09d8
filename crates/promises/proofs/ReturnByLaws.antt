-- A routine that meets a contract stated by its clauses, with no `requires` and a plain `ensures`, returns, as `ReturnsBy` says it: as in
-- `ReturnLaws`.
-- Assumes nothing.
use mathlib.Core.Path.{◌≡◌, sym, subst}
use mathlib.Core.List.{[], ◌∷◌}
use mathlib.Core.Logic.{∥∥₁_prop, ∥∥₁_elim, ∥∥₁_map}
use mir.Val.{Val}
use base.Logic.{ent, ex, emp, via, comm∗, assoc∗, assoc', mono_l, fst∗, snd∗, emp∗, id⊢}
use prog.Memory.{Memory}
use prog.Routine.{Routine, any_callee}
use types.Logic.{sem}
use contract.Closed.{real⁺_strict}
use contract.Adequate.{sat_weaken, sat_ex∗, sat_⇛}
use contract.Lifetimes.{Lfts, Shares, AllOutlive}
use contract.Monad.{fact}
use contract.Running.{tables}
use denote.Laws.{Is, shows}
use denote.Signature.{type_at}
use denote.Triple.Adequate.{adequate}
use denote.Triple.Clauses.{Ended, Lasts, at_exit, lasts, closing}
use denote.Triple.Entry.{Args, Vals, Res, alive, on_entry}
use denote.Triple.Spec.{Meets, triple_of}
use Rattle.promises.specs.ByClauses.{Stated, closed, Plainly, EndsBy, ReturnsBy}
use Rattle.promises.specs.Returns.{Assertion, ◌∗◌, ◌has◌}
use Rattle.promises.proofs.ReturnLaws.{𝓤, H, 𝓜, 𝓖, 𝓡, is_told}

module _ (T : Ended) (stated : Stated T) (routine : Routine) (says : Plainly T stated) where
  abbrev pub MetBy : Type 1
  MetBy = Meets 𝓖 T.signature (𝓡.run routine) (closing 𝓖 T (closed T stated))

  -- nothing is asked
  pub record Unasked : Type 2 where
    pub ghost : (κs : Lfts T.signature.lifetimes) (a : Args T.signature κs) → (closed T stated κs a).ghost
    pub requires : (κs : Lfts T.signature.lifetimes) (a : Args T.signature κs) → (closed T stated κs a).requires (ghost κs a) ≡ emp 𝓤

  module _ (none : Unasked) (κs : Lfts T.signature.lifetimes) (bounds : AllOutlive T.signature.lifetimes T.signature.outlives κs) (qs : Shares T.signature.lifetimes) (a : Args T.signature κs) (vss : Vals T.signature κs) where
    abbrev Held : Assertion
    Held = alive 𝓖 T.signature κs qs

    abbrev Own : Val → Res T.signature κs → Assertion
    Own v z = sem 𝓖 ((type_at T.signature.result κs).own_val z (v ∷ []))

    abbrev Last : Lasts T κs a → Assertion
    Last w = sem 𝓖 (lasts T κs a w)

    abbrev Ensured : Res T.signature κs → Lasts T κs a → Assertion
    Ensured z w = (closed T stated κs a).ensures (none.ghost κs a) z (at_exit T κs a w)

    abbrev Said : Res T.signature κs → Assertion
    Said z = ex 𝓤 (λ (w : Lasts T κs a). Last w ∗ Ensured z w)

    abbrev Replied : Val → Res T.signature κs → Assertion
    Replied v z = (Held ∗ Own v z) ∗ Said z

    abbrev entered : Assertion
    entered = on_entry 𝓖 T.signature κs qs a vss

    unasked : ent 𝓤 entered (entered ∗ (closed T stated κs a).requires (none.ghost κs a))
    unasked =
        subst (λ (asked : Assertion). ent 𝓤 entered (entered ∗ asked)) (sym (none.requires κs a))
        (via 𝓤 (emp 𝓤 ∗ entered) (emp∗ 𝓤 entered) (comm∗ 𝓤 (emp 𝓤) entered))

    ensured-plainly : (z : Res T.signature κs) (w : Lasts T κs a) → ent 𝓤 (Ensured z w) (fact 𝓤 (says.Learnt κs a z (at_exit T κs a w)))
    ensured-plainly z w =
        subst (λ (said : Assertion). ent 𝓤 (Ensured z w) said) (says.ensures κs a (none.ghost κs a) z (at_exit T κs a w)) (id⊢ 𝓤 (Ensured z w))

    met-ends-by : MetBy → (σ : Memory) (F : Assertion) → σ has entered ∗ F → ∥ EndsBy T stated routine says κs qs a vss σ F ∥₁
    met-ends-by met σ F s =
        ∥∥₁_elim
        (adequate 𝓤 H 𝓜 (tables 𝓤 H 𝓜 𝓡 (λ _. routine)) real⁺_strict any_callee
        (triple_of 𝓖 T.signature (closing 𝓖 T (closed T stated))) met
        ((κs, qs, bounds, a, vss), none.ghost κs a) σ F
        (sat_weaken 𝓤 H 𝓜 σ (mono_l 𝓤 F unasked) s))
        ∥∥₁_prop λ run.
        let (fuel, v, σ', ended, s₁) = run in
        ∥∥₁_elim (sat_ex∗ 𝓤 H 𝓜 σ' (Replied v) F (sat_⇛ 𝓤 H 𝓜 σ' (ex 𝓤 (Replied v)) F s₁)) ∥∥₁_prop λ replied.
        let (z, s₂) = replied in
        let back : Assertion = Held ∗ Own v z in
        ∥∥₁_elim
        (is_told σ' (Replied v z) F (Is (type_at T.signature.result κs) z (v ∷ []))
        (via 𝓤 back (fst∗ 𝓤 back (Said z)) (via 𝓤 (Own v z) (snd∗ 𝓤 Held (Own v z)) (shows 𝓖 (type_at T.signature.result κs) z (v ∷ [])))) s₂)
        ∥∥₁_prop λ is.
        ∥∥₁_elim
        (sat_ex∗ 𝓤 H 𝓜 σ' (λ w. Last w ∗ Ensured z w) (back ∗ F)
        (sat_weaken 𝓤 H 𝓜 σ' (via 𝓤 ((Said z ∗ back) ∗ F) (mono_l 𝓤 F (comm∗ 𝓤 back (Said z))) (assoc∗ 𝓤 (Said z) back F)) s₂))
        ∥∥₁_prop λ said.
        let (w, s₃) = said in
        ∥∥₁_map
        (is_told σ' (Last w ∗ Ensured z w) (back ∗ F) (says.Learnt κs a z (at_exit T κs a w))
        (via 𝓤 (Ensured z w) (snd∗ 𝓤 (Last w) (Ensured z w)) (ensured-plainly z w)) s₃) λ allows.
        record {
          fuel = fuel;
          value = v;
          after = σ';
          ends = ended;
          reply = z;
          last = w;
          stands_for = is;
          allowed = allows;
          left =
              sat_weaken 𝓤 H 𝓜 σ'
              (via 𝓤 (Last w ∗ back ∗ F) (mono_l 𝓤 (back ∗ F) (fst∗ 𝓤 (Last w) (Ensured z w))) (assoc' 𝓤 (Last w) back F)) s₃;
        }

  pub met_returns_by : Unasked → MetBy → ReturnsBy T stated routine
  met_returns_by none met =
      record { says = says; run = λ κs bounds qs a vss σ F s. met-ends-by none κs bounds qs a vss met σ F s }
