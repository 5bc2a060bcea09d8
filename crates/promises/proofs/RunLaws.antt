-- From bytes in a memory to a call that they are lent to, and to its run: what is lent is put together from the last parameter to the
-- first, each slice for a lifetime of its own, and a routine that returns is then run.
-- Assumes nothing.
use mathlib.Core.Path.{◌≡◌, refl, subst}
use mathlib.Core.List.{List, [], ◌∷◌}
use mathlib.Core.Logic.{∥∥₁_prop, ∥∥₁_elim, ∥∥₁_map}
use Prim.Native.Nat.{ℕ, ◌+◌}
use base.Fraction.{full_share}
use lib.ListN.{length}
use mir.Syntax.{w8, named}
use base.Fml.{GName}
use base.Logic.{ent, ex, emp, id⊢, assoc', mono∗}
use prog.Memory.{Memory}
use prog.Routine.{Routine}
use prog.Wp.{run}
use ghost.Atoms.{meaning}
use types.Logic.{Logic}
use types.Kit.{‵, raw, ◌⊛◌, later, ◌$◌, ◌∵◌, !, qed, move, use0, use1, use2, split, split3, join, fjoin, feq_i, frame, await, updating, now as at_once, show, done}
use types.Share.{parts, arr_parts}
use types.Tokens.{lft_new}
use contract.Adequate.{sat_weaken, sat_ex∗, sat_⇛}
use contract.Lifetimes.{Lfts, Shares, AllOutlive}
use denote.Builtin.{u8}
use denote.Copied.{uint_Copied}
use denote.Lend.{lends_shr_slice}
use denote.Memory.{mem, shares}
use denote.Plain.{uint_in}
use denote.RattleType.{owns, flat}
use denote.Ref.{Bor, MutBor}
use denote.Signature.{types_at}
use denote.Slice.{ShrSlice, Room}
use denote.Steps.{nothing}
use denote.Triple.Clauses.{Lasts}
use denote.Triple.Entry.{Vals, alive}
use borrow.Fn.Kinds.{ParamKind, ResultKind, Out, Dens, res_t, os_r, sig_of, slots, ended_of}
use Rattle.promises.specs.Determined.{Allows}
use Rattle.promises.specs.Returns.{Assertion, ◌∗◌, ◌has◌, StandsFor, Ends, Returns}
use Rattle.promises.specs.Runs.{Runs, whole}
use Rattle.promises.proofs.ReturnLaws.{𝓤, H, 𝓜, 𝓖, A}

-- what a script of the logic's calculus takes for granted: here it is had
abbrev pub W : Logic 𝓤
W = 𝓖

-- ---- what is lent is put together from the last parameter to the first

-- a memory with the hold on some lifetimes, what some parameters own, what their lender keeps, and a rest
pub record Ready (σ : Memory) (held owned kept F : Assertion) : Type 1 where
  there : σ has held ∗ owned ∗ kept ∗ F

-- the whole hold on a lifetime
abbrev pub hold : ℕ → Assertion
hold α = A.lft (α ∷ []) full_share

-- the source can be lent for a new lifetime α, under a new name γ: the parameter owns the one, and the lender keeps the other
abbrev pub Lends : Assertion → (ℕ → GName → Assertion) → (ℕ → GName → Assertion) → Type 1
Lends source own keep = ent 𝓤 source (H.⇛ (ex 𝓤 (λ (α : ℕ). ex 𝓤 (λ (γ : GName). hold α ∗ own α γ ∗ keep α γ))))

pub nothing_yet : {σ : Memory} {F : Assertion} → σ has F → Ready σ (emp 𝓤) (emp 𝓤) (emp 𝓤) F
nothing_yet {σ} {F} s =
    record { there = sat_weaken 𝓤 H 𝓜 σ (qed W (raw F ∷ []) ∵ nothing ! $ nothing ! $ nothing ! $ done !) s }

module _ {σ : Memory} {held owned kept F : Assertion} where
  -- a plain value owns nothing but facts
  pub and_value : {own : Assertion} → ent 𝓤 (emp 𝓤) own → Ready σ held owned kept F → Ready σ held (own ∗ owned) kept F
  and_value {own} free s =
      record {
        there =
            sat_weaken 𝓤 H 𝓜 σ
            (qed W (raw held ∷ raw owned ∷ raw kept ∷ raw F ∷ []) ∵ frame ! $ use0 W (raw own) free $ join ! $ done !) s.there;
      }

  pub and_lent : (source : Assertion) (own keep : ℕ → GName → Assertion) → Lends source own keep → Ready σ held owned kept (source ∗ F)
      → ∥ ((α : ℕ) × (γ : GName) × Ready σ (hold α ∗ held) (own α γ ∗ owned) (keep α γ ∗ kept) F) ∥₁
  and_lent source own keep lends s =
      let rest : Assertion = held ∗ owned ∗ kept ∗ F in
      let Lent-out : ℕ → GName → Assertion = λ α γ. hold α ∗ own α γ ∗ keep α γ in
      ∥∥₁_elim
      (sat_ex∗ 𝓤 H 𝓜 σ (λ α. ex 𝓤 (Lent-out α)) rest
      (sat_⇛ 𝓤 H 𝓜 σ (ex 𝓤 (λ α. ex 𝓤 (Lent-out α))) rest
      (sat_weaken 𝓤 H 𝓜 σ
      (qed W (raw held ∷ raw owned ∷ raw kept ∷ raw source ∷ raw F ∷ []) ∵ move ! (3 ∷ []) $
      use1 W (raw (H.⇛ (ex 𝓤 (λ α. ex 𝓤 (Lent-out α))))) lends $ done !) s.there)))
      ∥∥₁_prop λ for-a-lifetime.
      let (α, s₁) = for-a-lifetime in
      ∥∥₁_map (sat_ex∗ 𝓤 H 𝓜 σ (Lent-out α) rest s₁) λ under-a-name.
      let (γ, s₂) = under-a-name in (
        α,
        γ,
        record {
          there =
              sat_weaken 𝓤 H 𝓜 σ
              (qed W ((raw (hold α) ⊛ raw (own α γ) ⊛ raw (keep α γ)) ∷ raw held ∷ raw owned ∷ raw kept ∷ raw F ∷ []) ∵
              split3 ! $ move ! (0 ∷ 3 ∷ 1 ∷ 4 ∷ 2 ∷ []) $ join ! $ frame ! $ join ! $ frame ! $ join ! $ done !) s₂;
        },
      )

-- all that stands in block b, to be read; and to be written, under the name γ
abbrev pub referred : ℕ → List ℕ → Bor (List ℕ)
referred b xs = record { ref_ptr = (b, 0); now = xs }

abbrev pub referred_to_write : ℕ → List ℕ → GName → MutBor (List ℕ)
referred_to_write b xs γ = record { ref_ptr = (b, 0); ghost_name = γ; now = xs }

-- what is read alone has no name
abbrev no_name : GName
no_name = 0

-- ---- bytes that lie side by side are lent to be read

abbrev pub Block : ℕ → List ℕ → Assertion
Block b xs = run 𝓤 H full_share w8 b 0 xs

side_by_side : (xs : List ℕ) (b o : ℕ) → ent 𝓤 (run 𝓤 H full_share w8 b o xs) (meaning 𝓤 H A (parts (mem u8) (shares u8) full_share xs b o))
side_by_side [] b o = id⊢ 𝓤 (emp 𝓤)
side_by_side (x ∷ xs) b o = mono∗ 𝓤 (uint_in W full_share w8 x b o) (side_by_side xs b (o + 1))

module _ (j : ℕ) (xs : List ℕ) (b : ℕ) where
  abbrev pub slice : ℕ → GName → Assertion
  slice α γ = meaning 𝓤 H A ((ShrSlice (named j) (α ∷ []) u8).own_val (referred b xs) (whole b xs ∷ []))

  abbrev pub slice_kept : ℕ → GName → Assertion
  slice_kept α γ = A.lent (α ∷ []) ((arr_parts (shares u8) (length xs)).part full_share xs b 0)

  pub lends_bytes : Room u8 (length xs) → Lends (Block b xs) slice slice_kept
  lends_bytes room =
      qed W (raw (Block b xs) ∷ []) ∵ updating ! $ use1 W (‵ (parts (mem u8) (shares u8) full_share xs b 0)) (side_by_side xs b 0) $
      feq_i ! ℕ (length xs) (length xs) refl $ fjoin ! $ lft_new ! tt (λ α. move ! (1 ∷ []) $
      use2 W (later ((raw (slice α no_name) ⊛ raw (slice_kept α no_name)) ⊛ raw (hold α)))
      (lends_shr_slice W u8 (named j) (α ∷ []) full_share xs b 0 room (α ∷ []) ((uint_Copied W w8).shares full_share (α ∷ []))
      ((α ∷ [], full_share) ∷ []) (λ x m. m) (λ x m. m)) $
      await ! tt $ split ! $ split ! $ at_once ! $
      show ! (λ β. ex 𝓤 (λ δ. hold β ∗ slice β δ ∗ slice_kept β δ)) α $ show ! (λ δ. hold α ∗ slice α δ ∗ slice_kept α δ) no_name $
      move ! (2 ∷ 0 ∷ 1 ∷ []) $ done !)

-- ---- the run of a routine that returns, from a memory with all that it is lent

module _ {n : ℕ} {ps : List (ParamKind n)} {r : ResultKind n} {Learnt : Out n ps r} {routine : Routine} (returns : Returns ps r Learnt routine) (κs : Lfts n)
    (bounds : AllOutlive n (os_r r) κs) (qs : Shares n) (a : Dens κs ps) (vss : Vals (sig_of n ps r) κs) where
  abbrev Held : Assertion
  Held = alive 𝓖 (sig_of n ps r) κs qs

  abbrev Owned : Assertion
  Owned = meaning 𝓤 H A (owns (types_at (slots ps) κs) a vss)

  pub run_ends : {σ : Memory} {kept F : Assertion} → Ready σ Held Owned kept F → ∥ Ends ps r Learnt routine κs qs a vss σ (kept ∗ F) ∥₁
  run_ends {σ} {kept} {F} all = returns.run κs bounds qs a vss σ (kept ∗ F) (sat_weaken 𝓤 H 𝓜 σ (assoc' 𝓤 Held Owned (kept ∗ F)) all.there)

  -- where the contract allows one reply alone
  pub runs : {σ : Memory} {kept F : Assertion} → Ready σ Held Owned kept F
      → {z : (res_t r κs).Denot} → ((y : (res_t r κs).Denot) (w : Lasts (ended_of n ps r) κs a) → Allows ps r Learnt κs a y w → y ≡ z)
      → Runs routine (flat (types_at (slots ps) κs) vss) σ (λ value after. StandsFor (res_t r κs) z value)
  runs all only-z =
      ∥∥₁_map (run_ends all) λ end. (
        end.fuel,
        end.value,
        end.after,
        end.ends,
        subst (λ y. StandsFor (res_t r κs) y end.value) (only-z end.reply end.last end.allowed) end.stands_for,
      )
