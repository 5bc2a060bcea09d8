-- A buffer of words in a block of its own: a memory that has it, how it is lent to be written, and that the words which it was left with
-- are those that a load gives once it is taken back.
-- Assumes nothing.
use mathlib.Core.Path.{sym, ◌∙◌, subst}
use mathlib.Core.List.{List, [], ◌∷◌, map}
use mathlib.Core.Logic.{∥∥₁_prop, ∥∥₁_elim}
use mathlib.Core.Option.{some-injective}
use Prim.Native.Nat.{ℕ, ◌+◌}
use base.Fraction.{full_share}
use lib.Dec.{T}
use lib.ListN.{length, length-map}
use mir.Syntax.{w64, named, ty_int}
use mir.Val.{vint, has_ty, WT}
use base.Fml.{GName, flft, flent}
use base.Logic.{ent, ex, emp, upd, guard, id⊢, via, assoc∗, assoc', mono∗, mono_l, mono_r, fst∗, ex∗, upd_mono, upd_frame, guard_e}
use prog.AdequacyRun.{start_mem}
use prog.Memory.{Memory, alloc_m}
use prog.Model.{AllFit, elems}
use ghost.Atoms.{meaning}
use types.Kit.{‵, raw, ◌⊛◌, some, later, ◌$◌, ◌∵◌, !, qed, by, move, use1, use3, split, pick, fsplit, feq_l, await, updating, now as at_once, show, done}
use types.SemTy.{cells, Arr}
use types.Tokens.{lft_new, lft_end}
use contract.Adequate.{sat_weaken, sat_upd, sat_⇛, sat_fact}
use contract.Monad.{fact_i}
use denote.Builtin.{u64}
use denote.Lend.{Held, lends_slice, slice_back}
use denote.Memory.{mem}
use denote.Plain.{uint_in, uint_out}
use denote.Slice.{MutSlice, Room, finally}
use denote.Steps.{nothing}
use Rattle.promises.specs.Returns.{Assertion, ◌∗◌, ◌has◌}
use Rattle.promises.specs.Runs.{whole, buffer_type, words_value, WithBuffer, BufferHas}
use Rattle.promises.proofs.ReturnLaws.{𝓤, H, 𝓜, A}
use Rattle.promises.proofs.RunLaws.{W, hold, Lends, referred_to_write}

-- ---- words as one array, and one by one

abbrev pub Buffer : ℕ → List ℕ → Assertion
Buffer n ws = H.at full_share (buffer_type n) 2 0 (words_value ws)

abbrev Elements : List ℕ → ℕ → Assertion
Elements ws o = elems 𝓤 H full_share (ty_int w64) 2 o (map (vint w64) ws)

one_by_one : (ws : List ℕ) (o : ℕ) → ent 𝓤 (Elements ws o) (meaning 𝓤 H A (cells (mem u64) ws 2 o))
one_by_one [] o = id⊢ 𝓤 (emp 𝓤)
one_by_one (x ∷ ws) o = mono∗ 𝓤 (uint_in W full_share w64 x 2 o) (one_by_one ws (o + 8))

together : (ws : List ℕ) (o : ℕ) → ent 𝓤 (meaning 𝓤 H A (cells (mem u64) ws 2 o)) (Elements ws o)
together [] o = id⊢ 𝓤 (emp 𝓤)
together (x ∷ ws) o = mono∗ 𝓤 (uint_out W full_share w64 x 2 o) (together ws (o + 8))

words_in : (n : ℕ) (ws : List ℕ) → ent 𝓤 (Buffer n ws) (meaning 𝓤 H A (cells (mem u64) ws 2 0))
words_in n ws = via 𝓤 (Elements ws 0) (𝓜.at_elems full_share (ty_int w64) n 2 0 (map (vint w64) ws)) (one_by_one ws 0)

words_out : (n : ℕ) (ws : List ℕ) → ent 𝓤 (meaning 𝓤 H A ((Arr (mem u64) n).own_at ws 2 0)) (Buffer n ws)
words_out n ws =
    qed W (‵ ((Arr (mem u64) n).own_at ws 2 0) ∷ []) ∵ fsplit ! $ feq_l ! (λ long.
    by ! (via 𝓤 (Elements ws 0) (together ws 0)
    (subst (λ k. ent 𝓤 (Elements ws 0) (Buffer k ws)) (length-map ws (vint w64) ∙ long) (𝓜.elems_at full_share (ty_int w64) 2 0 (map (vint w64) ws)))))

-- ---- a block more, with words in it

words_typed : (ws : List ℕ) → T (has_ty (buffer_type (length ws)) (words_value ws))
words_typed [] = tt
words_typed (x ∷ ws) = words_typed ws

words_fit : (ws : List ℕ) → AllFit w64 ws → WT (words_value ws)
words_fit [] fit = tt
words_fit (x ∷ ws) fit = (fit.0, words_fit ws fit.1)

module _ (s stack old : List ℕ) where
  -- the block is there, and holds nothing yet
  abbrev fresh : Memory
  fresh = alloc_m (start_mem s stack) (buffer_type (length old))

  abbrev Space : Assertion
  Space = H.room (buffer_type (length old)) 2 0

  has-space : (P : Assertion) → start_mem s stack has P → fresh has Space ∗ P
  unfolding start_mem
  has-space P =
      let now : Assertion = 𝓜.mem fresh in
      let dies : Assertion = H.dies (buffer_type (length old)) 2 in
      sat_upd 𝓤 H 𝓜 (start_mem s stack) fresh P (Space ∗ P)
      (via 𝓤 (upd 𝓤 (now ∗ Space ∗ dies) ∗ P) (mono_l 𝓤 P (𝓜.alloc (start_mem s stack) (buffer_type (length old))))
      (via 𝓤 (upd 𝓤 ((now ∗ Space ∗ dies) ∗ P)) (upd_frame 𝓤 (now ∗ Space ∗ dies) P)
      (upd_mono 𝓤 (via 𝓤 (now ∗ (Space ∗ dies) ∗ P) (assoc∗ 𝓤 now (Space ∗ dies) P) (mono_r 𝓤 now (mono_l 𝓤 P (fst∗ 𝓤 Space dies)))))))

  -- a store of the words succeeds, and leaves this
  abbrev Filled : Memory → Assertion
  Filled σ = guard 𝓤 (WithBuffer s stack old σ) (upd 𝓤 (𝓜.mem σ ∗ Buffer (length old) old))

  stores : AllFit w64 old → (P : Assertion) → ent 𝓤 (𝓜.mem fresh ∗ Space ∗ P) (ex 𝓤 Filled ∗ P)
  stores fit P =
      via 𝓤 ((𝓜.mem fresh ∗ Space) ∗ P) (assoc' 𝓤 (𝓜.mem fresh) Space P)
      (mono_l 𝓤 P (𝓜.room_store fresh (buffer_type (length old)) 2 0 (words_value old) (words_typed old) (words_fit old fit)))

  module _ (fit : AllFit w64 old) (P : Assertion) (there : start_mem s stack has P) where
    pub can_be_stored : ∥ ((σ : Memory) × WithBuffer s stack old σ) ∥₁
    can_be_stored =
        let Some : Type 0 = ∥ ((σ : Memory) × WithBuffer s stack old σ) ∥₁ in
        ∥∥₁_elim
        (sat_fact 𝓤 H 𝓜 fresh (Space ∗ P) Some
        (via 𝓤 (ex 𝓤 Filled ∗ P) (stores fit P)
        (ex∗ 𝓤 Filled P λ σ. ex∗ 𝓤 (λ (_ : WithBuffer s stack old σ). upd 𝓤 (𝓜.mem σ ∗ Buffer (length old) old)) P λ e. fact_i 𝓤 Some _ ∣ (σ, e) ∣₁))
        (has-space P there))
        ∥∥₁_prop λ some-memory. some-memory

    pub with_buffer : (σ : Memory) → WithBuffer s stack old σ → σ has Buffer (length old) old ∗ P
    with_buffer σ is-stored =
        let filled : Assertion = Buffer (length old) old in
        sat_upd 𝓤 H 𝓜 fresh σ (Space ∗ P) (filled ∗ P)
        (via 𝓤 (ex 𝓤 Filled ∗ P) (stores fit P)
        (ex∗ 𝓤 Filled P λ σ'.
        ex∗ 𝓤 (λ (_ : WithBuffer s stack old σ'). upd 𝓤 (𝓜.mem σ' ∗ filled)) P λ e.
        subst (λ σ₁. ent 𝓤 (upd 𝓤 (𝓜.mem σ' ∗ filled) ∗ P) (upd 𝓤 (𝓜.mem σ₁ ∗ filled ∗ P))) (some-injective σ' σ (sym e ∙ is-stored))
        (via 𝓤 (upd 𝓤 ((𝓜.mem σ' ∗ filled) ∗ P)) (upd_frame 𝓤 (𝓜.mem σ' ∗ filled) P) (upd_mono 𝓤 (assoc∗ 𝓤 (𝓜.mem σ') filled P)))))
        (has-space P there)

-- ---- words are lent to be written, and taken back

module _ (j : ℕ) (ws : List ℕ) where
  abbrev pub words : ℕ → GName → Assertion
  words α γ = meaning 𝓤 H A ((MutSlice (named j) (α ∷ []) u64).own_val (referred_to_write 2 ws γ) (whole 2 ws ∷ []))

  abbrev pub words_kept : ℕ → GName → Assertion
  words_kept α γ = A.lent (α ∷ []) (Held u64 (length ws) 2 0 γ)

  pub lends_words : Room u64 (length ws) → Lends (Buffer (length ws) ws) words words_kept
  lends_words room =
      qed W (raw (Buffer (length ws) ws) ∷ []) ∵ updating ! $ use1 W (‵ (cells (mem u64) ws 2 0)) (words_in (length ws) ws) $
      lft_new ! tt (λ α. move ! (1 ∷ []) $
      use1 W (later (some (λ (γ : GName). raw (words α γ) ⊛ raw (words_kept α γ)))) (lends_slice W u64 (named j) (α ∷ []) ws 2 0 room) $
      await ! tt $ pick ! (λ γ. split ! $ at_once ! $
      show ! (λ β. ex 𝓤 (λ δ. hold β ∗ words β δ ∗ words_kept β δ)) α $ show ! (λ δ. hold α ∗ words α δ ∗ words_kept α δ) γ $
      move ! (2 ∷ 0 ∷ 1 ∷ []) $ done !))

module _ (n : ℕ) (α : ℕ) (γ : GName) (ws : List ℕ) where
  -- the hold on the lifetime, ws as the last words, and the lender's part
  abbrev Back : Assertion
  Back = hold α ∗ meaning 𝓤 H A (finally u64 γ ws) ∗ A.lent (α ∷ []) (Held u64 n 2 0 γ)

  -- the lifetime is ended, and the buffer is the lender's again
  taken_back : ent 𝓤 Back (H.⇛ (Buffer n ws))
  taken_back =
      qed W (‵ (flft (α ∷ []) full_share) ∷ ‵ (finally u64 γ ws) ∷ ‵ (flent (α ∷ []) (Held u64 n 2 0 γ)) ∷ []) ∵ updating ! $ lft_end ! tt $
      move ! (0 ∷ 2 ∷ []) $ use3 W (later (‵ ((Arr (mem u64) n).own_at ws 2 0))) (slice_back W u64 (α ∷ []) γ ws n 2 0) $
      await ! tt $ at_once ! $ by ! (words_out n ws)

  pub buffer_has : (σ : Memory) (P : Assertion) → ent 𝓤 P Back → σ has P → ∥ BufferHas σ n ws ∥₁
  buffer_has σ P gives s =
      let now : Assertion = 𝓜.mem σ ∗ Buffer n ws in
      sat_fact 𝓤 H 𝓜 σ (Buffer n ws ∗ emp 𝓤) (BufferHas σ n ws)
      (via 𝓤 (now ∗ emp 𝓤) (assoc' 𝓤 (𝓜.mem σ) (Buffer n ws) (emp 𝓤))
      (via 𝓤 now (fst∗ 𝓤 now (emp 𝓤))
      (via 𝓤 (guard 𝓤 (BufferHas σ n ws) now) (𝓜.at_load σ full_share (buffer_type n) 2 0 (words_value ws))
      (guard_e 𝓤 (BufferHas σ n ws) now (fact_i 𝓤 (BufferHas σ n ws) now)))))
      (sat_⇛ 𝓤 H 𝓜 σ (Buffer n ws) (emp 𝓤)
      (sat_weaken 𝓤 H 𝓜 σ
      (qed W (raw P ∷ []) ∵ use1 W (raw (H.⇛ (Buffer n ws))) (via 𝓤 Back gives taken_back) $ nothing ! $ move ! (1 ∷ []) $ done !) s))
