-- Two sorted sections that list the same functions compare equally many entries. Functions of size 0 may change places in them, but
-- the starts, which are all that the halving reads, are the same list: both rise, and one is the other in some order.
-- Assumes nothing.
use mathlib.Core.Path.{◌≡◌, sym, ◌∙◌, ap, fun_ext}
use mathlib.Core.Bool.{true}
use mathlib.Core.List.Memᴰ
use mathlib.Core.List.Perm
use mathlib.Core.List.Pairwise
use mathlib.Core.List.{List, [], ◌∷◌, map, Mem, Memᴰ, mem-cons_self, Pairwise, rel_of_Pairwise-cons, Perm}
use mathlib.Core.Logic.{∥∥₁_elim, ⊎_elim}
use Prim.Native.Nat.{ℕ, zero, suc, ◌+◌, ◌≤◌, ◌<◌}
use native.Mathlib.Omega.{arith}
use lib.Dec.{T_prop, leb→le}
use lib.IntN.{ℤ, pos, negsuc}
use lib.ListN.{length, get_or, length-map, get_or-map}
use lib.Signed.{◌≤ℤ◌, le_z, ≤ℤ_refl}
use Rattle.section.specs.Header.{layout_of}
use Rattle.section.specs.Meaning.{Function, listed, function_in, functions_of}
use Rattle.accept.specs.Rules.{function_count}
use Rattle.accept.specs.Computed.Checks.{verdict}
use Rattle.accept.specs.Verdict.{Accepted}
use Rattle.accept.proofs.AcceptedLaws.{accepted_laws, pass_on, no_less}
use Rattle.lookup.specs.Halving.{halve, empty_function, starts_at_most, landing}
use Rattle.lookup.specs.declared.search.Landing.{Landing}
use Rattle.promises.specs.SameFunctions.{SameFunctions}
use Rattle.promises.proofs.OrderLaws.{same_reordered}

-- ---- the halving goes by the starts

abbrev pub starts_of : List Function → List ℤ
starts_of fs = map (λ f. f.start) fs

halving_of : ℤ → List ℤ → Landing
halving_of d zs = halve (λ i. le_z (get_or zs i empty_function.start) d) (length zs) 0 (length zs) 0

landing_by_starts : (d : ℤ) (fs : List Function) → landing d fs ≡ halving_of d (starts_of fs)
unfolding landing starts_at_most halving_of
landing_by_starts d fs =
    rw (length-map fs (λ f. f.start))
    (ap (λ at_most. halve at_most (length fs) 0 (length fs) 0)
    (fun_ext λ i. ap (λ z. le_z z d) (sym (get_or-map (λ f. f.start) fs i empty_function))))

-- ---- two rising lists of the same numbers

le_prop : {y z : ℤ} → IsProp (y ≤ℤ z)
le_prop {y} {z} p q = λ i. record { le = T_prop (le_z y z) p.le q.le i }

le_both : (y z : ℤ) → y ≤ℤ z → z ≤ℤ y → y ≡ z
le_both (pos a) (pos b) p q = let le = leb→le a b p.le in let ge = leb→le b a q.le in ap pos (omega arith)
le_both (pos a) (negsuc b) p q = absurd p.le
le_both (negsuc a) (pos b) p q = absurd q.le
le_both (negsuc a) (negsuc b) p q = let le = leb→le b a p.le in let ge = leb→le a b q.le in ap negsuc (omega arith)

abbrev Rising : List ℤ → Type 0
Rising zs = Pairwise ◌≤ℤ◌ zs

-- the first is the least
first_least : {y z : ℤ} {zs : List ℤ} → Rising (z ∷ zs) → Mem y (z ∷ zs) → z ≤ℤ y
first_least {y} {z} rising member =
    ∥∥₁_elim member le_prop λ place. ⊎_elim (λ e. rw e (≤ℤ_refl z)) (λ later. rel_of_Pairwise-cons rising ∣ later ∣₁) (Memᴰ.cases_cons place)

rising_same : (ys zs : List ℤ) → Rising ys → Rising zs → Perm ys zs → ys ≡ zs
rising_same [] zs rises rises' p = Perm.nil-eq p
rising_same (y ∷ ys) [] rises rises' p = Perm.eq-nil p
rising_same (y ∷ ys) (z ∷ zs) rises rises' p =
    let le = first_least rises ((Perm.mem_iff p).1 mem-cons_self) in
    let ge = first_least rises' ((Perm.mem_iff p).0 mem-cons_self) in
    let same : y ≡ z = le_both y z le ge in
    let left = Perm.cons_inv (Perm.trans p (Perm.cons' (sym same) (Perm.refl zs))) in
    let rest : ys ≡ zs = rising_same ys zs (Pairwise.of_cons rises) (Pairwise.of_cons rises') left in
    cc

-- ---- the starts of an accepted sorted section rise

module _ (f : ℕ → Function) where
  all-later : (low : ℤ) (count from : ℕ) → ((j : ℕ) → from ≤ j → j < from + count → low ≤ℤ (f j).start)
      → (z : ℤ) → Memᴰ z (starts_of (listed f count from)) → low ≤ℤ z
  unfolding listed
  all-later low zero from later z member = absurd (Memᴰ.not-nil member)
  all-later low (suc count) from later z member =
      ⊎_elim
      (λ e. rw e (later from (omega arith) (omega arith)))
      (all-later low count (suc from) (λ j le lt. later j (omega arith) (omega arith)) z)
      (Memᴰ.cases_cons member)

  listed-rise : (count from : ℕ) → ((i j : ℕ) → i < j → j < from + count → (f i).start ≤ℤ (f j).start) → Rising (starts_of (listed f count from))
  unfolding listed
  listed-rise zero from rise = Pairwise.nil
  listed-rise (suc count) from rise =
      Pairwise.cons
      (λ z member. ∥∥₁_elim member le_prop (all-later (f from).start count (suc from) (λ j le lt. rise from j le (omega arith)) z))
      (listed-rise count (suc from) (λ i j less lt. rise i j less (omega arith)))

starts_rise : (s : List ℕ) → verdict s ≡ Accepted → (layout_of s).sorted ≡ true → Rising (starts_of (functions_of s))
unfolding functions_of function_in function_count
starts_rise s accepted sorted =
    listed-rise (function_in s) (layout_of s).functions 0 λ i j less lt.
    pass_on (no_less (function_in s i).start (function_in s i).size) ((accepted_laws s accepted).apart sorted i j less (omega arith))

-- ---- the count

pub same_starts : (s t : List ℕ) → verdict s ≡ Accepted → verdict t ≡ Accepted → (layout_of s).sorted ≡ true → (layout_of t).sorted ≡ true
    → SameFunctions s t → starts_of (functions_of s) ≡ starts_of (functions_of t)
same_starts s t accepted accepted' sorted sorted' same =
    rising_same _ _ (starts_rise s accepted sorted) (starts_rise t accepted' sorted') (Perm.map (λ f. f.start) (same_reordered same))

pub same_compared : (s t : List ℕ) → verdict s ≡ Accepted → verdict t ≡ Accepted → (layout_of s).sorted ≡ true → (layout_of t).sorted ≡ true
    → SameFunctions s t → (d : ℤ) → (landing d (functions_of s)).compared ≡ (landing d (functions_of t)).compared
same_compared s t accepted accepted' sorted sorted' same d =
    ap (λ landing. landing.compared)
    (landing_by_starts d (functions_of s)
    ∙ ap (halving_of d) (same_starts s t accepted accepted' sorted sorted' same)
    ∙ sym (landing_by_starts d (functions_of t)))
