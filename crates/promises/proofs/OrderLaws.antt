-- The order in which a section lists its functions changes nothing: sections that list the same functions have as many of them, and
-- find the same at every PC.
-- Assumes nothing.
use mathlib.Core.Path.{◌≡◌, refl, sym, ◌∙◌, ap}
use mathlib.Core.Bool.{true, Bool-discrete}
use mathlib.Core.HLevel.{hedberg, ×_discrete}
use mathlib.Core.List.Permᴰ
use mathlib.Core.List.{List, [], ◌∷◌, List-discrete, filter, Perm, Permᴰ, perm_iff_count}
use mathlib.Core.Logic.{∥∥₁_elim}
use Prim.Native.Nat.{ℕ, suc, ◌+◌}
use native.Mathlib.Decide.{ℕ_discrete}
use native.Mathlib.Nat.{zero-add, add-zero}
use native.Mathlib.Omega.{arith}
use lib.IntN.{ℤ}
use lib.ListN.{length, get_or}
use Rattle.std.specs.Prelude.{Option, Some, None}
use Rattle.numbers.specs.Start.{distance}
use Rattle.section.specs.Header.{layout_from, layout_of}
use Rattle.section.specs.Meaning.{Function, shape_of, functions_of}
use Rattle.section.specs.Shape.{abi_of, shape}
use Rattle.section.specs.declared.row.Row.{Row}
use Rattle.lookup.specs.Finding.{Finding, finds, refuses, finding_of}
use Rattle.lookup.specs.Halving.{empty_function}
use Rattle.lookup.specs.Numbers.{number_of_unfound}
use Rattle.lookup.specs.Computed.Answers.{with_row, with_cover, outcome, answer, answer_of, look_in}
use Rattle.lookup.specs.Computed.Covering.{covers, covering_from, covering, cover_of}
use Rattle.lookup.specs.Computed.Rows.{row_for}
use Rattle.lookup.specs.declared.rows.Hit.{Hit}
use Rattle.lookup.proofs.CoveringLaws.{by_value}
use Rattle.promises.specs.SameFunctions.{SameFunctions}
use Rattle.promises.specs.Inner.Deciding.{by_parts, Row-discrete, Function-discrete}

-- ---- the same functions in another order

pub same_reordered : {s t : List ℕ} → SameFunctions s t → Perm (functions_of s) (functions_of t)
same_reordered {s} {t} same = (perm_iff_count Function-discrete {l₁ = functions_of s} {l₂ = functions_of t}).1 same.often

length_kept : {fs gs : List Function} → Permᴰ fs gs → length fs ≡ length gs
length_kept Permᴰ.nil = refl
length_kept (Permᴰ.cons e p) = ap suc (length_kept p)
length_kept (Permᴰ.swap e e') = refl
length_kept (Permᴰ.trans p q) = length_kept p ∙ length_kept q

-- ---- what is found goes by the functions that cover

abbrev covering_functions : ℤ → List Function → List Function
covering_functions d fs = filter {p = λ f. covers d f ≡ true} (λ f. Bool-discrete (covers d f) true) fs

-- "21: no function covers", "22: two or more do", and "With one function" its row
finding_among : ℤ → List Function → Finding
finding_among d [] = refuses 21
finding_among d (f ∷ []) = finding_of (with_row 0 (row_for d f))
finding_among d (f ∷ g ∷ more) = refuses 22

-- the index is no part of a finding
no_index : (i j : ℕ) (scan : Option Hit) → finding_of (with_row i scan) ≡ finding_of (with_row j scan)
unfolding finding_of number_of_unfound with_row
no_index i j None = refl
no_index i j (Some hit) = refl

module _ (d : ℤ) (all : List Function) where
  -- function i covers, and then those of the rest that do
  one_found : (i from : ℕ) (fs : List Function)
      → finding_of (with_cover d all (cover_of (i ∷ covering_from d from fs))) ≡ finding_among d (get_or all i empty_function ∷ covering_functions d fs)
  unfolding finding_of number_of_unfound with_cover cover_of covering_from finding_among
  one_found i from [] = no_index i 0 (row_for d (get_or all i empty_function))
  one_found i from (f ∷ fs) =
      by_value (covers d f)
      (λ e. rw (e, covering_from))
      (λ e. rw (e, covering_from) (one_found i (suc from) fs))

  -- fs is what stands in the list from index `from` on
  found_from : (from : ℕ) (fs : List Function) → ((k : ℕ) → get_or all (from + k) empty_function ≡ get_or fs k empty_function)
      → finding_of (with_cover d all (cover_of (covering_from d from fs))) ≡ finding_among d (covering_functions d fs)
  unfolding finding_of number_of_unfound with_cover cover_of covering_from finding_among
  found_from from [] stands = refl
  found_from from (f ∷ fs) stands =
      by_value (covers d f)
      (λ e.
      rw (e, covering_from)
      (one_found from (suc from) fs ∙ ap (λ g. finding_among d (g ∷ covering_functions d fs)) (rw add-zero at (stands 0))))
      (λ e. rw (e, covering_from) (found_from (suc from) fs λ k. ap (λ j. get_or all j empty_function) (omega arith) ∙ stands (suc k)))

finding_among_lem : (d : ℤ) (fs : List Function) → finding_of (outcome d fs) ≡ finding_among d (covering_functions d fs)
unfolding outcome covering
finding_among_lem d fs = found_from d fs 0 fs (λ k. ap (λ j. get_or fs j empty_function) (zero-add k))

-- ---- and not by their order

finding_kept : (d : ℤ) {fs gs : List Function} → Permᴰ fs gs → finding_among d fs ≡ finding_among d gs
unfolding finding_among
finding_kept d Permᴰ.nil = refl
finding_kept d (Permᴰ.cons {a = f} {b = g} {l₁ = fs} {l₂ = gs} e p) = alone fs gs (length_kept p)
  where
    alone : (fs gs : List Function) → length fs ≡ length gs → finding_among d (f ∷ fs) ≡ finding_among d (g ∷ gs)
    alone [] [] same = ap (λ f. finding_among d (f ∷ [])) e
    alone [] (g' ∷ gs) same = absurd (omega arith)
    alone (f' ∷ fs) [] same = absurd (omega arith)
    alone (f' ∷ fs) (g' ∷ gs) same = refl
finding_kept d (Permᴰ.swap e e') = refl
finding_kept d (Permᴰ.trans p q) = finding_kept d p ∙ finding_kept d q

-- findings are a set: a row and its number, or no row and the refusal's number
finding_parts : Finding → List Row × ℕ
finding_parts (finds row number) = (row ∷ [], number)
finding_parts (refuses number) = ([], number)

finding_from : List Row × ℕ → Finding
finding_from parts = elim parts.0 [ [] ↦ refuses parts.1 | row ∷ rows ↦ finds row parts.1 ]

finding_back : (finding : Finding) → finding_from (finding_parts finding) ≡ finding
unfolding finding_parts finding_from
finding_back (finds row number) = refl
finding_back (refuses number) = refl

finding_set : IsSet Finding
finding_set = hedberg (by_parts finding_parts finding_from finding_back (×_discrete (List-discrete Row-discrete) ℕ_discrete))

pub same_finding : (s t : List ℕ) → SameFunctions s t → (address pc : ℕ) → look_in s address pc ≡ look_in t address pc
unfolding look_in answer_of answer
same_finding s t same address pc =
    let d = distance address pc in
    finding_among_lem d (functions_of s)
    ∙ ∥∥₁_elim (same_reordered same) (finding_set _ _) (λ p. finding_kept d (Permᴰ.filter _ p))
    ∙ sym (finding_among_lem d (functions_of t))

-- ---- the machine

pub same_shape : (s t : List ℕ) → SameFunctions s t → shape_of s ≡ shape_of t
unfolding shape_of layout_of layout_from
same_shape s t same = ap (λ code. shape (abi_of code)) same.machine
