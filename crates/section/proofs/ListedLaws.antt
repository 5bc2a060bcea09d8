-- A list made by index: how long it is, what stands at each place of it, and when two of them are the same.
-- Assumes nothing.
use mathlib.Core.Path.{◌≡◌, refl, sym, ◌∙◌, ap}
use mathlib.Core.List.{List}
use mathlib.Core.Logic.{◌↔◌}
use Prim.Native.Nat.{ℕ, zero, suc, ◌+◌, ◌<◌}
use native.Mathlib.Nat.{zero-add}
use native.Mathlib.Omega.{arith}
use lib.ListN.{length, get_or}
use lib.Seq.{ext_get_or}
use Rattle.section.specs.Header.{layout_of}
use Rattle.section.specs.Meaning.{Function, listed, function_in, functions_of}

module _ {A : Type 0} (f : ℕ → A) where
  pub listed_length : (count from : ℕ) → length (listed f count from) ≡ count
  unfolding listed
  listed_length zero from = refl
  listed_length (suc count) from = ap suc (listed_length count (suc from))

  pub listed_get : (count from k : ℕ) (d : A) → k < count → get_or (listed f count from) k d ≡ f (from + k)
  unfolding listed
  listed_get zero from k d lt = absurd (omega arith)
  listed_get (suc count) from zero d lt = ap f (omega arith)
  listed_get (suc count) from (suc k) d lt = listed_get count (suc from) k d (omega arith) ∙ ap f (omega arith)

  -- from 0 on, place k holds the value at k
  pub listed_at : (count k : ℕ) (d : A) → k < count → get_or (listed f count 0) k d ≡ f k
  listed_at count k d lt = listed_get count 0 k d lt ∙ ap f (zero-add k)

-- two such lists are the same exactly when they are as long and agree at every place
pub listed_same : {A : Type 0} (f g : ℕ → A) (m n : ℕ) → (listed f m 0 ≡ listed g n 0) ↔ ((m ≡ n) × ((k : ℕ) → k < m → f k ≡ g k))
listed_same f g m n = (
  λ e.
      let same : m ≡ n = sym (listed_length f m 0) ∙ ap length e ∙ listed_length g n 0 in
      (same, λ k lt. sym (listed_at f m k (f k) lt) ∙ ap (λ l. get_or l k (f k)) e ∙ listed_at g n k (f k) (omega arith)),
  λ h.
      let (same, agree) = h in
      ext_get_or (f 0) (listed f m 0) (listed g n 0) (listed_length f m 0 ∙ same ∙ sym (listed_length g n 0)) λ k lt.
      let below : k < m = rw listed_length at lt in
      listed_at f m k (f 0) below ∙ agree k below ∙ sym (listed_at g n k (f 0) (omega arith)),
)

-- ---- the functions of a section

pub functions_length : (s : List ℕ) → length (functions_of s) ≡ (layout_of s).functions
unfolding functions_of
functions_length s = listed_length (function_in s) (layout_of s).functions 0

pub functions_get : (s : List ℕ) (k : ℕ) (d : Function) → k < (layout_of s).functions → get_or (functions_of s) k d ≡ function_in s k
unfolding functions_of
functions_get s k d lt = listed_at (function_in s) (layout_of s).functions k d lt
