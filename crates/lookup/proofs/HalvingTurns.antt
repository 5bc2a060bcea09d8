-- One turn of the halving loop at a time: what is left of the halving gives the whole landing.
-- Assumes nothing.
use mathlib.Core.Path.{◌≡◌, sym, ◌∙◌, ap}
use mathlib.Core.Bool.{Bool, true, false}
use mathlib.Core.List.{List}
use Prim.Native.Nat.{ℕ, suc, ◌+◌, ◌-◌, ◌/◌, ◌≤◌, ◌<◌}
use native.Mathlib.Omega.{arith}
use lib.IntN.{ℤ}
use lib.ListN.{length}
use lib.Signed.{le_z}
use Rattle.numbers.specs.Inner.Held.{Near}
use Rattle.section.specs.Header.{layout_of}
use Rattle.section.specs.Meaning.{function_start, function_in, functions_of}
use Rattle.section.specs.declared.header.Layout.{Layout}
use Rattle.section.proofs.ListedLaws.{functions_length, functions_get}
use Rattle.accept.specs.Rules.{function_count}
use Rattle.accept.proofs.AcceptedLaws.{few_functions}
use Rattle.lookup.specs.Halving.{halve, empty_function, starts_at_most, landing}
use Rattle.lookup.specs.Inner.Requires.{HeaderOf}
use Rattle.lookup.proofs.HalvingLaws.{halve_up, halve_down, halve_stop}
use Rattle.lookup.proofs.TableLaws.{header_obeys}

-- the start of function i in the list of functions
starts_in : (s : List ℕ) (z : ℤ) (i : ℕ) → i < (layout_of s).functions → starts_at_most z (functions_of s) i ≡ le_z (function_start s i) z
unfolding starts_at_most function_in
starts_in s z i lt = ap (λ f. le_z f.start z) (functions_get s i empty_function lt)

-- the halving loop at low, high and compared, of the n functions of s
pub record Halved (s : List ℕ) (n d low high compared : ℕ) : Type 0 where
  pub all : n ≡ (layout_of s).functions
  pub few : n ≤ 838859
  pub ordered : low ≤ high
  pub within : high ≤ n
  pub spent : compared + (high - low) ≤ n
  pub same : (z : ℤ) → Near z d → halve (starts_at_most z (functions_of s)) (n - compared) low high compared ≡ landing z (functions_of s)

pub halving_begins : {s : List ℕ} {layout : Layout} (d : ℕ) → HeaderOf s layout → Halved s layout.functions d 0 layout.functions 0
unfolding landing function_count
halving_begins {s} {layout} d header =
    let all : layout.functions ≡ (layout_of s).functions = ap (λ l. l.functions) header.layout_is in
    let counted : length (functions_of s) ≡ layout.functions = functions_length s ∙ sym all in
    let unspent : layout.functions - 0 ≡ layout.functions = omega arith in
    record {
      all = all;
      few = omega (arith, all, few_functions (header_obeys header));
      ordered = omega arith;
      within = omega arith;
      spent = omega arith;
      same = λ z near. rw (counted, unspent);
    }

module _ {s : List ℕ} {n d low high compared : ℕ} (halved : Halved s n d low high compared) (lt : low < high) where
  turns-left : n - compared ≡ suc (n - suc compared)
  turns-left = omega (arith, halved.spent)

  -- the entry that is compared
  pub middle_within : (low + high) / 2 < n
  middle_within = omega (arith, halved.within)

  at-middle : {t : Bool} (z : ℤ) → le_z (function_start s ((low + high) / 2)) z ≡ t → starts_at_most z (functions_of s) ((low + high) / 2) ≡ t
  at-middle z e = starts_in s z _ (rw halved.all at middle_within) ∙ e

  pub goes_up : ((z : ℤ) → Near z d → le_z (function_start s ((low + high) / 2)) z ≡ true)
      → Halved s n d (suc ((low + high) / 2)) high (suc compared)
  goes_up starts =
      record {
        all = halved.all;
        few = halved.few;
        ordered = omega arith;
        within = halved.within;
        spent = omega (arith, halved.spent);
        same = λ z near. sym (halve_up _ _ _ _ _ lt (at-middle z (starts z near))) ∙ (rw turns-left at (halved.same z near));
      }

  pub goes_down : ((z : ℤ) → Near z d → le_z (function_start s ((low + high) / 2)) z ≡ false)
      → Halved s n d low ((low + high) / 2) (suc compared)
  goes_down starts =
      record {
        all = halved.all;
        few = halved.few;
        ordered = omega arith;
        within = omega (arith, halved.within);
        spent = omega (arith, halved.spent);
        same = λ z near. sym (halve_down _ _ _ _ _ lt (at-middle z (starts z near))) ∙ (rw turns-left at (halved.same z near));
      }

pub halving_ends : {s : List ℕ} {n d low high compared : ℕ} → Halved s n d low high compared → high ≤ low → (z : ℤ) → Near z d
    → (record { low = low; compared = compared }) ≡ landing z (functions_of s)
halving_ends halved le z near = sym (halve_stop _ _ _ _ _ le) ∙ halved.same z near
