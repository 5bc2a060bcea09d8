-- The function landed on, by its index in the section.
-- Assumes nothing.
use mathlib.Core.Path.{◌≡◌, ◌∙◌, ap}
use mathlib.Core.Bool.{Bool, true, false}
use mathlib.Core.List.{List}
use Prim.Native.Nat.{ℕ, suc, ◌-◌, ◌≤◌, ◌<◌}
use native.Mathlib.Omega.{arith}
use lib.IntN.{ℤ}
use lib.ListN.{get_or}
use Rattle.section.specs.Header.{layout_of}
use Rattle.section.specs.Meaning.{function_in, functions_of}
use Rattle.section.proofs.ListedLaws.{functions_get}
use Rattle.lookup.specs.Halving.{empty_function}
use Rattle.lookup.specs.Computed.Covering.{covers}
use Rattle.lookup.specs.Inner.Search.{landed_on}
use Rattle.lookup.specs.declared.search.Cover.TheVariants.{Nobody, One}

pub landed_nowhere : (s : List ℕ) (z : ℤ) (low : ℕ) → low ≡ 0 → landed_on z (functions_of s) low ≡ Nobody
unfolding landed_on
landed_nowhere s z low e = rw e

module _ (s : List ℕ) (z : ℤ) (low : ℕ) (above : 0 < low) (within : low ≤ (layout_of s).functions) where
  before-low : landed_on z (functions_of s) low ≡ landed_on z (functions_of s) (suc (low - 1))
  before-low = ap (landed_on z (functions_of s)) (omega arith)

  there : {t : Bool} → covers z (function_in s (low - 1)) ≡ t → covers z (get_or (functions_of s) (low - 1) empty_function) ≡ t
  there e = ap (covers z) (functions_get s (low - 1) empty_function (omega arith)) ∙ e

  pub landed_inside : covers z (function_in s (low - 1)) ≡ true → landed_on z (functions_of s) low ≡ One (low - 1)
  unfolding landed_on
  landed_inside e = before-low ∙ (rw (there e, landed_on))

  pub landed_outside : covers z (function_in s (low - 1)) ≡ false → landed_on z (functions_of s) low ≡ Nobody
  unfolding landed_on
  landed_outside e = before-low ∙ (rw (there e, landed_on))
