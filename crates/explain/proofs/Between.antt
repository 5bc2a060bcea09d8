-- Nothing strictly between the two nearest covered addresses is covered, d included.
-- Assumes nothing.
use mathlib.Core.List.{List}
use Prim.Native.Nat.{ℕ}
use lib.IntN.{ℤ}
use lib.Signed.{◌≤ℤ◌, le_z}
use Rattle.std.specs.Prelude.{Option, Some, None}
use Rattle.lookup.specs.Cases.{NoneCovers}
use Rattle.lookup.proofs.CoveringLaws.{by_value, le_shows}
use Rattle.explain.specs.Why.{NearestBelow, NearestAbove, Behind, Before, Between}
use Rattle.explain.specs.declared.why.Covered.{Covered}
use Rattle.explain.proofs.WholeLaws.{not_le, less_at_most}

module _ (s : List ℕ) (d : ℤ) where
  up_to : (below : Option Covered) → NearestBelow s d below → (z : ℤ) → Behind below z → z ≤ℤ d → NoneCovers s z
  up_to (Some covered) h z behind le = h.2 z behind le
  up_to None h z behind le = h z le

  from_on : (above : Option Covered) → NearestAbove s d above → (z : ℤ) → Before above z → d ≤ℤ z → NoneCovers s z
  from_on (Some covered) h z before le = h.2 z before le
  from_on None h z before le = h z le

  -- "no address strictly between the two, PC included, is covered"
  pub between_none : (below above : Option Covered) → NearestBelow s d below → NearestAbove s d above → (z : ℤ) → Between below above z → NoneCovers s z
  between_none below above near far z (behind, before) =
      by_value (le_z z d)
      (λ e. up_to below near z behind ((le_shows z d).holds e))
      (λ e. from_on above far z before (less_at_most (not_le ((le_shows z d).broken e))))
