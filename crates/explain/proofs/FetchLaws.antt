-- What stands at a saved place: its value, or the offset of a word that is not wholly inside the window.
-- Assumes nothing.
use mathlib.Core.Path.{◌≡◌, refl, ap}
use mathlib.Core.List.{List}
use mathlib.Core.Logic.{◌⊎◌, inl, inr, ⊎_elim}
use Prim.Native.Nat.{ℕ, ◌+◌, ◌^◌, ◌≤◌}
use lib.ListN.{length}
use Rattle.std.specs.Prelude.{Ok, Err}
use Rattle.numbers.specs.declared.field.Order.{Order}
use Rattle.numbers.specs.declared.offset.Offset.{Offset}
use Rattle.section.specs.declared.row.Place.{Place}
use Rattle.section.specs.declared.row.Place.TheVariants.{Register, AtOffset}
use Rattle.caller.specs.Cases.{ValueIs, Outside}
use Rattle.caller.proofs.TestLaws.{value_given, no_value, value_decided, of_inside}
use Rattle.explain.specs.Computed.Step.{fetched_at, fetched_of}

module _ (stack : List ℕ) (lies : ℕ) (order : Order) (cfa register : ℕ) where
  -- there is a value
  abbrev pub Fetches : Place → Type 0
  Fetches place = (value : ℕ) × ValueIs stack lies order cfa register place value × (fetched_of stack lies order cfa register place ≡ Ok value)

  -- there is none
  abbrev pub Misses : Place → Type 0
  Misses place =
      (offset : Offset) × (place ≡ AtOffset offset) × Outside stack lies cfa place × (fetched_of stack lies order cfa register place ≡ Err offset)

  pub fetch_decided : lies + length stack ≤ 2 ^ 64 → (place : Place) → Fetches place ⊎ Misses place
  unfolding fetched_of fetched_at
  fetch_decided fits Register = inl (register, refl, refl)
  fetch_decided fits (AtOffset offset) =
      ⊎_elim
      (λ h. inl (h.0, h.1, ap (fetched_at offset) (value_given stack lies order cfa register (AtOffset offset) h.0 fits h.1)))
      (λ out. inr (offset, refl, out, ap (fetched_at offset) (no_value stack lies order cfa register (AtOffset offset) out)))
      (value_decided stack lies order cfa register (AtOffset offset))

-- a value that is there is not outside
pub not_outside : (stack : List ℕ) (lies : ℕ) (order : Order) (cfa register : ℕ) (place : Place) (value : ℕ)
    → ValueIs stack lies order cfa register place value → ¬ Outside stack lies cfa place
not_outside stack lies order cfa register Register value is out = out
not_outside stack lies order cfa register (AtOffset offset) value is out =
    out (rw is.at_is (of_inside stack lies is.at is.from is.to))
