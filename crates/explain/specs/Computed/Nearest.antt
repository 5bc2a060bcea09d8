-- The covered addresses nearest to a PC that no function covers, as they are looked for: function after function, on one side. What they
-- are in plain words is said in Why (`NearestBelow`, `NearestAbove`).
use Rattle.std.specs.Prelude.{ℕ, Bool, true, false, not, ◌&&◌, List, eqb, ℤ, pos, ◌+ℤ◌, ◌-ℤ◌, Option, Some, None}
use Rattle.std.specs.Int.Signed.{le_z, lt_z}
use Rattle.section.specs.Header.{layout_of}
use Rattle.section.specs.Meaning.{entry_in, function_start}
use Rattle.explain.specs.Computed.Each.{each}
use Rattle.explain.specs.declared.nearby.Side.{Side}
use Rattle.explain.specs.declared.nearby.Side.TheVariants.{Below, Above}
use Rattle.explain.specs.declared.why.Covered.{Covered}

-- of a function with this start and size, the address that is nearest from that side: below d its last, above d its first
unfoldable pub edge_of : Side → ℤ → ℕ → ℤ
edge_of Below start size = (start +ℤ pos size) -ℤ pos 1
edge_of Above start size = start

-- whether it lies on that side of d
unfoldable pub on_side : Side → ℤ → ℤ → ℕ → Bool
on_side Below d start size = le_z (start +ℤ pos size) d
on_side Above d start size = lt_z d start

-- whether an address is nearer to d than the one known
unfoldable pub is_nearer : Side → ℤ → Option Covered → Bool
is_nearer side z None = true
is_nearer Below z (Some known) = lt_z known.offset.by z
is_nearer Above z (Some known) = lt_z z known.offset.by

-- the nearest so far, with function i tried: "functions of size 0 cover nothing", and of two that are as near the lower stands
unfoldable pub tried : Side → ℤ → ℤ → ℕ → ℕ → Option Covered → Option Covered
tried side d start size i known =
    elim (not (eqb size 0) && (on_side side d start size && is_nearer side (edge_of side start size) known))
    [ true ↦ Some (record { offset = record { by = edge_of side start size }; function = i }) | false ↦ known ]

-- of all functions
unfoldable pub nearest_in : List ℕ → Side → ℤ → Option Covered
nearest_in s side d = each (λ known i. tried side d (function_start s i) (entry_in s i).size i known) (layout_of s).functions 0 None
