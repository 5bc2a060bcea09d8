-- How the code looks for the nearest covered address: each function has a key, by how its start is held, and the largest is nearest.
use Rattle.std.specs.Prelude.{ℕ, ◌+◌, ◌-◌, ◌^◌, true, false, leb, ltb, eqb, pos, ◌-ℤ◌, Option, Some, None}
use Rattle.explain.specs.declared.nearby.Best.{Best}
use Rattle.explain.specs.declared.nearby.Side.{Side}
use Rattle.explain.specs.declared.nearby.Side.TheVariants.{Below, Above}
use Rattle.explain.specs.declared.why.Covered.{Covered}

-- the key of a function that is not empty: below d its end, above d how far it starts from 2 ^ 34, and 0 where it is not on that side
unfoldable pub side_key : Side → ℕ → ℕ → ℕ → ℕ
side_key Below start size d = elim (leb (start + size) d) [ true ↦ start + size | false ↦ 0 ]
side_key Above start size d = elim (ltb d start) [ true ↦ 2 ^ 34 - start | false ↦ 0 ]

unfoldable pub key_by : Side → ℕ → ℕ → ℕ → ℕ
key_by side start size d = elim (eqb size 0) [ true ↦ 0 | false ↦ side_key side start size d ]

-- a key that is no larger changes nothing
unfoldable pub better : Best → ℕ → ℕ → Best
better best key i = elim (ltb best.key key) [ true ↦ record { key = key; function = i } | false ↦ best ]

-- the address that a key stands for, as it is held
unfoldable pub held_of : Side → ℕ → ℕ
held_of Below key = key - 1
held_of Above key = 2 ^ 34 - key

unfoldable pub nearest_of : Side → Best → Option Covered
nearest_of side best =
    elim (eqb best.key 0)
    [ true ↦ None | false ↦ Some (record { offset = record { by = pos (held_of side best.key) -ℤ pos (2 ^ 32) }; function = best.function }) ]
