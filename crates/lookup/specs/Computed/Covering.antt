-- Document 01, "Finding the row": which functions cover a PC.
use Rattle.std.specs.Prelude.{ℕ, suc, Bool, true, false, ◌&&◌, List, [], ◌∷◌, ℤ, pos, ◌+ℤ◌}
use Rattle.std.specs.Int.Signed.{le_z, lt_z}
use Rattle.section.specs.Meaning.{Function}
use Rattle.lookup.specs.declared.search.Cover.{Cover}
use Rattle.lookup.specs.declared.search.Cover.TheVariants.{Nobody, One, Two}

-- "A function covers PC when start <= d < start + size; size 0 covers nothing."
unfoldable pub covers : ℤ → Function → Bool
covers d f = le_z f.start d && lt_z d (f.start +ℤ pos f.size)

-- the indexes of all functions that cover, rising; the first of the list has index i
unfoldable pub covering_from : ℤ → ℕ → List Function → List ℕ
covering_from d i [] = []
covering_from d i (f ∷ fs) = elim (covers d f) [ true ↦ i ∷ covering_from d (suc i) fs | false ↦ covering_from d (suc i) fs ]

unfoldable pub covering : ℤ → List Function → List ℕ
covering d functions = covering_from d 0 functions

-- "21: no function covers", one does, or "22: two or more do .. the two lowest indexes"
unfoldable pub cover_of : List ℕ → Cover
cover_of [] = Nobody
cover_of (i ∷ []) = One i
cover_of (i ∷ j ∷ more) = Two i j
