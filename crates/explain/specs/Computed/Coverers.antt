-- All functions that cover, as the code gathers them: how many, and the first sixteen. What they are in plain words is said in Why
-- (`AllCovering`).
use Rattle.std.specs.Prelude.{ℕ, ◌+◌, Bool, true, false, List, ltb, ℤ, set, replicate}
use Rattle.section.specs.Header.{layout_of}
use Rattle.section.specs.Meaning.{function_in}
use Rattle.lookup.specs.Computed.Covering.{covers}
use Rattle.explain.specs.Computed.Each.{each}
use Rattle.explain.specs.declared.why.Coverers.{Coverers}

unfoldable pub no_coverers : Coverers
no_coverers = record { count = 0; indexes = replicate 16 0 }

-- the indexes with one more, "up to 16"
unfoldable pub placed : ℕ → ℕ → List ℕ → List ℕ
placed count i indexes = elim (ltb count 16) [ true ↦ set indexes count i | false ↦ indexes ]

-- one more, "and how many there are in all"
unfoldable pub with_index : Coverers → ℕ → Coverers
with_index known i = record { count = known.count + 1; indexes = placed known.count i known.indexes }

unfoldable pub with_if : Bool → ℕ → Coverers → Coverers
with_if true i known = with_index known i
with_if false i known = known

-- every function that covers
unfoldable pub coverers_in : List ℕ → ℤ → Coverers
coverers_in s d = each (λ known i. with_if (covers d (function_in s i)) i known) (layout_of s).functions 0 no_coverers
