-- Which entries the halving rule compares (SPECIFICATION 4.16): their indexes, in the order in which it compares them. There are as many as it
-- counts (`as_many_compared`).
use Rattle.std.specs.Prelude.{ℕ, zero, suc, ◌+◌, ◌/◌, Bool, true, false, List, [], ◌∷◌, ltb, ℤ, length}
use Rattle.section.specs.Meaning.{Function}
use Rattle.lookup.specs.Halving.{starts_at_most}

-- turn by turn as `halve` goes: "while low < high, compare entry (low + high) / 2 rounded down; start at most d moves low to one past it,
-- otherwise high to it"
unfoldable pub middles : (ℕ → Bool) → ℕ → ℕ → ℕ → List ℕ
middles at_most zero low high = []
middles at_most (suc turns) low high =
    elim (ltb low high) [
      | true ↦ (low + high) / 2 ∷ elim (at_most ((low + high) / 2)) [
        | true ↦ middles at_most turns (suc ((low + high) / 2)) high
        | false ↦ middles at_most turns low ((low + high) / 2)
      ]
      | false ↦ []
    ]

-- "over low = 0, high = n"
unfoldable pub entries_compared : ℤ → List Function → List ℕ
entries_compared d functions = middles (starts_at_most d functions) (length functions) 0 (length functions)
