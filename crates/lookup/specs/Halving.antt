-- Document 01, "Finding the row" (SPECIFICATION 4.8): the number of entries compared, and the halving rule that gives it in a sorted
-- section.
use Rattle.std.specs.Prelude.{ℕ, zero, suc, ◌+◌, ◌/◌, Bool, true, false, List, [], ltb, ℤ, pos, length, get_or}
use Rattle.std.specs.Int.Signed.{le_z}
use Rattle.section.specs.Meaning.{Function, plain}
use Rattle.lookup.specs.declared.search.Landing.{Landing}

-- "while low < high, compare entry (low + high) / 2 rounded down; start at most d moves low to one past it, otherwise high
-- to it; each comparison counts one." The first number bounds the turns: with as many as there are entries, more change nothing
-- (`turns_enough`).
unfoldable pub halve : (ℕ → Bool) → ℕ → ℕ → ℕ → ℕ → Landing
halve at_most zero low high compared = record { low = low; compared = compared }
halve at_most (suc turns) low high compared =
    elim (ltb low high) [
      | true ↦ elim (at_most ((low + high) / 2)) [
        | true ↦ halve at_most turns (suc ((low + high) / 2)) high (suc compared)
        | false ↦ halve at_most turns low ((low + high) / 2) (suc compared)
      ]
      | false ↦ record { low = low; compared = compared }
    ]

-- what stands past the end of a list of functions: one that covers nothing
unfoldable pub empty_function : Function
empty_function = record { start = pos 0; size = 0; block = plain; rows = [] }

-- "start at most d", of the function with this index
unfoldable pub starts_at_most : ℤ → List Function → ℕ → Bool
starts_at_most d functions i = le_z (get_or functions i empty_function).start d

-- "the halving rule over low = 0, high = n"
unfoldable pub landing : ℤ → List Function → Landing
landing d functions = halve (starts_at_most d functions) (length functions) 0 (length functions) 0

-- "The answer carries the number of entries compared. Unsorted: n. Sorted: the halving rule"
unfoldable pub compared : Bool → ℤ → List Function → ℕ
compared sorted d functions = elim sorted [ true ↦ (landing d functions).compared | false ↦ length functions ]
