-- Addresses and words of memory, over exact whole numbers: nothing wraps.
use Rattle.std.specs.Prelude.{ℕ, ◌+◌, ◌-◌, ◌^◌, Bool, true, false, ◌&&◌, List, leb, ltb, length, ℤ, pos, negsuc, ◌+ℤ◌, Option, Some, None}
use Rattle.numbers.specs.Field.{field_of}
use Rattle.numbers.specs.declared.field.Order.{Order}

-- a whole number as an address, or outside 0 to 2 ^ 64 - 1
unfoldable pub in_memory : ℤ → Option ℕ
in_memory (pos n) = elim (ltb n (2 ^ 64)) [ true ↦ Some n | false ↦ None ]
in_memory (negsuc n) = None

-- "CFA is base plus first offset. 25 when outside 0 to 2^64 - 1.": a base plus an offset
unfoldable pub address_of : ℕ → ℤ → Option ℕ
address_of base by = in_memory (pos base +ℤ by)

-- "stack address plus length above 2^64" is refused: whether a window that lies at an address ends within memory
unfoldable pub window_fits : List ℕ → ℕ → Bool
window_fits window lies = leb (lies + length window) (2 ^ 64)

-- whether the 8 bytes at an address are "wholly inside the stack window"
unfoldable pub wholly : List ℕ → ℕ → ℕ → Bool
wholly window lies at = leb lies at && leb (at + 8) (lies + length window)

-- "Words are 8 bytes in the section's byte order": the word at an address of a window that lies at another
unfoldable pub word_of : List ℕ → ℕ → ℕ → Order → Option ℕ
word_of window lies at order = elim (wholly window lies at) [ true ↦ Some (field_of window (at - lies) 8 order) | false ↦ None ]
