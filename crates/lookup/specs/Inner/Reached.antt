-- The entry of a function that covers d, with the offset of d in its block.
use Rattle.std.specs.Prelude.{ℕ, List, ℤ}
use Rattle.section.specs.Meaning.{entry_in, function_in}
use Rattle.lookup.specs.Computed.Rows.{offset_within}
use Rattle.lookup.specs.declared.look.Reached.{Reached}

unfoldable pub reached_in : List ℕ → ℤ → ℕ → Reached
reached_in s d i = record { entry = entry_in s i; offset = offset_within d (function_in s i) }
