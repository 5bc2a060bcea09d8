-- How the code unpacks an offset: in one place, into unsigned numbers.
use Rattle.std.specs.Prelude.{◌+◌, ℤ, pos, negsuc}
use Rattle.numbers.specs.declared.offset.Shift.{Shift}
use Rattle.numbers.specs.declared.offset.Shift.TheVariants.{Up, Down}

-- a signed number as a way up or down
unfoldable pub shift_of : ℤ → Shift
shift_of (pos k) = Up k
shift_of (negsuc k) = Down (k + 1)
