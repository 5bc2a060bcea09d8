-- What only the code speaks of: how a walk goes on from a caller, and what one write leaves of the buffer.
use Rattle.std.specs.Prelude.{ℕ, List, ◌++◌, take, drop}
use Rattle.caller.specs.declared.registers.Registers.{Registers}
use Rattle.trace.specs.Frames.{over}

-- a caller has "LR unchanged and no mark", so that this is the caller itself (`next_same`)
unfoldable pub next_from : Registers → Registers → Registers
next_from caller last = record { pc = caller.pc; sp = caller.sp; fp = caller.fp; lr = last.lr; first = 0 }

-- words written from a place on
unfoldable pub put : List ℕ → ℕ → List ℕ → List ℕ
put old at words = take at old ++ over words (drop at old)
