-- Explanations on written-out sections, each by computation: the examples of SPECIFICATION 7.8, and sums that are no address.
-- Assumes nothing.
use mathlib.Core.Path.{◌≡◌, refl}
use mathlib.Core.Bool.{Bool, true, false}
use mathlib.Core.List.{List, [], ◌∷◌, map}
use Prim.Native.Nat.{ℕ, ◌-◌, ◌^◌}
use lib.IntN.{ℤ, pos, negsuc}
use lib.ListN.{take, replicate, set}
use Rattle.std.specs.Prelude.{Option, Some, None, Result, Ok, Err}
use Rattle.numbers.specs.declared.field.Order.TheVariants.{Little}
use Rattle.section.specs.SectionS.{section_s, overlapping_s, unsorted_s, at_entry, with_frame}
use Rattle.section.specs.Shape.{aarch64_shape}
use Rattle.section.specs.declared.row.Base.TheVariants.{Sp}
use Rattle.section.specs.declared.row.Place.TheVariants.{Register}
use Rattle.section.specs.declared.row.Row.{Row}
use Rattle.caller.specs.declared.registers.Process.{Process}
use Rattle.caller.specs.declared.registers.Registers.{Registers}
use Rattle.caller.specs.declared.place.Needed.TheVariants.{Ra}
use Rattle.explain.specs.Computed.Coverers.{no_coverers}
use Rattle.explain.specs.Computed.Lookup.{lookup_why}
use Rattle.explain.specs.Computed.Step.{from_row_why, step_why}
use Rattle.explain.specs.Computed.Sum.{sum_of}
use Rattle.explain.specs.Inner.Opened.{explain_opened}
use Rattle.explain.specs.LookupReason.{LookupWhy}
use Rattle.explain.specs.LookupReason as lookup
use Rattle.explain.specs.StepReason.{StepReason, StepWhy}
use Rattle.explain.specs.StepReason as step
use Rattle.explain.specs.declared.sums.Sum.{Sum}
use Rattle.explain.specs.declared.sums.Sum.TheVariants.{At, Below, Above}
use Rattle.explain.specs.declared.why.FoundRow.{FoundRow}
use Rattle.explain.specs.declared.why.Covered.{Covered}
use Rattle.explain.specs.declared.why.NotFound.{NotFound}
use Rattle.explain.specs.declared.why.NotFound.TheVariants.{NoFunction, Dispute, NoRow}
use Rattle.explain.specs.declared.why.RowReason.{RowReason}
use Rattle.explain.specs.declared.why.RowReason.TheVariants.{Caller, Signed, CfaOutside, CfaLow, RaLost, WordOutside}

-- ---- lookups, "Loaded at 0x400000"

accepted : Result FoundRow NotFound → LookupWhy
accepted why = record { reason = lookup.Accepted why; coverers = no_coverers }

found : Row → ℕ → ℕ → ℕ → Option ℕ → FoundRow
found row function number offset next = record { row = row; function = function; number = number; offset = offset; next = next }

at : ℤ → ℕ → Option Covered
at by function = Some (record { offset = record { by = by }; function = function })

-- S with function 0 having its row 1 alone, which starts at 4; with function 0 being two repeated blocks of 16 bytes; and with function 0
-- empty
late : List ℕ
late = set (set (set section_s 36 0x03) 40 0x01) 12 0x02

blocks : List ℕ
blocks = set (set section_s 44 0x10) 45 0x10

empty : List ℕ
empty = set section_s 32 0x00

lookups : List (LookupWhy × LookupWhy)
lookups =
    (lookup_why section_s 0x400000 0x401003, accepted (Ok (found at_entry 0 0 3 (Some 4))))
    ∷ (lookup_why section_s 0x400000 0x40101f, accepted (Ok (found with_frame 0 1 31 None)))
    ∷ (lookup_why blocks 0x400000 0x401013, accepted (Ok (found at_entry 0 0 3 (Some 4))))
    ∷ (lookup_why section_s 0x400000 0x400fff, accepted (Err (NoFunction None (at (pos 0x1000) 0))))
    ∷ (lookup_why section_s 0x400000 0x401030, accepted (Err (NoFunction (at (pos 0x101f) 0) (at (pos 0x1040) 1))))
    ∷ (lookup_why section_s 0x400000 0x401050, accepted (Err (NoFunction (at (pos 0x104f) 1) None)))
    ∷ (lookup_why empty 0x400000 0x401000, accepted (Err (NoFunction None (at (pos 0x1040) 1))))
    ∷ (
      lookup_why unsorted_s 0x400000 0x40101f,
      record { reason = lookup.Accepted (Err Dispute); coverers = record { count = 2; indexes = 0 ∷ 1 ∷ replicate 14 0 } },
    )
    ∷ (lookup_why late 0x400000 0x401003, accepted (Err (NoRow 0 3 (Some 4))))
    ∷ (lookup_why (take 77 section_s) 0x400000 0x401003, record { reason = lookup.Unsound 8 0; coverers = no_coverers })
    ∷ []

lookups_are : map (λ pair. pair.0) lookups ≡ map (λ pair. pair.1) lookups
unfolding explain_opened lookups accepted found at late blocks empty section_s overlapping_s unsorted_s at_entry with_frame
lookups_are = refl

-- ---- steps: K10, K12, and one of each other reason

stack : List ℕ
stack = 0x08 ∷ 0x10 ∷ 0x40 ∷ replicate 61 0

loaded : Process
loaded = record { section = 0x400000; stack = 0x7000; mask = 0 }

start : Registers
start = record { pc = 0x401044; sp = 0x7000; fp = 0x7030; lr = 0; first = 1 }

second : Registers
second = record { pc = 0x401008; sp = 0x7008; fp = 0x7030; lr = 0; first = 0 }

from : ℕ → ℕ → Registers
from pc first = record { pc = pc; sp = 0x7000; fp = 0x7030; lr = 0; first = first }

unlooked : StepReason → StepWhy
unlooked why = record { reason = why; coverers = no_coverers }

steps : List (StepWhy × StepWhy)
steps =
    (step_why section_s stack loaded start, unlooked (step.FromRow (found at_entry 1 0 4 None) (Caller second 0x7008 0x401008) 0x401044))
    ∷ (
      step_why section_s (take 63 stack) loaded second,
      unlooked
          (step.FromRow (found with_frame 0 1 7 None) (WordOutside Ra 0x7040 (record { by = negsuc 7 }) 0x7000 63) 0x401007),
    )
    ∷ (
      step_why section_s stack loaded (record { pc = 0x401005; sp = 0x7008; fp = 0x6ff8; lr = 0; first = 0 }),
      unlooked (step.FromRow (found with_frame 0 1 4 None) (CfaLow 0x7008 0x7008 0) 0x401004),
    )
    ∷ (
      step_why section_s stack loaded (record { pc = 0x401004; sp = 0; fp = 2 ^ 64 - 8; lr = 0; first = 1 }),
      unlooked (step.FromRow (found with_frame 0 1 4 None) (CfaOutside (2 ^ 64 - 8) (record { by = pos 16 })) 0x401004),
    )
    ∷ (step_why section_s stack loaded (from 0x401040 0), unlooked (step.NotFound 0x40103f (NoFunction (at (pos 0x101f) 0) (at (pos 0x1040) 1))))
    ∷ (step_why late stack loaded (from 0x401004 0), unlooked (step.NotFound 0x401003 (NoRow 0 3 (Some 4))))
    ∷ (step_why section_s stack loaded (from 0 0), unlooked step.NothingAsked)
    ∷ (step_why (take 77 section_s) stack loaded start, unlooked (step.Unsound 8 0))
    ∷ (step_why section_s stack (record { section = 0x400000; stack = 2 ^ 64 - 63; mask = 0 }) start, unlooked (step.Window (2 ^ 64 - 63) 64))
    ∷ []

steps_are : map (λ pair. pair.0) steps ≡ map (λ pair. pair.1) steps
unfolding explain_opened steps found at late unlooked stack loaded start second from section_s at_entry with_frame
steps_are = refl

-- rows of AArch64 with one offset: 24, 27, and a caller by LR with the bits of the mask cleared
leaf : Bool → ℤ → Row
leaf signed offset = record { start = 0; base = Sp; cfa = record { by = offset }; ra = Register; fp = Register; signed = signed }

marked : Registers
marked = record { pc = 0x401000; sp = 0x7000; fp = 0x7030; lr = 0x35000000401009; first = 7 }

rows : List (RowReason × RowReason)
rows =
    (from_row_why (aarch64_shape Little) stack loaded marked (leaf true (pos 0)), Signed true 0)
    ∷ (from_row_why (aarch64_shape Little) stack loaded (from 0x401001 0) (leaf false (pos 16)), RaLost 0)
    ∷ (
      from_row_why (aarch64_shape Little) stack (record { section = 0; stack = 0x7000; mask = 0xff7f000000000000 }) marked (leaf true (pos 0)),
      Caller (record { pc = 0x401009; sp = 0x7000; fp = 0x7030; lr = 0x35000000401009; first = 0 }) 0x7000 0x35000000401009,
    )
    ∷ []

rows_are : map (λ pair. pair.0) rows ≡ map (λ pair. pair.1) rows
unfolding explain_opened rows leaf marked from stack loaded
rows_are = refl

-- ---- sums

sums : List (Sum × Sum)
sums =
    (sum_of 0x7040 (negsuc 7), At 0x7038)
    ∷ (sum_of 8 (negsuc 7), At 0)
    ∷ (sum_of 8 (negsuc 8), Below 1)
    ∷ (sum_of (2 ^ 64 - 8) (pos 7), At (2 ^ 64 - 1))
    ∷ (sum_of (2 ^ 64 - 8) (pos 16), Above 9)
    ∷ []

sums_are : map (λ pair. pair.0) sums ≡ map (λ pair. pair.1) sums
unfolding explain_opened sums
sums_are = refl
