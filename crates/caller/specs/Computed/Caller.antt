-- Document 01, "One caller": the caller's registers from a row, the registers and the stack window, or the first refusal, in
-- document 01's order. A section is known through `look` alone: what a lookup finds at a PC.
use Rattle.std.specs.Prelude.{ℕ, Bool, true, false, not, ◌&&◌, ◌||◌, List, eqb, ltb, Option, Some, None, Result, Ok, Err}
use Rattle.numbers.specs.Computed.Address.{in_memory, address_of, window_fits, word_of}
use Rattle.numbers.specs.declared.field.Order.{Order}
use Rattle.section.specs.Meaning.{shape_of}
use Rattle.section.specs.declared.row.Place.{Place}
use Rattle.section.specs.declared.row.Place.TheVariants.{Register, AtOffset}
use Rattle.section.specs.declared.row.Row.{Row}
use Rattle.section.specs.declared.shape.Shape.{Shape}
use Rattle.accept.specs.Computed.Checks.{verdict}
use Rattle.accept.specs.Verdict.{Verdict}
use Rattle.accept.specs.Verdict as verdict
use Rattle.lookup.specs.Finding.{Finding, finds, refuses}
use Rattle.lookup.specs.Computed.Answers.{look_in}
use Rattle.caller.specs.Frame.{has_mark, asked_of, cfa_of, caller_sp}
use Rattle.caller.specs.Signature.{is_signed, mask_of, clear}
use Rattle.caller.specs.declared.place.Spot.{Spot}
use Rattle.caller.specs.declared.place.Spot.TheVariants.{Kept, Saved, Beyond}
use Rattle.caller.specs.declared.place.Values.{Values}
use Rattle.caller.specs.declared.place.Needed.{Needed}
use Rattle.caller.specs.declared.place.Needed.TheVariants.{Ra, Fp}
use Rattle.caller.specs.declared.registers.Registers.{Registers}
use Rattle.caller.specs.Step.{Step}
use Rattle.caller.specs.Step.{Caller, Unsound, Refused}
use Rattle.caller.specs.declared.registers.Process.{Process}

-- ---- what is tested and read, in document 01's order

-- 24: "AArch64 and the row's signed bit is set.", and "only when the mask is 0"
unfoldable pub is_maskless : Shape → Row → Process → Bool
is_maskless shape row process = is_signed shape row && eqb process.mask 0

-- 26: "CFA below SP, or equal to SP without the first-frame mark.", of the caller's SP
unfoldable pub is_low : Registers → ℕ → Bool
is_low registers sp = ltb sp registers.sp || (eqb sp registers.sp && not (has_mark registers))

-- "Each saved place is one of two kinds, in a register or at an offset from CFA."
unfoldable pub spot_at : Option ℕ → Spot
spot_at (Some at) = Saved at
spot_at None = Beyond

unfoldable pub spot_of : ℕ → Place → Spot
spot_of cfa Register = Kept
spot_of cfa (AtOffset offset) = spot_at (address_of cfa offset.by)

-- "LR when the count is 1 and the mark is set. 27: AArch64, count 1, without the mark."
unfoldable pub is_lost : Registers → Spot → Bool
is_lost registers Kept = not (has_mark registers)
is_lost registers (Saved at) = false
is_lost registers Beyond = false

-- what stands at a place: the register's value, or a word of the stack, where it is "wholly inside the stack window"
unfoldable pub value_of : List ℕ → ℕ → Order → ℕ → Spot → Option ℕ
value_of stack lies order register Kept = Some register
value_of stack lies order register (Saved at) = word_of stack lies at order
value_of stack lies order register Beyond = None

-- "a needed word (RA first)"
unfoldable pub both_of : Option ℕ → Option ℕ → Result Values Needed
both_of None fp = Err Ra
both_of (Some ra) None = Err Fp
both_of (Some ra) (Some fp) = Ok (record { ra = ra; fp = fp })

unfoldable pub values_of : List ℕ → ℕ → Order → Registers → Spot → Spot → Result Values Needed
values_of stack lies order registers ra fp =
    both_of (value_of stack lies order registers.lr ra) (value_of stack lies order registers.fp fp)

-- ---- the checks in document 01's order, each with the old registers where it refuses, else with what comes next

-- 41: "stack address plus length above 2^64"
unfoldable pub if_fits : List ℕ → Process → Registers → Step → Step
if_fits stack process registers next = elim (window_fits stack process.stack) [ true ↦ next | false ↦ Refused registers 41 ]

-- "Then 1 to 15."
unfoldable pub step_after : Registers → Verdict → Step → Step
step_after registers verdict.Accepted next = next
step_after registers (verdict.Refused number index) next = Unsound registers number index

-- "Lookup at PC.", the PC asked; "PC 0 without the mark is answered 21 .. with no lookup made": `look` is not asked
unfoldable pub look_at : (ℕ → Finding) → Option ℕ → Finding
look_at look (Some pc) = look pc
look_at look None = refuses 21

-- "21, 22, 23."
unfoldable pub with_finding : Registers → Finding → (Row → Step) → Step
with_finding registers (finds row number) next = next row
with_finding registers (refuses number) next = Refused registers number

-- 24
unfoldable pub unless_maskless : Shape → Process → Registers → Row → Step → Step
unless_maskless shape process registers row next = elim (is_maskless shape row process) [ true ↦ Refused registers 24 | false ↦ next ]

-- "25 when outside 0 to 2^64 - 1."
unfoldable pub with_cfa : Registers → Option ℕ → (ℕ → Step) → Step
with_cfa registers None next = Refused registers 25
with_cfa registers (Some cfa) next = next cfa

-- 26
unfoldable pub unless_low : Registers → ℕ → Step → Step
unless_low registers cfa next = elim (is_low registers (caller_sp cfa)) [ true ↦ Refused registers 26 | false ↦ next ]

-- 27
unfoldable pub unless_lost : Registers → Spot → Step → Step
unless_lost registers ra next = elim (is_lost registers ra) [ true ↦ Refused registers 27 | false ↦ next ]

-- 28; "The caller has PC = RA, SP = CFA, the new FP, LR unchanged and no mark.", and RA has the bits of this mask cleared, "wherever RA
-- came from"
unfoldable pub with_values : Registers → ℕ → ℕ → Result Values Needed → Step
with_values registers mask cfa (Err word) = Refused registers 28
with_values registers mask cfa (Ok values) =
    Caller (record { pc = clear mask values.ra; sp = caller_sp cfa; fp = values.fp; lr = registers.lr; first = 0 })

-- ---- put together, from the last on, since each names what follows it

-- 27 and 28, of two places and the bits to clear
unfoldable pub from_spots : Shape → List ℕ → Process → Registers → ℕ → ℕ → Spot → Spot → Step
from_spots shape stack process registers mask cfa ra fp =
    unless_lost registers ra (with_values registers mask cfa (values_of stack process.stack shape.order registers ra fp))

-- 26 to 28, of a row and its CFA
unfoldable pub from_cfa : Shape → List ℕ → Process → Registers → Row → ℕ → Step
from_cfa shape stack process registers row cfa =
    unless_low registers cfa
    (from_spots shape stack process registers (mask_of shape row process) cfa (spot_of cfa row.ra) (spot_of cfa row.fp))

-- 24 to 28, of a row
unfoldable pub from_row : Shape → List ℕ → Process → Registers → Row → Step
from_row shape stack process registers row =
    unless_maskless shape process registers row (with_cfa registers (in_memory (cfa_of registers row)) (from_cfa shape stack process registers row))

-- 21 to 28, of what a lookup found
unfoldable pub from_finding : Shape → List ℕ → Process → Registers → Finding → Step
from_finding shape stack process registers found = with_finding registers found (from_row shape stack process registers)

-- the step on a section that was accepted
unfoldable pub step_of : Shape → (ℕ → Finding) → List ℕ → Process → Registers → Step
step_of shape look stack process registers = from_finding shape stack process registers (look_at look (asked_of registers))

-- the step on any section: "41: .. Then 1 to 15."
unfoldable pub step_in : List ℕ → List ℕ → Process → Registers → Step
step_in s stack process registers =
    if_fits stack process registers
    (step_after registers (verdict s) (step_of (shape_of s) (look_in s process.section) stack process registers))
