-- Why a step gives its answer, in the step's order: the first rule that refuses, with the numbers that it compares. That what is said
-- holds, and implies the answer, is proved of Why.
use Rattle.std.specs.Prelude.{ℕ, true, false, List, length, Option, Some, None, Result, Ok, Err}
use Rattle.numbers.specs.Start.{distance}
use Rattle.numbers.specs.Computed.Address.{in_memory, window_fits}
use Rattle.numbers.specs.declared.field.Order.{Order}
use Rattle.numbers.specs.declared.offset.Offset.{Offset}
use Rattle.section.specs.Meaning.{shape_of}
use Rattle.section.specs.declared.row.Place.{Place}
use Rattle.section.specs.declared.row.Place.TheVariants.{Register, AtOffset}
use Rattle.section.specs.declared.row.Row.{Row}
use Rattle.section.specs.declared.shape.Shape.{Shape}
use Rattle.accept.specs.Computed.Checks.{verdict}
use Rattle.accept.specs.Verdict.{Verdict}
use Rattle.accept.specs.Verdict as verdict
use Rattle.caller.specs.Frame.{asked_of, base_value, cfa_of, caller_sp}
use Rattle.caller.specs.Signature.{mask_of, clear}
use Rattle.caller.specs.Computed.Caller.{is_maskless, is_low, spot_of, is_lost, value_of}
use Rattle.caller.specs.declared.registers.Process.{Process}
use Rattle.caller.specs.declared.registers.Registers.{Registers}
use Rattle.caller.specs.declared.place.Needed.{Needed}
use Rattle.caller.specs.declared.place.Needed.TheVariants.{Ra, Fp}
use Rattle.explain.specs.Computed.Coverers.{no_coverers}
use Rattle.explain.specs.Computed.Lookup.{looked_of}
use Rattle.explain.specs.StepReason.{StepReason, StepWhy}
use Rattle.explain.specs.StepReason as reason
use Rattle.explain.specs.declared.why.FoundRow.{FoundRow}
use Rattle.explain.specs.declared.why.LookedWhy.{LookedWhy}
use Rattle.explain.specs.declared.why.NotFound.{NotFound}
use Rattle.explain.specs.declared.why.RowReason.{RowReason}
use Rattle.explain.specs.declared.why.RowReason.TheVariants.{Caller, Signed, CfaOutside, CfaLow, RaLost, WordOutside}

-- ---- what stands at a saved place, or the offset of a word that is not wholly inside the window

unfoldable pub fetched_at : Offset → Option ℕ → Result ℕ Offset
fetched_at offset (Some value) = Ok value
fetched_at offset None = Err offset

unfoldable pub fetched_of : List ℕ → ℕ → Order → ℕ → ℕ → Place → Result ℕ Offset
fetched_of stack lies order cfa register Register = Ok register
fetched_of stack lies order cfa register (AtOffset offset) =
    fetched_at offset (value_of stack lies order register (spot_of cfa (AtOffset offset)))

-- ---- the rules of a row, from the last on, since each names what follows it

-- "28 which word (RA's or FP's), CFA and the offset .., and the window's first address and length"
unfoldable pub outside_why : Needed → ℕ → Offset → List ℕ → ℕ → RowReason
outside_why word cfa offset stack lies = WordOutside word cfa offset lies (length stack)

-- "with CFA and where RA and FP came from": RA as it is read, and the caller, whose PC has the bits of the mask cleared
unfoldable pub caller_why : Registers → ℕ → ℕ → ℕ → ℕ → RowReason
caller_why registers mask cfa ra fp =
    Caller (record { pc = clear mask ra; sp = caller_sp cfa; fp = fp; lr = registers.lr; first = 0 }) cfa ra

unfoldable pub with_ra : Registers → List ℕ → ℕ → ℕ → ℕ → ℕ → Result ℕ Offset → RowReason
with_ra registers stack lies mask cfa ra (Err offset) = outside_why Fp cfa offset stack lies
with_ra registers stack lies mask cfa ra (Ok fp) = caller_why registers mask cfa ra fp

-- "a needed word (RA first)"
unfoldable pub from_words : Registers → List ℕ → ℕ → ℕ → ℕ → Result ℕ Offset → Result ℕ Offset → RowReason
from_words registers stack lies mask cfa (Err offset) fp = outside_why Ra cfa offset stack lies
from_words registers stack lies mask cfa (Ok ra) fp = with_ra registers stack lies mask cfa ra fp

-- "27 that RA has no place, and the mark"
unfoldable pub from_high : Shape → List ℕ → Process → Registers → Row → ℕ → RowReason
from_high shape stack process registers row cfa =
    elim (is_lost registers (spot_of cfa row.ra)) [
      | true ↦ RaLost registers.first
      | false ↦ from_words registers stack process.stack (mask_of shape row process) cfa
          (fetched_of stack process.stack shape.order cfa registers.lr row.ra)
          (fetched_of stack process.stack shape.order cfa registers.fp row.fp)
    ]

-- "26 the caller's SP and SP, and the mark"
unfoldable pub from_cfa_why : Shape → List ℕ → Process → Registers → Row → ℕ → RowReason
from_cfa_why shape stack process registers row cfa =
    elim (is_low registers (caller_sp cfa)) [
      | true ↦ CfaLow (caller_sp cfa) registers.sp registers.first
      | false ↦ from_high shape stack process registers row cfa
    ]

-- "25 the base register's value and the offset"
unfoldable pub by_address : Shape → List ℕ → Process → Registers → Row → Option ℕ → RowReason
by_address shape stack process registers row None = CfaOutside (base_value registers row.base) row.cfa
by_address shape stack process registers row (Some cfa) = from_cfa_why shape stack process registers row cfa

-- "24 the signed bit and the mask"
unfoldable pub from_row_why : Shape → List ℕ → Process → Registers → Row → RowReason
from_row_why shape stack process registers row =
    elim (is_maskless shape row process) [
      | true ↦ Signed row.signed process.mask
      | false ↦ by_address shape stack process registers row (in_memory (cfa_of registers row))
    ]

-- ---- the step

-- "21 to 23 of a step as of a lookup", and the row that it finds
unfoldable pub by_reason : Shape → List ℕ → Process → Registers → ℕ → Result FoundRow NotFound → StepReason
by_reason shape stack process registers pc (Err missing) = reason.NotFound pc missing
by_reason shape stack process registers pc (Ok found) =
    reason.FromRow found (from_row_why shape stack process registers found.row) pc

unfoldable pub by_looked : Shape → List ℕ → Process → Registers → ℕ → LookedWhy → StepWhy
by_looked shape stack process registers pc why =
    record { reason = by_reason shape stack process registers pc why.looked; coverers = why.coverers }

unfoldable pub unlooked_why : StepReason → StepWhy
unlooked_why why = record { reason = why; coverers = no_coverers }

-- "For a step, PC is the one looked up; 21 at PC 0 without the mark says just that."
unfoldable pub asked_why : List ℕ → List ℕ → Process → Registers → Option ℕ → StepWhy
asked_why s stack process registers None = unlooked_why reason.NothingAsked
asked_why s stack process registers (Some pc) =
    by_looked (shape_of s) stack process registers pc (looked_of s (distance process.section pc))

unfoldable pub checked_why : List ℕ → List ℕ → Process → Registers → Verdict → StepWhy
checked_why s stack process registers verdict.Accepted = asked_why s stack process registers (asked_of registers)
checked_why s stack process registers (verdict.Refused number index) = unlooked_why (reason.Unsound number index)

-- on any section; "41 by the two numbers added"
unfoldable pub step_why : List ℕ → List ℕ → Process → Registers → StepWhy
step_why s stack process registers =
    elim (window_fits stack process.stack) [
      | true ↦ checked_why s stack process registers (verdict s)
      | false ↦ unlooked_why (reason.Window process.stack (length stack))
    ]
