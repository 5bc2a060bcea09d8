-- Request 04: "On AArch64, a row with the signed bit has the mask's bits cleared from RA, wherever RA came from; rows without it leave RA as
-- read. Refusal 24 now comes only when the mask is 0, in its old place. The test for ending 30 uses the cleared RA." What is promised, as a
-- predicate of any four calls. The demands say the same rule by rule; this is what it comes to.
use Rattle.std.specs.Prelude.{◌≡◌, List, ◌⊎◌, ◌↔◌, ℕ, suc, ◌≤◌, ◌<◌, length}
use Rattle.section.specs.Header.{layout_of}
use Rattle.section.specs.Meaning.{shape_of}
use Rattle.section.specs.declared.row.Row.{Row}
use Rattle.section.specs.declared.shape.Abi.TheVariants.{Amd64}
use Rattle.accept.specs.Rules.{Obeys}
use Rattle.caller.specs.Cases.{RowFound, CallerCase}
use Rattle.caller.specs.Numbers.{step_number}
use Rattle.caller.specs.Signature.{Signed, mask_of, with_mask, Cleared, OnlySignature}
use Rattle.caller.specs.declared.registers.Process.{Process}
use Rattle.caller.specs.declared.registers.Registers.{Registers}
use Rattle.caller.specs.Step.{Caller}
use Rattle.trace.specs.Cases.{DoorOpen, Follows}
use Rattle.trace.specs.Frames.{in_force, with_mark}
use Rattle.trace.specs.Ending.{Outermost}
use Rattle.trace.specs.declared.answer.Frame.{Frame}
use Rattle.promises.specs.Calls.{Calls}
use Rattle.promises.specs.StatedContracts.{Keeps}
use Rattle.promises.specs.Demand2.{left_by}

-- ---- a step

pub record StepClears (calls : Calls) (s stack : List ℕ) (process : Process) (registers : Registers) : Type 0 where
  -- of a signed row no bit of the mask is set in the caller's PC, and every other bit is that of RA as it was read; of any other row it is
  -- RA as it was read
  pub clears : (caller : Registers) → calls.step s stack process registers ≡ Caller caller
      → (case : CallerCase s stack process registers caller)
      × ((Signed (shape_of s) case.row × Cleared process.mask case.ra caller.pc)
      ⊎ ((¬ Signed (shape_of s) case.row) × (caller.pc ≡ case.ra)))
  -- with mask 0 nothing is cleared
  pub none_cleared : process.mask ≡ 0 → (caller : Registers) → calls.step s stack process registers ≡ Caller caller
      → (case : CallerCase s stack process registers caller) × (caller.pc ≡ case.ra)
  -- 24, and with mask 0 as document 01 said
  pub given_24 : (step_number (calls.step s stack process registers) ≡ 24)
      ↔ ((row : Row) × RowFound s stack process registers row × Signed (shape_of s) row × (process.mask ≡ 0))
  -- where no signed row is found, any mask gives the same answer
  pub unseen : ((row : Row) → RowFound s stack process registers row → ¬ Signed (shape_of s) row) → (mask : ℕ)
      → calls.step s stack (with_mask process mask) registers ≡ calls.step s stack process registers
  -- so everywhere on AMD64
  pub unseen_on_amd64 : (layout_of s).abi ≡ Amd64 → (mask : ℕ)
      → calls.step s stack (with_mask process mask) registers ≡ calls.step s stack process registers

-- ---- a trace

pub record TraceClears (calls : Calls) (s stack : List ℕ) (process : Process) (registers : Registers) (limit : ℕ) (old : List ℕ) : Type 0 where
  -- a walk that comes to an RA of which only signature bits are set ends there with 30
  pub ends : (frames : List Frame) (walk : Follows (CallerCase s stack process) (with_mark registers) frames)
      → DoorOpen stack process limit old → Obeys s → length frames ≤ in_force limit → (k : ℕ) (last : k < length frames) → suc k ≡ length frames
      → OnlySignature (mask_of (shape_of s) (walk.steps k last).row process) (walk.steps k last).ra
      → calls.trace s stack process registers limit old ≡ left_by frames Outermost old
  -- where no signed row is found, any mask gives the same words, count and ending
  pub unseen : ((from : Registers) (row : Row) → RowFound s stack process from row → ¬ Signed (shape_of s) row) → (mask : ℕ)
      → calls.trace s stack (with_mask process mask) registers limit old ≡ calls.trace s stack process registers limit old
  pub unseen_on_amd64 : (layout_of s).abi ≡ Amd64 → (mask : ℕ)
      → calls.trace s stack (with_mask process mask) registers limit old ≡ calls.trace s stack process registers limit old

pub record ClearsSigned (calls : Calls) : Type 0 where
  pub steps : (s stack : List ℕ) (process : Process) (registers : Registers) → StepClears calls s stack process registers
  pub traces : (s stack : List ℕ) (process : Process) (registers : Registers) (limit : ℕ) (old : List ℕ)
      → TraceClears calls s stack process registers limit old

abbrev pub SignedPromised : Type 0
SignedPromised = (calls : Calls) → Keeps calls → ClearsSigned calls
