-- Request 02: "Long functions are slow because the scan decodes all offsets of rows that don't match. Skip over them by their length.
-- Every answer stays as it is." What is promised, as a predicate of any four calls: what they need not look at changes no answer. A check
-- looks at no offset, and of the rows that a lookup passes it looks at none either.
use Rattle.std.specs.Prelude.{◌≡◌, List, ℕ, set, Some}
use Rattle.numbers.specs.Start.{distance}
use Rattle.section.specs.SectionS.{section_s}
use Rattle.accept.specs.Tried.{CheckAlike}
use Rattle.accept.specs.Verdict.{Accepted}
use Rattle.lookup.specs.Scanned.{LookAlike}
use Rattle.caller.specs.Frame.{asked_of}
use Rattle.caller.specs.declared.registers.Registers.{Registers}
use Rattle.caller.specs.declared.registers.Process.{Process}
use Rattle.promises.specs.Calls.{Calls}
use Rattle.promises.specs.StatedContracts.{Keeps}

pub record PassesRows (calls : Calls) : Type 0 where
  -- the same verdict, number and index
  pub checks : (s t : List ℕ) → CheckAlike s t → calls.check s ≡ calls.check t
  -- the same row, number, indexes and count
  pub lookups : (s t : List ℕ) → calls.check s ≡ Accepted → calls.check t ≡ Accepted → (address pc : ℕ)
      → LookAlike s t (distance address pc) → calls.lookup s address pc ≡ calls.lookup t address pc
  -- the same caller, or refusal number with the old registers
  pub callers : (s t stack : List ℕ) → calls.check s ≡ Accepted → calls.check t ≡ Accepted → (process : Process) (registers : Registers)
      → ((pc : ℕ) → asked_of registers ≡ Some pc → LookAlike s t (distance process.section pc))
      → calls.step s stack process registers ≡ calls.step t stack process registers

abbrev pub RowsPassed : Type 0
RowsPassed = (calls : Calls) → Keeps calls → PassesRows calls

-- ---- an example

-- section S with another offset in the first row of its first function: CFA is SP + 32 there
unfoldable pub other_offset_s : List ℕ
other_offset_s = set section_s 70 0x20
