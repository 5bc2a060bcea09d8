-- Demand 3: "The order in which a section lists its functions changes nothing: same row or refusal number, same trace. On a sorted
-- section the number of entries compared follows the halving rule." A predicate of any four calls. "Demand 3 alone would admit a
-- constant, so it is stated over demand 2's definitions."
use Rattle.std.specs.Prelude.{◌≡◌, true, false, List, ℕ, ◌+◌, ◌^◌, ◌≤◌, ◌<◌}
use Rattle.numbers.specs.Start.{distance}
use Rattle.section.specs.Header.{layout_of}
use Rattle.section.specs.Meaning.{functions_of}
use Rattle.accept.specs.Rules.{function_count}
use Rattle.accept.specs.Verdict.{Accepted}
use Rattle.lookup.specs.Finding.{finding_of}
use Rattle.lookup.specs.Halving.{landing}
use Rattle.caller.specs.declared.registers.Registers.{Registers}
use Rattle.caller.specs.declared.registers.Process.{Process}
use Rattle.trace.specs.Frames.{in_force}
use Rattle.promises.specs.Calls.{Calls}
use Rattle.promises.specs.Demand2.{Demand2}
use Rattle.promises.specs.SameFunctions.{SameFunctions}

-- two accepted sections, either marked sorted or not, that list the same functions of the same machine
pub record Alike (calls : Calls) (s t : List ℕ) : Type 0 where
  pub accepted : calls.check s ≡ Accepted
  pub also : calls.check t ≡ Accepted
  pub same : SameFunctions s t

-- the number of entries compared, in an accepted section
pub record Counts (calls : Calls) (s : List ℕ) (address pc : ℕ) : Type 0 where
  -- "Unsorted: n."
  pub unsorted : (layout_of s).sorted ≡ false → (calls.lookup s address pc).compared ≡ function_count s
  -- "Sorted: the halving rule over low = 0, high = n"
  pub halving : (layout_of s).sorted ≡ true → (calls.lookup s address pc).compared ≡ (landing (distance address pc) (functions_of s)).compared
  -- at most one more than the whole part of the logarithm of n to the base 2, which is j
  pub logarithm : (layout_of s).sorted ≡ true → (j : ℕ) → 2 ^ j ≤ function_count s → function_count s < 2 ^ (1 + j)
      → (calls.lookup s address pc).compared ≤ 1 + j
  -- "So at most 20 here."
  pub twenty : (layout_of s).sorted ≡ true → (calls.lookup s address pc).compared ≤ 20

pub record Demand3 (calls : Calls) : Type 0 where
  pub over_demand_2 : Demand2 calls
  -- "same row", its number in the function and its contents, "or refusal number"
  pub rows : (s t : List ℕ) → Alike calls s t → (address pc : ℕ)
      → finding_of (calls.lookup s address pc).outcome ≡ finding_of (calls.lookup t address pc).outcome
  -- the same caller, or refusal number with the old registers; "with equal masks", since the process is the same
  pub callers : (s t stack : List ℕ) → Alike calls s t → (process : Process) (registers : Registers)
      → calls.step s stack process registers ≡ calls.step t stack process registers
  -- "same trace": words, frame count and ending; request 06, "Demand 3 reads with the limit in force": the limits may be two
  pub traces : (s t stack : List ℕ) → Alike calls s t → (process : Process) (registers : Registers) (limit other : ℕ) → in_force limit ≡ in_force other
      → (old : List ℕ) → calls.trace s stack process registers limit old ≡ calls.trace t stack process registers other old
  pub counts : (s : List ℕ) → calls.check s ≡ Accepted → (address pc : ℕ) → Counts calls s address pc
  -- "function indexes and, unsorted, counts may differ": sorted, they do not
  pub sorted_counts : (s t : List ℕ) → Alike calls s t → (layout_of s).sorted ≡ true → (layout_of t).sorted ≡ true → (address pc : ℕ)
      → (calls.lookup s address pc).compared ≡ (calls.lookup t address pc).compared
