-- A function by its index, as a program in C sees it: rules 1 to 8 are tried, and one entry is told as it stands, also in a section that
-- is not accepted. What is promised of it, as a predicate of any call that is handed a section's bytes and an index and answers a flat
-- struct; and what the contract of our exported function allows.
use Rattle.std.specs.Prelude.{◌≡◌, true, false, List, ◌⊎◌, ◌↔◌, ℕ, ◌≤◌, ◌<◌, pos}
use borrow.Fn.Kinds.{Dens}
use contract.Lifetimes.{Lfts}
use Rattle.section.specs.Entry.{repeats}
use Rattle.section.specs.Meaning.{entry_in, function_start}
use Rattle.accept.specs.Given.{number_of_rule, HeaderBreaks}
use Rattle.accept.specs.declared.verdict.Rule.{Rule}
use Rattle.accept.specs.Rules.{function_count, row_count, HeaderObeys}
use Rattle.listing.specs.Functions.{described_of}
use Rattle.suntimpani.specs.Flat.{flat_function}
use Rattle.suntimpani.specs.declared.functions.FunctionInC.{FunctionInC}
use Rattle.suntimpani.proofs.suntimpani_function_at.Kinds as function-kinds
use Rattle.suntimpani.proofs.suntimpani_function_at.Reads as function-reads
use Rattle.promises.specs.Demand1.{HasCause}
use Rattle.promises.specs.Determined.{Allows}

-- ---- any call of this form

abbrev pub FunctionCall : Type 0
FunctionCall = List ℕ → ℕ → FunctionInC

-- what the contract of our exported function names
unfoldable pub exported_function : FunctionCall
exported_function s index = flat_function (described_of s index)

-- ---- what is promised of one answer

-- the section has such a function
abbrev pub HasFunction : List ℕ → ℕ → Type 0
HasFunction s index = HeaderObeys s × (index < function_count s)

-- the number: 0, or that of the header's first broken rule, and no other
pub record NumberTold (s : List ℕ) (answer : FunctionInC) : Type 0 where
  pub given : (rule : Rule) → (answer.number ≡ number_of_rule rule) ↔ HeaderBreaks s rule
  pub none : (answer.number ≡ 0) ↔ HeaderObeys s
  pub no_other : (answer.number ≡ 0) ⊎ HasCause number_of_rule answer.number
  pub at_most_8 : answer.number ≤ 8

-- where there is such a function: what its entry says. Its bit for repeated blocks tells whether its repeat size counts
pub record EntryTold (s : List ℕ) (index : ℕ) (answer : FunctionInC) : Type 0 where
  pub start : answer.start ≡ function_start s index
  pub size : answer.size ≡ (entry_in s index).size
  pub rows : answer.rows ≡ row_count s index
  pub repeated : repeats (entry_in s index).info ≡ true → (answer.repeated ≡ 1) × (answer.repeat ≡ (entry_in s index).repeat)
  pub plain : repeats (entry_in s index).info ≡ false → (answer.repeated ≡ 0) × (answer.repeat ≡ 0)

-- where there is none: every field but the number is 0
pub record NothingTold (answer : FunctionInC) : Type 0 where
  pub known : answer.known ≡ 0
  pub start : answer.start ≡ pos 0
  pub size : answer.size ≡ 0
  pub rows : answer.rows ≡ 0
  pub repeated : answer.repeated ≡ 0
  pub repeat : answer.repeat ≡ 0

-- ---- and of a call

pub record TellsFunctions (call : FunctionCall) : Type 0 where
  pub number : (s : List ℕ) (index : ℕ) → NumberTold s (call s index)
  pub known : (s : List ℕ) (index : ℕ) → ((call s index).known ≡ 1) ↔ HasFunction s index
  pub told : (s : List ℕ) (index : ℕ) → HasFunction s index → EntryTold s index (call s index)
  pub untold : (s : List ℕ) (index : ℕ) → ¬ HasFunction s index → NothingTold (call s index)

-- ---- the contract

-- what the call answers is what the contract of our exported function allows, and nothing else of it is known
abbrev pub KeepsFunction : FunctionCall → Type 0
KeepsFunction call =
    (κs : Lfts 1) (a : Dens κs function-kinds.ps)
    → Allows function-kinds.ps function-kinds.r function-reads.Learnt κs a (call a.0.now a.1.0) (tt, (tt, tt))

abbrev pub FunctionPromised : Type 0
FunctionPromised = (call : FunctionCall) → KeepsFunction call → TellsFunctions call
