-- Document 01, "Finding the row" (SPECIFICATION 4.11): when two sections list the same functions. Two functions are the same exactly
-- when they are equal, since the decoded meaning leaves out all that doesn't count (`function_same` of the crate section).
use Rattle.std.specs.Prelude.{◌≡◌, ℕ}
use mathlib.Core.List.{List, count}
use mathlib.Core.Nat as Counted
use Rattle.section.specs.Header.{marks_of}
use Rattle.section.specs.Meaning.{Function, functions_of}
use Rattle.promises.specs.Inner.Deciding.{Function-discrete}

-- "each function stands equally often in both"
abbrev pub how_often : Function → List ℕ → Counted.ℕ
how_often f s = count Function-discrete f (functions_of s)

-- "Two sections list the same functions when each function stands equally often in both. Demand 3 reads so, with the ABI identifier as
-- the machine"
pub record SameFunctions (s t : List ℕ) : Type 0 where
  pub machine : (marks_of s).abi ≡ (marks_of t).abi
  pub often : (f : Function) → how_often f s ≡ how_often f t
