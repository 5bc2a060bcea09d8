-- Document 01, "Finding the row": the answer of a lookup, by its cases. When each is given, in plain words, is said in Cases.
use Rattle.std.specs.Prelude.{ℕ, Bool, List, ℤ, get_or, Option, Some, None}
use Rattle.numbers.specs.Start.{distance}
use Rattle.section.specs.Header.{layout_of}
use Rattle.section.specs.Meaning.{Function, functions_of}
use Rattle.accept.specs.Computed.Checks.{verdict}
use Rattle.accept.specs.Verdict.{Verdict, Accepted, Refused}
use Rattle.lookup.specs.Finding.{Finding, finding_of}
use Rattle.lookup.specs.Halving.{empty_function, compared}
use Rattle.lookup.specs.Computed.Covering.{covering, cover_of}
use Rattle.lookup.specs.Computed.Rows.{row_for}
use Rattle.lookup.specs.Outcome.{Answer}
use Rattle.lookup.specs.Outcome.{Outcome}
use Rattle.lookup.specs.Outcome.{Found, Unsound, NoFunction, Dispute, NoRow}
use Rattle.lookup.specs.declared.rows.Hit.{Hit}
use Rattle.lookup.specs.declared.search.Cover.{Cover}
use Rattle.lookup.specs.declared.search.Cover.TheVariants.{Nobody, One, Two}

-- "23 when there is none, with the function's index. A found answer gives the function's index and the row"
unfoldable pub with_row : ℕ → Option Hit → Outcome
with_row i None = NoRow i
with_row i (Some hit) = Found hit.row i hit.number

-- "21: no function covers; no index is returned. 22: two or more do ..; the two lowest indexes are returned. With one
-- function", its row
unfoldable pub with_cover : ℤ → List Function → Cover → Outcome
with_cover d functions Nobody = NoFunction
with_cover d functions (One i) = with_row i (row_for d (get_or functions i empty_function))
with_cover d functions (Two i j) = Dispute i j

-- what is found, of the functions that a section lists; whether it is sorted does not count
unfoldable pub outcome : ℤ → List Function → Outcome
outcome d functions = with_cover d functions (cover_of (covering d functions))

-- "Answers 21 to 23 carry the count too."
unfoldable pub answer : Bool → ℤ → List Function → Answer
answer sorted d functions = record { outcome = outcome d functions; compared = compared sorted d functions }

-- the answer on a section that was accepted, with d "PC minus section address"
unfoldable pub answer_of : List ℕ → ℕ → ℕ → Answer
answer_of s address pc = answer (layout_of s).sorted (distance address pc) (functions_of s)

-- "A lookup first makes the section checks, 1 to 15." "Section refusals carry 0."
unfoldable pub answer_after : Verdict → Answer → Answer
answer_after Accepted next = next
answer_after (Refused number index) next = record { outcome = Unsound number index; compared = 0 }

unfoldable pub lookup_of : List ℕ → ℕ → ℕ → Answer
lookup_of s address pc = answer_after (verdict s) (answer_of s address pc)

-- the finding at a PC in a section that was accepted
unfoldable pub look_in : List ℕ → ℕ → ℕ → Finding
look_in s address pc = finding_of (answer_of s address pc).outcome
