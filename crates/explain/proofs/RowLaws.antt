-- What the start of one row tells of the others, in a section that obeys: starts rise, so that where one is above an offset, so are all
-- behind it.
-- Assumes nothing.
use mathlib.Core.List.{List}
use mathlib.Core.Logic.{⊎_elim}
use Prim.Native.Nat.{ℕ, ◌+◌, ◌≤◌, ◌<◌}
use native.Mathlib.Nat.{eq-or-lt_of_le}
use native.Mathlib.Omega.{arith}
use lib.IntN.{ℤ}
use Rattle.std.specs.Prelude.{Option, Some, None}
use Rattle.accept.specs.Rules.{Obeys, function_count, row_count, row_start_at}
use Rattle.accept.proofs.AcceptedLaws.{rows_rising_lem}
use Rattle.lookup.specs.Cases.{FoundCase, NoRowCase}
use Rattle.explain.specs.Why.{StartIs, AboveOffset, WhyFound, WhyNoRow}
use Rattle.explain.specs.declared.why.FoundRow.{FoundRow}

module _ (s : List ℕ) (obeys : Obeys s) where
  above-behind : (i o k : ℕ) (start : Option ℕ) → i < function_count s → StartIs s i k start → AboveOffset o start
      → (j : ℕ) → k ≤ j → j < row_count s i → o < row_start_at s i j
  above-behind i o k (Some start) lt (there, is) above j le inside =
      ⊎_elim
      (λ same. rw (← same, ← is) above)
      (λ less. omega (arith, rows_rising_lem obeys i k j lt less inside))
      (eq-or-lt_of_le le)
  above-behind i o k None lt none above j le inside = absurd (omega arith)

  -- the row found is the last that starts at or below the offset
  pub found_case : (d : ℤ) (found : FoundRow) → WhyFound s d found → FoundCase s d found.row found.function found.number
  found_case d found why =
      record {
        only = why.only;
        offset = found.offset;
        offset_is = why.offset_is;
        last = (
          (why.inside, why.from),
          λ j at.
              let late : ¬ (found.number + 1 ≤ j) = λ le.
              let above = above-behind found.function found.offset (found.number + 1) found.next why.only.0.0 why.next_is why.above j le at.0 in
              omega (arith, at.1) in
              omega arith,
        );
        row_is = why.row_is;
      }

  -- and where the first row starts above it, there is none
  pub no_row_case : (d : ℤ) (i o : ℕ) (first : Option ℕ) → WhyNoRow s d i o first → NoRowCase s d i
  no_row_case d i o first why =
      record {
        only = why.only;
        offset = o;
        offset_is = why.offset_is;
        none = λ k at.
            let above = above-behind i o 0 first why.only.0.0 why.first_is why.above k (omega arith) at.0 in
            omega (arith, at.1);
      }
