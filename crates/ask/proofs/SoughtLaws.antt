-- From the walk over an entry's rows to what is sought among them: where nothing is broken, the row at which the rows at or below end is the
-- last one at or below. Assumes nothing.
use mathlib.Core.Path.{◌≡◌, refl, sym}
use mathlib.Core.List.{List}
use Prim.Native.Nat.{ℕ, ◌<◌}
use native.Mathlib.Omega.{arith}
use lib.Dec.{eqb}
use lib.IntN.{ℤ, ◌-ℤ◌}
use borrow.Author.Tests.{eqb-true, eqb-false}
use Rattle.std.specs.Prelude.{Option, Ok, Err}
use Rattle.section.specs.Entry.{type_of}
use Rattle.numbers.specs.Inner.Held.{natural}
use Rattle.section.specs.Meaning.{listed, block_of, row_in, function_start, function_in}
use Rattle.section.specs.Inner.Reading.{Readable}
use Rattle.section.specs.declared.entry.Entry.{Entry}
use Rattle.section.specs.declared.shape.Shape.{Shape}
use Rattle.accept.specs.Computed.Checks.{first_bad, and_then, entry_tests, rows_fault, entry_fault}
use Rattle.accept.specs.Fault.{Fault, Sound, Breaks}
use Rattle.accept.specs.Inner.Passed.{unless_broken}
use Rattle.accept.proofs.FaultLaws.{and_sound}
use Rattle.accept.proofs.WalkLaws.{broken_by, found_by}
use Rattle.lookup.specs.Computed.Rows.{in_block, offset_within, last_row, row_for}
use Rattle.lookup.specs.declared.rows.Hit.{Hit}
use Rattle.lookup.specs.declared.rows.Stop.{Stop}
use Rattle.lookup.proofs.CoveringLaws.{by_value}
use Rattle.lookup.proofs.EntryRows.{entry_stop, stop_none, stop_last, stop_readable}
use Rattle.ask.specs.Computed.Ask.{checked_row, in_function}
use Rattle.ask.specs.Inner.Parts.{walk_of, sought_at, sought_in, with_sought, past_function}

module _ (area : List ℕ) (shape : Shape) (entry : Entry) where
  -- ---- something is broken

  pub sought_wrong : {number : ℕ} → Breaks number ≡ first_bad (entry_tests area entry) → (past : ℕ) → Err number ≡ sought_in area shape entry past
  unfolding entry_fault and_then sought_in unless_broken
  sought_wrong wrong past = rw (← wrong)

  module _ (right : Sound ≡ first_bad (entry_tests area entry)) (past : ℕ) where
    pub sought_faulty : {number : ℕ} → Err number ≡ walk_of area shape (type_of entry.info) entry.first entry.rows (in_block (block_of entry) past)
        → Err number ≡ sought_in area shape entry past
    unfolding walk_of entry_fault and_then sought_in unless_broken
    sought_faulty e = rw (← right, broken_by _ _ e)

    -- ---- nothing is

    module _ (stop : Stop) (e : Ok stop ≡ walk_of area shape (type_of entry.info) entry.first entry.rows (in_block (block_of entry) past)) where
      told : (rows_fault area shape (type_of entry.info) entry.first entry.rows ≡ Sound)
          × (stop ≡ entry_stop area shape entry (in_block (block_of entry) past))
      unfolding walk_of
      told = found_by _ _ e

      sound : entry_fault area shape entry ≡ Sound
      unfolding entry_fault
      sound = (and_sound _ _).1 (sym right, told.0)

      pub stop_can_be_read : 0 < stop.rows → Readable area (type_of entry.info) stop.place
      stop_can_be_read some =
          rw told.1 (stop_readable area shape entry (in_block (block_of entry) past) sound (rw told.1 at some))

      row_there : sought_at area shape (type_of entry.info) stop ≡ last_row (in_block (block_of entry) past) 0 (listed (row_in area shape entry) entry.rows 0)
      unfolding sought_at
      row_there =
          by_value (eqb stop.rows 0)
          (λ none.
          rw (none, sought_at)
          (sym (stop_none area shape entry (in_block (block_of entry) past) sound (rw told.1 at (eqb-true stop.rows 0 none)))))
          (λ other.
          let some : 0 < stop.rows = omega (arith, eqb-false stop.rows 0 other) in
          rw (other, sought_at)
          (rw told.1 (sym (stop_last area shape entry (in_block (block_of entry) past) sound (rw told.1 at some)))))

      pub sought_whole : Ok (sought_at area shape (type_of entry.info) stop) ≡ sought_in area shape entry past
      unfolding sought_in unless_broken
      sought_whole = rw (sound, row_there)

-- ---- what is answered by it

sought_answer : (i compared : ℕ) (fault : Fault) (found : Option Hit) → with_sought i compared (unless_broken fault found) ≡ checked_row fault i compared found
unfolding with_sought unless_broken checked_row
sought_answer i compared (Breaks number) found = refl
sought_answer i compared Sound found = refl

-- where the PC is d, it is d minus the start past it
pub past_answer : (s : List ℕ) (d : ℤ) (i compared : ℕ) → past_function s i (natural (d -ℤ function_start s i)) compared ≡ in_function s d i compared
unfolding past_function sought_in in_function row_for offset_within function_in
past_answer s d i compared = sought_answer i compared _ _
