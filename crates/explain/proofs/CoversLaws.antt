-- Whether a function covers, by how far d is past its start.
-- Assumes nothing.
use mathlib.Core.Path.{◌≡◌, sym}
use mathlib.Core.Bool.{Bool, true, false}
use mathlib.Core.List.{List}
use Prim.Native.Nat.{ℕ, ◌+◌, ◌≤◌, ◌<◌}
use native.Mathlib.Omega.{arith}
use lib.IntN.{ℤ}
use Rattle.std.specs.Prelude.{Some, None}
use Rattle.section.specs.Meaning.{Function, function_in}
use Rattle.accept.specs.Rules.{function_count}
use Rattle.lookup.specs.Cases.{Covers}
use Rattle.lookup.specs.Computed.Covering.{covers}
use Rattle.lookup.specs.Inner.Search.{past_in}
use Rattle.lookup.proofs.CaseLaws.{functions_at, functions_count, covers_at_lem, at_covers}
use Rattle.lookup.proofs.CoveringLaws.{by_value}
use Rattle.explain.specs.Computed.Coverers.{with_index, with_if}
use Rattle.explain.specs.declared.why.Coverers.{Coverers}

past_covered : (d : ℤ) (f : Function) → covers d f ≡ true → ¬ (past_in d f ≡ None)
unfolding past_in
past_covered d f set e = let clash = rw (set, past_in) at e in let z : ◌≡◌ {A = ℕ} 0 1 = cc in omega arith

past_uncovered : (d : ℤ) (f : Function) (past : ℕ) → covers d f ≡ false → ¬ (past_in d f ≡ Some past)
unfolding past_in
past_uncovered d f past unset e = let clash = rw (unset, past_in) at e in let z : ◌≡◌ {A = ℕ} 0 1 = cc in omega arith

pub covers_none : (d : ℤ) (f : Function) → past_in d f ≡ None → false ≡ covers d f
covers_none d f e = by_value (covers d f) (λ set. absurd (past_covered d f set e)) sym

pub covers_some : (d : ℤ) (f : Function) {past : ℕ} → past_in d f ≡ Some past → true ≡ covers d f
covers_some d f {past} e = by_value (covers d f) sym (λ unset. absurd (past_uncovered d f past unset e))

-- one more function, and at most one more that covers
pub count_kept : (covered : Bool) (i : ℕ) (known : Coverers) → known.count ≤ i → (with_if covered i known).count ≤ i + 1
unfolding with_if with_index
count_kept true i known le = omega arith
count_kept false i known le = omega arith

-- ---- the test and the words

pub cover_tests : (s : List ℕ) (d : ℤ) (i : ℕ) → Covers s d i → covers d (function_in s i) ≡ true
cover_tests s d i here = rw (functions_at s i here.0) at (covers_at_lem s d i here)

pub tests_cover : (s : List ℕ) (d : ℤ) (i : ℕ) → i < function_count s → covers d (function_in s i) ≡ true → Covers s d i
tests_cover s d i inside e = at_covers s d i (rw functions_count inside) (rw (functions_at s i inside) e)
