-- "size 0 covers nothing", of an entry's size field and of the definition `covers`.
-- Assumes nothing.
use mathlib.Core.Path.{◌≡◌}
use mathlib.Core.Bool.{false}
use mathlib.Core.List.{List}
use Prim.Native.Nat.{ℕ}
use lib.IntN.{ℤ, pos, ◌+ℤ◌, +ℤ_idr}
use lib.Signed.{◌≤ℤ◌, ◌<ℤ◌, clash_ℤ}
use Rattle.section.specs.Meaning.{Function, entry_in}
use Rattle.lookup.specs.Cases.{Covers}
use Rattle.lookup.specs.Computed.Covering.{covers}
use Rattle.lookup.proofs.CoveringLaws.{is_false, covers_shows}

-- nothing is at or above a start and below the same start
none_within : (start d : ℤ) (size : ℕ) → size ≡ 0 → ¬ ((start ≤ℤ d) × (d <ℤ (start +ℤ pos size)))
none_within start d size e h = clash_ℤ (rw (e, +ℤ_idr) at h.1) h.0

pub size_0_covers_nothing : (s : List ℕ) (d : ℤ) (i : ℕ) → (entry_in s i).size ≡ 0 → ¬ Covers s d i
size_0_covers_nothing s d i e h = none_within _ d _ e (h.1, h.2)

pub size_0_not_covering : (d : ℤ) (f : Function) → f.size ≡ 0 → covers d f ≡ false
size_0_not_covering d f e = is_false (covers_shows d f) (none_within f.start d f.size e)
