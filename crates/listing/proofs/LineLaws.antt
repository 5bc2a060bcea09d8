-- What the tests of a turn of a listing tell: an accepted section has a whole header, and an entry that passed its test is there.
-- Assumes nothing.
use mathlib.Core.Path.{◌≡◌}
use mathlib.Core.Bool.{true}
use mathlib.Core.List.{List}
use Prim.Native.Nat.{ℕ, ◌≤◌}
use native.Mathlib.Omega.{arith}
use lib.ListN.{length}
use borrow.Author.Tests.{leb-true, ltb-true}
use Rattle.section.specs.Header.{layout_of}
use Rattle.section.specs.declared.header.Layout.{Layout}
use Rattle.accept.specs.Computed.Checks.{verdict}
use Rattle.accept.specs.Verdict.{Accepted}
use Rattle.accept.proofs.Exactly.{accepted_exactly_when}
use Rattle.listing.specs.Computed.Lines.{has_entry}
use Rattle.listing.specs.Inner.Requires.{EntryThere}
use Rattle.listing.proofs.TurnLaws.{both_true}

-- ---- an accepted section has a whole header

pub accepted_long : (s : List ℕ) → verdict s ≡ Accepted → 28 ≤ length s
accepted_long s accepted = ((accepted_exactly_when s).0 accepted).header.rule1

-- ---- an entry that passed its test is there

pub entry_told : (s : List ℕ) (layout : Layout) (i : ℕ) → 28 ≤ length s → layout ≡ layout_of s → has_entry layout (length s) i ≡ true → EntryThere s layout i
unfolding has_entry
entry_told s layout i long is e =
    let parts = both_true _ _ e in
    let rest = both_true _ _ parts.1 in
    let most = leb-true layout.area 0xffffffff rest.0 in
    record { long = long; layout_is = is; inside = leb-true _ _ parts.0; small = omega arith; known = ltb-true _ _ rest.1 }
