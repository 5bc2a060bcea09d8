-- Entry i of a section with a sound header: it lies inside, before the row area, which begins inside too.
-- Assumes nothing.
use mathlib.Core.Path.{◌≡◌}
use mathlib.Core.List.{List}
use Prim.Native.Nat.{ℕ, ◌+◌, ◌*◌, ◌≤◌, ◌<◌}
use native.Mathlib.Omega.{arith}
use lib.ListN.{length}
use Rattle.section.specs.Header.{layout_from, layout_of}
use Rattle.section.specs.declared.header.Layout.{Layout}
use Rattle.accept.specs.Rules.{HeaderObeys}
use Rattle.accept.specs.Computed.Checks.{header_fault}
use Rattle.accept.specs.Fault.{Sound}
use Rattle.accept.proofs.AcceptedLaws.{area_inside}
use Rattle.accept.proofs.Exactly.{header_exactly_when}
use Rattle.listing.specs.Inner.Requires.{EntryThere}

pub header_obeys : (s : List ℕ) → header_fault s ≡ Sound → HeaderObeys s
header_obeys s sound = (header_exactly_when s).0 sound

pub header_long : (s : List ℕ) → header_fault s ≡ Sound → 28 ≤ length s
header_long s sound = (header_obeys s sound).rule1

-- entry i of a section with a sound header is there
pub entry_there : (s : List ℕ) (layout : Layout) → header_fault s ≡ Sound → layout ≡ layout_of s → (i : ℕ) → i < layout.functions → EntryThere s layout i
entry_there s layout sound is i lt =
    let obeys = header_obeys s sound in
    let inside = area_inside obeys in
    let least = obeys.rule1 in
    let most = obeys.rule2 in
    record { long = least; layout_is = is; inside = rw is inside; small = rw is (omega arith); known = lt }

before_area : (s : List ℕ) (i : ℕ) → i < (layout_of s).functions → (layout_of s).table + 20 * i + 20 ≤ (layout_of s).area
unfolding layout_of layout_from
before_area s i lt = omega arith

-- and lies before the row area
pub entry_room : {s : List ℕ} {layout : Layout} {i : ℕ} → EntryThere s layout i → (layout.table + 20 * i + 20 ≤ layout.area) × (layout.area ≤ length s)
entry_room {s} {layout} {i} there = (rw there.layout_is (before_area s i (rw there.layout_is at there.known)), there.inside)
