-- Entry i of a section with a sound header: where it stands, and how its start is held.
-- Assumes nothing.
use mathlib.Core.Path.{◌≡◌}
use mathlib.Core.Bool.{Bool, true, false}
use mathlib.Core.List.{List}
use Prim.Native.Nat.{ℕ, ◌+◌, ◌*◌, ◌≤◌, ◌<◌}
use native.Mathlib.Omega.{arith}
use lib.ListN.{length}
use Rattle.numbers.specs.Field.{field_of}
use Rattle.numbers.specs.Start.{start_at}
use Rattle.numbers.specs.Inner.Held.{Held}
use Rattle.numbers.specs.declared.field.Order.{Order}
use Rattle.section.specs.Entry.{entry_of, position_at, start_of}
use Rattle.section.specs.Meaning.{entry_in, function_start}
use Rattle.section.specs.declared.entry.Entry.{Entry}
use Rattle.section.specs.declared.header.Layout.{Layout}
use Rattle.accept.specs.Rules.{HeaderObeys, function_count}
use Rattle.accept.proofs.AcceptedLaws.{area_inside, entry_inside}
use Rattle.accept.proofs.Exactly.{header_exactly_when}
use Rattle.lookup.specs.Inner.Requires.{HeaderOf, TableOf}

-- the header obeys its rules
pub header_obeys : {s : List ℕ} {layout : Layout} → HeaderOf s layout → HeaderObeys s
header_obeys {s} header = (header_exactly_when s).0 header.sound

-- entry i lies in the section
pub entry_room : {s : List ℕ} {layout : Layout} → HeaderOf s layout → (i : ℕ) → i < layout.functions
    → layout.table + 20 * i + 20 ≤ length s
unfolding function_count
entry_room {s} {layout} header i lt =
    let obeys = header_obeys header in
    let below = rw header.layout_is at lt in
    rw header.layout_is (omega (arith, entry_inside obeys i below, area_inside obeys))

-- so its place is a small number
pub entry_place : {s : List ℕ} {layout : Layout} → HeaderOf s layout → (i : ℕ) → i < layout.functions
    → layout.table + 20 * i + 20 ≤ 16777216
entry_place header i lt = omega (arith, entry_room header i lt, (header_obeys header).rule2)

-- what a start counts from is no larger than its place
pub position_below : (relative : Bool) (place : ℕ) → position_at relative place ≤ place
unfolding position_at
position_below true place = omega arith
position_below false place = omega arith

-- the start field of entry i, with what it counts from, is the start of function i
pub field_held : {s : List ℕ} {layout : Layout} {order : Order} → TableOf s layout order → (i : ℕ) {field position h : ℕ}
    → field ≡ field_of s (layout.table + 20 * i) 4 order
    → position ≡ position_at layout.relative (layout.table + 20 * i)
    → Held (start_at field position) h
    → Held (function_start s i) h
unfolding start_of position_at entry_in entry_of
field_held table i field_is position-is held = rw (field_is, position-is, table.order_is, table.header.layout_is) at held

-- the start of what was read as entry i is the start of function i
pub start_held : {s : List ℕ} {layout : Layout} → HeaderOf s layout → (i : ℕ) {entry : Entry} {h : ℕ} → entry ≡ entry_in s i
    → Held (start_of layout.relative entry) h → Held (function_start s i) h
start_held header i is held = rw (header.layout_is, is) at held

-- the size field of entry i
pub size_field : {s : List ℕ} {layout : Layout} {order : Order} → TableOf s layout order → (i : ℕ) {field : ℕ}
    → field ≡ field_of s (layout.table + 20 * i + 4) 4 order
    → field ≡ (entry_in s i).size
unfolding entry_in entry_of
size_field table i is = rw (table.order_is, table.header.layout_is) at is
