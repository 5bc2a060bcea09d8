-- What the header and an entry look at: two sections that agree on the first 28 bytes have the same layout, and on an entry's 20 bytes the
-- same entry, whatever else they hold. Assumes nothing.
use mathlib.Core.Path.{◌≡◌, ap}
use mathlib.Core.Bool.{Bool, true, false}
use mathlib.Core.List.{List}
use Prim.Native.Nat.{ℕ, ◌+◌, ◌*◌, ◌≤◌, ◌<◌}
use native.Mathlib.Omega.{arith}
use Rattle.numbers.specs.Agree.{InSpan, AgreeOn}
use Rattle.numbers.specs.Field.{field_of, byte_of}
use Rattle.numbers.specs.declared.field.Order.{Order}
use Rattle.numbers.specs.declared.field.Order.TheVariants.{Little, Big}
use Rattle.numbers.proofs.AgreeLaws.{field_agrees, byte_agrees}
use Rattle.section.specs.Entry.{entry_of}
use Rattle.section.specs.Header.{magic_in, order_of, marks_of, sizes_of, layout_of}
use Rattle.section.specs.Meaning.{shape_of, entry_in}

module _ (s t : List ℕ) (at width : ℕ) (same : AgreeOn (InSpan at width) s t) where
  -- a field, or a byte, of the part that agrees
  field_in : (place bytes : ℕ) (order : Order) → at ≤ place → place + bytes ≤ at + width → field_of s place bytes order ≡ field_of t place bytes order
  field_in place bytes order from to = field_agrees s t place bytes order (λ p said. same p (omega arith, omega arith))

  byte_in : (place : ℕ) → at ≤ place → place < at + width → byte_of s place ≡ byte_of t place
  byte_in place from to = byte_agrees s t place (λ p said. same p (omega arith, omega arith))

pub entry_agrees : (s t : List ℕ) (order : Order) (place : ℕ) → AgreeOn (InSpan place 20) s t → entry_of s order place ≡ entry_of t order place
unfolding entry_of
entry_agrees s t order place same =
    let start = field_in s t place 20 same place 4 order (omega arith) (omega arith) in
    let size = field_in s t place 20 same (place + 4) 4 order (omega arith) (omega arith) in
    let first = field_in s t place 20 same (place + 8) 4 order (omega arith) (omega arith) in
    let rows = field_in s t place 20 same (place + 12) 4 order (omega arith) (omega arith) in
    let info = byte_in s t place 20 same (place + 16) (omega arith) (omega arith) in
    let repeat = byte_in s t place 20 same (place + 17) (omega arith) (omega arith) in
    rw (start, size, first, rows, info, repeat)

module _ (s t : List ℕ) (same : AgreeOn (InSpan 0 28) s t) where
  byte-same : (place : ℕ) → place < 28 → byte_of s place ≡ byte_of t place
  byte-same place lt = byte_in s t 0 28 same place (omega arith) (omega arith)

  pub magic_agrees : (order : Order) → magic_in s order ≡ magic_in t order
  unfolding magic_in
  magic_agrees order = rw (field_in s t 0 28 same 0 2 order (omega arith) (omega arith))

  pub order_agrees : order_of s ≡ order_of t
  unfolding order_of
  order_agrees = ap (λ (little : Bool). elim little [ true ↦ Little | false ↦ Big ]) (magic_agrees Little)

  pub marks_agree : marks_of s ≡ marks_of t
  unfolding marks_of
  marks_agree =
      let below : (place : ℕ) → place < 8 → byte_of s place ≡ byte_of t place = λ place lt. byte-same place (omega arith) in
      rw (
        below 2 (omega arith),
        below 3 (omega arith),
        below 4 (omega arith),
        below 5 (omega arith),
        below 6 (omega arith),
        below 7 (omega arith),
      )

  pub sizes_agree : (order : Order) → sizes_of s order ≡ sizes_of t order
  unfolding sizes_of
  sizes_agree order =
      let word : (place : ℕ) → place + 4 ≤ 28 → field_of s place 4 order ≡ field_of t place 4 order
      = λ place le. field_in s t 0 28 same place 4 order (omega arith) (omega arith) in
      rw (word 8 (omega arith), word 12 (omega arith), word 16 (omega arith), word 20 (omega arith), word 24 (omega arith))

  pub layout_agrees : layout_of s ≡ layout_of t
  unfolding layout_of
  layout_agrees = rw (marks_agree, order_agrees, sizes_agree (order_of t))

  pub shape_agrees : shape_of s ≡ shape_of t
  unfolding shape_of
  shape_agrees = rw layout_agrees

  -- and where they agree on the function table, the same entries
  pub entries_agree : AgreeOn (InSpan (layout_of s).table (20 * (layout_of s).functions)) s t → (i : ℕ) → i < (layout_of s).functions
      → entry_in s i ≡ entry_in t i
  unfolding entry_in
  entries_agree table i lt =
      rw (← layout_agrees, ← order_agrees) (entry_agrees s t _ ((layout_of s).table + 20 * i) (λ p said. table p (omega arith, omega arith)))
