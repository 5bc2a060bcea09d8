-- A base plus an offset, by the way that the offset goes; and a word by the tests that the code makes.
-- Assumes nothing.
use mathlib.Core.Path.{◌≡◌}
use mathlib.Core.List.{List}
use Prim.Native.Nat.{ℕ, suc, ◌+◌, ◌-◌, ◌^◌, ◌≤◌, ◌<◌}
use native.Mathlib.Omega.{arith}
use lib.ListN.{length}
use lib.IntN.{ℤ, pos, negsuc}
use borrow.Author.Tests.{le-ltb, lt-ltb, le-leb}
use Rattle.std.specs.Prelude.{Some, None}
use Rattle.numbers.specs.Field.{field_of}
use Rattle.numbers.specs.Computed.Address.{in_memory, address_of, wholly, word_of}
use Rattle.numbers.specs.Inner.Shift.{shift_of}
use Rattle.numbers.specs.declared.field.Order.{Order}
use Rattle.numbers.specs.declared.offset.Shift.TheVariants.{Up, Down}

at_most : (n : ℕ) → n < 2 ^ 64 → Some n ≡ in_memory (pos n)
unfolding in_memory
at_most n h = rw (lt-ltb n (2 ^ 64) h, in_memory)

past : (n : ℕ) → 2 ^ 64 ≤ n → None ≡ in_memory (pos n)
unfolding in_memory
past n h = rw (le-ltb n (2 ^ 64) h, in_memory)

pub up_at : (base : ℕ) (by : ℤ) {k : ℕ} → shift_of by ≡ Up k → base + k < 2 ^ 64 → Some (base + k) ≡ address_of base by
unfolding shift_of address_of
up_at base (pos j) {k} e h = let same : j ≡ k = cc in rw same (at_most (base + k) h)
up_at base (negsuc j) {k} e h = absurd (let z : ◌≡◌ {A = ℕ} 0 1 = cc in omega arith)

pub up_outside : (base : ℕ) (by : ℤ) {k : ℕ} → shift_of by ≡ Up k → 2 ^ 64 ≤ base + k → None ≡ address_of base by
unfolding shift_of address_of
up_outside base (pos j) {k} e h = let same : j ≡ k = cc in rw same (past (base + k) h)
up_outside base (negsuc j) {k} e h = absurd (let z : ◌≡◌ {A = ℕ} 0 1 = cc in omega arith)

pub down_at : (base : ℕ) (by : ℤ) {k : ℕ} → shift_of by ≡ Down k → k ≤ base → base < 2 ^ 64 → Some (base - k) ≡ address_of base by
unfolding shift_of address_of
down_at base (pos j) {k} e h b = absurd (let z : ◌≡◌ {A = ℕ} 0 1 = cc in omega arith)
down_at base (negsuc j) {k} e h b =
    let same : j + 1 ≡ k = cc in
    let less : base - k ≡ base - suc j = omega arith in
    rw (less, le-ltb base (suc j) (omega arith)) (at_most (base - suc j) (omega arith))

pub down_outside : (base : ℕ) (by : ℤ) {k : ℕ} → shift_of by ≡ Down k → base < k → None ≡ address_of base by
unfolding shift_of address_of in_memory
down_outside base (pos j) {k} e h = absurd (let z : ◌≡◌ {A = ℕ} 0 1 = cc in omega arith)
down_outside base (negsuc j) {k} e h =
    let same : j + 1 ≡ k = cc in
    rw (lt-ltb base (suc j) (omega arith))

-- ---- a word, by the tests of its place

pub word_inside : (window : List ℕ) (lies at : ℕ) (order : Order) → lies ≤ at → at + 8 ≤ lies + length window
    → Some (field_of window (at - lies) 8 order) ≡ word_of window lies at order
unfolding wholly word_of
word_inside window lies at order h i = rw (le-leb lies at h, le-leb (at + 8) (lies + length window) i, word_of)
