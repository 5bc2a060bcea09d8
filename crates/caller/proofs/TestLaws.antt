-- The tests that a step makes, and a saved place's value: each decides the proposition of specs/Cases that document 01 states.
-- Assumes nothing.
use mathlib.Core.Path.{◌≡◌, refl, sym, ◌∙◌, ap}
use mathlib.Core.Bool.{Bool, true, false, not, true≢false}
use mathlib.Core.List.{List}
use mathlib.Core.Logic.{◌⊎◌, inl, inr}
use Prim.Native.Nat.{ℕ, ◌+◌, ◌^◌, ◌≤◌, ◌<◌}
use native.Mathlib.Omega.{arith}
use lib.Dec.{ltb, leb→le, ltb→lt}
use lib.IntN.{ℤ, pos, negsuc, ◌+ℤ◌}
use lib.ListN.{length}
use lib.Signed.{◌≤ℤ◌, ◌<ℤ◌, le_z_yes, lt_z_yes}
use borrow.Author.Tests.{ltb-true, ltb-false, lt-ltb, le-ltb, le-leb}
use Rattle.std.specs.Prelude.{Option, Some, None}
use Rattle.numbers.specs.Computed.Address.{in_memory, address_of, window_fits, wholly, word_of}
use Rattle.numbers.specs.declared.field.Order.{Order}
use Rattle.numbers.proofs.AddressLaws.{word_inside}
use Rattle.section.specs.declared.row.Place.{Place}
use Rattle.section.specs.declared.row.Place.TheVariants.{Register, AtOffset}
use Rattle.section.specs.declared.row.Row.{Row}
use Rattle.section.specs.declared.shape.Shape.{Shape}
use Rattle.accept.proofs.Decides.{Shows, shown, denied, at_most, equal, both, either}
use Rattle.lookup.proofs.CoveringLaws.{by_value, is_false}
use Rattle.caller.specs.Cases.{WindowFits, Inside, WordIs, ValueIs, Outside, NoMark, Rule24, Rule26}
use Rattle.caller.specs.Frame.{has_mark, caller_sp}
use Rattle.caller.specs.Signature.{Signed, is_signed}
use Rattle.caller.specs.Computed.Caller.{is_maskless, is_low, spot_at, spot_of, is_lost, value_of}
use Rattle.caller.specs.declared.registers.Registers.{Registers}
use Rattle.caller.specs.declared.registers.Process.{Process}

-- ---- single tests

pub is_set : (bit : Bool) → Shows bit (bit ≡ true)
is_set bit = record { holds = λ e. e; broken = λ e f. true≢false (sym f ∙ e) }

below : (a b : ℕ) → Shows (ltb a b) (a < b)
below a b = record { holds = ltb-true a b; broken = λ e lt. let le : b ≤ a = ltb-false a b e in omega arith }

twice : {test : Bool} {P : Type 0} → Shows test P → Shows (not (not test)) P
twice {test = true} d = shown (d.holds refl)
twice {test = false} d = denied (d.broken refl)

-- 41
pub fits_shows : (stack : List ℕ) (process : Process) → Shows (window_fits stack process.stack) (WindowFits stack process)
unfolding window_fits
fits_shows stack process = at_most _ _

-- "On AArch64, a row with the signed bit"
pub signed_shows : (shape : Shape) (row : Row) → Shows (is_signed shape row) (Signed shape row)
unfolding is_signed
signed_shows shape row = both (is_set shape.signs) (is_set row.signed)

-- 24
pub maskless_shows : (shape : Shape) (row : Row) (process : Process) → Shows (is_maskless shape row process) (Rule24 shape row process)
unfolding is_maskless
maskless_shows shape row process = both (signed_shows shape row) (equal _ _)

pub mark_shows : (registers : Registers) → Shows (not (has_mark registers)) (NoMark registers)
unfolding has_mark
mark_shows registers = twice (equal _ _)

-- 26
pub low_shows : (registers : Registers) (cfa : ℕ) → Shows (is_low registers (caller_sp cfa)) (Rule26 registers cfa)
unfolding is_low
low_shows registers cfa = either (below _ _) (both (equal _ _) (mark_shows registers))

-- 27: only a register can be lost
saved_kept : (registers : Registers) (a : Option ℕ) → is_lost registers (spot_at a) ≡ false
unfolding spot_at is_lost
saved_kept registers (Some at) = refl
saved_kept registers None = refl

pub lost_shows : (registers : Registers) (cfa : ℕ) (place : Place)
    → Shows (is_lost registers (spot_of cfa place)) ((place ≡ Register) × NoMark registers)
unfolding spot_of is_lost
lost_shows registers cfa Register =
    let d = mark_shows registers in
    record { holds = λ e. (refl, d.holds e); broken = λ e h. d.broken e h.1 }
lost_shows registers cfa (AtOffset offset) =
    rw (saved_kept registers (address_of cfa offset.by))
    (denied (λ h. let e : AtOffset offset ≡ Register = h.0 in let z : ◌≡◌ {A = ℕ} 0 1 = cc in omega arith))

-- ---- a whole number as an address

pub in_memory_lem : (z : ℤ) (n : ℕ) → z ≡ pos n → n < 2 ^ 64 → in_memory z ≡ Some n
unfolding in_memory
in_memory_lem z n e lt = rw e (rw (lt-ltb n (2 ^ 64) lt, in_memory))

pub out_of_memory : (z : ℤ) → (z <ℤ pos 0) ⊎ (pos (2 ^ 64) ≤ℤ z) → in_memory z ≡ None
unfolding in_memory
out_of_memory (pos n) (inl h) = let lt : n < 0 = ltb→lt n 0 h.lt in absurd (omega arith)
out_of_memory (pos n) (inr h) = rw (le-ltb n (2 ^ 64) (leb→le (2 ^ 64) n h.le), in_memory)
out_of_memory (negsuc n) h = refl

pub memory_decided : (z : ℤ) → ((n : ℕ) × (z ≡ pos n) × (n < 2 ^ 64)) ⊎ ((z <ℤ pos 0) ⊎ (pos (2 ^ 64) ≤ℤ z))
memory_decided (pos n) =
    by_value (ltb n (2 ^ 64))
    (λ e. inl (n, refl, ltb-true n (2 ^ 64) e))
    (λ e. inr (inr (le_z_yes (rw (le-leb (2 ^ 64) n (ltb-false n (2 ^ 64) e)) tt))))
memory_decided (negsuc n) = inr (inl (lt_z_yes tt))

-- ---- the word at a place

module _ (stack : List ℕ) (lies : ℕ) where
  -- inside, over natural numbers
  inside_of : (n : ℕ) → Inside stack lies (pos n) → (lies ≤ n) × (n + 8 ≤ lies + length stack)
  inside_of n h = (leb→le lies n h.0.le, leb→le (n + 8) (lies + length stack) h.1.le)

  pub of_inside : (n : ℕ) → lies ≤ n → n + 8 ≤ lies + length stack → Inside stack lies (pos n)
  of_inside n from to = (le_z_yes (rw (le-leb lies n from) tt), le_z_yes (rw (le-leb (n + 8) (lies + length stack) to) tt))

  module _ (order : Order) where
    -- what stands at the address that z is, or beyond
    word-given : (register : ℕ) (z : ℤ) (value : ℕ) → lies + length stack ≤ 2 ^ 64 → WordIs stack lies order z value
        → value_of stack lies order register (spot_at (in_memory z)) ≡ Some value
    unfolding spot_at value_of
    word-given register z value fits h =
        ap (λ a. value_of stack lies order register (spot_at a)) (in_memory_lem z h.at h.at_is (omega arith))
        ∙ sym (word_inside stack lies h.at order h.from h.to)
        ∙ ap Some (sym h.value_is)

    wholly-shows : (at : ℕ) → Shows (wholly stack lies at) ((lies ≤ at) × (at + 8 ≤ lies + length stack))
    unfolding wholly
    wholly-shows at = both (at_most _ _) (at_most _ _)

    outside-given : (register : ℕ) (z : ℤ) → ¬ Inside stack lies z → value_of stack lies order register (spot_at (in_memory z)) ≡ None
    unfolding in_memory spot_at value_of word_of
    outside-given register (negsuc n) out = refl
    outside-given register (pos n) out =
        let past = is_false (wholly-shows n) (λ h. out (of_inside n h.0 h.1)) in
        by_value (ltb n (2 ^ 64)) (λ e. rw (e, in_memory) (rw (past, word_of))) (λ e. rw (e, in_memory))

    word-decided : (z : ℤ) → ((value : ℕ) × WordIs stack lies order z value) ⊎ (¬ Inside stack lies z)
    word-decided (negsuc n) = inr (λ h. h.0.le)
    word-decided (pos n) =
        by_value (wholly stack lies n)
        (λ e.
        let (from, to) = (wholly-shows n).holds e in
        inl (_, record { at = n; at_is = refl; from = from; to = to; value_is = refl }))
        (λ e. inr (λ h. (wholly-shows n).broken e (inside_of n h)))

    -- ---- the value of a saved place

    pub value_given : (cfa register : ℕ) (place : Place) (value : ℕ) → lies + length stack ≤ 2 ^ 64
        → ValueIs stack lies order cfa register place value → value_of stack lies order register (spot_of cfa place) ≡ Some value
    unfolding spot_of value_of address_of
    value_given cfa register Register value fits h = ap Some (sym h)
    value_given cfa register (AtOffset offset) value fits h = word-given register (pos cfa +ℤ offset.by) value fits h

    pub no_value : (cfa register : ℕ) (place : Place) → Outside stack lies cfa place
        → value_of stack lies order register (spot_of cfa place) ≡ None
    unfolding spot_of address_of
    no_value cfa register Register h = absurd h
    no_value cfa register (AtOffset offset) h = outside-given register (pos cfa +ℤ offset.by) h

    pub value_decided : (cfa register : ℕ) (place : Place)
        → ((value : ℕ) × ValueIs stack lies order cfa register place value) ⊎ Outside stack lies cfa place
    value_decided cfa register Register = inl (register, refl)
    value_decided cfa register (AtOffset offset) = word-decided (pos cfa +ℤ offset.by)
