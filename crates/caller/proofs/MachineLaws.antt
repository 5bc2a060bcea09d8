-- What 24, 27 and the caller's RA and FP come to in the bytes of a row, on each machine: a row's RA is in its register, and its
-- signed bit set, only on AArch64, by the row's offset count and by the bit.
-- Assumes nothing.
use mathlib.Core.Path.{◌≡◌, refl, sym, ◌∙◌, ap}
use mathlib.Core.Bool.{true, false, true≢false, false≢true}
use mathlib.Core.List.{List}
use mathlib.Core.Logic.{inl, inr, ◌↔◌, ⊎_elim}
use Prim.Native.Nat.{ℕ, ◌+◌, ◌^◌, ◌≤◌, ◌<◌}
use native.Mathlib.Omega.{arith}
use lib.Dec.{ltb}
use borrow.Author.Tests.{ltb-true, ltb-false, lt-ltb, le-ltb}
use Rattle.numbers.specs.declared.offset.Offset.{Offset}
use Rattle.section.specs.Entry.{type_of}
use Rattle.section.specs.Header.{layout_of}
use Rattle.section.specs.Meaning.{area_of, shape_of, entry_in, row_place_at, row_in}
use Rattle.section.specs.Row.{info_of, count_of, offset_size_of, signed_bit, offset_in, place_in, ra_in, row_of}
use Rattle.section.specs.Shape.{aarch64_shape, amd64_shape, shape}
use Rattle.section.specs.declared.row.Place.{Place}
use Rattle.section.specs.declared.row.Place.TheVariants.{Register, AtOffset}
use Rattle.section.specs.declared.shape.Abi.{Abi}
use Rattle.section.specs.declared.shape.Abi.TheVariants.{Aarch64Big, Aarch64Little, Amd64}
use Rattle.section.specs.declared.shape.Shape.{Shape}
use Rattle.accept.specs.Rules.{Obeys, function_count, row_count, row_info_at}
use Rattle.accept.proofs.Decides.{both}
use Rattle.lookup.specs.Cases.{row_of_function}
use Rattle.lookup.proofs.CoveringLaws.{by_value, is_true}
use Rattle.caller.specs.Cases.{Aarch64, ValueIs, NoMark, Rule24, Rule27, CfaIs}
use Rattle.caller.specs.Frame.{cfa_of}
use Rattle.caller.specs.InBytes.{SignedInBytes, CfaInBytes, RaOnAarch64, RaInBytes, FpInBytes, PcInBytes}
use Rattle.caller.specs.Signature.{Signed, mask_of, clear}
use Rattle.caller.specs.declared.registers.Registers.{Registers}
use Rattle.caller.specs.declared.registers.Process.{Process}
use Rattle.caller.proofs.SignatureLaws.{clear_exactly_when, clear_none, mask_of_signed, mask_of_unsigned}
use Rattle.caller.proofs.StepLaws.{by_shown}
use Rattle.caller.proofs.TestLaws.{is_set, signed_shows}

pub amd64_not : ¬ Aarch64 Amd64
amd64_not (inl e) = let z : ◌≡◌ {A = ℕ} 0 1 = cc in omega arith
amd64_not (inr e) = let z : ◌≡◌ {A = ℕ} 0 1 = cc in omega arith

pub ra_free : (abi : Abi) → ((shape abi).usesfixed ≡ false) ↔ Aarch64 abi
unfolding shape aarch64_shape amd64_shape
ra_free Aarch64Big = (λ e. inl refl, λ a. refl)
ra_free Aarch64Little = (λ e. inr refl, λ a. refl)
ra_free Amd64 = (λ e. absurd (true≢false e), λ a. absurd (amd64_not a))

pub signs_set : (abi : Abi) → ((shape abi).signs ≡ true) ↔ Aarch64 abi
unfolding shape aarch64_shape amd64_shape
signs_set Aarch64Big = (λ e. inl refl, λ a. refl)
signs_set Aarch64Little = (λ e. inr refl, λ a. refl)
signs_set Amd64 = (λ e. absurd (false≢true e), λ a. absurd (amd64_not a))

-- ---- the row at a place

saved_elsewhere : {offset : Offset} → ¬ (AtOffset offset ≡ Register)
saved_elsewhere e = let z : ◌≡◌ {A = ℕ} 0 1 = cc in omega arith

module _ (area : List ℕ) (shape : Shape) (code at : ℕ) where
  pub ra_in_register : ((row_of area shape code at).ra ≡ Register) ↔ ((shape.usesfixed ≡ false) × (count_of (info_of area code at) ≤ 1))
  unfolding row_of ra_in place_in
  ra_in_register =
      let count = count_of (info_of area code at) in (
        λ is.
            by_value shape.usesfixed
            (λ e. absurd (saved_elsewhere (rw (e, ra_in) at is)))
            (λ e.
            let second = rw (e, ra_in) at is in
            (e, by_value (ltb 1 count) (λ more. absurd (saved_elsewhere (rw (more, place_in) at second))) (ltb-false 1 count))),
        λ h. rw (h.0, ra_in) (rw (le-ltb 1 count h.1, place_in)),
      )

  abbrev offset : ℕ → Offset
  offset = offset_in area shape.order (offset_size_of (info_of area code at)) (at + 2 ^ code + 1)

  ra-fixed : shape.usesfixed ≡ true → (row_of area shape code at).ra ≡ AtOffset shape.fixedra
  unfolding row_of ra_in
  ra-fixed e = rw (e, ra_in)

  ra-saved : shape.usesfixed ≡ false → 1 < count_of (info_of area code at) → (row_of area shape code at).ra ≡ AtOffset (offset 1)
  unfolding row_of ra_in place_in
  ra-saved e more = rw (e, ra_in) (rw (lt-ltb 1 (count_of (info_of area code at)) more, place_in))

  fp-saved : shape.fpindex < count_of (info_of area code at) → (row_of area shape code at).fp ≡ AtOffset (offset shape.fpindex)
  unfolding row_of place_in
  fp-saved more = rw (lt-ltb shape.fpindex (count_of (info_of area code at)) more, place_in)

  fp-kept : count_of (info_of area code at) ≤ shape.fpindex → (row_of area shape code at).fp ≡ Register
  unfolding row_of place_in
  fp-kept few = rw (le-ltb shape.fpindex (count_of (info_of area code at)) few, place_in)

  pub signed_bit_lem : ((row_of area shape code at).signed ≡ true) ↔ ((shape.signs ≡ true) × (signed_bit (info_of area code at) ≡ true))
  unfolding row_of
  signed_bit_lem = let bits = both (is_set shape.signs) (is_set (signed_bit (info_of area code at))) in (bits.holds, is_true bits)

-- FP's offset stands after RA's, so where RA is in its register, so is FP
fp_not_first : (abi : Abi) → 1 ≤ (shape abi).fpindex
unfolding shape aarch64_shape amd64_shape
fp_not_first Aarch64Big = omega arith
fp_not_first Aarch64Little = omega arith
fp_not_first Amd64 = omega arith

pub fp_with_ra : (area : List ℕ) (abi : Abi) (code at : ℕ) → (row_of area (shape abi) code at).ra ≡ Register
    → (row_of area (shape abi) code at).fp ≡ Register
fp_with_ra area abi code at is =
    let (free, few) = (ra_in_register area (shape abi) code at).0 is in
    fp-kept area (shape abi) code at (omega (arith, fp_not_first abi))

-- ---- row k of function i

module _ (s : List ℕ) (i k : ℕ) where
  signed-bytes : Signed (shape_of s) (row_of_function s i k) ↔ SignedInBytes s i k
  unfolding row_in row_info_at shape_of
  signed-bytes =
      let bit = signed_bit_lem (area_of s) (shape_of s) (type_of (entry_in s i).info) (row_place_at s i k) in (
        λ h. let (signs, set) = bit.0 h.1 in ((signs_set (layout_of s).abi).0 signs, set),
        λ h. let signs = (signs_set (layout_of s).abi).1 h.0 in (signs, bit.1 (signs, h.1)),
      )

  pub rule_24_bytes : (process : Process) → Rule24 (shape_of s) (row_of_function s i k) process ↔ (SignedInBytes s i k × (process.mask ≡ 0))
  rule_24_bytes process = (λ h. (signed-bytes.0 h.0, h.1), λ h. (signed-bytes.1 h.0, h.1))

  -- a section that obeys has no row with count 0
  pub rule_27_bytes : (registers : Registers) → Obeys s → i < function_count s → k < row_count s i
      → Rule27 registers (row_of_function s i k) ↔ (Aarch64 (layout_of s).abi × (count_of (row_info_at s i k) ≡ 1) × NoMark registers)
  unfolding row_in row_info_at shape_of
  rule_27_bytes registers obeys function inside =
      let ra = ra_in_register (area_of s) (shape_of s) (type_of (entry_in s i).info) (row_place_at s i k) in
      let least = ((obeys.entries i function).rows k inside).rule12.1 in (
        λ h. let (free, most) = ra.0 h.0 in ((ra_free (layout_of s).abi).0 free, omega arith, h.1),
        λ h. let (machine, one, unmarked) = h in (ra.1 ((ra_free (layout_of s).abi).1 machine, omega arith), unmarked),
      )

  -- CFA by the row's base and first offset
  pub cfa_in_bytes : (registers : Registers) (cfa : ℕ) → CfaIs registers (row_of_function s i k) cfa ↔ CfaInBytes s registers i k cfa
  unfolding cfa_of row_in row_of row_info_at
  cfa_in_bytes registers cfa = (λ h. h, λ h. h)

-- ---- RA and FP of the caller, by those bytes

module _ (s stack : List ℕ) (process : Process) (registers : Registers) (i k cfa : ℕ) where
  abbrev count : ℕ
  count = count_of (row_info_at s i k)

  abbrev Saved : ℕ → Place → ℕ → Type 0
  Saved register place value = ValueIs stack process.stack (shape_of s).order cfa register place value

  -- 27 is past, and this is RA
  abbrev RaIs : ℕ → Type 0
  RaIs ra = (¬ Rule27 registers (row_of_function s i k)) × Saved registers.lr (row_of_function s i k).ra ra

  not-lost : {offset : Offset} → (row_of_function s i k).ra ≡ AtOffset offset → ¬ Rule27 registers (row_of_function s i k)
  not-lost saved h = saved_elsewhere (sym saved ∙ h.0)

  module _ (obeys : Obeys s) (function : i < function_count s) (inside : k < row_count s i) where
    least : 1 ≤ count
    least = ((obeys.entries i function).rows k inside).rule12.1

    on-aarch64 : (ra : ℕ) → Aarch64 (layout_of s).abi → RaIs ra ↔ RaOnAarch64 s stack process registers i k cfa ra
    unfolding row_in row_info_at shape_of
    on-aarch64 ra machine =
        let free = (ra_free (layout_of s).abi).1 machine in
        let at = row_place_at s i k in
        let code = type_of (entry_in s i).info in
        let saved = ra-saved (area_of s) (shape_of s) code at free in
        let register = ra_in_register (area_of s) (shape_of s) code at in (
          λ h.
              by_value (ltb 1 count)
              (λ e. let more = ltb-true 1 count e in inl (more, rw (saved more) at h.1))
              (λ e.
              let few = ltb-false 1 count e in
              let kept = register.1 (free, few) in
              inr (omega (arith, least), (λ unmarked. h.0 (kept, unmarked)), rw kept at h.1)),
          ⊎_elim
              (λ h. (not-lost (saved h.0), rw (saved h.0) h.1))
              (λ h.
              let (one, mark, is) = h in
              ((λ lost. mark lost.1), rw (register.1 (free, omega arith)) is)),
        )

    pub ra_in_bytes : (ra : ℕ) → RaIs ra ↔ RaInBytes s stack process registers (layout_of s).abi i k cfa ra
    unfolding row_in shape_of shape amd64_shape
    ra_in_bytes ra = on (layout_of s).abi refl
      where
        on : (abi : Abi) → (layout_of s).abi ≡ abi → RaIs ra ↔ RaInBytes s stack process registers abi i k cfa ra
        on Aarch64Big e = on-aarch64 ra (inl e)
        on Aarch64Little e = on-aarch64 ra (inr e)
        on Amd64 e =
            let fixed =
            ra-fixed (area_of s) (shape_of s) (type_of (entry_in s i).info) (row_place_at s i k) (ap (λ a. (shape a).usesfixed) e)
            ∙ ap (λ a. AtOffset (shape a).fixedra) e in
            (λ h. rw fixed at h.1, λ h. (not-lost fixed, rw fixed h))

  pub fp_in_bytes : (fp : ℕ) → Saved registers.fp (row_of_function s i k).fp fp ↔ FpInBytes s stack process registers i k cfa fp
  unfolding row_in row_info_at
  fp_in_bytes fp =
      let at = row_place_at s i k in
      let code = type_of (entry_in s i).info in
      let number = (shape_of s).fpindex in
      let saved = fp-saved (area_of s) (shape_of s) code at in
      let kept = fp-kept (area_of s) (shape_of s) code at in (
        λ h.
            by_value (ltb number count)
            (λ e. let more = ltb-true number count e in inl (more, rw (saved more) at h))
            (λ e. let few = ltb-false number count e in inr (few, rw (kept few) at h)),
        ⊎_elim (λ h. rw (saved h.0) h.1) (λ h. rw (kept h.0) h.1),
      )

  -- the caller's PC, by the bit and the mask
  pub pc_in_bytes : (ra pc : ℕ)
      → (pc ≡ clear (mask_of (shape_of s) (row_of_function s i k) process) ra) ↔ PcInBytes s stack process registers i k ra pc
  pc_in_bytes ra pc =
      let bytes = signed-bytes s i k in
      let row = row_of_function s i k in
      let masked = clear_exactly_when process.mask ra pc in (
        λ is.
            by_shown (signed_shows (shape_of s) row)
            (λ signed. inl (bytes.0 signed, masked.0 (sym (rw (mask_of_signed (shape_of s) row process signed) at is))))
            (λ unsigned.
            inr ((λ set. unsigned (bytes.1 set)), rw (mask_of_unsigned (shape_of s) row process unsigned) at is ∙ clear_none ra)),
        ⊎_elim
            (λ h. rw (mask_of_signed (shape_of s) row process (bytes.1 h.0)) (sym (masked.1 h.1)))
            (λ h.
            h.1 ∙ sym (rw (mask_of_unsigned (shape_of s) row process (λ set. h.0 (bytes.0 set))) (clear_none ra))),
      )
