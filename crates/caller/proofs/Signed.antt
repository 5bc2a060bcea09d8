-- Signed return addresses (SPECIFICATION 5.14): where the mask is seen at all, what it comes to with mask 0, that with any other 24 is never
-- given, and when nothing is left of RA.
-- Assumes nothing.
use mathlib.Core.Path.{◌≡◌, refl, sym, ◌∙◌, ap, fun_ext}
use mathlib.Core.Bool.{false≢true}
use mathlib.Core.List.{List}
use mathlib.Core.Logic.Iff
use mathlib.Core.Logic.{◌↔◌}
use Prim.Native.Nat.{ℕ}
use native.Mathlib.Omega.{arith}
use Rattle.std.specs.Prelude.{Option, Some, None}
use Rattle.numbers.specs.Computed.Address.{in_memory}
use Rattle.section.specs.Header.{layout_of}
use Rattle.section.specs.Meaning.{shape_of}
use Rattle.section.specs.Shape.{amd64_shape}
use Rattle.section.specs.declared.row.Row.{Row}
use Rattle.section.specs.declared.shape.Abi.TheVariants.{Amd64}
use Rattle.section.specs.declared.shape.Shape.{Shape}
use Rattle.accept.specs.Rules.{Obeys}
use Rattle.accept.specs.Computed.Checks.{verdict}
use Rattle.accept.specs.Verdict.{Verdict}
use Rattle.accept.specs.Verdict as verdict
use Rattle.accept.proofs.Exactly.{accepted_exactly_when}
use Rattle.lookup.specs.Finding.{Finding, finds, refuses}
use Rattle.lookup.specs.Computed.Answers.{look_in}
use Rattle.lookup.proofs.CoveringLaws.{is_false}
use Rattle.caller.specs.Cases.{WindowFits, RowFound, CallerCase}
use Rattle.caller.specs.Frame.{asked_of, cfa_of}
use Rattle.caller.specs.Numbers.{step_number}
use Rattle.caller.specs.Signature.{Signed, is_signed, mask_of, clear, with_mask, Cleared, OnlySignature}
use Rattle.caller.specs.Computed.Caller.{is_maskless, if_fits, step_after, look_at, with_finding, unless_maskless, with_cfa, from_spots, from_cfa, from_row, from_finding, step_of, step_in}
use Rattle.caller.specs.declared.registers.Process.{Process}
use Rattle.caller.specs.declared.registers.Registers.{Registers}
use Rattle.caller.proofs.Exactly.{number_24_exactly_when}
use Rattle.caller.proofs.FindingLaws.{finds_exactly_when}
use Rattle.caller.proofs.MachineLaws.{signs_set, amd64_not}
use Rattle.caller.proofs.SignatureLaws.{clear_exactly_when, clear_none, clear_all_exactly_when, mask_of_signed, mask_of_unsigned}
use Rattle.caller.proofs.StepLaws.{by_shown}
use Rattle.caller.proofs.TestLaws.{signed_shows, fits_shows}

-- ---- where the mask is not seen

module _ (shape : Shape) (stack : List ℕ) (process : Process) (registers : Registers) (mask : ℕ) where
  module _ (row : Row) (unsigned : ¬ Signed shape row) where
    cfa-unseen : (cfa : ℕ) → from_cfa shape stack (with_mask process mask) registers row cfa ≡ from_cfa shape stack process registers row cfa
    unfolding from_cfa from_spots
    cfa-unseen cfa =
        rw (mask_of_unsigned shape row (with_mask process mask) unsigned, mask_of_unsigned shape row process unsigned)

    -- "rows without it leave RA as read": the mask changes no answer
    pub unsigned_row : from_row shape stack (with_mask process mask) registers row ≡ from_row shape stack process registers row
    unfolding from_row unless_maskless is_maskless
    unsigned_row =
        rw (is_false (signed_shows shape row) unsigned, unless_maskless)
        (ap (with_cfa registers (in_memory (cfa_of registers row))) (fun_ext cfa-unseen))

  finding-unseen : (found : Finding) → ((row : Row) (k : ℕ) → found ≡ finds row k → ¬ Signed shape row)
      → from_finding shape stack (with_mask process mask) registers found ≡ from_finding shape stack process registers found
  unfolding from_finding with_finding
  finding-unseen (finds row k) unsigned = unsigned_row row (unsigned row k refl)
  finding-unseen (refuses number) unsigned = refl

-- no row of AMD64 is signed
pub amd64_unsigned : (s : List ℕ) → (layout_of s).abi ≡ Amd64 → (row : Row) → ¬ Signed (shape_of s) row
unfolding shape_of
amd64_unsigned s machine row signed = amd64_not (rw machine at ((signs_set (layout_of s).abi).0 signed.0))

module _ (s stack : List ℕ) (process : Process) (registers : Registers) where
  -- what is looked up on an accepted section is not signed, or there is nothing to look up
  module _ (unsigned : (row : Row) → RowFound s stack process registers row → ¬ Signed (shape_of s) row) (mask : ℕ) where
    asked-unseen : WindowFits stack process → Obeys s → (asked : Option ℕ) → asked_of registers ≡ asked
        → from_finding (shape_of s) stack (with_mask process mask) registers (look_at (look_in s process.section) asked)
        ≡ from_finding (shape_of s) stack process registers (look_at (look_in s process.section) asked)
    unfolding look_at
    asked-unseen fits obeys None is = finding-unseen (shape_of s) stack process registers mask (refuses 21) (λ row k e. absurd (other e))
      where
        other : {row : Row} {k : ℕ} → ¬ (◌≡◌ {A = Finding} (refuses 21) (finds row k))
        other e = let z : ◌≡◌ {A = ℕ} 0 1 = cc in omega arith
    asked-unseen fits obeys (Some pc) is =
        finding-unseen (shape_of s) stack process registers mask (look_in s process.section pc) λ row k e.
        let (i, found) = (finds_exactly_when s obeys process.section pc row k).0 e in
        unsigned row (record { fits = fits; obeys = obeys; pc = pc; asked = is; holds = (i, k, found) })

    -- so the mask is seen only where the row that is found is signed
    pub mask_unseen : step_in s stack (with_mask process mask) registers ≡ step_in s stack process registers
    unfolding step_in if_fits step_after step_of
    mask_unseen =
        by_shown (fits_shows stack process)
        (λ fits. ap (λ next. if_fits stack process registers next) (after (verdict s) refl fits))
        (λ past. rw (is_false (fits_shows stack process) past, if_fits))
      where
        after : (found : Verdict) → verdict s ≡ found → WindowFits stack process
            → step_after registers found (step_of (shape_of s) (look_in s process.section) stack (with_mask process mask) registers)
            ≡ step_after registers found (step_of (shape_of s) (look_in s process.section) stack process registers)
        after verdict.Accepted is fits = asked-unseen fits ((accepted_exactly_when s).0 is) (asked_of registers) refl
        after (verdict.Refused number index) is fits = refl

  -- and so nowhere on AMD64
  pub amd64_unseen : (layout_of s).abi ≡ Amd64 → (mask : ℕ) → step_in s stack (with_mask process mask) registers ≡ step_in s stack process registers
  amd64_unseen machine = mask_unseen λ row found. amd64_unsigned s machine row

  -- ---- with mask 0

  module _ (none : process.mask ≡ 0) where
    -- 24 is given as document 01 said: "AArch64 and the row's signed bit is set."
    pub number_24_without_mask : (step_number (step_in s stack process registers) ≡ 24)
        ↔ ((row : Row) × RowFound s stack process registers row × Signed (shape_of s) row)
    number_24_without_mask =
        Iff.trans (number_24_exactly_when s stack process registers) (
          λ h. (h.0, h.1, h.2.0),
          λ h. (h.0, h.1, (h.2, none)),
        )

    -- and nothing is cleared: the caller's PC is RA as it was read
    pub pc_as_read : (caller : Registers) (h : CallerCase s stack process registers caller) → caller.pc ≡ h.ra
    pc_as_read caller h =
        h.pc_is ∙ ap (λ m. clear m h.ra) (by_shown (signed_shows (shape_of s) h.row) (λ signed. mask_of_signed (shape_of s) h.row process signed ∙ none) (mask_of_unsigned (shape_of s) h.row process))
        ∙ clear_none h.ra

  -- ---- with any other

  -- 24 is never given
  pub no_24_with_mask : ¬ (process.mask ≡ 0) → ¬ (step_number (step_in s stack process registers) ≡ 24)
  no_24_with_mask some is = some ((number_24_exactly_when s stack process registers).0 is).2.1

  module _ (caller : Registers) (h : CallerCase s stack process registers caller) where
    -- of a signed row every bit of the mask is cleared from RA, and nothing else is
    pub pc_of_signed : Signed (shape_of s) h.row → Cleared process.mask h.ra caller.pc
    pc_of_signed signed =
        (clear_exactly_when process.mask h.ra caller.pc).0
        (sym (rw (mask_of_signed (shape_of s) h.row process signed) at h.pc_is))

    -- of any other RA is as it was read, whatever the mask
    pub pc_of_unsigned : ¬ Signed (shape_of s) h.row → caller.pc ≡ h.ra
    pc_of_unsigned unsigned = rw (mask_of_unsigned (shape_of s) h.row process unsigned) at h.pc_is ∙ clear_none h.ra

    -- the caller's PC is 0 exactly where only bits that are cleared are set in RA
    pub zero_exactly_when : (caller.pc ≡ 0) ↔ OnlySignature (mask_of (shape_of s) h.row process) h.ra
    zero_exactly_when =
        Iff.trans (λ e. sym h.pc_is ∙ e, λ e. h.pc_is ∙ e) (clear_all_exactly_when (mask_of (shape_of s) h.row process) h.ra)

-- AMD64 never clears, also for a row made by hand
pub amd64_clears_nothing : (row : Row) (process : Process) → mask_of amd64_shape row process ≡ 0
unfolding mask_of is_signed amd64_shape
amd64_clears_nothing row process = refl

pub amd64_row : (stack : List ℕ) (process : Process) (registers : Registers) (mask : ℕ) (row : Row)
    → from_row amd64_shape stack (with_mask process mask) registers row ≡ from_row amd64_shape stack process registers row
unfolding amd64_shape
amd64_row stack process registers mask row = unsigned_row amd64_shape stack process registers mask row (λ signed. false≢true signed.0)
