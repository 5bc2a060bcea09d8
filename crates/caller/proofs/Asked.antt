-- The PC asked, which a step looks up (SPECIFICATION 5.13): which it is, that where there is none no lookup is made, and that past the
-- row it finds it changes nothing, so that RA is as read.
-- Assumes nothing.
use mathlib.Core.Path.{◌≡◌, refl, sym, ◌∙◌, ap}
use mathlib.Core.List.{List}
use mathlib.Core.Logic.{inl, inr, ◌↔◌, ⊎_elim}
use Prim.Native.Nat.{ℕ, zero, suc, ◌+◌}
use native.Mathlib.Omega.{arith}
use Rattle.std.specs.Prelude.{Some, None}
use Rattle.section.specs.declared.row.Base.{Base}
use Rattle.section.specs.declared.row.Base.TheVariants.{Fp, Sp}
use Rattle.section.specs.declared.shape.Shape.{Shape}
use Rattle.lookup.specs.Finding.{Finding}
use Rattle.caller.specs.Cases.{Asks, AsksNothing, CfaIs, RowFound, CallerCase}
use Rattle.caller.specs.Frame.{just_before, asked_of, base_value, cfa_of}
use Rattle.caller.specs.Computed.Caller.{step_of, step_in}
use Rattle.caller.specs.declared.registers.Registers.{Registers}
use Rattle.caller.specs.Step.{Caller, Refused}
use Rattle.caller.specs.declared.registers.Process.{Process}
use Rattle.caller.proofs.LookedUpLaws.{nowhere_refused}
use Rattle.caller.proofs.RegisterLaws.{asked_unmarked, asked_marked}
use Rattle.caller.proofs.StepLaws.{by_shown, step_exactly_when}
use Rattle.caller.proofs.TestLaws.{mark_shows}

-- ---- one before a PC

before_at : (from pc : ℕ) → (just_before from ≡ Some pc) ↔ (pc + 1 ≡ from)
unfolding just_before
before_at zero pc = (λ e. absurd (let z : ◌≡◌ {A = ℕ} 0 1 = cc in omega arith), λ e. absurd (omega arith))
before_at (suc from) pc = (λ e. let same : from ≡ pc = cc in omega arith, λ e. ap Some (omega arith))

before_nowhere : (from : ℕ) → (just_before from ≡ None) ↔ (from ≡ 0)
unfolding just_before
before_nowhere zero = (λ e. refl, λ e. refl)
before_nowhere (suc from) = (λ e. absurd (let z : ◌≡◌ {A = ℕ} 0 1 = cc in omega arith), λ e. absurd (omega arith))

module _ (registers : Registers) where
  -- "without the first-frame mark, look up PC minus 1; with it, PC itself."
  pub asked_exactly_when : (pc : ℕ) → (asked_of registers ≡ Some pc) ↔ Asks registers pc
  asked_exactly_when pc = (
    λ e.
        by_shown (mark_shows registers) (λ none. inr (none, (before_at registers.pc pc).0 (asked_unmarked registers none ∙ e))) λ set.
        let same : Some registers.pc ≡ Some pc = asked_marked registers set ∙ e in
        inl (set, cc),
    ⊎_elim
        (λ h. sym (asked_marked registers h.0) ∙ ap Some (sym h.1))
        (λ h. sym (asked_unmarked registers h.0) ∙ (before_at registers.pc pc).1 h.1),
  )

  -- "PC 0 without the mark"
  pub nowhere_exactly_when : (asked_of registers ≡ None) ↔ AsksNothing registers
  nowhere_exactly_when = (
    λ e.
        by_shown (mark_shows registers) (λ none. (none, (before_nowhere registers.pc).0 (asked_unmarked registers none ∙ e))) λ set.
        let same : Some registers.pc ≡ None = asked_marked registers set ∙ e in
        absurd (let z : ◌≡◌ {A = ℕ} 0 1 = cc in omega arith),
    λ h. sym (asked_unmarked registers h.0) ∙ (before_nowhere registers.pc).1 h.1,
  )

  -- "is answered 21, .. with no lookup made": by whatever a lookup would find
  pub no_lookup : AsksNothing registers → (shape : Shape) (look : ℕ → Finding) (stack : List ℕ) (process : Process)
      → step_of shape look stack process registers ≡ Refused registers 21
  no_lookup nothing = nowhere_refused registers (nowhere_exactly_when.1 nothing)

-- ---- "The RA written stays as read."

-- these registers at another PC
abbrev pub at_pc : Registers → ℕ → Registers
at_pc registers pc = record { pc = pc; sp = registers.sp; fp = registers.fp; lr = registers.lr; first = registers.first }

base_kept : (registers : Registers) (pc : ℕ) (base : Base) → base_value registers base ≡ base_value (at_pc registers pc) base
unfolding base_value
base_kept registers pc Fp = refl
base_kept registers pc Sp = refl

-- the caller is by the row alone: registers at another PC for which this row is found have the same caller, its PC included
pub whatever_asked : (s stack : List ℕ) (process : Process) (registers caller : Registers) (h : CallerCase s stack process registers caller) (pc : ℕ)
    → RowFound s stack process (at_pc registers pc) h.row
    → step_in s stack process (at_pc registers pc) ≡ Caller caller
unfolding cfa_of
whatever_asked s stack process registers caller h pc found =
    (step_exactly_when s stack process (at_pc registers pc) (Caller caller)).1
    record {
      row = h.row;
      cfa = h.cfa;
      words_at =
          record {
            cfa_at = record { row_found = found; not_24 = h.words_at.cfa_at.not_24; cfa_is = cfa-kept h.words_at.cfa_at.cfa_is };
            not_26 = h.words_at.not_26;
            not_27 = h.words_at.not_27;
          };
      ra = h.ra;
      ra_is = h.ra_is;
      pc_is = h.pc_is;
      sp_is = h.sp_is;
      fp_is = h.fp_is;
      lr_is = h.lr_is;
      first_is = h.first_is;
    }
  where
    cfa-kept : CfaIs registers h.row h.cfa → CfaIs (at_pc registers pc) h.row h.cfa
    cfa-kept is = rw (base_kept registers pc h.row.base) at is
