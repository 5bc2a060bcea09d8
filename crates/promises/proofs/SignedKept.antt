-- What is promised of signed return addresses is kept by every four calls that keep the contracts of ours, down to the structs of C.
-- Assumes nothing.
use mathlib.Core.Path.{◌≡◌, sym, subst}
use mathlib.Core.List.{List}
use mathlib.Core.Logic.Iff
use mathlib.Core.Logic.{◌⊎◌, inl, inr}
use Prim.Native.Nat.{ℕ, suc, ◌≤◌, ◌<◌}
use native.Mathlib.Omega.{arith}
use lib.ListN.{length}
use Rattle.section.specs.Meaning.{shape_of}
use Rattle.accept.specs.Rules.{Obeys}
use Rattle.caller.specs.Cases.{CallerCase}
use Rattle.caller.specs.Signature.{Signed, mask_of, Cleared, OnlySignature}
use Rattle.caller.specs.declared.registers.Process.{Process}
use Rattle.caller.specs.declared.registers.Registers.{Registers}
use Rattle.caller.proofs.Exactly.{caller_exactly_when, number_24_exactly_when}
use Rattle.caller.proofs.Signed.{mask_unseen, amd64_unseen, pc_as_read, pc_of_signed, pc_of_unsigned, zero_exactly_when}
use Rattle.caller.proofs.StepLaws.{by_shown}
use Rattle.caller.proofs.TestLaws.{signed_shows}
use Rattle.trace.specs.Cases.{DoorOpen, Follows}
use Rattle.trace.specs.Frames.{in_force, with_mark}
use Rattle.trace.specs.Computed.Trace.{trace_of}
use Rattle.trace.specs.Ending.{Outermost}
use Rattle.trace.specs.declared.answer.Frame.{Frame}
use Rattle.trace.proofs.Exactly.{case_answers}
use Rattle.trace.proofs.Signed.{mask_not_seen, amd64_not_seen}
use Rattle.promises.specs.Demand2.{left_by}
use Rattle.promises.specs.Exported.{FlatCalls, FlatKeeps, read_calls}
use Rattle.promises.specs.SignedAddresses.{StepClears, TraceClears, ClearsSigned, SignedPromised}
use Rattle.promises.specs.Computed.Ours.{ours}
use Rattle.promises.proofs.ExportedKept.{read_keeps}
use Rattle.promises.proofs.Kept.{kept_are_ours}

module _ (s stack : List ℕ) (process : Process) (registers : Registers) where
  clears-case : (caller : Registers) (case : CallerCase s stack process registers caller)
      → (Signed (shape_of s) case.row × Cleared process.mask case.ra caller.pc)
      ⊎ ((¬ Signed (shape_of s) case.row) × (caller.pc ≡ case.ra))
  clears-case caller case =
      by_shown (signed_shows (shape_of s) case.row)
      (λ signed. inl (signed, pc_of_signed s stack process registers caller case signed))
      (λ unsigned. inr (unsigned, pc_of_unsigned s stack process registers caller case unsigned))

  step-clears : StepClears ours s stack process registers
  unfolding ours
  step-clears =
      record {
        clears =
            λ caller is.
            let case = (caller_exactly_when s stack process registers caller).0 is in
            (case, clears-case caller case);
        none_cleared =
            λ none caller is.
            let case = (caller_exactly_when s stack process registers caller).0 is in
            (case, pc_as_read s stack process registers none caller case);
        given_24 =
            Iff.trans (number_24_exactly_when s stack process registers) (
              λ h. (h.0, h.1, h.2.0, h.2.1),
              λ h. (h.0, h.1, (h.2, h.3)),
            );
        unseen = mask_unseen s stack process registers;
        unseen_on_amd64 = amd64_unseen s stack process registers;
      }

  module _ (limit : ℕ) (old : List ℕ) where
    signature-last : (frames : List Frame) (walk : Follows (CallerCase s stack process) (with_mark registers) frames)
        → DoorOpen stack process limit old → Obeys s → length frames ≤ in_force limit → (k : ℕ) (last : k < length frames) → suc k ≡ length frames
        → OnlySignature (mask_of (shape_of s) (walk.steps k last).row process) (walk.steps k last).ra
        → trace_of s stack process registers limit old ≡ left_by frames Outermost old
    unfolding left_by
    signature-last frames walk opened obeys room k last is only =
        let zero = (zero_exactly_when s stack process (walk.at k) (walk.at (suc k)) (walk.steps k last)).1 only in
        case_answers s stack process registers limit old frames Outermost
        record {
          opened = opened;
          obeys = obeys;
          walk = record { follows = walk; ends = (omega arith, room, rw is at zero) };
        }

    trace-clears : TraceClears ours s stack process registers limit old
    unfolding ours
    trace-clears =
        record {
          ends = signature-last;
          unseen = mask_not_seen s stack process registers limit old;
          unseen_on_amd64 = amd64_not_seen s stack process registers limit old;
        }

pub clears_signed : ClearsSigned ours
clears_signed = record { steps = step-clears; traces = trace-clears }

pub signed_promised : SignedPromised
signed_promised calls keeps = subst ClearsSigned (sym (kept_are_ours calls keeps)) clears_signed

-- of the answers that the structs of C stand for
pub signed_exported : (flat : FlatCalls) → FlatKeeps flat → ClearsSigned (read_calls flat)
signed_exported flat keeps = signed_promised (read_calls flat) (read_keeps flat keeps)
