-- The promises reach the program in C: any four flat calls that keep the contracts of our exported functions hand back structs that
-- stand for answers which meet the three demands, and nothing else stands in them. No other flat calls do.
-- Assumes nothing.
use mathlib.Core.Path.{◌≡◌, refl, sym, ◌∙◌, ap, subst}
use mathlib.Core.List.{[]}
use Prim.Native.Nat.{ℕ}
use Rattle.suntimpani.specs.Flat.{handed_as}
use Rattle.suntimpani.proofs.Lossless.{check_read_back, lookup_read_back, caller_read_back, trace_read_back}
use Rattle.promises.specs.StatedContracts.{Keeps}
use Rattle.promises.specs.Exported.{FlatCalls, read_calls, flat_calls, exported, FlatKeeps, FlatGivenBy, FlatDemands, FlatPromised}
use Rattle.promises.specs.Table.{Holds, table, aarch64_table, last_call_table, signed_table, limit_table}
use Rattle.promises.specs.Computed.Ours.{ours}
use Rattle.promises.specs.Inner.Lent.{lent, lent_to_write}
use Rattle.promises.proofs.ContractLaws.{contracts_kept, somewhere}
use Rattle.promises.proofs.Kept.{promises_kept, table_kept, aarch64_kept, last_calls_kept, signed_rows_kept, limits_kept}
use Rattle.promises.proofs.NoChoice.{demands_ours_alone}
use Rattle.promises.proofs.SameCalls.{same_calls}

-- ---- the contracts

pub exports_give : FlatGivenBy exported
unfolding exported flat_calls ours
exports_give =
    record {
      check = λ κs a z. (λ p. p, λ p. p);
      lookup = λ κs a z. (λ p. p, λ p. p);
      step = λ κs a z. (λ p. p, λ p. p);
      trace = λ κs a z words. (λ p. p, λ p. p);
    }

pub exports_kept : FlatKeeps exported
unfolding exported flat_calls ours handed_as
exports_kept =
    record {
      check = λ κs a. refl;
      lookup = λ κs a. refl;
      step = λ κs a. refl;
      trace = λ κs a. refl;
    }

-- ---- flat calls that keep them are ours

pub flat_are_exported : (flat : FlatCalls) → FlatKeeps flat → flat ≡ exported
unfolding exported flat_calls ours handed_as
flat_are_exported flat keeps =
    same_calls flat exported
    (λ s. keeps.check ([], tt) (lent somewhere s, tt))
    (λ s address pc. keeps.lookup ([], tt) (lent somewhere s, (address, (pc, tt))))
    (λ s stack process registers. keeps.step ([], ([], tt)) (lent somewhere s, (lent somewhere stack, (process, (registers, tt)))))
    (λ s stack process registers limit old.
    keeps.trace ([], ([], ([], tt))) (lent somewhere s, (lent somewhere stack, (process, (registers, (limit, (lent_to_write somewhere old, tt)))))))

-- ---- and stand for ours

read_exported : read_calls exported ≡ ours
unfolding read_calls exported flat_calls ours
read_exported = same_calls (read_calls exported) ours check_read_back lookup_read_back caller_read_back trace_read_back

module _ (flat : FlatCalls) (keeps : FlatKeeps flat) where
  read-is-ours : read_calls flat ≡ ours
  read-is-ours = ap read_calls (flat_are_exported flat keeps) ∙ read_exported

  -- so what is read keeps the contracts of the four public functions, and whatever is promised of those holds
  pub read_keeps : Keeps (read_calls flat)
  read_keeps = subst Keeps (sym read-is-ours) contracts_kept

  flat-is-flattened : flat ≡ flat_calls (read_calls flat)
  unfolding exported
  flat-is-flattened = flat_are_exported flat keeps ∙ ap flat_calls (sym read-is-ours)

  -- K1 to K12, the AArch64 examples and those of requests 03, 04 and 06, as a program in C reads them
  pub table_exported : (mask lr first a b c d e f : ℕ) → Holds (read_calls flat) (table mask lr first a b c d e f)
  table_exported = table_kept (read_calls flat) read_keeps

  pub aarch64_exported : (mask : ℕ) → Holds (read_calls flat) (aarch64_table mask)
  aarch64_exported = aarch64_kept (read_calls flat) read_keeps

  pub last_calls_exported : Holds (read_calls flat) last_call_table
  last_calls_exported = last_calls_kept (read_calls flat) read_keeps

  pub signed_rows_exported : (a b c d e f : ℕ) → Holds (read_calls flat) (signed_table a b c d e f)
  signed_rows_exported = signed_rows_kept (read_calls flat) read_keeps

  pub limits_exported : Holds (read_calls flat) limit_table
  limits_exported = limits_kept (read_calls flat) read_keeps

pub exports_promised : FlatPromised
exports_promised flat keeps =
    record {
      demands = promises_kept (read_calls flat) (read_keeps flat keeps);
      flattened = flat-is-flattened flat keeps;
    }

-- ---- no other flat calls do

pub exports_alone : (flat : FlatCalls) → FlatDemands flat → flat ≡ exported
unfolding exported
exports_alone flat promised = promised.flattened ∙ ap flat_calls (demands_ours_alone (read_calls flat) promised.demands)
