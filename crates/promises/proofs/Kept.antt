-- The promises are kept: any four calls that keep the contracts of our public functions meet the three demands, since on every input
-- they answer what those contracts name.
-- Assumes nothing.
use mathlib.Core.Path.{◌≡◌, sym, subst}
use Prim.Native.Nat.{ℕ}
use Rattle.promises.specs.Calls.{Calls}
use Rattle.promises.specs.StatedContracts.{Keeps}
use Rattle.promises.specs.Promises.{Demands, Promised}
use Rattle.promises.specs.Table.{Holds, table, aarch64_table, last_call_table, signed_table, limit_table}
use Rattle.promises.specs.Computed.Ours.{ours}
use Rattle.promises.proofs.ContractLaws.{check_is, lookup_is, step_is, trace_is}
use Rattle.promises.proofs.Demand1Met.{demand_1_ours}
use Rattle.promises.proofs.Demand2Met.{demand_2_ours}
use Rattle.promises.proofs.Demand3Met.{demand_3_ours}
use Rattle.promises.proofs.SameCalls.{same_calls}
use Rattle.promises.proofs.TableHolds.{table_holds, aarch64_holds, last_calls_hold, signed_rows_hold, limits_hold}

pub kept_are_ours : (calls : Calls) → Keeps calls → calls ≡ ours
unfolding ours
kept_are_ours calls keeps =
    same_calls calls ours (check_is calls keeps) (lookup_is calls keeps) (step_is calls keeps) (trace_is calls keeps)

pub promises_kept : Promised
promises_kept calls keeps =
    subst Demands (sym (kept_are_ours calls keeps))
    (record { demand_1 = demand_1_ours; demand_2 = demand_2_ours; demand_3 = demand_3_ours })

-- so such calls reply to K1 to K12 and the AArch64 examples as document 01 says, and to those of requests 03, 04 and 06
pub table_kept : (calls : Calls) → Keeps calls → (mask lr first a b c d e f : ℕ) → Holds calls (table mask lr first a b c d e f)
table_kept calls keeps mask lr first a b c d e f =
    subst (λ these. Holds these (table mask lr first a b c d e f)) (sym (kept_are_ours calls keeps)) (table_holds mask lr first a b c d e f)

pub aarch64_kept : (calls : Calls) → Keeps calls → (mask : ℕ) → Holds calls (aarch64_table mask)
aarch64_kept calls keeps mask = subst (λ these. Holds these (aarch64_table mask)) (sym (kept_are_ours calls keeps)) (aarch64_holds mask)

pub last_calls_kept : (calls : Calls) → Keeps calls → Holds calls last_call_table
last_calls_kept calls keeps = subst (λ these. Holds these last_call_table) (sym (kept_are_ours calls keeps)) last_calls_hold

pub signed_rows_kept : (calls : Calls) → Keeps calls → (a b c d e f : ℕ) → Holds calls (signed_table a b c d e f)
signed_rows_kept calls keeps a b c d e f =
    subst (λ these. Holds these (signed_table a b c d e f)) (sym (kept_are_ours calls keeps)) (signed_rows_hold a b c d e f)

pub limits_kept : (calls : Calls) → Keeps calls → Holds calls limit_table
limits_kept calls keeps = subst (λ these. Holds these limit_table) (sym (kept_are_ours calls keeps)) limits_hold
