-- The offset of d in a function that covers it: what `offset_within` computes is d minus the start, or what that leaves by the
-- repeat size, and nothing else is.
-- Assumes nothing.
use mathlib.Core.Path.{◌≡◌, refl, sym, ◌∙◌, ap}
use mathlib.Core.Bool.{true}
use mathlib.Core.List.{List}
use Prim.Native.Nat.{ℕ, suc, ◌+◌, ◌/◌, ◌%◌, ◌<◌}
use native.Mathlib.Nat.{mod-lt, mod-eq_of_lt, div-add-mod', mul-add-mod_self_right}
use native.Mathlib.Omega.{arith}
use lib.IntN.{ℤ, pos, negsuc, ◌+ℤ◌, ◌-ℤ◌, +ℤ_comm, +ℤ-neg_ℤ_cancel, -ℤ-+ℤ_cancel}
use lib.Signed.{◌≤ℤ◌, ◌<ℤ◌, lt_z_yes, clash_ℤ}
use borrow.Author.Tests.{lt-ltb}
use Rattle.numbers.specs.Inner.Held.{natural}
use Rattle.numbers.proofs.DiffLaws.{Diff, diff_pos, diff_add, diff_lt}
use Rattle.section.specs.Entry.{repeats}
use Rattle.section.specs.Meaning.{Block, plain, repeated, block_of, entry_in, function_start, function_in}
use Rattle.section.specs.declared.entry.Entry.{Entry}
use Rattle.accept.specs.Rules.{Rule10}
use Rattle.accept.specs.Computed.Checks.{verdict}
use Rattle.accept.specs.Verdict.{Accepted}
use Rattle.accept.proofs.Exactly.{accepted_exactly_when}
use Rattle.lookup.specs.Cases.{Covers, Leaves, OffsetIs}
use Rattle.lookup.specs.Computed.Rows.{in_block, offset_within}
use Rattle.lookup.proofs.CoveringLaws.{by_value}

-- ---- d minus the start

sinks_at : (k : ℕ) {z : ℤ} {a b : ℕ} → Diff z a b → (negsuc k +ℤ z) <ℤ z
sinks_at k {z} {a} {b} h =
    let less : Diff (negsuc k) 0 (suc k) = record { apart = omega arith } in
    lt_z_yes (rw (diff_lt (diff_add less h) h, lt-ltb (0 + a + b) (a + (suc k + b)) (omega arith)) tt)

sinks : (k : ℕ) (z : ℤ) → (negsuc k +ℤ z) <ℤ z
sinks k (pos j) = sinks_at k (diff_pos j)
sinks k (negsuc j) = sinks_at k {a = 0} {b = suc j} (record { apart = omega arith })

-- from the start on, it is not negative
kept : (start d past : ℤ) → past +ℤ start ≡ d → start ≤ℤ d → pos (natural past) ≡ past
unfolding natural
kept start d (pos k) e le = refl
kept start d (negsuc k) e le = clash_ℤ (rw e at (sinks k start)) le

reached : (start d : ℤ) → start ≤ℤ d → d ≡ (start +ℤ pos (natural (d -ℤ start)))
reached start d le =
    let back = -ℤ-+ℤ_cancel d start in
    sym (ap (start +ℤ◌) (kept start d (d -ℤ start) back le) ∙ +ℤ_comm start (d -ℤ start) ∙ back)

past_unique : (start : ℤ) (past : ℕ) → natural ((start +ℤ pos past) -ℤ start) ≡ past
unfolding natural
past_unique start past = ap natural (ap (◌-ℤ start) (+ℤ_comm start (pos past)) ∙ +ℤ-neg_ℤ_cancel (pos past) start)

-- ---- what a block leaves of it

Positive : Block → Type 0
Positive plain = Unit
Positive (repeated size) = 0 < size

repeat_positive : (entry : Entry) → (repeats entry.info ≡ true → 0 < entry.repeat) → Positive (block_of entry)
unfolding block_of Positive
repeat_positive entry rule = by_value (repeats entry.info) (λ e. rw (e, block_of) (rule e)) (λ e. rw (e, block_of) tt)

leaves_within : (block : Block) (past : ℕ) → Positive block → Leaves block past (in_block block past)
unfolding in_block Positive
leaves_within plain past some = refl
leaves_within (repeated size) past some = (mod-lt past some, (past / size, sym (div-add-mod' past size)))

leaves_unique : (block : Block) (past o : ℕ) → Leaves block past o → o ≡ in_block block past
unfolding in_block
leaves_unique plain past o e = e
leaves_unique (repeated size) past o h =
    let (lt, (times, e)) = h in
    sym (ap (◌% size) e ∙ mul-add-mod_self_right times size o ∙ mod-eq_of_lt lt)

-- ---- the offset

-- of a function that does not repeat by nothing
pub offset_there : (s : List ℕ) (d : ℤ) (i : ℕ) → Rule10 s i → Covers s d i → OffsetIs s d i (offset_within d (function_in s i))
unfolding offset_within function_in
offset_there s d i rule covered =
    record {
      past = natural (d -ℤ function_start s i);
      past_is = reached (function_start s i) d covered.1;
      leaves = leaves_within (block_of (entry_in s i)) (natural (d -ℤ function_start s i)) (repeat_positive (entry_in s i) rule);
    }

pub offset_is : (s : List ℕ) → verdict s ≡ Accepted → (d : ℤ) (i : ℕ) → Covers s d i → OffsetIs s d i (offset_within d (function_in s i))
offset_is s e d i covered = offset_there s d i (((accepted_exactly_when s).0 e).entries i covered.0).rule10 covered

pub offset_unique : {s : List ℕ} {d : ℤ} {i o : ℕ} → OffsetIs s d i o → o ≡ offset_within d (function_in s i)
unfolding offset_within function_in
offset_unique {s} {d} {i} {o} h =
    let same : natural (d -ℤ function_start s i) ≡ h.past = rw h.past_is (past_unique (function_start s i) h.past) in
    rw same (leaves_unique (block_of (entry_in s i)) h.past o h.leaves)
