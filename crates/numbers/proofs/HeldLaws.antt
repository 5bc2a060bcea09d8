-- A start and a distance compare as whole numbers exactly as the unsigned numbers that hold them do. The layers above cite
-- one law for each outcome of a test (`from_start` to `offset_in_lem`), and prove no range of their own.
-- Assumes nothing.
use mathlib.Core.Path.{◌≡◌, refl, sym, ◌∙◌, ap}
use mathlib.Core.Bool.{Bool, true, false}
use Prim.Native.Nat.{ℕ, suc, ◌+◌, ◌-◌, ◌*◌, ◌^◌, ◌≤◌, ◌<◌, min}
use native.Mathlib.Omega.{arith}
use lib.IntN.{ℤ, pos, negsuc, ◌+ℤ◌, ◌-ℤ◌}
use lib.Signed.{lt_z, le_z}
use lib.Dec.{ltb}
use borrow.Author.Tests.{ltb-true, ltb-false, le-leb, lt-leb, le-ltb, lt-ltb}
use Rattle.numbers.specs.Start.{start_at, distance}
use Rattle.numbers.specs.Inner.Held.{rank, natural, raised, near, Held, Near}
use Rattle.numbers.proofs.DiffLaws.{Apart, Diff, diff_pos, diff_add, diff_neg, diff_same, diff_less, diff_unique, diff_le, diff_lt}
use Rattle.numbers.proofs.SignedLaws.{signed_low, signed_high}

natural_at : (z : ℤ) (a b : ℕ) → Apart z a b → natural z ≡ a - b
unfolding natural
natural_at (pos k) a b h = omega arith
natural_at (negsuc k) a b h = omega arith

-- a difference, held
pub raised_is : {z : ℤ} {a b : ℕ} → Diff z a b → raised z ≡ a + 2 ^ 32 - b
unfolding raised
raised_is {z} {a} {b} h =
    natural_at (z +ℤ pos (2 ^ 32)) (a + 2 ^ 32) (b + 0) (diff_add h (diff_pos (2 ^ 32))).apart ∙ omega arith

pub near_is : {z : ℤ} {a b : ℕ} → Diff z a b → near z ≡ min (a + 2 ^ 32 - b) (2 ^ 34)
unfolding near
near_is h = ap (λ n. min n (2 ^ 34)) (raised_is h)

-- ---- how a start and a distance come to be held

pub start_low : (field position : ℕ) → field < 2147483648 → Diff (start_at field position) (field + position) 0
unfolding start_at
start_low field position h = rw (signed_low 4 field h) (diff_add (diff_pos field) (diff_pos position))

pub start_high : (field position : ℕ) → 2147483648 ≤ field → Diff (start_at field position) (field + position) (2 ^ 32)
unfolding start_at
start_high field position h = rw (signed_high 4 field h) (diff_add (diff_less field (2 ^ 32)) (diff_pos position))

distance_is : (address pc : ℕ) → Diff (distance address pc) pc address
unfolding distance
distance_is address pc = diff_less pc address

-- a number that holds a start, from a difference within the range
pub held_by : {z : ℤ} {a b h : ℕ} → Diff z a b → h + b ≡ a + 2 ^ 32 → 0 < h → h ≤ 3 * 2 ^ 32 → Held z h
held_by diff e p q = record { is = rw (raised_is diff) (omega arith); above = p; room = q }

-- a field and what it counts from hold the start: in both halves that a field may lie in
rank_by_half : (field position : ℕ) (low : Bool) → ltb field 2147483648 ≡ low → field < 2 ^ 32 → position < 2 ^ 32
    → Held (start_at field position) (rank field + 2147483648 + position)
unfolding rank
rank_by_half field position true e p q =
    let half = ltb-true field 2147483648 e in
    held_by (start_low field position half) (omega arith) (omega arith) (omega arith)
rank_by_half field position false e p q =
    let half = ltb-false field 2147483648 e in
    held_by (start_high field position half) (omega arith) (omega arith) (omega arith)

pub held_rank : (field position : ℕ) → field < 2 ^ 32 → position < 2 ^ 32 → Held (start_at field position) (rank field + 2147483648 + position)
held_rank field position = rank_by_half field position (ltb field 2147483648) refl

-- a number that holds the distance of a PC
pub near_by : (address pc : ℕ) {n : ℕ} → n ≡ min (pc + 2 ^ 32 - address) (2 ^ 34) → n ≡ near (distance address pc)
near_by address pc e = e ∙ sym (near_is (distance_is address pc))

-- ---- comparisons

-- a whole number by two natural ones that no rule looks into
up : ℤ → ℕ
up (pos k) = k
up (negsuc k) = 0

down : ℤ → ℕ
down (pos k) = 0
down (negsuc k) = suc k

parts_at : (z : ℤ) → Apart z (up z) (down z)
unfolding up down
parts_at (pos k) = omega arith
parts_at (negsuc k) = omega arith

parts : (z : ℤ) → Diff z (up z) (down z)
parts z = record { apart = parts_at z }

held_parts : {start : ℤ} {h : ℕ} → Held start h → h ≡ up start + 2 ^ 32 - down start
held_parts {start} held = held.is ∙ raised_is (parts start)

-- a start from how it is held
pub held_less : {start : ℤ} {h : ℕ} → Held start h → pos h -ℤ pos (2 ^ 32) ≡ start
held_less {start} {h} held =
    let s = held_parts held in
    let above = held.above in
    diff_unique (diff_less h (2 ^ 32)) (diff_same h (2 ^ 32) (omega arith) (parts start))

near_parts : {d : ℤ} {n : ℕ} → Near d n → n ≡ min (up d + 2 ^ 32 - down d) (2 ^ 34)
near_parts {d} dist = dist.is ∙ near_is (parts d)

-- ---- what one test of the code tells, with h for the start as it is held and n for the distance

-- "start <= d", and not
pub from_start : {start d : ℤ} {h n : ℕ} → Held start h → Near d n → h ≤ n → le_z start d ≡ true
from_start {start} {d} held dist le =
    let s = held_parts held in
    let m = near_parts dist in
    diff_le (parts start) (parts d) ∙ le-leb (up start + down d) (up d + down start) (omega arith)

pub before_start : {start d : ℤ} {h n : ℕ} → Held start h → Near d n → n < h → le_z start d ≡ false
before_start {start} {d} held dist lt =
    let s = held_parts held in
    let m = near_parts dist in
    diff_le (parts start) (parts d) ∙ lt-leb (up start + down d) (up d + down start) (omega arith)

-- "d < start + size", and not
pub before_end : {start d : ℤ} {h n : ℕ} (size : ℕ) → Held start h → Near d n → size < 2 ^ 32 → n < h + size
    → lt_z d (start +ℤ pos size) ≡ true
before_end {start} {d} size held dist k lt =
    let s = held_parts held in
    let m = near_parts dist in
    diff_lt (parts d) (diff_add (parts start) (diff_pos size)) ∙ lt-ltb (up d + (down start + 0)) (up start + size + down d) (omega arith)

pub from_end : {start d : ℤ} {h n : ℕ} (size : ℕ) → Held start h → Near d n → size < 2 ^ 32 → h + size ≤ n
    → lt_z d (start +ℤ pos size) ≡ false
from_end {start} {d} size held dist k le =
    let s = held_parts held in
    let m = near_parts dist in
    diff_lt (parts d) (diff_add (parts start) (diff_pos size)) ∙ le-ltb (up d + (down start + 0)) (up start + size + down d) (omega arith)

-- "the effective start is below the previous entry's start plus size", and not
pub overlaps : {later earlier : ℤ} {h i : ℕ} (size : ℕ) → Held later h → Held earlier i → h < i + size → lt_z later (earlier +ℤ pos size) ≡ true
overlaps {later} {earlier} size held held' lt =
    let s = held_parts held in
    let m = held_parts held' in
    diff_lt (parts later) (diff_add (parts earlier) (diff_pos size))
    ∙ lt-ltb (up later + (down earlier + 0)) (up earlier + size + down later) (omega arith)

pub follows : {later earlier : ℤ} {h i : ℕ} (size : ℕ) → Held later h → Held earlier i → i + size ≤ h → lt_z later (earlier +ℤ pos size) ≡ false
follows {later} {earlier} size held held' le =
    let s = held_parts held in
    let m = held_parts held' in
    diff_lt (parts later) (diff_add (parts earlier) (diff_pos size))
    ∙ le-ltb (up later + (down earlier + 0)) (up earlier + size + down later) (omega arith)

-- within a function, d less its start is the difference of what is held
pub offset_in_lem : {start d : ℤ} {h n : ℕ} (size : ℕ) → Held start h → Near d n → size < 2 ^ 32 → h ≤ n → n < h + size → d -ℤ start ≡ pos (n - h)
offset_in_lem {start} {d} {h} {n} size held dist k le lt =
    let s = held_parts held in
    let m = near_parts dist in
    diff_unique (diff_add (parts d) (diff_neg (parts start))) (diff_same _ _ (omega arith) (diff_pos (n - h)))
