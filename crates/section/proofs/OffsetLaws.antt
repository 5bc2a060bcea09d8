-- The offsets of a row: how many bytes they can have, and that each one announced lies within them.
-- Assumes nothing.
use mathlib.Core.Path.{sym}
use mathlib.Core.List.{List}
use Prim.Native.Nat.{ℕ, ◌+◌, ◌*◌, ◌^◌, ◌≤◌, ◌<◌}
use native.Mathlib.Nat.{mul-le-mul, mul-le-mul_right, suc-mul}
use native.Mathlib.Omega.{arith}
use lib.Pow.{pow_mono}
use Rattle.section.specs.Row.{info_of, count_of, offset_size_of, offsets_length, row_length}
use Rattle.section.specs.Inner.Reading.{Readable, Announced}

pub size_below : (info : ℕ) → offset_size_of info ≤ 3
unfolding offset_size_of
size_below info = omega arith

count_below : (info : ℕ) → count_of info ≤ 15
unfolding count_of
count_below info = omega arith

-- at most 15 offsets of at most 8 bytes
pub offsets_below : (info : ℕ) → offsets_length info ≤ 120
unfolding offsets_length
offsets_below info = mul-le-mul (count_below info) (pow_mono (size_below info))

-- so a row has at most 4 bytes of start, one of info and those
pub row_below : (area : List ℕ) (code at : ℕ) → code ≤ 2 → row_length area code at ≤ 125
unfolding row_length
row_below area code at h = omega (arith, pow_mono h, offsets_below (info_of area code at))

-- an offset that is announced ends within all of them
pub offset_within_lem : (info k : ℕ) → k < count_of info → k * 2 ^ offset_size_of info + 2 ^ offset_size_of info ≤ offsets_length info
unfolding offsets_length
offset_within_lem info k h = rw (sym (suc-mul k (2 ^ offset_size_of info))) (mul-le-mul_right (2 ^ offset_size_of info) h)

-- the offsets of a row that is readable
pub offsets_of : {area : List ℕ} {code at : ℕ} → Readable area code at → Announced area (info_of area code at) (at + 2 ^ code + 1)
unfolding row_length
offsets_of row = record { size = row.size; some = row.some; whole = omega (arith, row.whole) }
