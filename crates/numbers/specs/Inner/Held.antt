-- How the code holds a start and the distance d that it is compared with: each as an unsigned number 2 ^ 32 above its exact value,
-- so that none is below 0 and every comparison is one of plain u64.
use Rattle.std.specs.Prelude.{◌≡◌, ℕ, ◌+◌, ◌≤◌, ◌<◌, ◌*◌, ◌^◌, ◌%◌, min, ℤ, pos, negsuc, ◌+ℤ◌}

-- how far the signed number that a field of 4 bytes stands for is above the least one, -2 ^ 31
unfoldable pub rank : ℕ → ℕ
rank field = (field + 2 ^ 31) % 2 ^ 32

-- a whole number as a natural one, 0 where it is negative
unfoldable pub natural : ℤ → ℕ
natural (pos k) = k
natural (negsuc k) = 0

-- how the code holds a start: 2 ^ 32 above its value
unfoldable pub raised : ℤ → ℕ
raised z = natural (z +ℤ pos (2 ^ 32))

-- how the code holds d: raised like a start, and kept to at most 2 ^ 34, which is above every start and every end
unfoldable pub near : ℤ → ℕ
near d = min (raised d) (2 ^ 34)

-- h holds a start: it is 2 ^ 32 above it, above 0, and with room for any size below 2 ^ 34
pub record Held (start : ℤ) (h : ℕ) : Type 0 where
  pub is : h ≡ raised start
  pub above : 0 < h
  pub room : h ≤ 3 * 2 ^ 32

-- n holds the distance d
pub record Near (d : ℤ) (n : ℕ) : Type 0 where
  pub is : n ≡ near d
