-- When two lists of bytes agree on some of their places. What an answer looks at is said as such places: lists that agree on them get
-- the same answer, whatever else they hold.
use Rattle.std.specs.Prelude.{◌≡◌, List, ℕ, ◌+◌, ◌≤◌, ◌<◌, take, drop}

-- place p is one of the `width` places from `from` on
abbrev pub InSpan : ℕ → ℕ → ℕ → Type 0
InSpan from width p = (from ≤ p) × (p < from + width)

-- at every place of which P is said, both lists have the same byte, or both have none
abbrev pub AgreeOn : (ℕ → Type 0) → List ℕ → List ℕ → Type 0
AgreeOn P bytes other = (p : ℕ) → P p → take 1 (drop p bytes) ≡ take 1 (drop p other)
