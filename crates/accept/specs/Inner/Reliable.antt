-- What an accepted section is like, beyond the rules themselves: what the layers above rely on.
use Rattle.std.specs.Prelude.{◌≡◌, true, List, ℕ, ◌≤◌, ◌<◌, ◌≤ℤ◌}
use Rattle.section.specs.Entry.{type_of}
use Rattle.section.specs.Header.{layout_of}
use Rattle.section.specs.Meaning.{area_of, shape_of, entry_in, row_place_at, function_start, function_end}
use Rattle.section.specs.Inner.Reading.{Readable}
use Rattle.accept.specs.Rules.{function_count, row_count, HeaderObeys}
use Rattle.accept.specs.Computed.Checks.{entry_fault}
use Rattle.accept.specs.Fault.{Sound}

pub record Reliable (s : List ℕ) : Type 0 where
  pub header : HeaderObeys s
  -- a section of at most 16,777,216 bytes has room for so many entries
  pub few : function_count s ≤ 838859
  -- every entry is sound by itself; every row of every function can be read and lies inside
  pub entries : (i : ℕ) → i < function_count s → entry_fault (area_of s) (shape_of s) (entry_in s i) ≡ Sound
  pub rows : (i k : ℕ) → i < function_count s → k < row_count s i → Readable (area_of s) (type_of (entry_in s i).info) (row_place_at s i k)
  -- in a sorted section every earlier function ends at or before every later one's start
  pub apart : (layout_of s).sorted ≡ true → (i j : ℕ) → i < j → j < function_count s → function_end s i ≤ℤ function_start s j
