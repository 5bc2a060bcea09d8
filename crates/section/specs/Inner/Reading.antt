-- What the readers of a row ask: no more than that its bytes are there.
use Rattle.std.specs.Prelude.{ℕ, ◌+◌, ◌^◌, ◌≤◌, List, length}
use Rattle.section.specs.Row.{info_of, count_of, offset_size_of, offsets_length, row_length}

-- What a reader of the row at `at` needs: its bytes are inside, and its info names a width and at least one offset.
pub record Readable (area : List ℕ) (code at : ℕ) : Type 0 where
  pub type : code ≤ 2
  pub fixed : at + 2 ^ code + 1 ≤ length area
  pub size : offset_size_of (info_of area code at) ≤ 2
  pub some : 1 ≤ count_of (info_of area code at)
  pub whole : at + row_length area code at ≤ length area

-- what a reader of the offsets that begin at `from` needs
pub record Announced (area : List ℕ) (info from : ℕ) : Type 0 where
  pub size : offset_size_of info ≤ 2
  pub some : 1 ≤ count_of info
  pub whole : from + offsets_length info ≤ length area
