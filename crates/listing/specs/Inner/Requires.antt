-- What a function asks that reads entry i: no more than that it lies in the section.
use Rattle.std.specs.Prelude.{◌≡◌, List, ℕ, ◌≤◌, ◌<◌, ◌^◌, length}
use Rattle.section.specs.Header.{layout_of}
use Rattle.section.specs.declared.header.Layout.{Layout}

pub record EntryThere (s : List ℕ) (layout : Layout) (i : ℕ) : Type 0 where
  pub long : 28 ≤ length s
  pub layout_is : layout ≡ layout_of s
  pub inside : layout.area ≤ length s
  pub small : layout.area < 2 ^ 32
  pub known : i < layout.functions
