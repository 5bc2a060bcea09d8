-- What the inner functions ask: no more than each needs, so that one check serves many lookups.
use Rattle.std.specs.Prelude.{◌≡◌, true, List, ℕ, ◌<◌, ℤ}
use Rattle.numbers.specs.declared.field.Order.{Order}
use Rattle.section.specs.Header.{layout_of, order_of}
use Rattle.section.specs.Meaning.{function_in}
use Rattle.section.specs.declared.header.Layout.{Layout}
use Rattle.accept.specs.Computed.Checks.{header_fault, verdict}
use Rattle.accept.specs.Fault.{Sound}
use Rattle.accept.specs.Verdict.{Accepted}
use Rattle.lookup.specs.Computed.Covering.{covers}

-- a section with a sound header, and its own layout
pub record HeaderOf (s : List ℕ) (layout : Layout) : Type 0 where
  pub sound : header_fault s ≡ Sound
  pub layout_is : layout ≡ layout_of s

-- the same, with the section's byte order beside it
pub record TableOf (s : List ℕ) (layout : Layout) (order : Order) : Type 0 where
  pub header : HeaderOf s layout
  pub order_is : order ≡ order_of s

-- a section that was checked before, and its own layout
pub record AcceptedOf (s : List ℕ) (layout : Layout) : Type 0 where
  pub accepted : verdict s ≡ Accepted
  pub layout_is : layout ≡ layout_of s

-- the row of function i is looked for: d is within it
pub record RowAsked (s : List ℕ) (layout : Layout) (i : ℕ) (d : ℤ) : Type 0 where
  pub section : AcceptedOf s layout
  pub inside : i < layout.functions
  pub within : covers d (function_in s i) ≡ true
