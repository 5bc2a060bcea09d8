-- What a function asks that works on a section with a sound header: the values beside it are the section's own parts.
use Rattle.std.specs.Prelude.{◌≡◌, List, ℕ}
use Rattle.numbers.specs.declared.field.Order.{Order}
use Rattle.section.specs.Header.{layout_of, order_of}
use Rattle.section.specs.Meaning.{area_of, shape_of}
use Rattle.section.specs.declared.header.Layout.{Layout}
use Rattle.section.specs.declared.shape.Shape.{Shape}
use Rattle.accept.specs.Computed.Checks.{header_fault}
use Rattle.accept.specs.Fault.{Sound}

pub record PartsOf (s area : List ℕ) (layout : Layout) (shape : Shape) (order : Order) : Type 0 where
  pub sound : header_fault s ≡ Sound
  pub area_is : area ≡ area_of s
  pub layout_is : layout ≡ layout_of s
  pub shape_is : shape ≡ shape_of s
  pub order_is : order ≡ order_of s
