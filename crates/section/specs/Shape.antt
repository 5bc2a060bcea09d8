-- What differs by ABI (SPECIFICATION 2.9 and 3.7), in one record: byte order, the counts allowed, which offset is what, the fixed
-- offsets, and whether the signed bit counts. A fourth ABI is one more clause.
use Rattle.std.specs.Prelude.{ℕ, Bool, true, false, ◌&&◌, leb, eqb, pos, negsuc}
use Rattle.numbers.specs.declared.field.Order.{Order}
use Rattle.numbers.specs.declared.field.Order.TheVariants.{Little, Big}
use Rattle.section.specs.declared.shape.Abi.{Abi}
use Rattle.section.specs.declared.shape.Abi.TheVariants.{Aarch64Big, Aarch64Little, Amd64}
use Rattle.section.specs.declared.shape.Shape.{Shape}

-- "ABI: 1 AArch64 big, 2 AArch64 little, 3 AMD64 little."
unfoldable pub known_abi : ℕ → Bool
known_abi code = leb 1 code && leb code 3

-- the ABI of a code; what it says of a code that names none is never used, since such a section is refused (6)
unfoldable pub abi_of : ℕ → Abi
abi_of code = elim (eqb code 1) [ true ↦ Aarch64Big | false ↦ elim (eqb code 2) [ true ↦ Aarch64Little | false ↦ Amd64 ] ]

-- AArch64: "1 to 3 (CFA, RA, FP)", fixed offsets 0, 0
unfoldable pub aarch64_shape : Order → Shape
aarch64_shape order =
    record { order = order; most = 3; fixedfp = record { by = pos 0 }; fixedra = record { by = pos 0 }; usesfixed = false; fpindex = 2; signs = true }

-- AMD64: "1 or 2 (CFA, FP)", fixed offsets 0, -8, and RA is at that -8
unfoldable pub amd64_shape : Shape
amd64_shape =
    record { order = Little; most = 2; fixedfp = record { by = pos 0 }; fixedra = record { by = negsuc 7 }; usesfixed = true; fpindex = 1; signs = false }

unfoldable pub shape : Abi → Shape
shape Aarch64Big = aarch64_shape Big
shape Aarch64Little = aarch64_shape Little
shape Amd64 = amd64_shape
