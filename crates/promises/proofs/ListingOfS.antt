-- The listing of section S, of S cut short, and of S with its second start too low, which a check refuses with 14: by computing it.
-- Assumes nothing.
use mathlib.Core.Path.{◌≡◌, refl}
use mathlib.Core.List.{[], ◌∷◌}
use Prim.Native.Nat.{ℕ}
use lib.IntN.{pos}
use lib.ListN.{take}
use Rattle.section.specs.SectionS.{section_s, overlapping_s, at_entry, with_frame}
use Rattle.listing.specs.Listing.{refused, lines, listing_of}
use Rattle.listing.specs.Inner.Opened.{listing_opened}
use Rattle.listing.specs.declared.function.Kind.TheVariants.{Plain}
use Rattle.listing.specs.declared.lines.Line.{Line}
use Rattle.listing.specs.declared.lines.Line.TheVariants.{OfFunction, OfRow}

-- a plain function's line
abbrev plain_at : ℕ → ℕ → ℕ → Line
plain_at index start size = OfFunction (record { index = index; start = record { by = pos start }; size = size; kind = Plain })

pub listing_of_s : (listing_of section_s ≡ lines (plain_at 0 0x1000 0x20 ∷ OfRow at_entry ∷ OfRow with_frame ∷ plain_at 1 0x1040 0x10 ∷ OfRow at_entry ∷ []))
    × (listing_of (take 27 section_s) ≡ refused 1 0)
    × (listing_of (take 77 section_s) ≡ refused 8 0)
    × (listing_of overlapping_s ≡ refused 14 1)
unfolding listing_opened section_s overlapping_s at_entry with_frame
listing_of_s = (refl, refl, refl, refl)
