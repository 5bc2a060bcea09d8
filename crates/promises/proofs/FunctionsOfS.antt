-- The functions of section S by their indexes, of S cut short, and of S with its second start too low, which a check refuses with 14: by
-- computing what the contract of our exported function names.
-- Assumes nothing.
use mathlib.Core.Path.{◌≡◌, refl}
use Prim.Native.Nat.{ℕ}
use lib.IntN.{pos}
use lib.ListN.{take}
use Rattle.section.specs.SectionS.{section_s, overlapping_s}
use Rattle.listing.specs.Functions.{kind_of, rows_place, facts_of, described_in, described_by, described_of}
use Rattle.trace.specs.Inner.Opened.{trace_opened}
use Rattle.suntimpani.specs.Flat.{kind_number, repeat_of, no_function, flat_facts, flat_function}
use Rattle.suntimpani.specs.declared.functions.FunctionInC.{FunctionInC}
use Rattle.promises.specs.FunctionCall.{exported_function}

-- a plain function
abbrev plain_at : ℕ → ℕ → ℕ → FunctionInC
plain_at start size rows = record { number = 0; known = 1; start = pos start; size = size; rows = rows; repeated = 0; repeat = 0 }

pub functions_of_s : (exported_function section_s 0 ≡ plain_at 0x1000 0x20 2)
    × (exported_function section_s 1 ≡ plain_at 0x1040 0x10 1)
    × (exported_function section_s 2 ≡ no_function 0)
    × (exported_function (take 27 section_s) 0 ≡ no_function 1)
    × (exported_function (take 77 section_s) 0 ≡ no_function 8)
    × (exported_function overlapping_s 1 ≡ plain_at 0x101f 0x10 1)
unfolding trace_opened section_s overlapping_s kind_of rows_place facts_of described_in described_by described_of kind_number repeat_of no_function flat_facts flat_function exported_function
functions_of_s = (refl, refl, refl, refl, refl, refl)
