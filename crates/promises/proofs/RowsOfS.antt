-- The rows of section S one at a time, of S cut short, and of S with its second start too low, which a check refuses with 14: by
-- computing what the contracts of our two exported functions name.
-- Assumes nothing.
use mathlib.Core.Path.{◌≡◌, refl}
use Prim.Native.Nat.{ℕ}
use lib.IntN.{pos, negsuc}
use lib.ListN.{take}
use Rattle.section.specs.SectionS.{section_s, overlapping_s}
use Rattle.listing.specs.Functions.{kind_of, rows_place, facts_of, described_in, described_by, described_of}
use Rattle.listing.specs.Listing.{after}
use Rattle.listing.specs.Computed.Reader.{place_in}
use Rattle.listing.specs.Computed.Turns.{names_offsets, has_fixed, can_read, has_row, passed, ended, nothing_left, row_turn}
use Rattle.trace.specs.Inner.Opened.{trace_opened}
use Rattle.suntimpani.specs.Flat.{base_number, place_kind, place_offset, flag, empty_row}
use Rattle.suntimpani.specs.FlatRows.{abi_number, flat_place, flat_next, flat_yield, flat_turn}
use Rattle.suntimpani.specs.Read.{read_rows}
use Rattle.suntimpani.specs.declared.rows.RowInC.{RowInC}
use Rattle.suntimpani.specs.declared.rows.RowsInC.{RowsInC}
use Rattle.promises.specs.RowsCall.{exported_rows, row_told}

-- a place in an AMD64 section with row starts of one byte
abbrev place_at : ℕ → ℕ → RowsInC
place_at at left = record { abi = 3; code = 0; at = at; left = left }

-- the row of a function that has just been entered: CFA is SP + 8, and RA lies at CFA - 8
abbrev entered : RowsInC → RowInC
entered rest =
    record { more = 1; start = 0; base = 1; cfa = pos 8; raplace = 1; ra = negsuc 7; fpplace = 0; fp = pos 0; signedra = 0; rest = rest }

-- and from 4 on: CFA is FP + 16, and FP lies at CFA - 16
abbrev framed : RowsInC → RowInC
framed rest =
    record { more = 1; start = 4; base = 0; cfa = pos 16; raplace = 1; ra = negsuc 7; fpplace = 1; fp = negsuc 15; signedra = 0; rest = rest }

abbrev no_more : RowsInC → RowInC
no_more rest =
    record { more = 0; start = 0; base = 0; cfa = pos 0; raplace = 0; ra = pos 0; fpplace = 0; fp = pos 0; signedra = 0; rest = rest }

pub rows_of_s : (exported_rows.begin section_s 0 ≡ place_at 68 2)
    × (row_told exported_rows section_s 0 0 ≡ entered (place_at 71 1))
    × (row_told exported_rows section_s 0 1 ≡ framed (place_at 75 0))
    × (row_told exported_rows section_s 0 2 ≡ no_more (place_at 75 0))
    × (row_told exported_rows section_s 0 3 ≡ no_more (place_at 75 0))
    × (row_told exported_rows section_s 1 0 ≡ entered (place_at 78 0))
    × (row_told exported_rows section_s 1 1 ≡ no_more (place_at 78 0))
    × (row_told exported_rows section_s 2 0 ≡ no_more (place_at 0 0))
    × (row_told exported_rows (take 77 section_s) 0 0 ≡ no_more (place_at 0 0))
    × (row_told exported_rows overlapping_s 1 0 ≡ entered (place_at 78 0))
unfolding trace_opened section_s overlapping_s kind_of rows_place facts_of described_in described_by described_of place_in names_offsets has_fixed can_read has_row passed ended nothing_left row_turn base_number place_kind place_offset flag empty_row abi_number flat_place flat_next flat_yield flat_turn read_rows exported_rows after row_told
rows_of_s = (refl, refl, refl, refl, refl, refl, refl, refl, refl, refl)
