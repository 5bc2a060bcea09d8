-- Each function of this crate with its code and the code of all that it calls, for a look-up of the machine that finds the functions
-- (`prog.Linked`). So there is an environment in which a function's name means its code. Written by tools/linked.py.
-- Assumes nothing.
use mathlib.Core.Path.{◌≡◌}
use mathlib.Core.Bool.{false}
use mathlib.Core.List.{◌∷◌}
use mir.Syntax.{Symbol}
use prog.Linked.{Entry, Entries}
use prog.LinkedThreads.{HasT}
use Rattle.numbers.proofs.Linked as numbers
use Rattle.section.proofs.Linked as section
use Rattle.accept.proofs.Linked as accept
use Rattle.lookup.proofs.TheLinks.lookup-look-left_over as link-look-left_over
use Rattle.lookup.proofs.TheLinks.lookup-look-block_offset as link-look-block_offset
use Rattle.lookup.proofs.TheLinks.lookup-table-entry_in as link-table-entry_in
use Rattle.lookup.proofs.TheLinks.lookup-look-reached_in as link-look-reached_in
use Rattle.lookup.proofs.TheLinks.lookup-rows-no_offsets as link-rows-no_offsets
use Rattle.lookup.proofs.TheLinks.lookup-rows-starts_by as link-rows-starts_by
use Rattle.lookup.proofs.TheLinks.lookup-rows-told_at as link-rows-told_at
use Rattle.lookup.proofs.TheLinks.lookup-rows-pass_rows as link-rows-pass_rows
use Rattle.lookup.proofs.TheLinks.lookup-rows-stop_at as link-rows-stop_at
use Rattle.lookup.proofs.TheLinks.lookup-rows-scan_rows as link-rows-scan_rows
use Rattle.lookup.proofs.TheLinks.lookup-look-row_for as link-look-row_for
use Rattle.lookup.proofs.TheLinks.lookup-look-with_row as link-look-with_row
use Rattle.lookup.proofs.TheLinks.lookup-look-with_cover as link-look-with_cover
use Rattle.lookup.proofs.TheLinks.lookup-search-bound_of as link-search-bound_of
use Rattle.lookup.proofs.TheLinks.lookup-search-rank_at as link-search-rank_at
use Rattle.lookup.proofs.TheLinks.lookup-search-halve as link-search-halve
use Rattle.lookup.proofs.TheLinks.lookup-search-past_start as link-search-past_start
use Rattle.lookup.proofs.TheLinks.lookup-search-is_within as link-search-is_within
use Rattle.lookup.proofs.TheLinks.lookup-search-size_at as link-search-size_at
use Rattle.lookup.proofs.TheLinks.lookup-search-covers_at as link-search-covers_at
use Rattle.lookup.proofs.TheLinks.lookup-search-landed_on as link-search-landed_on
use Rattle.lookup.proofs.TheLinks.lookup-search-next_covering as link-search-next_covering
use Rattle.lookup.proofs.TheLinks.lookup-search-scan as link-search-scan
use Rattle.lookup.proofs.TheLinks.lookup-table-table_in as link-table-table_in
use Rattle.lookup.proofs.TheLinks.lookup-search-find as link-search-find
use Rattle.lookup.proofs.TheLinks.lookup-look-look as link-look-look
use Rattle.lookup.proofs.TheLinks.lookup-look-lookup as link-look-lookup
use Rattle.lookup.proofs.TheLinks.lookup-search-land as link-search-land
use Rattle.lookup.proofs.TheLinks.lookup-search-past_within as link-search-past_within
use Rattle.lookup.proofs.TheLinks.lookup-search-past_in as link-search-past_in

-- the functions with their code, before more
abbrev pub entries : Entries → Entries
entries more =
    ("lookup::look::left_over", link-look-left_over.entry) ∷
    ("lookup::look::block_offset", link-look-block_offset.entry) ∷
    ("lookup::table::entry_in", link-table-entry_in.entry) ∷
    ("lookup::look::reached_in", link-look-reached_in.entry) ∷
    ("lookup::rows::no_offsets", link-rows-no_offsets.entry) ∷
    ("lookup::rows::starts_by", link-rows-starts_by.entry) ∷
    ("lookup::rows::told_at", link-rows-told_at.entry) ∷
    ("lookup::rows::pass_rows", link-rows-pass_rows.entry) ∷
    ("lookup::rows::stop_at", link-rows-stop_at.entry) ∷
    ("lookup::rows::scan_rows", link-rows-scan_rows.entry) ∷
    ("lookup::look::row_for", link-look-row_for.entry) ∷
    ("lookup::look::with_row", link-look-with_row.entry) ∷
    ("lookup::look::with_cover", link-look-with_cover.entry) ∷
    ("lookup::search::bound_of", link-search-bound_of.entry) ∷
    ("lookup::search::rank_at", link-search-rank_at.entry) ∷
    ("lookup::search::halve", link-search-halve.entry) ∷
    ("lookup::search::past_start", link-search-past_start.entry) ∷
    ("lookup::search::is_within", link-search-is_within.entry) ∷
    ("lookup::search::size_at", link-search-size_at.entry) ∷
    ("lookup::search::covers_at", link-search-covers_at.entry) ∷
    ("lookup::search::landed_on", link-search-landed_on.entry) ∷
    ("lookup::search::next_covering", link-search-next_covering.entry) ∷
    ("lookup::search::scan", link-search-scan.entry) ∷
    ("lookup::table::table_in", link-table-table_in.entry) ∷
    ("lookup::search::find", link-search-find.entry) ∷
    ("lookup::look::look", link-look-look.entry) ∷
    ("lookup::look::lookup", link-look-lookup.entry) ∷
    ("lookup::search::land", link-search-land.entry) ∷
    ("lookup::search::past_within", link-search-past_within.entry) ∷
    ("lookup::search::past_in", link-search-past_in.entry) ∷
    more

-- a look-up finds them
pub record Finds (look : Symbol → Entry) : Type 0 where
  pub look_left_over : look "lookup::look::left_over" ≡ link-look-left_over.entry
  pub look_block_offset : look "lookup::look::block_offset" ≡ link-look-block_offset.entry
  pub table_entry_in : look "lookup::table::entry_in" ≡ link-table-entry_in.entry
  pub look_reached_in : look "lookup::look::reached_in" ≡ link-look-reached_in.entry
  pub rows_no_offsets : look "lookup::rows::no_offsets" ≡ link-rows-no_offsets.entry
  pub rows_starts_by : look "lookup::rows::starts_by" ≡ link-rows-starts_by.entry
  pub rows_told_at : look "lookup::rows::told_at" ≡ link-rows-told_at.entry
  pub rows_pass_rows : look "lookup::rows::pass_rows" ≡ link-rows-pass_rows.entry
  pub rows_stop_at : look "lookup::rows::stop_at" ≡ link-rows-stop_at.entry
  pub rows_scan_rows : look "lookup::rows::scan_rows" ≡ link-rows-scan_rows.entry
  pub look_row_for : look "lookup::look::row_for" ≡ link-look-row_for.entry
  pub look_with_row : look "lookup::look::with_row" ≡ link-look-with_row.entry
  pub look_with_cover : look "lookup::look::with_cover" ≡ link-look-with_cover.entry
  pub search_bound_of : look "lookup::search::bound_of" ≡ link-search-bound_of.entry
  pub search_rank_at : look "lookup::search::rank_at" ≡ link-search-rank_at.entry
  pub search_halve : look "lookup::search::halve" ≡ link-search-halve.entry
  pub search_past_start : look "lookup::search::past_start" ≡ link-search-past_start.entry
  pub search_is_within : look "lookup::search::is_within" ≡ link-search-is_within.entry
  pub search_size_at : look "lookup::search::size_at" ≡ link-search-size_at.entry
  pub search_covers_at : look "lookup::search::covers_at" ≡ link-search-covers_at.entry
  pub search_landed_on : look "lookup::search::landed_on" ≡ link-search-landed_on.entry
  pub search_next_covering : look "lookup::search::next_covering" ≡ link-search-next_covering.entry
  pub search_scan : look "lookup::search::scan" ≡ link-search-scan.entry
  pub table_table_in : look "lookup::table::table_in" ≡ link-table-table_in.entry
  pub search_find : look "lookup::search::find" ≡ link-search-find.entry
  pub look_look : look "lookup::look::look" ≡ link-look-look.entry
  pub look_lookup : look "lookup::look::lookup" ≡ link-look-lookup.entry
  pub search_land : look "lookup::search::land" ≡ link-search-land.entry
  pub search_past_within : look "lookup::search::past_within" ≡ link-search-past_within.entry
  pub search_past_in : look "lookup::search::past_in" ≡ link-search-past_in.entry

module _ (look : Symbol → Entry) (in_numbers : numbers.Finds look) (in_section : section.Finds look) (in_accept : accept.Finds look) (here : Finds look) where
  pub look_left_over : HasT look false link-look-left_over.code
  look_left_over = link-look-left_over.has look false here.look_left_over

  pub look_block_offset : HasT look false link-look-block_offset.code
  look_block_offset = link-look-block_offset.has look false here.look_block_offset look_left_over (section.entry_does_repeat look in_numbers in_section)

  pub table_entry_in : HasT look false link-table-entry_in.code
  table_entry_in = link-table-entry_in.has look false here.table_entry_in (section.entry_entry_at look in_numbers in_section)

  pub look_reached_in : HasT look false link-look-reached_in.code
  look_reached_in = link-look-reached_in.has look false here.look_reached_in look_block_offset table_entry_in (numbers.held_near_of look in_numbers) (section.entry_start_of look in_numbers in_section) (section.header_order_at look in_numbers in_section)

  pub rows_no_offsets : HasT look false link-rows-no_offsets.code
  rows_no_offsets = link-rows-no_offsets.has look false here.rows_no_offsets (numbers.field_width_of look in_numbers)

  pub rows_starts_by : HasT look false link-rows-starts_by.code
  rows_starts_by = link-rows-starts_by.has look false here.rows_starts_by (section.row_row_start_at look in_numbers in_section)

  pub rows_told_at : HasT look false link-rows-told_at.code
  rows_told_at = link-rows-told_at.has look false here.rows_told_at (section.row_info_at look in_numbers in_section) (section.row_row_length look in_numbers in_section)

  pub rows_pass_rows : HasT look false link-rows-pass_rows.code
  rows_pass_rows = link-rows-pass_rows.has look false here.rows_pass_rows rows_no_offsets rows_starts_by rows_told_at

  pub rows_stop_at : HasT look false link-rows-stop_at.code
  rows_stop_at = link-rows-stop_at.has look false here.rows_stop_at rows_pass_rows

  pub rows_scan_rows : HasT look false link-rows-scan_rows.code
  rows_scan_rows = link-rows-scan_rows.has look false here.rows_scan_rows rows_stop_at (section.entry_type_of look in_numbers in_section) (section.row_row_at look in_numbers in_section)

  pub look_row_for : HasT look false link-look-row_for.code
  look_row_for = link-look-row_for.has look false here.look_row_for look_reached_in rows_scan_rows (section.shape_shape_of look in_numbers in_section)

  pub look_with_row : HasT look false link-look-with_row.code
  look_with_row = link-look-with_row.has look false here.look_with_row

  pub look_with_cover : HasT look false link-look-with_cover.code
  look_with_cover = link-look-with_cover.has look false here.look_with_cover look_row_for look_with_row

  pub search_bound_of : HasT look false link-search-bound_of.code
  search_bound_of = link-search-bound_of.has look false here.search_bound_of

  pub search_rank_at : HasT look false link-search-rank_at.code
  search_rank_at = link-search-rank_at.has look false here.search_rank_at (numbers.field_u32_at look in_numbers) (numbers.held_rank_of look in_numbers)

  pub search_halve : HasT look false link-search-halve.code
  search_halve = link-search-halve.has look false here.search_halve search_bound_of search_rank_at

  pub search_past_start : HasT look false link-search-past_start.code
  search_past_start = link-search-past_start.has look false here.search_past_start

  pub search_is_within : HasT look false link-search-is_within.code
  search_is_within = link-search-is_within.has look false here.search_is_within search_past_start

  pub search_size_at : HasT look false link-search-size_at.code
  search_size_at = link-search-size_at.has look false here.search_size_at (numbers.field_u32_at look in_numbers)

  pub search_covers_at : HasT look false link-search-covers_at.code
  search_covers_at = link-search-covers_at.has look false here.search_covers_at search_is_within search_rank_at search_size_at

  pub search_landed_on : HasT look false link-search-landed_on.code
  search_landed_on = link-search-landed_on.has look false here.search_landed_on search_covers_at

  pub search_next_covering : HasT look false link-search-next_covering.code
  search_next_covering = link-search-next_covering.has look false here.search_next_covering search_covers_at

  pub search_scan : HasT look false link-search-scan.code
  search_scan = link-search-scan.has look false here.search_scan search_next_covering

  pub table_table_in : HasT look false link-table-table_in.code
  table_table_in = link-table-table_in.has look false here.table_table_in (section.header_order_at look in_numbers in_section)

  pub search_find : HasT look false link-search-find.code
  search_find = link-search-find.has look false here.search_find search_halve search_landed_on search_scan table_table_in (numbers.held_near_of look in_numbers)

  pub look_look : HasT look false link-look-look.code
  look_look = link-look-look.has look false here.look_look look_with_cover search_find

  pub look_lookup : HasT look false link-look-lookup.code
  look_lookup = link-look-lookup.has look false here.look_lookup (accept.section_check_check look in_numbers in_section in_accept) look_look (section.header_layout_at look in_numbers in_section)

  pub search_land : HasT look false link-search-land.code
  search_land = link-search-land.has look false here.search_land search_halve table_table_in (numbers.held_near_of look in_numbers)

  pub search_past_within : HasT look false link-search-past_within.code
  search_past_within = link-search-past_within.has look false here.search_past_within search_past_start

  pub search_past_in : HasT look false link-search-past_in.code
  search_past_in = link-search-past_in.has look false here.search_past_in search_past_within search_rank_at search_size_at table_table_in (numbers.held_near_of look in_numbers)
