-- Each function of this crate with its code and the code of all that it calls, for a look-up of the machine that finds the functions
-- (`prog.Linked`). So there is an environment in which a function's name means its code. Written by tools/linked.py.
-- Assumes nothing.
use mathlib.Core.Path.{◌≡◌}
use mathlib.Core.Bool.{false}
use mathlib.Core.List.{◌∷◌}
use mir.Syntax.{Symbol}
use prog.Linked.{Entry, Entries}
use prog.LinkedThreads.{HasT}
use Rattle.numbers.proofs.Linked as numbers
use Rattle.section.proofs.Linked as section
use Rattle.accept.proofs.Linked as accept
use Rattle.lookup.proofs.Linked as lookup
use Rattle.ask.proofs.TheLinks.ask-land-with_sought as link-land-with_sought
use Rattle.ask.proofs.TheLinks.ask-rows-sought_at as link-rows-sought_at
use Rattle.ask.proofs.TheLinks.ask-rows-stop_after as link-rows-stop_after
use Rattle.ask.proofs.TheLinks.ask-rows-walk_rows as link-rows-walk_rows
use Rattle.ask.proofs.TheLinks.ask-rows-walk_typed as link-rows-walk_typed
use Rattle.ask.proofs.TheLinks.ask-rows-seek_row as link-rows-seek_row
use Rattle.ask.proofs.TheLinks.ask-land-in_function as link-land-in_function
use Rattle.ask.proofs.TheLinks.ask-land-where_landed as link-land-where_landed
use Rattle.ask.proofs.TheLinks.ask-land-ask_in as link-land-ask_in
use Rattle.ask.proofs.TheLinks.ask-land-ask as link-land-ask

-- the functions with their code, before more
abbrev pub entries : Entries → Entries
entries more =
    ("ask::land::with_sought", link-land-with_sought.entry) ∷
    ("ask::rows::sought_at", link-rows-sought_at.entry) ∷
    ("ask::rows::stop_after", link-rows-stop_after.entry) ∷
    ("ask::rows::walk_rows", link-rows-walk_rows.entry) ∷
    ("ask::rows::walk_typed", link-rows-walk_typed.entry) ∷
    ("ask::rows::seek_row", link-rows-seek_row.entry) ∷
    ("ask::land::in_function", link-land-in_function.entry) ∷
    ("ask::land::where_landed", link-land-where_landed.entry) ∷
    ("ask::land::ask_in", link-land-ask_in.entry) ∷
    ("ask::land::ask", link-land-ask.entry) ∷
    more

-- a look-up finds them
pub record Finds (look : Symbol → Entry) : Type 0 where
  pub land_with_sought : look "ask::land::with_sought" ≡ link-land-with_sought.entry
  pub rows_sought_at : look "ask::rows::sought_at" ≡ link-rows-sought_at.entry
  pub rows_stop_after : look "ask::rows::stop_after" ≡ link-rows-stop_after.entry
  pub rows_walk_rows : look "ask::rows::walk_rows" ≡ link-rows-walk_rows.entry
  pub rows_walk_typed : look "ask::rows::walk_typed" ≡ link-rows-walk_typed.entry
  pub rows_seek_row : look "ask::rows::seek_row" ≡ link-rows-seek_row.entry
  pub land_in_function : look "ask::land::in_function" ≡ link-land-in_function.entry
  pub land_where_landed : look "ask::land::where_landed" ≡ link-land-where_landed.entry
  pub land_ask_in : look "ask::land::ask_in" ≡ link-land-ask_in.entry
  pub land_ask : look "ask::land::ask" ≡ link-land-ask.entry

module _ (look : Symbol → Entry) (in_numbers : numbers.Finds look) (in_section : section.Finds look) (in_accept : accept.Finds look) (in_lookup : lookup.Finds look) (here : Finds look) where
  pub land_with_sought : HasT look false link-land-with_sought.code
  land_with_sought = link-land-with_sought.has look false here.land_with_sought

  pub rows_sought_at : HasT look false link-rows-sought_at.code
  rows_sought_at = link-rows-sought_at.has look false here.rows_sought_at (section.row_row_at look in_numbers in_section)

  pub rows_stop_after : HasT look false link-rows-stop_after.code
  rows_stop_after = link-rows-stop_after.has look false here.rows_stop_after

  pub rows_walk_rows : HasT look false link-rows-walk_rows.code
  rows_walk_rows = link-rows-walk_rows.has look false here.rows_walk_rows (accept.row_check_pass_row look in_numbers in_section in_accept) rows_stop_after

  pub rows_walk_typed : HasT look false link-rows-walk_typed.code
  rows_walk_typed = link-rows-walk_typed.has look false here.rows_walk_typed rows_walk_rows

  pub rows_seek_row : HasT look false link-rows-seek_row.code
  rows_seek_row = link-rows-seek_row.has look false here.rows_seek_row (accept.entry_check_check_own look in_numbers in_section in_accept) rows_sought_at rows_walk_typed (lookup.look_block_offset look in_numbers in_section in_accept in_lookup) (section.entry_type_of look in_numbers in_section)

  pub land_in_function : HasT look false link-land-in_function.code
  land_in_function = link-land-in_function.has look false here.land_in_function land_with_sought rows_seek_row (lookup.table_entry_in look in_numbers in_section in_accept in_lookup) (section.header_order_at look in_numbers in_section) (section.shape_shape_of look in_numbers in_section)

  pub land_where_landed : HasT look false link-land-where_landed.code
  land_where_landed = link-land-where_landed.has look false here.land_where_landed land_in_function (lookup.search_past_in look in_numbers in_section in_accept in_lookup)

  pub land_ask_in : HasT look false link-land-ask_in.code
  land_ask_in = link-land-ask_in.has look false here.land_ask_in land_where_landed (lookup.search_land look in_numbers in_section in_accept in_lookup)

  pub land_ask : HasT look false link-land-ask.code
  land_ask = link-land-ask.has look false here.land_ask (accept.header_check_check_header look in_numbers in_section in_accept) land_ask_in (section.header_layout_at look in_numbers in_section)
