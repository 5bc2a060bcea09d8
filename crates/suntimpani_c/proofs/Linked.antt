-- Each function of this crate with its code and the code of all that it calls, for a look-up of the machine that finds the functions
-- (`prog.Linked`). So there is an environment in which a function's name means its code. Written by tools/linked.py.
-- Assumes nothing.
use mathlib.Core.Path.{◌≡◌}
use mathlib.Core.Bool.{false}
use mathlib.Core.List.{◌∷◌}
use mir.Syntax.{Symbol}
use prog.Linked.{Entry, Entries}
use prog.LinkedThreads.{HasT}
use Rattle.numbers.proofs.Linked as numbers
use Rattle.section.proofs.Linked as section
use Rattle.accept.proofs.Linked as accept
use Rattle.listing.proofs.Linked as listing
use Rattle.lookup.proofs.Linked as lookup
use Rattle.ask.proofs.Linked as ask
use Rattle.caller.proofs.Linked as caller
use Rattle.trace.proofs.Linked as trace
use Rattle.suntimpani.proofs.Linked as suntimpani
use Rattle.suntimpani_c.proofs.TheLinks.suntimpani_c-suntimpani_ask as link-suntimpani_ask
use Rattle.suntimpani_c.proofs.TheLinks.suntimpani_c-suntimpani_caller as link-suntimpani_caller
use Rattle.suntimpani_c.proofs.TheLinks.suntimpani_c-suntimpani_check as link-suntimpani_check
use Rattle.suntimpani_c.proofs.TheLinks.suntimpani_c-suntimpani_function_at as link-suntimpani_function_at
use Rattle.suntimpani_c.proofs.TheLinks.suntimpani_c-suntimpani_lookup as link-suntimpani_lookup
use Rattle.suntimpani_c.proofs.TheLinks.suntimpani_c-suntimpani_next_row as link-suntimpani_next_row
use Rattle.suntimpani_c.proofs.TheLinks.suntimpani_c-suntimpani_rows_of as link-suntimpani_rows_of
use Rattle.suntimpani_c.proofs.TheLinks.suntimpani_c-suntimpani_trace as link-suntimpani_trace

-- the functions with their code, before more
abbrev pub entries : Entries → Entries
entries more =
    ("suntimpani_c::suntimpani_ask", link-suntimpani_ask.entry) ∷
    ("suntimpani_c::suntimpani_caller", link-suntimpani_caller.entry) ∷
    ("suntimpani_c::suntimpani_check", link-suntimpani_check.entry) ∷
    ("suntimpani_c::suntimpani_function_at", link-suntimpani_function_at.entry) ∷
    ("suntimpani_c::suntimpani_lookup", link-suntimpani_lookup.entry) ∷
    ("suntimpani_c::suntimpani_next_row", link-suntimpani_next_row.entry) ∷
    ("suntimpani_c::suntimpani_rows_of", link-suntimpani_rows_of.entry) ∷
    ("suntimpani_c::suntimpani_trace", link-suntimpani_trace.entry) ∷
    more

-- a look-up finds them
pub record Finds (look : Symbol → Entry) : Type 0 where
  pub suntimpani_ask : look "suntimpani_c::suntimpani_ask" ≡ link-suntimpani_ask.entry
  pub suntimpani_caller : look "suntimpani_c::suntimpani_caller" ≡ link-suntimpani_caller.entry
  pub suntimpani_check : look "suntimpani_c::suntimpani_check" ≡ link-suntimpani_check.entry
  pub suntimpani_function_at : look "suntimpani_c::suntimpani_function_at" ≡ link-suntimpani_function_at.entry
  pub suntimpani_lookup : look "suntimpani_c::suntimpani_lookup" ≡ link-suntimpani_lookup.entry
  pub suntimpani_next_row : look "suntimpani_c::suntimpani_next_row" ≡ link-suntimpani_next_row.entry
  pub suntimpani_rows_of : look "suntimpani_c::suntimpani_rows_of" ≡ link-suntimpani_rows_of.entry
  pub suntimpani_trace : look "suntimpani_c::suntimpani_trace" ≡ link-suntimpani_trace.entry

module _ (look : Symbol → Entry) (in_numbers : numbers.Finds look) (in_section : section.Finds look) (in_accept : accept.Finds look) (in_listing : listing.Finds look) (in_lookup : lookup.Finds look) (in_ask : ask.Finds look) (in_caller : caller.Finds look) (in_trace : trace.Finds look) (in_suntimpani : suntimpani.Finds look) (here : Finds look) where
  pub suntimpani_ask : HasT look false link-suntimpani_ask.code
  suntimpani_ask = link-suntimpani_ask.has look false here.suntimpani_ask (suntimpani.suntimpani_ask look in_numbers in_section in_accept in_listing in_lookup in_ask in_caller in_trace in_suntimpani)

  pub suntimpani_caller : HasT look false link-suntimpani_caller.code
  suntimpani_caller = link-suntimpani_caller.has look false here.suntimpani_caller (suntimpani.suntimpani_caller look in_numbers in_section in_accept in_listing in_lookup in_ask in_caller in_trace in_suntimpani)

  pub suntimpani_check : HasT look false link-suntimpani_check.code
  suntimpani_check = link-suntimpani_check.has look false here.suntimpani_check (suntimpani.suntimpani_check look in_numbers in_section in_accept in_listing in_lookup in_ask in_caller in_trace in_suntimpani)

  pub suntimpani_function_at : HasT look false link-suntimpani_function_at.code
  suntimpani_function_at = link-suntimpani_function_at.has look false here.suntimpani_function_at (suntimpani.suntimpani_function_at look in_numbers in_section in_accept in_listing in_lookup in_ask in_caller in_trace in_suntimpani)

  pub suntimpani_lookup : HasT look false link-suntimpani_lookup.code
  suntimpani_lookup = link-suntimpani_lookup.has look false here.suntimpani_lookup (suntimpani.suntimpani_lookup look in_numbers in_section in_accept in_listing in_lookup in_ask in_caller in_trace in_suntimpani)

  pub suntimpani_next_row : HasT look false link-suntimpani_next_row.code
  suntimpani_next_row = link-suntimpani_next_row.has look false here.suntimpani_next_row (suntimpani.suntimpani_next_row look in_numbers in_section in_accept in_listing in_lookup in_ask in_caller in_trace in_suntimpani)

  pub suntimpani_rows_of : HasT look false link-suntimpani_rows_of.code
  suntimpani_rows_of = link-suntimpani_rows_of.has look false here.suntimpani_rows_of (suntimpani.suntimpani_rows_of look in_numbers in_section in_accept in_listing in_lookup in_ask in_caller in_trace in_suntimpani)

  pub suntimpani_trace : HasT look false link-suntimpani_trace.code
  suntimpani_trace = link-suntimpani_trace.has look false here.suntimpani_trace (suntimpani.suntimpani_trace look in_numbers in_section in_accept in_listing in_lookup in_ask in_caller in_trace in_suntimpani)
