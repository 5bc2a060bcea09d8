-- There is an environment of the machine in which the name of each function means its code, with the code of all that it calls: that of
-- the look-up which lists them (`tie` of `prog.Linked`). So what is said of every environment that is wired for a function's code is not
-- said of nothing. Written by tools/linked.py.
-- Assumes nothing.
use mathlib.Core.Path.{refl}
use mathlib.Core.Bool.{false}
use mathlib.Core.List.{[]}
use mir.Syntax.{Symbol}
use prog.Linked.{Entry, in_entries, tie, tie-Follows, Has-Wired}
use prog.LinkedThreads.{HasT, no_threads}
use prog.Routine.{Env}
use prog.Wired.{Code, Wired}
use Rattle.promises.proofs.CodeTable as code_table
use Rattle.numbers.proofs.Linked as numbers
use Rattle.section.proofs.Linked as section
use Rattle.accept.proofs.Linked as accept
use Rattle.listing.proofs.Linked as listing
use Rattle.lookup.proofs.Linked as lookup
use Rattle.ask.proofs.Linked as ask
use Rattle.caller.proofs.Linked as caller
use Rattle.trace.proofs.Linked as trace
use Rattle.explain.proofs.Linked as explain
use Rattle.suntimpani.proofs.Linked as suntimpani
use Rattle.suntimpani_c.proofs.Linked as suntimpani_c
use Rattle.suntimpani_c.proofs.suntimpani_check.Symbol as c-check-symbol
use Rattle.suntimpani_c.proofs.suntimpani_function_at.Symbol as c-function_at-symbol
use Rattle.suntimpani_c.proofs.suntimpani_rows_of.Symbol as c-rows_of-symbol
use Rattle.suntimpani_c.proofs.suntimpani_next_row.Symbol as c-next_row-symbol
use Rattle.suntimpani_c.proofs.suntimpani_lookup.Symbol as c-lookup-symbol
use Rattle.suntimpani_c.proofs.suntimpani_ask.Symbol as c-ask-symbol
use Rattle.suntimpani_c.proofs.suntimpani_caller.Symbol as c-caller-symbol
use Rattle.suntimpani_c.proofs.suntimpani_trace.Symbol as c-trace-symbol

abbrev look : Symbol → Entry
look = in_entries (code_table.table (suntimpani_c.entries []))

pub linked_with_exports : Env
linked_with_exports = tie look

found_numbers : numbers.Finds look
found_numbers = code_table.table_has_numbers (suntimpani_c.entries [])

found_section : section.Finds look
found_section = code_table.table_has_section (suntimpani_c.entries [])

found_accept : accept.Finds look
found_accept = code_table.table_has_accept (suntimpani_c.entries [])

found_listing : listing.Finds look
found_listing = code_table.table_has_listing (suntimpani_c.entries [])

found_lookup : lookup.Finds look
found_lookup = code_table.table_has_lookup (suntimpani_c.entries [])

found_ask : ask.Finds look
found_ask = code_table.table_has_ask (suntimpani_c.entries [])

found_caller : caller.Finds look
found_caller = code_table.table_has_caller (suntimpani_c.entries [])

found_trace : trace.Finds look
found_trace = code_table.table_has_trace (suntimpani_c.entries [])

found_explain : explain.Finds look
found_explain = code_table.table_has_explain (suntimpani_c.entries [])

found_suntimpani : suntimpani.Finds look
found_suntimpani = code_table.table_has_suntimpani (suntimpani_c.entries [])

found_suntimpani_c : suntimpani_c.Finds look
found_suntimpani_c =
    record {
      suntimpani_ask = refl;
      suntimpani_caller = refl;
      suntimpani_check = refl;
      suntimpani_function_at = refl;
      suntimpani_lookup = refl;
      suntimpani_next_row = refl;
      suntimpani_rows_of = refl;
      suntimpani_trace = refl;
    }

wired : (code : Code) → HasT look false code → Wired linked_with_exports code
unfolding linked_with_exports
wired code has = Has-Wired look (tie look) (tie-Follows look) code (no_threads look code has)

pub suntimpani_check_wired : Wired linked_with_exports c-check-symbol.code
suntimpani_check_wired = wired c-check-symbol.code (suntimpani_c.suntimpani_check look found_numbers found_section found_accept found_listing found_lookup found_ask found_caller found_trace found_suntimpani found_suntimpani_c)

pub suntimpani_function_at_wired : Wired linked_with_exports c-function_at-symbol.code
suntimpani_function_at_wired = wired c-function_at-symbol.code (suntimpani_c.suntimpani_function_at look found_numbers found_section found_accept found_listing found_lookup found_ask found_caller found_trace found_suntimpani found_suntimpani_c)

pub suntimpani_rows_of_wired : Wired linked_with_exports c-rows_of-symbol.code
suntimpani_rows_of_wired = wired c-rows_of-symbol.code (suntimpani_c.suntimpani_rows_of look found_numbers found_section found_accept found_listing found_lookup found_ask found_caller found_trace found_suntimpani found_suntimpani_c)

pub suntimpani_next_row_wired : Wired linked_with_exports c-next_row-symbol.code
suntimpani_next_row_wired = wired c-next_row-symbol.code (suntimpani_c.suntimpani_next_row look found_numbers found_section found_accept found_listing found_lookup found_ask found_caller found_trace found_suntimpani found_suntimpani_c)

pub suntimpani_lookup_wired : Wired linked_with_exports c-lookup-symbol.code
suntimpani_lookup_wired = wired c-lookup-symbol.code (suntimpani_c.suntimpani_lookup look found_numbers found_section found_accept found_listing found_lookup found_ask found_caller found_trace found_suntimpani found_suntimpani_c)

pub suntimpani_ask_wired : Wired linked_with_exports c-ask-symbol.code
suntimpani_ask_wired = wired c-ask-symbol.code (suntimpani_c.suntimpani_ask look found_numbers found_section found_accept found_listing found_lookup found_ask found_caller found_trace found_suntimpani found_suntimpani_c)

pub suntimpani_caller_wired : Wired linked_with_exports c-caller-symbol.code
suntimpani_caller_wired = wired c-caller-symbol.code (suntimpani_c.suntimpani_caller look found_numbers found_section found_accept found_listing found_lookup found_ask found_caller found_trace found_suntimpani found_suntimpani_c)

pub suntimpani_trace_wired : Wired linked_with_exports c-trace-symbol.code
suntimpani_trace_wired = wired c-trace-symbol.code (suntimpani_c.suntimpani_trace look found_numbers found_section found_accept found_listing found_lookup found_ask found_caller found_trace found_suntimpani found_suntimpani_c)
