-- There is an environment of the machine in which the name of each function means its code, with the code of all that it calls: that of
-- the look-up which lists them (`tie` of `prog.Linked`). So what is said of every environment that is wired for a function's code is not
-- said of nothing. Written by tools/linked.py.
-- Assumes nothing.
use mathlib.Core.Bool.{false}
use mathlib.Core.List.{[]}
use mir.Syntax.{Symbol}
use prog.Linked.{Entry, in_entries, tie, tie-Follows, Has-Wired}
use prog.LinkedThreads.{HasT, no_threads}
use prog.Routine.{Env}
use prog.Wired.{Code, Wired}
use Rattle.promises.proofs.CodeTable as code_table
use Rattle.numbers.proofs.Linked as numbers
use Rattle.section.proofs.Linked as section
use Rattle.accept.proofs.Linked as accept
use Rattle.listing.proofs.Linked as listing
use Rattle.lookup.proofs.Linked as lookup
use Rattle.ask.proofs.Linked as ask
use Rattle.caller.proofs.Linked as caller
use Rattle.trace.proofs.Linked as trace
use Rattle.explain.proofs.Linked as explain
use Rattle.suntimpani.proofs.Linked as suntimpani
use Rattle.accept.proofs.section_check.check.Symbol as check-symbol
use Rattle.listing.proofs.function.function_at.Symbol as function_at-symbol
use Rattle.lookup.proofs.look.lookup.Symbol as lookup-symbol
use Rattle.ask.proofs.land.ask.Symbol as ask-symbol
use Rattle.caller.proofs.registers.Registers.step.Symbol as step-symbol
use Rattle.trace.proofs.walk.trace.Symbol as trace-symbol
use Rattle.explain.proofs.looked.explain_lookup.Symbol as explain_lookup-symbol
use Rattle.explain.proofs.stepped.explain_step.Symbol as explain_step-symbol
use Rattle.listing.proofs.reader.place_of.Symbol as place_of-symbol
use Rattle.listing.proofs.rows.row_turn.Symbol as row_turn-symbol
use Rattle.listing.proofs.lines.cursor_of.Symbol as cursor_of-symbol
use Rattle.listing.proofs.lines.cursor_at.Symbol as cursor_at-symbol
use Rattle.listing.proofs.lines.next_line.Symbol as next_line-symbol
use Rattle.listing.proofs.reader.reader_of.Symbol as reader_of-symbol
use Rattle.listing.proofs.reader.next_row.Symbol as next_row-symbol
use Rattle.suntimpani.proofs.suntimpani_check.Symbol as exported-check-symbol
use Rattle.suntimpani.proofs.suntimpani_function_at.Symbol as exported-function_at-symbol
use Rattle.suntimpani.proofs.suntimpani_rows_of.Symbol as exported-rows_of-symbol
use Rattle.suntimpani.proofs.suntimpani_next_row.Symbol as exported-next_row-symbol
use Rattle.suntimpani.proofs.suntimpani_lookup.Symbol as exported-lookup-symbol
use Rattle.suntimpani.proofs.suntimpani_ask.Symbol as exported-ask-symbol
use Rattle.suntimpani.proofs.suntimpani_caller.Symbol as exported-caller-symbol
use Rattle.suntimpani.proofs.suntimpani_trace.Symbol as exported-trace-symbol

abbrev look : Symbol → Entry
look = in_entries (code_table.table [])

pub linked : Env
linked = tie look

found_numbers : numbers.Finds look
found_numbers = code_table.table_has_numbers []

found_section : section.Finds look
found_section = code_table.table_has_section []

found_accept : accept.Finds look
found_accept = code_table.table_has_accept []

found_listing : listing.Finds look
found_listing = code_table.table_has_listing []

found_lookup : lookup.Finds look
found_lookup = code_table.table_has_lookup []

found_ask : ask.Finds look
found_ask = code_table.table_has_ask []

found_caller : caller.Finds look
found_caller = code_table.table_has_caller []

found_trace : trace.Finds look
found_trace = code_table.table_has_trace []

found_explain : explain.Finds look
found_explain = code_table.table_has_explain []

found_suntimpani : suntimpani.Finds look
found_suntimpani = code_table.table_has_suntimpani []

wired : (code : Code) → HasT look false code → Wired linked code
unfolding linked
wired code has = Has-Wired look (tie look) (tie-Follows look) code (no_threads look code has)

pub check_wired : Wired linked check-symbol.code
check_wired = wired check-symbol.code (accept.section_check_check look found_numbers found_section found_accept)

pub function_at_wired : Wired linked function_at-symbol.code
function_at_wired = wired function_at-symbol.code (listing.function_function_at look found_numbers found_section found_accept found_listing)

pub lookup_wired : Wired linked lookup-symbol.code
lookup_wired = wired lookup-symbol.code (lookup.look_lookup look found_numbers found_section found_accept found_lookup)

pub ask_wired : Wired linked ask-symbol.code
ask_wired = wired ask-symbol.code (ask.land_ask look found_numbers found_section found_accept found_lookup found_ask)

pub step_wired : Wired linked step-symbol.code
step_wired = wired step-symbol.code (caller.registers_Registers_step look found_numbers found_section found_accept found_lookup found_caller)

pub trace_wired : Wired linked trace-symbol.code
trace_wired = wired trace-symbol.code (trace.walk_trace look found_numbers found_section found_accept found_lookup found_caller found_trace)

pub explain_lookup_wired : Wired linked explain_lookup-symbol.code
explain_lookup_wired = wired explain_lookup-symbol.code (explain.looked_explain_lookup look found_numbers found_section found_accept found_lookup found_caller found_explain)

pub explain_step_wired : Wired linked explain_step-symbol.code
explain_step_wired = wired explain_step-symbol.code (explain.stepped_explain_step look found_numbers found_section found_accept found_lookup found_caller found_explain)

pub place_of_wired : Wired linked place_of-symbol.code
place_of_wired = wired place_of-symbol.code (listing.reader_place_of look found_numbers found_section found_accept found_listing)

pub row_turn_wired : Wired linked row_turn-symbol.code
row_turn_wired = wired row_turn-symbol.code (listing.rows_row_turn look found_numbers found_section found_accept found_listing)

pub cursor_of_wired : Wired linked cursor_of-symbol.code
cursor_of_wired = wired cursor_of-symbol.code (listing.lines_cursor_of look found_numbers found_section found_accept found_listing)

pub cursor_at_wired : Wired linked cursor_at-symbol.code
cursor_at_wired = wired cursor_at-symbol.code (listing.lines_cursor_at look found_numbers found_section found_accept found_listing)

pub next_line_wired : Wired linked next_line-symbol.code
next_line_wired = wired next_line-symbol.code (listing.lines_next_line look found_numbers found_section found_accept found_listing)

pub reader_of_wired : Wired linked reader_of-symbol.code
reader_of_wired = wired reader_of-symbol.code (listing.reader_reader_of look found_numbers found_section found_accept found_listing)

pub next_row_wired : Wired linked next_row-symbol.code
next_row_wired = wired next_row-symbol.code (listing.reader_next_row look found_numbers found_section found_accept found_listing)

pub exported_check_wired : Wired linked exported-check-symbol.code
exported_check_wired = wired exported-check-symbol.code (suntimpani.suntimpani_check look found_numbers found_section found_accept found_listing found_lookup found_ask found_caller found_trace found_suntimpani)

pub exported_function_at_wired : Wired linked exported-function_at-symbol.code
exported_function_at_wired = wired exported-function_at-symbol.code (suntimpani.suntimpani_function_at look found_numbers found_section found_accept found_listing found_lookup found_ask found_caller found_trace found_suntimpani)

pub exported_rows_of_wired : Wired linked exported-rows_of-symbol.code
exported_rows_of_wired = wired exported-rows_of-symbol.code (suntimpani.suntimpani_rows_of look found_numbers found_section found_accept found_listing found_lookup found_ask found_caller found_trace found_suntimpani)

pub exported_next_row_wired : Wired linked exported-next_row-symbol.code
exported_next_row_wired = wired exported-next_row-symbol.code (suntimpani.suntimpani_next_row look found_numbers found_section found_accept found_listing found_lookup found_ask found_caller found_trace found_suntimpani)

pub exported_lookup_wired : Wired linked exported-lookup-symbol.code
exported_lookup_wired = wired exported-lookup-symbol.code (suntimpani.suntimpani_lookup look found_numbers found_section found_accept found_listing found_lookup found_ask found_caller found_trace found_suntimpani)

pub exported_ask_wired : Wired linked exported-ask-symbol.code
exported_ask_wired = wired exported-ask-symbol.code (suntimpani.suntimpani_ask look found_numbers found_section found_accept found_listing found_lookup found_ask found_caller found_trace found_suntimpani)

pub exported_caller_wired : Wired linked exported-caller-symbol.code
exported_caller_wired = wired exported-caller-symbol.code (suntimpani.suntimpani_caller look found_numbers found_section found_accept found_listing found_lookup found_ask found_caller found_trace found_suntimpani)

pub exported_trace_wired : Wired linked exported-trace-symbol.code
exported_trace_wired = wired exported-trace-symbol.code (suntimpani.suntimpani_trace look found_numbers found_section found_accept found_listing found_lookup found_ask found_caller found_trace found_suntimpani)
