-- Each function of this crate with its code and the code of all that it calls, for a look-up of the machine that finds the functions
-- (`prog.Linked`). So there is an environment in which a function's name means its code. Written by tools/linked.py.
-- Assumes nothing.
use mathlib.Core.Path.{◌≡◌}
use mathlib.Core.Bool.{false}
use mathlib.Core.List.{◌∷◌}
use mir.Syntax.{Symbol}
use prog.Linked.{Entry, Entries}
use prog.LinkedThreads.{HasT}
use Rattle.numbers.proofs.Linked as numbers
use Rattle.section.proofs.Linked as section
use Rattle.accept.proofs.Linked as accept
use Rattle.listing.proofs.Linked as listing
use Rattle.lookup.proofs.Linked as lookup
use Rattle.ask.proofs.Linked as ask
use Rattle.caller.proofs.Linked as caller
use Rattle.trace.proofs.Linked as trace
use Rattle.suntimpani.proofs.TheLinks.suntimpani-flat-empty_row as link-flat-empty_row
use Rattle.suntimpani.proofs.TheLinks.suntimpani-flat-base_number as link-flat-base_number
use Rattle.suntimpani.proofs.TheLinks.suntimpani-flat-flag_of as link-flat-flag_of
use Rattle.suntimpani.proofs.TheLinks.suntimpani-flat-place_kind as link-flat-place_kind
use Rattle.suntimpani.proofs.TheLinks.suntimpani-flat-place_offset as link-flat-place_offset
use Rattle.suntimpani.proofs.TheLinks.suntimpani-flat-flat_row as link-flat-flat_row
use Rattle.suntimpani.proofs.TheLinks.suntimpani-asks-flat_asked as link-asks-flat_asked
use Rattle.suntimpani.proofs.TheLinks.suntimpani-flat-flat_outcome as link-flat-flat_outcome
use Rattle.suntimpani.proofs.TheLinks.suntimpani-flat-flat_answer as link-flat-flat_answer
use Rattle.suntimpani.proofs.TheLinks.suntimpani-flat-flat_verdict as link-flat-flat_verdict
use Rattle.suntimpani.proofs.TheLinks.suntimpani-functions-kind_number as link-functions-kind_number
use Rattle.suntimpani.proofs.TheLinks.suntimpani-functions-repeat_of as link-functions-repeat_of
use Rattle.suntimpani.proofs.TheLinks.suntimpani-functions-flat_facts as link-functions-flat_facts
use Rattle.suntimpani.proofs.TheLinks.suntimpani-functions-no_function as link-functions-no_function
use Rattle.suntimpani.proofs.TheLinks.suntimpani-functions-flat_function as link-functions-flat_function
use Rattle.suntimpani.proofs.TheLinks.suntimpani-rows-abi_named as link-rows-abi_named
use Rattle.suntimpani.proofs.TheLinks.suntimpani-rows-abi_number as link-rows-abi_number
use Rattle.suntimpani.proofs.TheLinks.suntimpani-rows-flat_place as link-rows-flat_place
use Rattle.suntimpani.proofs.TheLinks.suntimpani-rows-flat_next as link-rows-flat_next
use Rattle.suntimpani.proofs.TheLinks.suntimpani-rows-flat_turn as link-rows-flat_turn
use Rattle.suntimpani.proofs.TheLinks.suntimpani-rows-place_read as link-rows-place_read
use Rattle.suntimpani.proofs.TheLinks.suntimpani-suntimpani_ask as link-suntimpani_ask
use Rattle.suntimpani.proofs.TheLinks.suntimpani-walks-flat_step as link-walks-flat_step
use Rattle.suntimpani.proofs.TheLinks.suntimpani-suntimpani_caller as link-suntimpani_caller
use Rattle.suntimpani.proofs.TheLinks.suntimpani-suntimpani_check as link-suntimpani_check
use Rattle.suntimpani.proofs.TheLinks.suntimpani-suntimpani_function_at as link-suntimpani_function_at
use Rattle.suntimpani.proofs.TheLinks.suntimpani-suntimpani_lookup as link-suntimpani_lookup
use Rattle.suntimpani.proofs.TheLinks.suntimpani-suntimpani_next_row as link-suntimpani_next_row
use Rattle.suntimpani.proofs.TheLinks.suntimpani-suntimpani_rows_of as link-suntimpani_rows_of
use Rattle.suntimpani.proofs.TheLinks.suntimpani-walks-ending_number as link-walks-ending_number
use Rattle.suntimpani.proofs.TheLinks.suntimpani-walks-flat_traced as link-walks-flat_traced
use Rattle.suntimpani.proofs.TheLinks.suntimpani-suntimpani_trace as link-suntimpani_trace

-- the functions with their code, before more
abbrev pub entries : Entries → Entries
entries more =
    ("suntimpani::flat::empty_row", link-flat-empty_row.entry) ∷
    ("suntimpani::flat::base_number", link-flat-base_number.entry) ∷
    ("suntimpani::flat::flag_of", link-flat-flag_of.entry) ∷
    ("suntimpani::flat::place_kind", link-flat-place_kind.entry) ∷
    ("suntimpani::flat::place_offset", link-flat-place_offset.entry) ∷
    ("suntimpani::flat::flat_row", link-flat-flat_row.entry) ∷
    ("suntimpani::asks::flat_asked", link-asks-flat_asked.entry) ∷
    ("suntimpani::flat::flat_outcome", link-flat-flat_outcome.entry) ∷
    ("suntimpani::flat::flat_answer", link-flat-flat_answer.entry) ∷
    ("suntimpani::flat::flat_verdict", link-flat-flat_verdict.entry) ∷
    ("suntimpani::functions::kind_number", link-functions-kind_number.entry) ∷
    ("suntimpani::functions::repeat_of", link-functions-repeat_of.entry) ∷
    ("suntimpani::functions::flat_facts", link-functions-flat_facts.entry) ∷
    ("suntimpani::functions::no_function", link-functions-no_function.entry) ∷
    ("suntimpani::functions::flat_function", link-functions-flat_function.entry) ∷
    ("suntimpani::rows::abi_named", link-rows-abi_named.entry) ∷
    ("suntimpani::rows::abi_number", link-rows-abi_number.entry) ∷
    ("suntimpani::rows::flat_place", link-rows-flat_place.entry) ∷
    ("suntimpani::rows::flat_next", link-rows-flat_next.entry) ∷
    ("suntimpani::rows::flat_turn", link-rows-flat_turn.entry) ∷
    ("suntimpani::rows::place_read", link-rows-place_read.entry) ∷
    ("suntimpani::suntimpani_ask", link-suntimpani_ask.entry) ∷
    ("suntimpani::walks::flat_step", link-walks-flat_step.entry) ∷
    ("suntimpani::suntimpani_caller", link-suntimpani_caller.entry) ∷
    ("suntimpani::suntimpani_check", link-suntimpani_check.entry) ∷
    ("suntimpani::suntimpani_function_at", link-suntimpani_function_at.entry) ∷
    ("suntimpani::suntimpani_lookup", link-suntimpani_lookup.entry) ∷
    ("suntimpani::suntimpani_next_row", link-suntimpani_next_row.entry) ∷
    ("suntimpani::suntimpani_rows_of", link-suntimpani_rows_of.entry) ∷
    ("suntimpani::walks::ending_number", link-walks-ending_number.entry) ∷
    ("suntimpani::walks::flat_traced", link-walks-flat_traced.entry) ∷
    ("suntimpani::suntimpani_trace", link-suntimpani_trace.entry) ∷
    more

-- a look-up finds them
pub record Finds (look : Symbol → Entry) : Type 0 where
  pub flat_empty_row : look "suntimpani::flat::empty_row" ≡ link-flat-empty_row.entry
  pub flat_base_number : look "suntimpani::flat::base_number" ≡ link-flat-base_number.entry
  pub flat_flag_of : look "suntimpani::flat::flag_of" ≡ link-flat-flag_of.entry
  pub flat_place_kind : look "suntimpani::flat::place_kind" ≡ link-flat-place_kind.entry
  pub flat_place_offset : look "suntimpani::flat::place_offset" ≡ link-flat-place_offset.entry
  pub flat_flat_row : look "suntimpani::flat::flat_row" ≡ link-flat-flat_row.entry
  pub asks_flat_asked : look "suntimpani::asks::flat_asked" ≡ link-asks-flat_asked.entry
  pub flat_flat_outcome : look "suntimpani::flat::flat_outcome" ≡ link-flat-flat_outcome.entry
  pub flat_flat_answer : look "suntimpani::flat::flat_answer" ≡ link-flat-flat_answer.entry
  pub flat_flat_verdict : look "suntimpani::flat::flat_verdict" ≡ link-flat-flat_verdict.entry
  pub functions_kind_number : look "suntimpani::functions::kind_number" ≡ link-functions-kind_number.entry
  pub functions_repeat_of : look "suntimpani::functions::repeat_of" ≡ link-functions-repeat_of.entry
  pub functions_flat_facts : look "suntimpani::functions::flat_facts" ≡ link-functions-flat_facts.entry
  pub functions_no_function : look "suntimpani::functions::no_function" ≡ link-functions-no_function.entry
  pub functions_flat_function : look "suntimpani::functions::flat_function" ≡ link-functions-flat_function.entry
  pub rows_abi_named : look "suntimpani::rows::abi_named" ≡ link-rows-abi_named.entry
  pub rows_abi_number : look "suntimpani::rows::abi_number" ≡ link-rows-abi_number.entry
  pub rows_flat_place : look "suntimpani::rows::flat_place" ≡ link-rows-flat_place.entry
  pub rows_flat_next : look "suntimpani::rows::flat_next" ≡ link-rows-flat_next.entry
  pub rows_flat_turn : look "suntimpani::rows::flat_turn" ≡ link-rows-flat_turn.entry
  pub rows_place_read : look "suntimpani::rows::place_read" ≡ link-rows-place_read.entry
  pub suntimpani_ask : look "suntimpani::suntimpani_ask" ≡ link-suntimpani_ask.entry
  pub walks_flat_step : look "suntimpani::walks::flat_step" ≡ link-walks-flat_step.entry
  pub suntimpani_caller : look "suntimpani::suntimpani_caller" ≡ link-suntimpani_caller.entry
  pub suntimpani_check : look "suntimpani::suntimpani_check" ≡ link-suntimpani_check.entry
  pub suntimpani_function_at : look "suntimpani::suntimpani_function_at" ≡ link-suntimpani_function_at.entry
  pub suntimpani_lookup : look "suntimpani::suntimpani_lookup" ≡ link-suntimpani_lookup.entry
  pub suntimpani_next_row : look "suntimpani::suntimpani_next_row" ≡ link-suntimpani_next_row.entry
  pub suntimpani_rows_of : look "suntimpani::suntimpani_rows_of" ≡ link-suntimpani_rows_of.entry
  pub walks_ending_number : look "suntimpani::walks::ending_number" ≡ link-walks-ending_number.entry
  pub walks_flat_traced : look "suntimpani::walks::flat_traced" ≡ link-walks-flat_traced.entry
  pub suntimpani_trace : look "suntimpani::suntimpani_trace" ≡ link-suntimpani_trace.entry

module _ (look : Symbol → Entry) (in_numbers : numbers.Finds look) (in_section : section.Finds look) (in_accept : accept.Finds look) (in_listing : listing.Finds look) (in_lookup : lookup.Finds look) (in_ask : ask.Finds look) (in_caller : caller.Finds look) (in_trace : trace.Finds look) (here : Finds look) where
  pub flat_empty_row : HasT look false link-flat-empty_row.code
  flat_empty_row = link-flat-empty_row.has look false here.flat_empty_row

  pub flat_base_number : HasT look false link-flat-base_number.code
  flat_base_number = link-flat-base_number.has look false here.flat_base_number

  pub flat_flag_of : HasT look false link-flat-flag_of.code
  flat_flag_of = link-flat-flag_of.has look false here.flat_flag_of

  pub flat_place_kind : HasT look false link-flat-place_kind.code
  flat_place_kind = link-flat-place_kind.has look false here.flat_place_kind

  pub flat_place_offset : HasT look false link-flat-place_offset.code
  flat_place_offset = link-flat-place_offset.has look false here.flat_place_offset

  pub flat_flat_row : HasT look false link-flat-flat_row.code
  flat_flat_row = link-flat-flat_row.has look false here.flat_flat_row flat_base_number flat_flag_of flat_place_kind flat_place_offset

  pub asks_flat_asked : HasT look false link-asks-flat_asked.code
  asks_flat_asked = link-asks-flat_asked.has look false here.asks_flat_asked (accept.verdict_Rule_number look in_numbers in_section in_accept) flat_empty_row flat_flat_row

  pub flat_flat_outcome : HasT look false link-flat-flat_outcome.code
  flat_flat_outcome = link-flat-flat_outcome.has look false here.flat_flat_outcome flat_empty_row flat_flat_row

  pub flat_flat_answer : HasT look false link-flat-flat_answer.code
  flat_flat_answer = link-flat-flat_answer.has look false here.flat_flat_answer (accept.verdict_Rule_number look in_numbers in_section in_accept) flat_empty_row flat_flat_outcome flat_flat_row

  pub flat_flat_verdict : HasT look false link-flat-flat_verdict.code
  flat_flat_verdict = link-flat-flat_verdict.has look false here.flat_flat_verdict (accept.verdict_Rule_number look in_numbers in_section in_accept)

  pub functions_kind_number : HasT look false link-functions-kind_number.code
  functions_kind_number = link-functions-kind_number.has look false here.functions_kind_number

  pub functions_repeat_of : HasT look false link-functions-repeat_of.code
  functions_repeat_of = link-functions-repeat_of.has look false here.functions_repeat_of

  pub functions_flat_facts : HasT look false link-functions-flat_facts.code
  functions_flat_facts = link-functions-flat_facts.has look false here.functions_flat_facts functions_kind_number functions_repeat_of

  pub functions_no_function : HasT look false link-functions-no_function.code
  functions_no_function = link-functions-no_function.has look false here.functions_no_function

  pub functions_flat_function : HasT look false link-functions-flat_function.code
  functions_flat_function = link-functions-flat_function.has look false here.functions_flat_function (accept.verdict_Rule_number look in_numbers in_section in_accept) functions_flat_facts functions_no_function

  pub rows_abi_named : HasT look false link-rows-abi_named.code
  rows_abi_named = link-rows-abi_named.has look false here.rows_abi_named

  pub rows_abi_number : HasT look false link-rows-abi_number.code
  rows_abi_number = link-rows-abi_number.has look false here.rows_abi_number

  pub rows_flat_place : HasT look false link-rows-flat_place.code
  rows_flat_place = link-rows-flat_place.has look false here.rows_flat_place rows_abi_number

  pub rows_flat_next : HasT look false link-rows-flat_next.code
  rows_flat_next = link-rows-flat_next.has look false here.rows_flat_next flat_base_number flat_flag_of flat_place_kind flat_place_offset rows_flat_place

  pub rows_flat_turn : HasT look false link-rows-flat_turn.code
  rows_flat_turn = link-rows-flat_turn.has look false here.rows_flat_turn flat_empty_row rows_flat_next

  pub rows_place_read : HasT look false link-rows-place_read.code
  rows_place_read = link-rows-place_read.has look false here.rows_place_read rows_abi_named

  pub suntimpani_ask : HasT look false link-suntimpani_ask.code
  suntimpani_ask = link-suntimpani_ask.has look false here.suntimpani_ask (ask.land_ask look in_numbers in_section in_accept in_lookup in_ask) asks_flat_asked

  pub walks_flat_step : HasT look false link-walks-flat_step.code
  walks_flat_step = link-walks-flat_step.has look false here.walks_flat_step (caller.registers_StepCause_index look in_numbers in_section in_accept in_lookup in_caller) (caller.registers_StepCause_number look in_numbers in_section in_accept in_lookup in_caller)

  pub suntimpani_caller : HasT look false link-suntimpani_caller.code
  suntimpani_caller = link-suntimpani_caller.has look false here.suntimpani_caller (caller.registers_Registers_step look in_numbers in_section in_accept in_lookup in_caller) walks_flat_step

  pub suntimpani_check : HasT look false link-suntimpani_check.code
  suntimpani_check = link-suntimpani_check.has look false here.suntimpani_check (accept.section_check_check look in_numbers in_section in_accept) flat_flat_verdict

  pub suntimpani_function_at : HasT look false link-suntimpani_function_at.code
  suntimpani_function_at = link-suntimpani_function_at.has look false here.suntimpani_function_at (listing.function_function_at look in_numbers in_section in_accept in_listing) functions_flat_function

  pub suntimpani_lookup : HasT look false link-suntimpani_lookup.code
  suntimpani_lookup = link-suntimpani_lookup.has look false here.suntimpani_lookup (lookup.look_lookup look in_numbers in_section in_accept in_lookup) flat_flat_answer

  pub suntimpani_next_row : HasT look false link-suntimpani_next_row.code
  suntimpani_next_row = link-suntimpani_next_row.has look false here.suntimpani_next_row (listing.rows_row_turn look in_numbers in_section in_accept in_listing) rows_flat_turn rows_place_read

  pub suntimpani_rows_of : HasT look false link-suntimpani_rows_of.code
  suntimpani_rows_of = link-suntimpani_rows_of.has look false here.suntimpani_rows_of (listing.function_function_at look in_numbers in_section in_accept in_listing) (listing.reader_place_in look in_numbers in_section in_accept in_listing) rows_flat_place

  pub walks_ending_number : HasT look false link-walks-ending_number.code
  walks_ending_number = link-walks-ending_number.has look false here.walks_ending_number (caller.registers_FrameCause_number look in_numbers in_section in_accept in_lookup in_caller)

  pub walks_flat_traced : HasT look false link-walks-flat_traced.code
  walks_flat_traced = link-walks-flat_traced.has look false here.walks_flat_traced (accept.verdict_Rule_number look in_numbers in_section in_accept) walks_ending_number (trace.answer_DoorFault_number look in_numbers in_section in_accept in_lookup in_caller in_trace)

  pub suntimpani_trace : HasT look false link-suntimpani_trace.code
  suntimpani_trace = link-suntimpani_trace.has look false here.suntimpani_trace walks_flat_traced (trace.walk_trace look in_numbers in_section in_accept in_lookup in_caller in_trace)
