-- The table of all functions of the library with their code, before more, and that a look-up in it finds each. Written by
-- tools/linked.py.
-- Assumes nothing.
use mathlib.Core.Path.{refl}
use prog.Linked.{Entries, in_entries}
use Rattle.numbers.proofs.Linked as numbers
use Rattle.section.proofs.Linked as section
use Rattle.accept.proofs.Linked as accept
use Rattle.listing.proofs.Linked as listing
use Rattle.lookup.proofs.Linked as lookup
use Rattle.ask.proofs.Linked as ask
use Rattle.caller.proofs.Linked as caller
use Rattle.trace.proofs.Linked as trace
use Rattle.explain.proofs.Linked as explain
use Rattle.suntimpani.proofs.Linked as suntimpani

abbrev pub table : Entries → Entries
table more = numbers.entries (section.entries (accept.entries (listing.entries (lookup.entries (ask.entries (caller.entries (trace.entries (explain.entries (suntimpani.entries more)))))))))

pub table_has_numbers : (more : Entries) → numbers.Finds (in_entries (table more))
table_has_numbers more =
    record {
      offset_shift_of = refl;
      address_address_of = refl;
      address_window_fits = refl;
      field_digit_at = refl;
      field_bytes_at = refl;
      field_u64_at = refl;
      address_word_at = refl;
      field_OrderPartialEq_eq = refl;
      field_u16_at = refl;
      field_u32_at = refl;
      field_u8_at = refl;
      field_field_at = refl;
      field_width_of = refl;
      field_number_at = refl;
      held_rank_of = refl;
      held_held_start = refl;
      held_near_of = refl;
      held_start_at = refl;
      offset_full_of = refl;
      offset_offset_of = refl;
      offset_offset_at = refl;
    }

pub table_has_section : (more : Entries) → section.Finds (in_entries (table more))
table_has_section more =
    record {
      header_bit_of = refl;
      entry_does_repeat = refl;
      entry_entry_at = refl;
      entry_position_at = refl;
      entry_exact_start = refl;
      entry_start_of = refl;
      entry_type_of = refl;
      header_fixed_at = refl;
      header_marks_at = refl;
      header_magic_in = refl;
      header_order_at = refl;
      header_sizes_at = refl;
      shape_abi_of = refl;
      header_layout_at = refl;
      row_base_of = refl;
      row_count_of = refl;
      row_info_at = refl;
      row_is_signed = refl;
      row_offset_in = refl;
      row_offset_size_of = refl;
      row_offsets_length = refl;
      row_place_in = refl;
      row_ra_in = refl;
      row_row_at = refl;
      row_row_length = refl;
      row_row_start_at = refl;
      shape_aarch64 = refl;
      shape_amd64 = refl;
      shape_shape_of = refl;
    }

pub table_has_accept : (more : Entries) → accept.Finds (in_entries (table more))
table_has_accept more =
    record {
      entry_check_wrong_entry_info = refl;
      entry_check_wrong_repeat = refl;
      entry_check_check_own = refl;
      row_check_wrong_row_info = refl;
      row_check_pass_row = refl;
      row_check_walk_rows = refl;
      row_check_check_rows = refl;
      entry_check_check_entry = refl;
      header_check_wrong_abi = refl;
      header_check_same_offset = refl;
      header_check_wrong_fixed = refl;
      header_check_wrong_sizes = refl;
      header_check_check_parts = refl;
      header_check_has_magic = refl;
      header_check_check_header = refl;
      section_check_check_sum = refl;
      section_check_starts_below = refl;
      section_check_check_turn = refl;
      section_check_check_each = refl;
      section_check_check_entries = refl;
      section_check_check = refl;
      verdict_Rule_number = refl;
      verdict_RulePartialEq_eq = refl;
    }

pub table_has_listing : (more : Entries) → listing.Finds (in_entries (table more))
table_has_listing more =
    record {
      function_kind_of = refl;
      function_facts_at = refl;
      function_described_in = refl;
      function_function_at = refl;
      rows_nowhere = refl;
      lines_cursor_over = refl;
      lines_cursor_at = refl;
      lines_cursor_of = refl;
      lines_has_entry = refl;
      lines_line_at = refl;
      rows_ended_at = refl;
      lines_stopped_at = refl;
      lines_entry_turn = refl;
      lines_function_turn = refl;
      rows_decoded_at = refl;
      rows_has_fixed = refl;
      rows_names_offsets = refl;
      rows_can_read = refl;
      rows_has_row = refl;
      rows_past_row = refl;
      rows_row_turn = refl;
      lines_next_line = refl;
      reader_next_row = refl;
      reader_place_in = refl;
      reader_place_of = refl;
      reader_reader_of = refl;
    }

pub table_has_lookup : (more : Entries) → lookup.Finds (in_entries (table more))
table_has_lookup more =
    record {
      look_left_over = refl;
      look_block_offset = refl;
      table_entry_in = refl;
      look_reached_in = refl;
      rows_no_offsets = refl;
      rows_starts_by = refl;
      rows_told_at = refl;
      rows_pass_rows = refl;
      rows_stop_at = refl;
      rows_scan_rows = refl;
      look_row_for = refl;
      look_with_row = refl;
      look_with_cover = refl;
      search_bound_of = refl;
      search_rank_at = refl;
      search_halve = refl;
      search_past_start = refl;
      search_is_within = refl;
      search_size_at = refl;
      search_covers_at = refl;
      search_landed_on = refl;
      search_next_covering = refl;
      search_scan = refl;
      table_table_in = refl;
      search_find = refl;
      look_look = refl;
      look_lookup = refl;
      search_land = refl;
      search_past_within = refl;
      search_past_in = refl;
    }

pub table_has_ask : (more : Entries) → ask.Finds (in_entries (table more))
table_has_ask more =
    record {
      land_with_sought = refl;
      rows_sought_at = refl;
      rows_stop_after = refl;
      rows_walk_rows = refl;
      rows_walk_typed = refl;
      rows_seek_row = refl;
      land_in_function = refl;
      land_where_landed = refl;
      land_ask_in = refl;
      land_ask = refl;
    }

pub table_has_caller : (more : Entries) → caller.Finds (in_entries (table more))
table_has_caller more =
    record {
      place_is_lost = refl;
      place_spot_at = refl;
      place_spot_of = refl;
      place_value_at = refl;
      place_values_at = refl;
      registers_FrameCause_number = refl;
      registers_Registers_refuse = refl;
      registers_caller_sp = refl;
      signature_clear = refl;
      registers_Registers_with_values = refl;
      registers_Registers_from_spots = refl;
      registers_is_low = refl;
      signature_is_signed = refl;
      signature_mask_of = refl;
      registers_Registers_from_cfa = refl;
      registers_base_value = refl;
      registers_cfa_of = refl;
      signature_is_maskless = refl;
      registers_Registers_from_row = refl;
      registers_Registers_from_outcome = refl;
      registers_just_before = refl;
      registers_asked_of = refl;
      registers_Registers_step_checked = refl;
      registers_Registers_step = refl;
      registers_StepCause_index = refl;
      registers_StepCause_number = refl;
      registers_cfa_of_sp = refl;
    }

pub table_has_trace : (more : Entries) → trace.Finds (in_entries (table more))
table_has_trace more =
    record {
      answer_DoorFault_number = refl;
      answer_frame_of = refl;
      answer_write_frame = refl;
      walk_in_force = refl;
      walk_door_fault = refl;
      walk_next_from = refl;
      walk_walk = refl;
      walk_with_mark = refl;
      walk_trace = refl;
    }

pub table_has_explain : (more : Entries) → explain.Finds (in_entries (table more))
table_has_explain more =
    record {
      coverers_covers_pc = refl;
      coverers_no_coverers = refl;
      coverers_with_index = refl;
      coverers_with_if = refl;
      coverers_all_covering = refl;
      looked_alone = refl;
      looked_row_place = refl;
      looked_start_in = refl;
      looked_by_scan = refl;
      looked_in_function = refl;
      nearby_better_of = refl;
      nearby_side_key = refl;
      nearby_key_of = refl;
      nearby_key_at = refl;
      nearby_best_in = refl;
      nearby_held_of = refl;
      nearby_lowered = refl;
      nearby_nearest_of = refl;
      nearby_nearest_at = refl;
      looked_no_function = refl;
      looked_by_cover = refl;
      looked_explain_look = refl;
      looked_explain_lookup = refl;
      stepped_fetched_at = refl;
      stepped_Frame_fetch = refl;
      stepped_Frame_outside = refl;
      stepped_Frame_caller = refl;
      stepped_Frame_with_ra = refl;
      stepped_Frame_from_words = refl;
      stepped_Frame_from_high = refl;
      stepped_Frame_from_cfa = refl;
      stepped_explain_row = refl;
      stepped_Frame_by_looked = refl;
      stepped_unlooked = refl;
      stepped_explain_checked = refl;
      stepped_explain_step = refl;
      sums_lowered_by = refl;
      sums_raised_by = refl;
      sums_sum_of = refl;
    }

pub table_has_suntimpani : (more : Entries) → suntimpani.Finds (in_entries (table more))
table_has_suntimpani more =
    record {
      flat_empty_row = refl;
      flat_base_number = refl;
      flat_flag_of = refl;
      flat_place_kind = refl;
      flat_place_offset = refl;
      flat_flat_row = refl;
      asks_flat_asked = refl;
      flat_flat_outcome = refl;
      flat_flat_answer = refl;
      flat_flat_verdict = refl;
      functions_kind_number = refl;
      functions_repeat_of = refl;
      functions_flat_facts = refl;
      functions_no_function = refl;
      functions_flat_function = refl;
      rows_abi_named = refl;
      rows_abi_number = refl;
      rows_flat_place = refl;
      rows_flat_next = refl;
      rows_flat_turn = refl;
      rows_place_read = refl;
      suntimpani_ask = refl;
      walks_flat_step = refl;
      suntimpani_caller = refl;
      suntimpani_check = refl;
      suntimpani_function_at = refl;
      suntimpani_lookup = refl;
      suntimpani_next_row = refl;
      suntimpani_rows_of = refl;
      walks_ending_number = refl;
      walks_flat_traced = refl;
      suntimpani_trace = refl;
    }
