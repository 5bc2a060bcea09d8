-- Each function of this crate with its code and the code of all that it calls, for a look-up of the machine that finds the functions
-- (`prog.Linked`). So there is an environment in which a function's name means its code. Written by tools/linked.py.
-- Assumes nothing.
use mathlib.Core.Path.{◌≡◌}
use mathlib.Core.Bool.{false}
use mathlib.Core.List.{◌∷◌}
use mir.Syntax.{Symbol}
use prog.Linked.{Entry, Entries}
use prog.LinkedThreads.{HasT}
use Rattle.numbers.proofs.Linked as numbers
use Rattle.section.proofs.Linked as section
use Rattle.accept.proofs.Linked as accept
use Rattle.lookup.proofs.Linked as lookup
use Rattle.caller.proofs.Linked as caller
use Rattle.explain.proofs.TheLinks.explain-coverers-covers_pc as link-coverers-covers_pc
use Rattle.explain.proofs.TheLinks.explain-coverers-no_coverers as link-coverers-no_coverers
use Rattle.explain.proofs.TheLinks.explain-coverers-with_index as link-coverers-with_index
use Rattle.explain.proofs.TheLinks.explain-coverers-with_if as link-coverers-with_if
use Rattle.explain.proofs.TheLinks.explain-coverers-all_covering as link-coverers-all_covering
use Rattle.explain.proofs.TheLinks.explain-looked-alone as link-looked-alone
use Rattle.explain.proofs.TheLinks.explain-looked-row_place as link-looked-row_place
use Rattle.explain.proofs.TheLinks.explain-looked-start_in as link-looked-start_in
use Rattle.explain.proofs.TheLinks.explain-looked-by_scan as link-looked-by_scan
use Rattle.explain.proofs.TheLinks.explain-looked-in_function as link-looked-in_function
use Rattle.explain.proofs.TheLinks.explain-nearby-better_of as link-nearby-better_of
use Rattle.explain.proofs.TheLinks.explain-nearby-side_key as link-nearby-side_key
use Rattle.explain.proofs.TheLinks.explain-nearby-key_of as link-nearby-key_of
use Rattle.explain.proofs.TheLinks.explain-nearby-key_at as link-nearby-key_at
use Rattle.explain.proofs.TheLinks.explain-nearby-best_in as link-nearby-best_in
use Rattle.explain.proofs.TheLinks.explain-nearby-held_of as link-nearby-held_of
use Rattle.explain.proofs.TheLinks.explain-nearby-lowered as link-nearby-lowered
use Rattle.explain.proofs.TheLinks.explain-nearby-nearest_of as link-nearby-nearest_of
use Rattle.explain.proofs.TheLinks.explain-nearby-nearest_at as link-nearby-nearest_at
use Rattle.explain.proofs.TheLinks.explain-looked-no_function as link-looked-no_function
use Rattle.explain.proofs.TheLinks.explain-looked-by_cover as link-looked-by_cover
use Rattle.explain.proofs.TheLinks.explain-looked-explain_look as link-looked-explain_look
use Rattle.explain.proofs.TheLinks.explain-looked-explain_lookup as link-looked-explain_lookup
use Rattle.explain.proofs.TheLinks.explain-stepped-fetched_at as link-stepped-fetched_at
use Rattle.explain.proofs.TheLinks.explain-stepped-Frame-fetch as link-stepped-Frame-fetch
use Rattle.explain.proofs.TheLinks.explain-stepped-Frame-outside as link-stepped-Frame-outside
use Rattle.explain.proofs.TheLinks.explain-stepped-Frame-caller as link-stepped-Frame-caller
use Rattle.explain.proofs.TheLinks.explain-stepped-Frame-with_ra as link-stepped-Frame-with_ra
use Rattle.explain.proofs.TheLinks.explain-stepped-Frame-from_words as link-stepped-Frame-from_words
use Rattle.explain.proofs.TheLinks.explain-stepped-Frame-from_high as link-stepped-Frame-from_high
use Rattle.explain.proofs.TheLinks.explain-stepped-Frame-from_cfa as link-stepped-Frame-from_cfa
use Rattle.explain.proofs.TheLinks.explain-stepped-explain_row as link-stepped-explain_row
use Rattle.explain.proofs.TheLinks.explain-stepped-Frame-by_looked as link-stepped-Frame-by_looked
use Rattle.explain.proofs.TheLinks.explain-stepped-unlooked as link-stepped-unlooked
use Rattle.explain.proofs.TheLinks.explain-stepped-explain_checked as link-stepped-explain_checked
use Rattle.explain.proofs.TheLinks.explain-stepped-explain_step as link-stepped-explain_step
use Rattle.explain.proofs.TheLinks.explain-sums-lowered_by as link-sums-lowered_by
use Rattle.explain.proofs.TheLinks.explain-sums-raised_by as link-sums-raised_by
use Rattle.explain.proofs.TheLinks.explain-sums-sum_of as link-sums-sum_of

-- the functions with their code, before more
abbrev pub entries : Entries → Entries
entries more =
    ("explain::coverers::covers_pc", link-coverers-covers_pc.entry) ∷
    ("explain::coverers::no_coverers", link-coverers-no_coverers.entry) ∷
    ("explain::coverers::with_index", link-coverers-with_index.entry) ∷
    ("explain::coverers::with_if", link-coverers-with_if.entry) ∷
    ("explain::coverers::all_covering", link-coverers-all_covering.entry) ∷
    ("explain::looked::alone", link-looked-alone.entry) ∷
    ("explain::looked::row_place", link-looked-row_place.entry) ∷
    ("explain::looked::start_in", link-looked-start_in.entry) ∷
    ("explain::looked::by_scan", link-looked-by_scan.entry) ∷
    ("explain::looked::in_function", link-looked-in_function.entry) ∷
    ("explain::nearby::better_of", link-nearby-better_of.entry) ∷
    ("explain::nearby::side_key", link-nearby-side_key.entry) ∷
    ("explain::nearby::key_of", link-nearby-key_of.entry) ∷
    ("explain::nearby::key_at", link-nearby-key_at.entry) ∷
    ("explain::nearby::best_in", link-nearby-best_in.entry) ∷
    ("explain::nearby::held_of", link-nearby-held_of.entry) ∷
    ("explain::nearby::lowered", link-nearby-lowered.entry) ∷
    ("explain::nearby::nearest_of", link-nearby-nearest_of.entry) ∷
    ("explain::nearby::nearest_at", link-nearby-nearest_at.entry) ∷
    ("explain::looked::no_function", link-looked-no_function.entry) ∷
    ("explain::looked::by_cover", link-looked-by_cover.entry) ∷
    ("explain::looked::explain_look", link-looked-explain_look.entry) ∷
    ("explain::looked::explain_lookup", link-looked-explain_lookup.entry) ∷
    ("explain::stepped::fetched_at", link-stepped-fetched_at.entry) ∷
    ("explain::stepped::Frame::fetch", link-stepped-Frame-fetch.entry) ∷
    ("explain::stepped::Frame::outside", link-stepped-Frame-outside.entry) ∷
    ("explain::stepped::Frame::caller", link-stepped-Frame-caller.entry) ∷
    ("explain::stepped::Frame::with_ra", link-stepped-Frame-with_ra.entry) ∷
    ("explain::stepped::Frame::from_words", link-stepped-Frame-from_words.entry) ∷
    ("explain::stepped::Frame::from_high", link-stepped-Frame-from_high.entry) ∷
    ("explain::stepped::Frame::from_cfa", link-stepped-Frame-from_cfa.entry) ∷
    ("explain::stepped::explain_row", link-stepped-explain_row.entry) ∷
    ("explain::stepped::Frame::by_looked", link-stepped-Frame-by_looked.entry) ∷
    ("explain::stepped::unlooked", link-stepped-unlooked.entry) ∷
    ("explain::stepped::explain_checked", link-stepped-explain_checked.entry) ∷
    ("explain::stepped::explain_step", link-stepped-explain_step.entry) ∷
    ("explain::sums::lowered_by", link-sums-lowered_by.entry) ∷
    ("explain::sums::raised_by", link-sums-raised_by.entry) ∷
    ("explain::sums::sum_of", link-sums-sum_of.entry) ∷
    more

-- a look-up finds them
pub record Finds (look : Symbol → Entry) : Type 0 where
  pub coverers_covers_pc : look "explain::coverers::covers_pc" ≡ link-coverers-covers_pc.entry
  pub coverers_no_coverers : look "explain::coverers::no_coverers" ≡ link-coverers-no_coverers.entry
  pub coverers_with_index : look "explain::coverers::with_index" ≡ link-coverers-with_index.entry
  pub coverers_with_if : look "explain::coverers::with_if" ≡ link-coverers-with_if.entry
  pub coverers_all_covering : look "explain::coverers::all_covering" ≡ link-coverers-all_covering.entry
  pub looked_alone : look "explain::looked::alone" ≡ link-looked-alone.entry
  pub looked_row_place : look "explain::looked::row_place" ≡ link-looked-row_place.entry
  pub looked_start_in : look "explain::looked::start_in" ≡ link-looked-start_in.entry
  pub looked_by_scan : look "explain::looked::by_scan" ≡ link-looked-by_scan.entry
  pub looked_in_function : look "explain::looked::in_function" ≡ link-looked-in_function.entry
  pub nearby_better_of : look "explain::nearby::better_of" ≡ link-nearby-better_of.entry
  pub nearby_side_key : look "explain::nearby::side_key" ≡ link-nearby-side_key.entry
  pub nearby_key_of : look "explain::nearby::key_of" ≡ link-nearby-key_of.entry
  pub nearby_key_at : look "explain::nearby::key_at" ≡ link-nearby-key_at.entry
  pub nearby_best_in : look "explain::nearby::best_in" ≡ link-nearby-best_in.entry
  pub nearby_held_of : look "explain::nearby::held_of" ≡ link-nearby-held_of.entry
  pub nearby_lowered : look "explain::nearby::lowered" ≡ link-nearby-lowered.entry
  pub nearby_nearest_of : look "explain::nearby::nearest_of" ≡ link-nearby-nearest_of.entry
  pub nearby_nearest_at : look "explain::nearby::nearest_at" ≡ link-nearby-nearest_at.entry
  pub looked_no_function : look "explain::looked::no_function" ≡ link-looked-no_function.entry
  pub looked_by_cover : look "explain::looked::by_cover" ≡ link-looked-by_cover.entry
  pub looked_explain_look : look "explain::looked::explain_look" ≡ link-looked-explain_look.entry
  pub looked_explain_lookup : look "explain::looked::explain_lookup" ≡ link-looked-explain_lookup.entry
  pub stepped_fetched_at : look "explain::stepped::fetched_at" ≡ link-stepped-fetched_at.entry
  pub stepped_Frame_fetch : look "explain::stepped::Frame::fetch" ≡ link-stepped-Frame-fetch.entry
  pub stepped_Frame_outside : look "explain::stepped::Frame::outside" ≡ link-stepped-Frame-outside.entry
  pub stepped_Frame_caller : look "explain::stepped::Frame::caller" ≡ link-stepped-Frame-caller.entry
  pub stepped_Frame_with_ra : look "explain::stepped::Frame::with_ra" ≡ link-stepped-Frame-with_ra.entry
  pub stepped_Frame_from_words : look "explain::stepped::Frame::from_words" ≡ link-stepped-Frame-from_words.entry
  pub stepped_Frame_from_high : look "explain::stepped::Frame::from_high" ≡ link-stepped-Frame-from_high.entry
  pub stepped_Frame_from_cfa : look "explain::stepped::Frame::from_cfa" ≡ link-stepped-Frame-from_cfa.entry
  pub stepped_explain_row : look "explain::stepped::explain_row" ≡ link-stepped-explain_row.entry
  pub stepped_Frame_by_looked : look "explain::stepped::Frame::by_looked" ≡ link-stepped-Frame-by_looked.entry
  pub stepped_unlooked : look "explain::stepped::unlooked" ≡ link-stepped-unlooked.entry
  pub stepped_explain_checked : look "explain::stepped::explain_checked" ≡ link-stepped-explain_checked.entry
  pub stepped_explain_step : look "explain::stepped::explain_step" ≡ link-stepped-explain_step.entry
  pub sums_lowered_by : look "explain::sums::lowered_by" ≡ link-sums-lowered_by.entry
  pub sums_raised_by : look "explain::sums::raised_by" ≡ link-sums-raised_by.entry
  pub sums_sum_of : look "explain::sums::sum_of" ≡ link-sums-sum_of.entry

module _ (look : Symbol → Entry) (in_numbers : numbers.Finds look) (in_section : section.Finds look) (in_accept : accept.Finds look) (in_lookup : lookup.Finds look) (in_caller : caller.Finds look) (here : Finds look) where
  pub coverers_covers_pc : HasT look false link-coverers-covers_pc.code
  coverers_covers_pc = link-coverers-covers_pc.has look false here.coverers_covers_pc (lookup.search_past_in look in_numbers in_section in_accept in_lookup)

  pub coverers_no_coverers : HasT look false link-coverers-no_coverers.code
  coverers_no_coverers = link-coverers-no_coverers.has look false here.coverers_no_coverers

  pub coverers_with_index : HasT look false link-coverers-with_index.code
  coverers_with_index = link-coverers-with_index.has look false here.coverers_with_index

  pub coverers_with_if : HasT look false link-coverers-with_if.code
  coverers_with_if = link-coverers-with_if.has look false here.coverers_with_if coverers_with_index

  pub coverers_all_covering : HasT look false link-coverers-all_covering.code
  coverers_all_covering = link-coverers-all_covering.has look false here.coverers_all_covering coverers_covers_pc coverers_no_coverers coverers_with_if

  pub looked_alone : HasT look false link-looked-alone.code
  looked_alone = link-looked-alone.has look false here.looked_alone coverers_no_coverers

  pub looked_row_place : HasT look false link-looked-row_place.code
  looked_row_place = link-looked-row_place.has look false here.looked_row_place (section.row_row_length look in_numbers in_section)

  pub looked_start_in : HasT look false link-looked-start_in.code
  looked_start_in = link-looked-start_in.has look false here.looked_start_in looked_row_place (section.entry_type_of look in_numbers in_section) (section.row_row_start_at look in_numbers in_section)

  pub looked_by_scan : HasT look false link-looked-by_scan.code
  looked_by_scan = link-looked-by_scan.has look false here.looked_by_scan looked_start_in

  pub looked_in_function : HasT look false link-looked-in_function.code
  looked_in_function = link-looked-in_function.has look false here.looked_in_function looked_by_scan (lookup.look_reached_in look in_numbers in_section in_accept in_lookup) (lookup.rows_scan_rows look in_numbers in_section in_accept in_lookup) (section.shape_shape_of look in_numbers in_section)

  pub nearby_better_of : HasT look false link-nearby-better_of.code
  nearby_better_of = link-nearby-better_of.has look false here.nearby_better_of

  pub nearby_side_key : HasT look false link-nearby-side_key.code
  nearby_side_key = link-nearby-side_key.has look false here.nearby_side_key

  pub nearby_key_of : HasT look false link-nearby-key_of.code
  nearby_key_of = link-nearby-key_of.has look false here.nearby_key_of nearby_side_key

  pub nearby_key_at : HasT look false link-nearby-key_at.code
  nearby_key_at = link-nearby-key_at.has look false here.nearby_key_at nearby_key_of (lookup.table_entry_in look in_numbers in_section in_accept in_lookup) (section.entry_start_of look in_numbers in_section)

  pub nearby_best_in : HasT look false link-nearby-best_in.code
  nearby_best_in = link-nearby-best_in.has look false here.nearby_best_in nearby_better_of nearby_key_at

  pub nearby_held_of : HasT look false link-nearby-held_of.code
  nearby_held_of = link-nearby-held_of.has look false here.nearby_held_of

  pub nearby_lowered : HasT look false link-nearby-lowered.code
  nearby_lowered = link-nearby-lowered.has look false here.nearby_lowered

  pub nearby_nearest_of : HasT look false link-nearby-nearest_of.code
  nearby_nearest_of = link-nearby-nearest_of.has look false here.nearby_nearest_of nearby_held_of nearby_lowered

  pub nearby_nearest_at : HasT look false link-nearby-nearest_at.code
  nearby_nearest_at = link-nearby-nearest_at.has look false here.nearby_nearest_at nearby_best_in nearby_nearest_of (numbers.held_near_of look in_numbers) (section.header_order_at look in_numbers in_section)

  pub looked_no_function : HasT look false link-looked-no_function.code
  looked_no_function = link-looked-no_function.has look false here.looked_no_function nearby_nearest_at

  pub looked_by_cover : HasT look false link-looked-by_cover.code
  looked_by_cover = link-looked-by_cover.has look false here.looked_by_cover coverers_all_covering looked_alone looked_in_function looked_no_function

  pub looked_explain_look : HasT look false link-looked-explain_look.code
  looked_explain_look = link-looked-explain_look.has look false here.looked_explain_look looked_by_cover (lookup.search_find look in_numbers in_section in_accept in_lookup)

  pub looked_explain_lookup : HasT look false link-looked-explain_lookup.code
  looked_explain_lookup = link-looked-explain_lookup.has look false here.looked_explain_lookup (accept.section_check_check look in_numbers in_section in_accept) looked_explain_look (section.header_layout_at look in_numbers in_section)

  pub stepped_fetched_at : HasT look false link-stepped-fetched_at.code
  stepped_fetched_at = link-stepped-fetched_at.has look false here.stepped_fetched_at

  pub stepped_Frame_fetch : HasT look false link-stepped-Frame-fetch.code
  stepped_Frame_fetch = link-stepped-Frame-fetch.has look false here.stepped_Frame_fetch (caller.place_spot_of look in_numbers in_section in_accept in_lookup in_caller) (caller.place_value_at look in_numbers in_section in_accept in_lookup in_caller) stepped_fetched_at

  pub stepped_Frame_outside : HasT look false link-stepped-Frame-outside.code
  stepped_Frame_outside = link-stepped-Frame-outside.has look false here.stepped_Frame_outside

  pub stepped_Frame_caller : HasT look false link-stepped-Frame-caller.code
  stepped_Frame_caller = link-stepped-Frame-caller.has look false here.stepped_Frame_caller (caller.registers_caller_sp look in_numbers in_section in_accept in_lookup in_caller) (caller.signature_clear look in_numbers in_section in_accept in_lookup in_caller)

  pub stepped_Frame_with_ra : HasT look false link-stepped-Frame-with_ra.code
  stepped_Frame_with_ra = link-stepped-Frame-with_ra.has look false here.stepped_Frame_with_ra stepped_Frame_caller stepped_Frame_outside

  pub stepped_Frame_from_words : HasT look false link-stepped-Frame-from_words.code
  stepped_Frame_from_words = link-stepped-Frame-from_words.has look false here.stepped_Frame_from_words stepped_Frame_outside stepped_Frame_with_ra

  pub stepped_Frame_from_high : HasT look false link-stepped-Frame-from_high.code
  stepped_Frame_from_high = link-stepped-Frame-from_high.has look false here.stepped_Frame_from_high (caller.place_is_lost look in_numbers in_section in_accept in_lookup in_caller) (caller.place_spot_of look in_numbers in_section in_accept in_lookup in_caller) (caller.signature_mask_of look in_numbers in_section in_accept in_lookup in_caller) stepped_Frame_fetch stepped_Frame_from_words

  pub stepped_Frame_from_cfa : HasT look false link-stepped-Frame-from_cfa.code
  stepped_Frame_from_cfa = link-stepped-Frame-from_cfa.has look false here.stepped_Frame_from_cfa (caller.registers_caller_sp look in_numbers in_section in_accept in_lookup in_caller) (caller.registers_is_low look in_numbers in_section in_accept in_lookup in_caller) stepped_Frame_from_high

  pub stepped_explain_row : HasT look false link-stepped-explain_row.code
  stepped_explain_row = link-stepped-explain_row.has look false here.stepped_explain_row (caller.registers_base_value look in_numbers in_section in_accept in_lookup in_caller) (caller.registers_cfa_of look in_numbers in_section in_accept in_lookup in_caller) (caller.signature_is_maskless look in_numbers in_section in_accept in_lookup in_caller) stepped_Frame_from_cfa

  pub stepped_Frame_by_looked : HasT look false link-stepped-Frame-by_looked.code
  stepped_Frame_by_looked = link-stepped-Frame-by_looked.has look false here.stepped_Frame_by_looked stepped_explain_row

  pub stepped_unlooked : HasT look false link-stepped-unlooked.code
  stepped_unlooked = link-stepped-unlooked.has look false here.stepped_unlooked coverers_no_coverers

  pub stepped_explain_checked : HasT look false link-stepped-explain_checked.code
  stepped_explain_checked = link-stepped-explain_checked.has look false here.stepped_explain_checked (caller.registers_asked_of look in_numbers in_section in_accept in_lookup in_caller) looked_explain_look stepped_Frame_by_looked stepped_unlooked (section.shape_shape_of look in_numbers in_section)

  pub stepped_explain_step : HasT look false link-stepped-explain_step.code
  stepped_explain_step = link-stepped-explain_step.has look false here.stepped_explain_step (accept.section_check_check look in_numbers in_section in_accept) stepped_explain_checked stepped_unlooked (numbers.address_window_fits look in_numbers) (section.header_layout_at look in_numbers in_section)

  pub sums_lowered_by : HasT look false link-sums-lowered_by.code
  sums_lowered_by = link-sums-lowered_by.has look false here.sums_lowered_by

  pub sums_raised_by : HasT look false link-sums-raised_by.code
  sums_raised_by = link-sums-raised_by.has look false here.sums_raised_by

  pub sums_sum_of : HasT look false link-sums-sum_of.code
  sums_sum_of = link-sums-sum_of.has look false here.sums_sum_of sums_lowered_by sums_raised_by (numbers.offset_shift_of look in_numbers)
