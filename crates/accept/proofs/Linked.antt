-- Each function of this crate with its code and the code of all that it calls, for a look-up of the machine that finds the functions
-- (`prog.Linked`). So there is an environment in which a function's name means its code. Written by tools/linked.py.
-- Assumes nothing.
use mathlib.Core.Path.{◌≡◌}
use mathlib.Core.Bool.{false}
use mathlib.Core.List.{◌∷◌}
use mir.Syntax.{Symbol}
use prog.Linked.{Entry, Entries}
use prog.LinkedThreads.{HasT}
use Rattle.numbers.proofs.Linked as numbers
use Rattle.section.proofs.Linked as section
use Rattle.accept.proofs.TheLinks.accept-entry_check-wrong_entry_info as link-entry_check-wrong_entry_info
use Rattle.accept.proofs.TheLinks.accept-entry_check-wrong_repeat as link-entry_check-wrong_repeat
use Rattle.accept.proofs.TheLinks.accept-entry_check-check_own as link-entry_check-check_own
use Rattle.accept.proofs.TheLinks.accept-row_check-wrong_row_info as link-row_check-wrong_row_info
use Rattle.accept.proofs.TheLinks.accept-row_check-pass_row as link-row_check-pass_row
use Rattle.accept.proofs.TheLinks.accept-row_check-walk_rows as link-row_check-walk_rows
use Rattle.accept.proofs.TheLinks.accept-row_check-check_rows as link-row_check-check_rows
use Rattle.accept.proofs.TheLinks.accept-entry_check-check_entry as link-entry_check-check_entry
use Rattle.accept.proofs.TheLinks.accept-header_check-wrong_abi as link-header_check-wrong_abi
use Rattle.accept.proofs.TheLinks.accept-header_check-same_offset as link-header_check-same_offset
use Rattle.accept.proofs.TheLinks.accept-header_check-wrong_fixed as link-header_check-wrong_fixed
use Rattle.accept.proofs.TheLinks.accept-header_check-wrong_sizes as link-header_check-wrong_sizes
use Rattle.accept.proofs.TheLinks.accept-header_check-check_parts as link-header_check-check_parts
use Rattle.accept.proofs.TheLinks.accept-header_check-has_magic as link-header_check-has_magic
use Rattle.accept.proofs.TheLinks.accept-header_check-check_header as link-header_check-check_header
use Rattle.accept.proofs.TheLinks.accept-section_check-check_sum as link-section_check-check_sum
use Rattle.accept.proofs.TheLinks.accept-section_check-starts_below as link-section_check-starts_below
use Rattle.accept.proofs.TheLinks.accept-section_check-check_turn as link-section_check-check_turn
use Rattle.accept.proofs.TheLinks.accept-section_check-check_each as link-section_check-check_each
use Rattle.accept.proofs.TheLinks.accept-section_check-check_entries as link-section_check-check_entries
use Rattle.accept.proofs.TheLinks.accept-section_check-check as link-section_check-check
use Rattle.accept.proofs.TheLinks.accept-verdict-Rule-number as link-verdict-Rule-number
use Rattle.accept.proofs.TheLinks.accept-verdict-RulePartialEq-eq as link-verdict-RulePartialEq-eq

-- the functions with their code, before more
abbrev pub entries : Entries → Entries
entries more =
    ("accept::entry_check::wrong_entry_info", link-entry_check-wrong_entry_info.entry) ∷
    ("accept::entry_check::wrong_repeat", link-entry_check-wrong_repeat.entry) ∷
    ("accept::entry_check::check_own", link-entry_check-check_own.entry) ∷
    ("accept::row_check::wrong_row_info", link-row_check-wrong_row_info.entry) ∷
    ("accept::row_check::pass_row", link-row_check-pass_row.entry) ∷
    ("accept::row_check::walk_rows", link-row_check-walk_rows.entry) ∷
    ("accept::row_check::check_rows", link-row_check-check_rows.entry) ∷
    ("accept::entry_check::check_entry", link-entry_check-check_entry.entry) ∷
    ("accept::header_check::wrong_abi", link-header_check-wrong_abi.entry) ∷
    ("accept::header_check::same_offset", link-header_check-same_offset.entry) ∷
    ("accept::header_check::wrong_fixed", link-header_check-wrong_fixed.entry) ∷
    ("accept::header_check::wrong_sizes", link-header_check-wrong_sizes.entry) ∷
    ("accept::header_check::check_parts", link-header_check-check_parts.entry) ∷
    ("accept::header_check::has_magic", link-header_check-has_magic.entry) ∷
    ("accept::header_check::check_header", link-header_check-check_header.entry) ∷
    ("accept::section_check::check_sum", link-section_check-check_sum.entry) ∷
    ("accept::section_check::starts_below", link-section_check-starts_below.entry) ∷
    ("accept::section_check::check_turn", link-section_check-check_turn.entry) ∷
    ("accept::section_check::check_each", link-section_check-check_each.entry) ∷
    ("accept::section_check::check_entries", link-section_check-check_entries.entry) ∷
    ("accept::section_check::check", link-section_check-check.entry) ∷
    ("accept::verdict::Rule::number", link-verdict-Rule-number.entry) ∷
    ("accept::verdict::RulePartialEq::eq", link-verdict-RulePartialEq-eq.entry) ∷
    more

-- a look-up finds them
pub record Finds (look : Symbol → Entry) : Type 0 where
  pub entry_check_wrong_entry_info : look "accept::entry_check::wrong_entry_info" ≡ link-entry_check-wrong_entry_info.entry
  pub entry_check_wrong_repeat : look "accept::entry_check::wrong_repeat" ≡ link-entry_check-wrong_repeat.entry
  pub entry_check_check_own : look "accept::entry_check::check_own" ≡ link-entry_check-check_own.entry
  pub row_check_wrong_row_info : look "accept::row_check::wrong_row_info" ≡ link-row_check-wrong_row_info.entry
  pub row_check_pass_row : look "accept::row_check::pass_row" ≡ link-row_check-pass_row.entry
  pub row_check_walk_rows : look "accept::row_check::walk_rows" ≡ link-row_check-walk_rows.entry
  pub row_check_check_rows : look "accept::row_check::check_rows" ≡ link-row_check-check_rows.entry
  pub entry_check_check_entry : look "accept::entry_check::check_entry" ≡ link-entry_check-check_entry.entry
  pub header_check_wrong_abi : look "accept::header_check::wrong_abi" ≡ link-header_check-wrong_abi.entry
  pub header_check_same_offset : look "accept::header_check::same_offset" ≡ link-header_check-same_offset.entry
  pub header_check_wrong_fixed : look "accept::header_check::wrong_fixed" ≡ link-header_check-wrong_fixed.entry
  pub header_check_wrong_sizes : look "accept::header_check::wrong_sizes" ≡ link-header_check-wrong_sizes.entry
  pub header_check_check_parts : look "accept::header_check::check_parts" ≡ link-header_check-check_parts.entry
  pub header_check_has_magic : look "accept::header_check::has_magic" ≡ link-header_check-has_magic.entry
  pub header_check_check_header : look "accept::header_check::check_header" ≡ link-header_check-check_header.entry
  pub section_check_check_sum : look "accept::section_check::check_sum" ≡ link-section_check-check_sum.entry
  pub section_check_starts_below : look "accept::section_check::starts_below" ≡ link-section_check-starts_below.entry
  pub section_check_check_turn : look "accept::section_check::check_turn" ≡ link-section_check-check_turn.entry
  pub section_check_check_each : look "accept::section_check::check_each" ≡ link-section_check-check_each.entry
  pub section_check_check_entries : look "accept::section_check::check_entries" ≡ link-section_check-check_entries.entry
  pub section_check_check : look "accept::section_check::check" ≡ link-section_check-check.entry
  pub verdict_Rule_number : look "accept::verdict::Rule::number" ≡ link-verdict-Rule-number.entry
  pub verdict_RulePartialEq_eq : look "accept::verdict::RulePartialEq::eq" ≡ link-verdict-RulePartialEq-eq.entry

module _ (look : Symbol → Entry) (in_numbers : numbers.Finds look) (in_section : section.Finds look) (here : Finds look) where
  pub entry_check_wrong_entry_info : HasT look false link-entry_check-wrong_entry_info.code
  entry_check_wrong_entry_info = link-entry_check-wrong_entry_info.has look false here.entry_check_wrong_entry_info (section.entry_type_of look in_numbers in_section) (section.header_bit_of look in_numbers in_section)

  pub entry_check_wrong_repeat : HasT look false link-entry_check-wrong_repeat.code
  entry_check_wrong_repeat = link-entry_check-wrong_repeat.has look false here.entry_check_wrong_repeat (section.entry_does_repeat look in_numbers in_section)

  pub entry_check_check_own : HasT look false link-entry_check-check_own.code
  entry_check_check_own = link-entry_check-check_own.has look false here.entry_check_check_own entry_check_wrong_entry_info entry_check_wrong_repeat

  pub row_check_wrong_row_info : HasT look false link-row_check-wrong_row_info.code
  row_check_wrong_row_info = link-row_check-wrong_row_info.has look false here.row_check_wrong_row_info (section.row_count_of look in_numbers in_section) (section.row_offset_size_of look in_numbers in_section)

  pub row_check_pass_row : HasT look false link-row_check-pass_row.code
  row_check_pass_row = link-row_check-pass_row.has look false here.row_check_pass_row row_check_wrong_row_info (numbers.field_field_at look in_numbers) (numbers.field_width_of look in_numbers) (section.row_info_at look in_numbers in_section) (section.row_row_length look in_numbers in_section)

  pub row_check_walk_rows : HasT look false link-row_check-walk_rows.code
  row_check_walk_rows = link-row_check-walk_rows.has look false here.row_check_walk_rows row_check_pass_row

  pub row_check_check_rows : HasT look false link-row_check-check_rows.code
  row_check_check_rows = link-row_check-check_rows.has look false here.row_check_check_rows row_check_walk_rows

  pub entry_check_check_entry : HasT look false link-entry_check-check_entry.code
  entry_check_check_entry = link-entry_check-check_entry.has look false here.entry_check_check_entry entry_check_check_own row_check_check_rows (section.entry_type_of look in_numbers in_section)

  pub header_check_wrong_abi : HasT look false link-header_check-wrong_abi.code
  header_check_wrong_abi = link-header_check-wrong_abi.has look false here.header_check_wrong_abi (numbers.field_OrderPartialEq_eq look in_numbers) (section.shape_abi_of look in_numbers in_section) (section.shape_shape_of look in_numbers in_section)

  pub header_check_same_offset : HasT look false link-header_check-same_offset.code
  header_check_same_offset = link-header_check-same_offset.has look false here.header_check_same_offset

  pub header_check_wrong_fixed : HasT look false link-header_check-wrong_fixed.code
  header_check_wrong_fixed = link-header_check-wrong_fixed.has look false here.header_check_wrong_fixed header_check_same_offset (section.shape_abi_of look in_numbers in_section) (section.shape_shape_of look in_numbers in_section)

  pub header_check_wrong_sizes : HasT look false link-header_check-wrong_sizes.code
  header_check_wrong_sizes = link-header_check-wrong_sizes.has look false here.header_check_wrong_sizes

  pub header_check_check_parts : HasT look false link-header_check-check_parts.code
  header_check_check_parts = link-header_check-check_parts.has look false here.header_check_check_parts header_check_wrong_abi header_check_wrong_fixed header_check_wrong_sizes (section.header_marks_at look in_numbers in_section) (section.header_order_at look in_numbers in_section) (section.header_sizes_at look in_numbers in_section)

  pub header_check_has_magic : HasT look false link-header_check-has_magic.code
  header_check_has_magic = link-header_check-has_magic.has look false here.header_check_has_magic (section.header_magic_in look in_numbers in_section)

  pub header_check_check_header : HasT look false link-header_check-check_header.code
  header_check_check_header = link-header_check-check_header.has look false here.header_check_check_header header_check_check_parts header_check_has_magic

  pub section_check_check_sum : HasT look false link-section_check-check_sum.code
  section_check_check_sum = link-section_check-check_sum.has look false here.section_check_check_sum

  pub section_check_starts_below : HasT look false link-section_check-starts_below.code
  section_check_starts_below = link-section_check-starts_below.has look false here.section_check_starts_below

  pub section_check_check_turn : HasT look false link-section_check-check_turn.code
  section_check_check_turn = link-section_check-check_turn.has look false here.section_check_check_turn entry_check_check_entry section_check_starts_below

  pub section_check_check_each : HasT look false link-section_check-check_each.code
  section_check_check_each = link-section_check-check_each.has look false here.section_check_check_each section_check_check_sum section_check_check_turn (section.entry_entry_at look in_numbers in_section) (section.entry_start_of look in_numbers in_section)

  pub section_check_check_entries : HasT look false link-section_check-check_entries.code
  section_check_check_entries = link-section_check-check_entries.has look false here.section_check_check_entries section_check_check_each (section.header_layout_at look in_numbers in_section) (section.header_order_at look in_numbers in_section) (section.shape_shape_of look in_numbers in_section)

  pub section_check_check : HasT look false link-section_check-check.code
  section_check_check = link-section_check-check.has look false here.section_check_check header_check_check_header section_check_check_entries

  pub verdict_Rule_number : HasT look false link-verdict-Rule-number.code
  verdict_Rule_number = link-verdict-Rule-number.has look false here.verdict_Rule_number

  pub verdict_RulePartialEq_eq : HasT look false link-verdict-RulePartialEq-eq.code
  verdict_RulePartialEq_eq = link-verdict-RulePartialEq-eq.has look false here.verdict_RulePartialEq_eq
