-- Each function of this crate with its code and the code of all that it calls, for a look-up of the machine that finds the functions
-- (`prog.Linked`). So there is an environment in which a function's name means its code. Written by tools/linked.py.
-- Assumes nothing.
use mathlib.Core.Path.{◌≡◌}
use mathlib.Core.Bool.{false}
use mathlib.Core.List.{◌∷◌}
use mir.Syntax.{Symbol}
use prog.Linked.{Entry, Entries}
use prog.LinkedThreads.{HasT}
use Rattle.numbers.proofs.TheLinks.numbers-offset-shift_of as link-offset-shift_of
use Rattle.numbers.proofs.TheLinks.numbers-address-address_of as link-address-address_of
use Rattle.numbers.proofs.TheLinks.numbers-address-window_fits as link-address-window_fits
use Rattle.numbers.proofs.TheLinks.numbers-field-digit_at as link-field-digit_at
use Rattle.numbers.proofs.TheLinks.numbers-field-bytes_at as link-field-bytes_at
use Rattle.numbers.proofs.TheLinks.numbers-field-u64_at as link-field-u64_at
use Rattle.numbers.proofs.TheLinks.numbers-address-word_at as link-address-word_at
use Rattle.numbers.proofs.TheLinks.numbers-field-OrderPartialEq-eq as link-field-OrderPartialEq-eq
use Rattle.numbers.proofs.TheLinks.numbers-field-u16_at as link-field-u16_at
use Rattle.numbers.proofs.TheLinks.numbers-field-u32_at as link-field-u32_at
use Rattle.numbers.proofs.TheLinks.numbers-field-u8_at as link-field-u8_at
use Rattle.numbers.proofs.TheLinks.numbers-field-field_at as link-field-field_at
use Rattle.numbers.proofs.TheLinks.numbers-field-width_of as link-field-width_of
use Rattle.numbers.proofs.TheLinks.numbers-field-number_at as link-field-number_at
use Rattle.numbers.proofs.TheLinks.numbers-held-rank_of as link-held-rank_of
use Rattle.numbers.proofs.TheLinks.numbers-held-held_start as link-held-held_start
use Rattle.numbers.proofs.TheLinks.numbers-held-near_of as link-held-near_of
use Rattle.numbers.proofs.TheLinks.numbers-held-start_at as link-held-start_at
use Rattle.numbers.proofs.TheLinks.numbers-offset-full_of as link-offset-full_of
use Rattle.numbers.proofs.TheLinks.numbers-offset-offset_of as link-offset-offset_of
use Rattle.numbers.proofs.TheLinks.numbers-offset-offset_at as link-offset-offset_at

-- the functions with their code, before more
abbrev pub entries : Entries → Entries
entries more =
    ("numbers::offset::shift_of", link-offset-shift_of.entry) ∷
    ("numbers::address::address_of", link-address-address_of.entry) ∷
    ("numbers::address::window_fits", link-address-window_fits.entry) ∷
    ("numbers::field::digit_at", link-field-digit_at.entry) ∷
    ("numbers::field::bytes_at", link-field-bytes_at.entry) ∷
    ("numbers::field::u64_at", link-field-u64_at.entry) ∷
    ("numbers::address::word_at", link-address-word_at.entry) ∷
    ("numbers::field::OrderPartialEq::eq", link-field-OrderPartialEq-eq.entry) ∷
    ("numbers::field::u16_at", link-field-u16_at.entry) ∷
    ("numbers::field::u32_at", link-field-u32_at.entry) ∷
    ("numbers::field::u8_at", link-field-u8_at.entry) ∷
    ("numbers::field::field_at", link-field-field_at.entry) ∷
    ("numbers::field::width_of", link-field-width_of.entry) ∷
    ("numbers::field::number_at", link-field-number_at.entry) ∷
    ("numbers::held::rank_of", link-held-rank_of.entry) ∷
    ("numbers::held::held_start", link-held-held_start.entry) ∷
    ("numbers::held::near_of", link-held-near_of.entry) ∷
    ("numbers::held::start_at", link-held-start_at.entry) ∷
    ("numbers::offset::full_of", link-offset-full_of.entry) ∷
    ("numbers::offset::offset_of", link-offset-offset_of.entry) ∷
    ("numbers::offset::offset_at", link-offset-offset_at.entry) ∷
    more

-- a look-up finds them
pub record Finds (look : Symbol → Entry) : Type 0 where
  pub offset_shift_of : look "numbers::offset::shift_of" ≡ link-offset-shift_of.entry
  pub address_address_of : look "numbers::address::address_of" ≡ link-address-address_of.entry
  pub address_window_fits : look "numbers::address::window_fits" ≡ link-address-window_fits.entry
  pub field_digit_at : look "numbers::field::digit_at" ≡ link-field-digit_at.entry
  pub field_bytes_at : look "numbers::field::bytes_at" ≡ link-field-bytes_at.entry
  pub field_u64_at : look "numbers::field::u64_at" ≡ link-field-u64_at.entry
  pub address_word_at : look "numbers::address::word_at" ≡ link-address-word_at.entry
  pub field_OrderPartialEq_eq : look "numbers::field::OrderPartialEq::eq" ≡ link-field-OrderPartialEq-eq.entry
  pub field_u16_at : look "numbers::field::u16_at" ≡ link-field-u16_at.entry
  pub field_u32_at : look "numbers::field::u32_at" ≡ link-field-u32_at.entry
  pub field_u8_at : look "numbers::field::u8_at" ≡ link-field-u8_at.entry
  pub field_field_at : look "numbers::field::field_at" ≡ link-field-field_at.entry
  pub field_width_of : look "numbers::field::width_of" ≡ link-field-width_of.entry
  pub field_number_at : look "numbers::field::number_at" ≡ link-field-number_at.entry
  pub held_rank_of : look "numbers::held::rank_of" ≡ link-held-rank_of.entry
  pub held_held_start : look "numbers::held::held_start" ≡ link-held-held_start.entry
  pub held_near_of : look "numbers::held::near_of" ≡ link-held-near_of.entry
  pub held_start_at : look "numbers::held::start_at" ≡ link-held-start_at.entry
  pub offset_full_of : look "numbers::offset::full_of" ≡ link-offset-full_of.entry
  pub offset_offset_of : look "numbers::offset::offset_of" ≡ link-offset-offset_of.entry
  pub offset_offset_at : look "numbers::offset::offset_at" ≡ link-offset-offset_at.entry

module _ (look : Symbol → Entry) (here : Finds look) where
  pub offset_shift_of : HasT look false link-offset-shift_of.code
  offset_shift_of = link-offset-shift_of.has look false here.offset_shift_of

  pub address_address_of : HasT look false link-address-address_of.code
  address_address_of = link-address-address_of.has look false here.address_address_of offset_shift_of

  pub address_window_fits : HasT look false link-address-window_fits.code
  address_window_fits = link-address-window_fits.has look false here.address_window_fits

  pub field_digit_at : HasT look false link-field-digit_at.code
  field_digit_at = link-field-digit_at.has look false here.field_digit_at

  pub field_bytes_at : HasT look false link-field-bytes_at.code
  field_bytes_at = link-field-bytes_at.has look false here.field_bytes_at field_digit_at

  pub field_u64_at : HasT look false link-field-u64_at.code
  field_u64_at = link-field-u64_at.has look false here.field_u64_at field_bytes_at

  pub address_word_at : HasT look false link-address-word_at.code
  address_word_at = link-address-word_at.has look false here.address_word_at field_u64_at

  pub field_OrderPartialEq_eq : HasT look false link-field-OrderPartialEq-eq.code
  field_OrderPartialEq_eq = link-field-OrderPartialEq-eq.has look false here.field_OrderPartialEq_eq

  pub field_u16_at : HasT look false link-field-u16_at.code
  field_u16_at = link-field-u16_at.has look false here.field_u16_at field_bytes_at

  pub field_u32_at : HasT look false link-field-u32_at.code
  field_u32_at = link-field-u32_at.has look false here.field_u32_at field_bytes_at

  pub field_u8_at : HasT look false link-field-u8_at.code
  field_u8_at = link-field-u8_at.has look false here.field_u8_at

  pub field_field_at : HasT look false link-field-field_at.code
  field_field_at = link-field-field_at.has look false here.field_field_at field_u16_at field_u32_at field_u8_at

  pub field_width_of : HasT look false link-field-width_of.code
  field_width_of = link-field-width_of.has look false here.field_width_of

  pub field_number_at : HasT look false link-field-number_at.code
  field_number_at = link-field-number_at.has look false here.field_number_at field_field_at field_u64_at field_width_of

  pub held_rank_of : HasT look false link-held-rank_of.code
  held_rank_of = link-held-rank_of.has look false here.held_rank_of

  pub held_held_start : HasT look false link-held-held_start.code
  held_held_start = link-held-held_start.has look false here.held_held_start held_rank_of

  pub held_near_of : HasT look false link-held-near_of.code
  held_near_of = link-held-near_of.has look false here.held_near_of

  pub held_start_at : HasT look false link-held-start_at.code
  held_start_at = link-held-start_at.has look false here.held_start_at held_held_start

  pub offset_full_of : HasT look false link-offset-full_of.code
  offset_full_of = link-offset-full_of.has look false here.offset_full_of

  pub offset_offset_of : HasT look false link-offset-offset_of.code
  offset_offset_of = link-offset-offset_of.has look false here.offset_offset_of offset_full_of

  pub offset_offset_at : HasT look false link-offset-offset_at.code
  offset_offset_at = link-offset-offset_at.has look false here.offset_offset_at field_field_at offset_offset_of
