-- Each function of this crate with its code and the code of all that it calls, for a look-up of the machine that finds the functions
-- (`prog.Linked`). So there is an environment in which a function's name means its code. Written by tools/linked.py.
-- Assumes nothing.
use mathlib.Core.Path.{◌≡◌}
use mathlib.Core.Bool.{false}
use mathlib.Core.List.{◌∷◌}
use mir.Syntax.{Symbol}
use prog.Linked.{Entry, Entries}
use prog.LinkedThreads.{HasT}
use Rattle.numbers.proofs.Linked as numbers
use Rattle.section.proofs.Linked as section
use Rattle.accept.proofs.Linked as accept
use Rattle.lookup.proofs.Linked as lookup
use Rattle.caller.proofs.TheLinks.caller-place-is_lost as link-place-is_lost
use Rattle.caller.proofs.TheLinks.caller-place-spot_at as link-place-spot_at
use Rattle.caller.proofs.TheLinks.caller-place-spot_of as link-place-spot_of
use Rattle.caller.proofs.TheLinks.caller-place-value_at as link-place-value_at
use Rattle.caller.proofs.TheLinks.caller-place-values_at as link-place-values_at
use Rattle.caller.proofs.TheLinks.caller-registers-FrameCause-number as link-registers-FrameCause-number
use Rattle.caller.proofs.TheLinks.caller-registers-Registers-refuse as link-registers-Registers-refuse
use Rattle.caller.proofs.TheLinks.caller-registers-caller_sp as link-registers-caller_sp
use Rattle.caller.proofs.TheLinks.caller-signature-clear as link-signature-clear
use Rattle.caller.proofs.TheLinks.caller-registers-Registers-with_values as link-registers-Registers-with_values
use Rattle.caller.proofs.TheLinks.caller-registers-Registers-from_spots as link-registers-Registers-from_spots
use Rattle.caller.proofs.TheLinks.caller-registers-is_low as link-registers-is_low
use Rattle.caller.proofs.TheLinks.caller-signature-is_signed as link-signature-is_signed
use Rattle.caller.proofs.TheLinks.caller-signature-mask_of as link-signature-mask_of
use Rattle.caller.proofs.TheLinks.caller-registers-Registers-from_cfa as link-registers-Registers-from_cfa
use Rattle.caller.proofs.TheLinks.caller-registers-base_value as link-registers-base_value
use Rattle.caller.proofs.TheLinks.caller-registers-cfa_of as link-registers-cfa_of
use Rattle.caller.proofs.TheLinks.caller-signature-is_maskless as link-signature-is_maskless
use Rattle.caller.proofs.TheLinks.caller-registers-Registers-from_row as link-registers-Registers-from_row
use Rattle.caller.proofs.TheLinks.caller-registers-Registers-from_outcome as link-registers-Registers-from_outcome
use Rattle.caller.proofs.TheLinks.caller-registers-just_before as link-registers-just_before
use Rattle.caller.proofs.TheLinks.caller-registers-asked_of as link-registers-asked_of
use Rattle.caller.proofs.TheLinks.caller-registers-Registers-step_checked as link-registers-Registers-step_checked
use Rattle.caller.proofs.TheLinks.caller-registers-Registers-step as link-registers-Registers-step
use Rattle.caller.proofs.TheLinks.caller-registers-StepCause-index as link-registers-StepCause-index
use Rattle.caller.proofs.TheLinks.caller-registers-StepCause-number as link-registers-StepCause-number
use Rattle.caller.proofs.TheLinks.caller-registers-cfa_of_sp as link-registers-cfa_of_sp

-- the functions with their code, before more
abbrev pub entries : Entries → Entries
entries more =
    ("caller::place::is_lost", link-place-is_lost.entry) ∷
    ("caller::place::spot_at", link-place-spot_at.entry) ∷
    ("caller::place::spot_of", link-place-spot_of.entry) ∷
    ("caller::place::value_at", link-place-value_at.entry) ∷
    ("caller::place::values_at", link-place-values_at.entry) ∷
    ("caller::registers::FrameCause::number", link-registers-FrameCause-number.entry) ∷
    ("caller::registers::Registers::refuse", link-registers-Registers-refuse.entry) ∷
    ("caller::registers::caller_sp", link-registers-caller_sp.entry) ∷
    ("caller::signature::clear", link-signature-clear.entry) ∷
    ("caller::registers::Registers::with_values", link-registers-Registers-with_values.entry) ∷
    ("caller::registers::Registers::from_spots", link-registers-Registers-from_spots.entry) ∷
    ("caller::registers::is_low", link-registers-is_low.entry) ∷
    ("caller::signature::is_signed", link-signature-is_signed.entry) ∷
    ("caller::signature::mask_of", link-signature-mask_of.entry) ∷
    ("caller::registers::Registers::from_cfa", link-registers-Registers-from_cfa.entry) ∷
    ("caller::registers::base_value", link-registers-base_value.entry) ∷
    ("caller::registers::cfa_of", link-registers-cfa_of.entry) ∷
    ("caller::signature::is_maskless", link-signature-is_maskless.entry) ∷
    ("caller::registers::Registers::from_row", link-registers-Registers-from_row.entry) ∷
    ("caller::registers::Registers::from_outcome", link-registers-Registers-from_outcome.entry) ∷
    ("caller::registers::just_before", link-registers-just_before.entry) ∷
    ("caller::registers::asked_of", link-registers-asked_of.entry) ∷
    ("caller::registers::Registers::step_checked", link-registers-Registers-step_checked.entry) ∷
    ("caller::registers::Registers::step", link-registers-Registers-step.entry) ∷
    ("caller::registers::StepCause::index", link-registers-StepCause-index.entry) ∷
    ("caller::registers::StepCause::number", link-registers-StepCause-number.entry) ∷
    ("caller::registers::cfa_of_sp", link-registers-cfa_of_sp.entry) ∷
    more

-- a look-up finds them
pub record Finds (look : Symbol → Entry) : Type 0 where
  pub place_is_lost : look "caller::place::is_lost" ≡ link-place-is_lost.entry
  pub place_spot_at : look "caller::place::spot_at" ≡ link-place-spot_at.entry
  pub place_spot_of : look "caller::place::spot_of" ≡ link-place-spot_of.entry
  pub place_value_at : look "caller::place::value_at" ≡ link-place-value_at.entry
  pub place_values_at : look "caller::place::values_at" ≡ link-place-values_at.entry
  pub registers_FrameCause_number : look "caller::registers::FrameCause::number" ≡ link-registers-FrameCause-number.entry
  pub registers_Registers_refuse : look "caller::registers::Registers::refuse" ≡ link-registers-Registers-refuse.entry
  pub registers_caller_sp : look "caller::registers::caller_sp" ≡ link-registers-caller_sp.entry
  pub signature_clear : look "caller::signature::clear" ≡ link-signature-clear.entry
  pub registers_Registers_with_values : look "caller::registers::Registers::with_values" ≡ link-registers-Registers-with_values.entry
  pub registers_Registers_from_spots : look "caller::registers::Registers::from_spots" ≡ link-registers-Registers-from_spots.entry
  pub registers_is_low : look "caller::registers::is_low" ≡ link-registers-is_low.entry
  pub signature_is_signed : look "caller::signature::is_signed" ≡ link-signature-is_signed.entry
  pub signature_mask_of : look "caller::signature::mask_of" ≡ link-signature-mask_of.entry
  pub registers_Registers_from_cfa : look "caller::registers::Registers::from_cfa" ≡ link-registers-Registers-from_cfa.entry
  pub registers_base_value : look "caller::registers::base_value" ≡ link-registers-base_value.entry
  pub registers_cfa_of : look "caller::registers::cfa_of" ≡ link-registers-cfa_of.entry
  pub signature_is_maskless : look "caller::signature::is_maskless" ≡ link-signature-is_maskless.entry
  pub registers_Registers_from_row : look "caller::registers::Registers::from_row" ≡ link-registers-Registers-from_row.entry
  pub registers_Registers_from_outcome : look "caller::registers::Registers::from_outcome" ≡ link-registers-Registers-from_outcome.entry
  pub registers_just_before : look "caller::registers::just_before" ≡ link-registers-just_before.entry
  pub registers_asked_of : look "caller::registers::asked_of" ≡ link-registers-asked_of.entry
  pub registers_Registers_step_checked : look "caller::registers::Registers::step_checked" ≡ link-registers-Registers-step_checked.entry
  pub registers_Registers_step : look "caller::registers::Registers::step" ≡ link-registers-Registers-step.entry
  pub registers_StepCause_index : look "caller::registers::StepCause::index" ≡ link-registers-StepCause-index.entry
  pub registers_StepCause_number : look "caller::registers::StepCause::number" ≡ link-registers-StepCause-number.entry
  pub registers_cfa_of_sp : look "caller::registers::cfa_of_sp" ≡ link-registers-cfa_of_sp.entry

module _ (look : Symbol → Entry) (in_numbers : numbers.Finds look) (in_section : section.Finds look) (in_accept : accept.Finds look) (in_lookup : lookup.Finds look) (here : Finds look) where
  pub place_is_lost : HasT look false link-place-is_lost.code
  place_is_lost = link-place-is_lost.has look false here.place_is_lost

  pub place_spot_at : HasT look false link-place-spot_at.code
  place_spot_at = link-place-spot_at.has look false here.place_spot_at

  pub place_spot_of : HasT look false link-place-spot_of.code
  place_spot_of = link-place-spot_of.has look false here.place_spot_of place_spot_at (numbers.address_address_of look in_numbers)

  pub place_value_at : HasT look false link-place-value_at.code
  place_value_at = link-place-value_at.has look false here.place_value_at (numbers.address_word_at look in_numbers)

  pub place_values_at : HasT look false link-place-values_at.code
  place_values_at = link-place-values_at.has look false here.place_values_at place_value_at

  pub registers_FrameCause_number : HasT look false link-registers-FrameCause-number.code
  registers_FrameCause_number = link-registers-FrameCause-number.has look false here.registers_FrameCause_number

  pub registers_Registers_refuse : HasT look false link-registers-Registers-refuse.code
  registers_Registers_refuse = link-registers-Registers-refuse.has look false here.registers_Registers_refuse

  pub registers_caller_sp : HasT look false link-registers-caller_sp.code
  registers_caller_sp = link-registers-caller_sp.has look false here.registers_caller_sp

  pub signature_clear : HasT look false link-signature-clear.code
  signature_clear = link-signature-clear.has look false here.signature_clear

  pub registers_Registers_with_values : HasT look false link-registers-Registers-with_values.code
  registers_Registers_with_values = link-registers-Registers-with_values.has look false here.registers_Registers_with_values registers_Registers_refuse registers_caller_sp signature_clear

  pub registers_Registers_from_spots : HasT look false link-registers-Registers-from_spots.code
  registers_Registers_from_spots = link-registers-Registers-from_spots.has look false here.registers_Registers_from_spots place_is_lost place_values_at registers_Registers_refuse registers_Registers_with_values

  pub registers_is_low : HasT look false link-registers-is_low.code
  registers_is_low = link-registers-is_low.has look false here.registers_is_low

  pub signature_is_signed : HasT look false link-signature-is_signed.code
  signature_is_signed = link-signature-is_signed.has look false here.signature_is_signed

  pub signature_mask_of : HasT look false link-signature-mask_of.code
  signature_mask_of = link-signature-mask_of.has look false here.signature_mask_of signature_is_signed

  pub registers_Registers_from_cfa : HasT look false link-registers-Registers-from_cfa.code
  registers_Registers_from_cfa = link-registers-Registers-from_cfa.has look false here.registers_Registers_from_cfa place_spot_of registers_Registers_from_spots registers_Registers_refuse registers_caller_sp registers_is_low signature_mask_of

  pub registers_base_value : HasT look false link-registers-base_value.code
  registers_base_value = link-registers-base_value.has look false here.registers_base_value

  pub registers_cfa_of : HasT look false link-registers-cfa_of.code
  registers_cfa_of = link-registers-cfa_of.has look false here.registers_cfa_of registers_base_value (numbers.address_address_of look in_numbers)

  pub signature_is_maskless : HasT look false link-signature-is_maskless.code
  signature_is_maskless = link-signature-is_maskless.has look false here.signature_is_maskless signature_is_signed

  pub registers_Registers_from_row : HasT look false link-registers-Registers-from_row.code
  registers_Registers_from_row = link-registers-Registers-from_row.has look false here.registers_Registers_from_row registers_Registers_from_cfa registers_Registers_refuse registers_cfa_of signature_is_maskless

  pub registers_Registers_from_outcome : HasT look false link-registers-Registers-from_outcome.code
  registers_Registers_from_outcome = link-registers-Registers-from_outcome.has look false here.registers_Registers_from_outcome registers_Registers_from_row registers_Registers_refuse

  pub registers_just_before : HasT look false link-registers-just_before.code
  registers_just_before = link-registers-just_before.has look false here.registers_just_before

  pub registers_asked_of : HasT look false link-registers-asked_of.code
  registers_asked_of = link-registers-asked_of.has look false here.registers_asked_of registers_just_before

  pub registers_Registers_step_checked : HasT look false link-registers-Registers-step_checked.code
  registers_Registers_step_checked = link-registers-Registers-step_checked.has look false here.registers_Registers_step_checked registers_Registers_from_outcome registers_Registers_refuse registers_asked_of (lookup.look_look look in_numbers in_section in_accept in_lookup) (section.shape_shape_of look in_numbers in_section)

  pub registers_Registers_step : HasT look false link-registers-Registers-step.code
  registers_Registers_step = link-registers-Registers-step.has look false here.registers_Registers_step (accept.section_check_check look in_numbers in_section in_accept) registers_Registers_step_checked (numbers.address_window_fits look in_numbers) (section.header_layout_at look in_numbers in_section)

  pub registers_StepCause_index : HasT look false link-registers-StepCause-index.code
  registers_StepCause_index = link-registers-StepCause-index.has look false here.registers_StepCause_index

  pub registers_StepCause_number : HasT look false link-registers-StepCause-number.code
  registers_StepCause_number = link-registers-StepCause-number.has look false here.registers_StepCause_number (accept.verdict_Rule_number look in_numbers in_section in_accept) registers_FrameCause_number

  pub registers_cfa_of_sp : HasT look false link-registers-cfa_of_sp.code
  registers_cfa_of_sp = link-registers-cfa_of_sp.has look false here.registers_cfa_of_sp
