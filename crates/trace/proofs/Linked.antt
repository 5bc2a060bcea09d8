-- Each function of this crate with its code and the code of all that it calls, for a look-up of the machine that finds the functions
-- (`prog.Linked`). So there is an environment in which a function's name means its code. Written by tools/linked.py.
-- Assumes nothing.
use mathlib.Core.Path.{◌≡◌}
use mathlib.Core.Bool.{false}
use mathlib.Core.List.{◌∷◌}
use mir.Syntax.{Symbol}
use prog.Linked.{Entry, Entries}
use prog.LinkedThreads.{HasT}
use Rattle.numbers.proofs.Linked as numbers
use Rattle.section.proofs.Linked as section
use Rattle.accept.proofs.Linked as accept
use Rattle.lookup.proofs.Linked as lookup
use Rattle.caller.proofs.Linked as caller
use Rattle.trace.proofs.TheLinks.trace-answer-DoorFault-number as link-answer-DoorFault-number
use Rattle.trace.proofs.TheLinks.trace-answer-frame_of as link-answer-frame_of
use Rattle.trace.proofs.TheLinks.trace-answer-write_frame as link-answer-write_frame
use Rattle.trace.proofs.TheLinks.trace-walk-in_force as link-walk-in_force
use Rattle.trace.proofs.TheLinks.trace-walk-door_fault as link-walk-door_fault
use Rattle.trace.proofs.TheLinks.trace-walk-next_from as link-walk-next_from
use Rattle.trace.proofs.TheLinks.trace-walk-walk as link-walk-walk
use Rattle.trace.proofs.TheLinks.trace-walk-with_mark as link-walk-with_mark
use Rattle.trace.proofs.TheLinks.trace-walk-trace as link-walk-trace

-- the functions with their code, before more
abbrev pub entries : Entries → Entries
entries more =
    ("trace::answer::DoorFault::number", link-answer-DoorFault-number.entry) ∷
    ("trace::answer::frame_of", link-answer-frame_of.entry) ∷
    ("trace::answer::write_frame", link-answer-write_frame.entry) ∷
    ("trace::walk::in_force", link-walk-in_force.entry) ∷
    ("trace::walk::door_fault", link-walk-door_fault.entry) ∷
    ("trace::walk::next_from", link-walk-next_from.entry) ∷
    ("trace::walk::walk", link-walk-walk.entry) ∷
    ("trace::walk::with_mark", link-walk-with_mark.entry) ∷
    ("trace::walk::trace", link-walk-trace.entry) ∷
    more

-- a look-up finds them
pub record Finds (look : Symbol → Entry) : Type 0 where
  pub answer_DoorFault_number : look "trace::answer::DoorFault::number" ≡ link-answer-DoorFault-number.entry
  pub answer_frame_of : look "trace::answer::frame_of" ≡ link-answer-frame_of.entry
  pub answer_write_frame : look "trace::answer::write_frame" ≡ link-answer-write_frame.entry
  pub walk_in_force : look "trace::walk::in_force" ≡ link-walk-in_force.entry
  pub walk_door_fault : look "trace::walk::door_fault" ≡ link-walk-door_fault.entry
  pub walk_next_from : look "trace::walk::next_from" ≡ link-walk-next_from.entry
  pub walk_walk : look "trace::walk::walk" ≡ link-walk-walk.entry
  pub walk_with_mark : look "trace::walk::with_mark" ≡ link-walk-with_mark.entry
  pub walk_trace : look "trace::walk::trace" ≡ link-walk-trace.entry

module _ (look : Symbol → Entry) (in_numbers : numbers.Finds look) (in_section : section.Finds look) (in_accept : accept.Finds look) (in_lookup : lookup.Finds look) (in_caller : caller.Finds look) (here : Finds look) where
  pub answer_DoorFault_number : HasT look false link-answer-DoorFault-number.code
  answer_DoorFault_number = link-answer-DoorFault-number.has look false here.answer_DoorFault_number

  pub answer_frame_of : HasT look false link-answer-frame_of.code
  answer_frame_of = link-answer-frame_of.has look false here.answer_frame_of (caller.registers_cfa_of_sp look in_numbers in_section in_accept in_lookup in_caller)

  pub answer_write_frame : HasT look false link-answer-write_frame.code
  answer_write_frame = link-answer-write_frame.has look false here.answer_write_frame

  pub walk_in_force : HasT look false link-walk-in_force.code
  walk_in_force = link-walk-in_force.has look false here.walk_in_force

  pub walk_door_fault : HasT look false link-walk-door_fault.code
  walk_door_fault = link-walk-door_fault.has look false here.walk_door_fault (numbers.address_window_fits look in_numbers) walk_in_force

  pub walk_next_from : HasT look false link-walk-next_from.code
  walk_next_from = link-walk-next_from.has look false here.walk_next_from

  pub walk_walk : HasT look false link-walk-walk.code
  walk_walk = link-walk-walk.has look false here.walk_walk (caller.registers_Registers_step_checked look in_numbers in_section in_accept in_lookup in_caller) answer_frame_of answer_write_frame walk_next_from

  pub walk_with_mark : HasT look false link-walk-with_mark.code
  walk_with_mark = link-walk-with_mark.has look false here.walk_with_mark

  pub walk_trace : HasT look false link-walk-trace.code
  walk_trace = link-walk-trace.has look false here.walk_trace (accept.section_check_check look in_numbers in_section in_accept) (section.header_layout_at look in_numbers in_section) walk_door_fault walk_in_force walk_walk walk_with_mark
