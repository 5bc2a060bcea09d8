-- Every public function of `trace` determines its reply and the words left in the lent buffer: two replies that its own contract allows for
-- one input are equal, and so are the words.
-- Assumes nothing.
use mathlib.Core.Path.{refl, sym, ◌∙◌, ap}
use Rattle.trace.specs.Frames.{traced_as}
use Rattle.trace.proofs.answer.frame_of.Kinds as frame_of-kinds
use Rattle.trace.proofs.answer.frame_of.Reads as frame_of-reads
use Rattle.trace.proofs.answer.DoorFault.number.Kinds as DoorFault_number-kinds
use Rattle.trace.proofs.answer.DoorFault.number.Reads as DoorFault_number-reads
use Rattle.trace.proofs.answer.write_frame.Kinds as write_frame-kinds
use Rattle.trace.proofs.answer.write_frame.Reads as write_frame-reads
use Rattle.trace.proofs.walk.in_force.Kinds as in_force-kinds
use Rattle.trace.proofs.walk.in_force.Reads as in_force-reads
use Rattle.trace.proofs.walk.trace.Kinds as trace-kinds
use Rattle.trace.proofs.walk.trace.Reads as trace-reads
use Rattle.trace.proofs.ToldLaws.{trace_told_once}
use Rattle.promises.specs.Determined.{Determined}

pub frame_of_determined : Determined frame_of-kinds.ps frame_of-kinds.r frame_of-reads.Learnt
frame_of_determined κs a z z' w w' p q = (p ∙ sym q, refl)

pub DoorFault_number_determined : Determined DoorFault_number-kinds.ps DoorFault_number-kinds.r DoorFault_number-reads.Learnt
DoorFault_number_determined κs a z z' w w' p q = (p ∙ sym q, refl)

pub write_frame_determined : Determined write_frame-kinds.ps write_frame-kinds.r write_frame-reads.Learnt
write_frame_determined κs a z z' w w' p q = (refl, ap (λ words. (words, (tt, (tt, tt)))) (p ∙ sym q))

pub in_force_determined : Determined in_force-kinds.ps in_force-kinds.r in_force-reads.Learnt
in_force_determined κs a z z' w w' p q = (p ∙ sym q, refl)

pub trace_determined : Determined trace-kinds.ps trace-kinds.r trace-reads.Learnt
unfolding traced_as
trace_determined κs a z z' w w' p q =
    (trace_told_once _ _ (ap (λ both. both.answer) (p ∙ sym q)), ap (λ both. (tt, (tt, (tt, (tt, (tt, (both.words, tt))))))) (p ∙ sym q))
