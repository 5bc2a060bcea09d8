-- `step_checked` steps from what is found at the PC asked; a section is known through that alone.
-- Assumes nothing.
use Rattle.caller.proofs.LookedUpLaws.{looked_up_step}
use Rattle.caller.proofs.registers.Registers.step_checked.Goals as goal

pub returns : goal.returns
returns c =
    looked_up_step _ _ _ _ c.requires c.asked_of.ensures c.in-Some.is
    c.look-answer.ensures c.shape_of.ensures c.from_outcome.ensures
