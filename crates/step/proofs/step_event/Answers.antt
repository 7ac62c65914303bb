-- `step::step_event` meets its contract.
-- Assumes nothing.
use Rattle.step.proofs.Told.{told_event}
use Rattle.step.proofs.step_event.Goals as goal

pub returns : goal.returns
returns c =
    simp (c.stepped_with.ensures, c.answered.ensures, c.finish-f.ensures, c.effect_of.ensures)
    (told_event _ _)
