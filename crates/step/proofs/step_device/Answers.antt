-- `step::step_device` meets its contract.
-- Assumes nothing.
use mathlib.Core.Path.{ap, ◌∙◌}
use Rattle.arbiter.specs.Events.{decode}
use Rattle.arbiter.specs.Steps.{step_decoded, step}
use Rattle.std.specs.Prelude.{Result}
use Rattle.arbiter.specs.declared.Event.{Event}
use Rattle.arbiter.specs.declared.Unread.{Unread}
use Rattle.step.proofs.Told.{told_unread}
use Rattle.step.proofs.step_device.Goals as goal

pub returns-in_default : goal.returns-in_default
unfolding step
returns-in_default c =
    let start = c.args in
    simp (c.stepped_with.ensures, c.answered.ensures, c.decoded_number.ensures)
    (told_unread _ start.d c.in_default.not-Ok ∙ ap (λ (x : Result Event Unread). step_decoded x start.d) c.decode_raw-read.ensures.value)

pub returns : goal.returns
unfolding step step_decoded decode
returns c = simp (← c.step_event.ensures, c.in-Ok.is, ← c.decode_raw-read.ensures.value)
