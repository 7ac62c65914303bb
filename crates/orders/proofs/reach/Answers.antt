-- `orders::reach` meets its contract.
-- Assumes nothing.
use mathlib.Core.Path.{ap, ◌∙◌}
use Rattle.arbiter.specs.Steps.{step}
use Rattle.arbiter.specs.declared.Raw.{Raw}
use Rattle.arbiter.specs.declared.Stepped.{Stepped}
use Rattle.orders.specs.Walk.{reached_with}
use Rattle.orders.proofs.Single.{at_first}
use Rattle.orders.proofs.reach.Goals as goal

pub returns : goal.returns
returns c =
    let stepped = c.step_device-s in
    let event = c.event_at in
    c.reached_with.ensures
    ∙ ap (λ (s : Stepped). reached_with s.device s.answer.owner)
    (stepped.ensures ∙ ap (λ (r : Raw). step c.args.c.device r) (event.ensures ∙ at_first c.args.script.now c.requires))
