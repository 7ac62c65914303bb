-- `resets::fresh_device` meets its contract.
-- Assumes nothing.
use Rattle.arbiter.specs.Effects.{power_up}
use Rattle.resets.proofs.fresh_device.Goals as goal

pub returns : goal.returns
unfolding power_up
returns c = simp (c.fresh_arb.ensures, c.fresh_bus.ensures, c.fresh_side-2.ensures, c.fresh_side.ensures)
