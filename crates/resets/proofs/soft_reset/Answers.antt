-- `resets::soft_reset` meets its contract.
-- Assumes nothing.
use Rattle.arbiter.specs.Effects.{was_reset}
use Rattle.resets.proofs.soft_reset.Goals as goal

pub returns : goal.returns
unfolding was_reset
returns c = simp (c.reset_device.ensures, c.worth_of.ensures.0, c.swrst_of.ensures)
