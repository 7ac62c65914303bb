-- `resets::fresh_side` meets its contract.
-- Assumes nothing.
use mathlib.Core.Path.{refl}
use Rattle.arbiter.specs.Effects.{fresh_side}
use Rattle.resets.proofs.fresh_side.Goals as goal

pub returns : goal.returns
unfolding fresh_side
returns c = refl
