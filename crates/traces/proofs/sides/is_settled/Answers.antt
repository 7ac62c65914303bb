-- `traces::sides::is_settled` meets its contract.
-- Assumes nothing.
use Rattle.step.specs.Carried.{is_quiet}
use Rattle.traces.proofs.sides.is_settled.Goals as goal

pub returns : goal.returns
unfolding is_quiet
returns c =
    simp (
      c.no_loss.ensures,
      c.no_cut.ensures,
      c.is_calm.ensures,
      c.is_still.ensures,
    )
