-- `advance::changes::is_changed` meets its contract.
-- Assumes nothing.
use Rattle.advance.specs.Changes.{changes}
use Rattle.advance.proofs.changes.is_changed.Goals as goal

pub returns : goal.returns
unfolding changes
returns c = simp (c.same_shown.ensures, c.same_but_counts.ensures)
