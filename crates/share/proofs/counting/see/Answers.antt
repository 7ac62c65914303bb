-- `share::counting::see` meets its contract.
-- Assumes nothing.
use Rattle.share.specs.Walk.{seen_of}
use Rattle.share.proofs.counting.see.Goals as goal

pub returns : goal.returns
unfolding seen_of
returns c =
    simp (
      c.closed_for-2.ensures,
      c.closed_for.ensures,
      c.owns_turn-owns1.ensures,
      c.owns_turn-owns0.ensures,
    )
