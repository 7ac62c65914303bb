-- `watchimage::fresh_watch` lays out a listener where the buffer has its length.
-- Assumes nothing.
use Rattle.watchimage.proofs.Kept.{fresh_good}
use Rattle.watchimage.proofs.fresh_watch.Goals as goal

pub lay_fresh-requires : goal.lay_fresh-requires
lay_fresh-requires c = fresh_good _ _ _ _ c.in_ok-check_fresh.ensures
