-- `share::counting::take_quiet` meets its contract.
-- Assumes nothing.
use Rattle.share.proofs.Quiet.{quiet_taken_lem}
use Rattle.share.proofs.counting.take_quiet.Goals as goal

pub returns : goal.returns
returns c =
    quiet_taken_lem _ _ _ _ _ _ c.after_ticks-d.ensures c.see.ensures c.note.ensures c.point_with.ensures
