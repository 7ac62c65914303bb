-- `share::counting::take_one` meets its contract.
-- Assumes nothing.
use Rattle.share.proofs.Quiet.{one_taken_lem}
use Rattle.share.proofs.counting.take_one.Goals as goal

pub returns : goal.returns
returns c =
    one_taken_lem _ _ _ _ _ _ c.event_at-r.ensures c.step_device-s.ensures c.note_after.ensures c.point_with.ensures
