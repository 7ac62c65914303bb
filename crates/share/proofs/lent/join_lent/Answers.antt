-- `share::lent::join_lent` meets its contract.
-- Assumes nothing.
use Rattle.share.proofs.Buffers.{join_taken, join_refused}
use Rattle.share.proofs.lent.join_lent.Goals as goal

pub returns-then-totals-other : goal.returns-then-totals-other
returns-then-totals-other c =
    let start = c.args in
    join_taken start.totals.now start.other.now _ _ _ _ _ c.if-totals-other.true c.totals_in-both.ensures c.totals_in.ensures c.join-joined.ensures
    c.put_totals.ensures

pub returns : goal.returns
returns c = let start = c.args in join_refused start.totals.now start.other.now c.if-totals-other.false
