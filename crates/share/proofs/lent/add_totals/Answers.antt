-- `share::lent::add_totals` meets its contract.
-- Assumes nothing.
use Rattle.share.proofs.Buffers.{lent_taken, lent_refused}
use Rattle.share.proofs.lent.add_totals.Goals as goal

pub returns-then-totals-ne-TOTAL_COUNT : goal.returns-then-totals-ne-TOTAL_COUNT
returns-then-totals-ne-TOTAL_COUNT c = lent_refused c.args.totals.now c.args.t.now c.if-totals-ne-TOTAL_COUNT.true

pub returns : goal.returns
returns c =
    let start = c.args in
    lent_taken start.totals.now start.t.now _ _ _ _ c.if-totals-ne-TOTAL_COUNT.false c.totals_in-sum.ensures c.add_trace-told.ensures c.put_totals.ensures
