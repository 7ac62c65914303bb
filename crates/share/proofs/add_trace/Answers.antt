-- `share::add_trace` meets its contract.
-- Assumes nothing.
use borrow.Author.Tests.{le-ltb}
use Rattle.share.specs.Share.{added, trace_told}
use Rattle.share.proofs.Own.{trace_added}
use Rattle.share.proofs.add_trace.Goals as goal

pub returns-then-totals-ge-MOST_TRACES : goal.returns-then-totals-ge-MOST_TRACES
unfolding added trace_told
returns-then-totals-ge-MOST_TRACES c =
    let past = le-ltb _ _ c.if-totals-ge-MOST_TRACES.true in
    (simp past, simp past)

pub returns : goal.returns
returns c =
    trace_added _ _ _ _ _ _ c.if-totals-ge-MOST_TRACES.false c.read_trace-read.ensures.0 c.totals_of-own.ensures c.put_together.ensures c.outcome_of.ensures
