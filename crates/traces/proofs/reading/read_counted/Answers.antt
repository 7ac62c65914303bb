-- `traces::reading::read_counted` meets its contract.
-- Assumes nothing.
use borrow.Author.Tests.{le-ltb, lt-ltb}
use Rattle.arbiter.specs.Traces.{read_counted}
use Rattle.traces.proofs.reading.read_counted.Goals as goal

pub returns-then-t-lt-HEAD_BYTES : goal.returns-then-t-lt-HEAD_BYTES
unfolding read_counted
returns-then-t-lt-HEAD_BYTES c = simp (lt-ltb _ _ c.if-t-lt-HEAD_BYTES.true)

pub returns-then-n-gt-MOST_EVENTS : goal.returns-then-n-gt-MOST_EVENTS
unfolding read_counted
returns-then-n-gt-MOST_EVENTS c = simp (lt-ltb _ _ c.if-n-gt-MOST_EVENTS.true, ← c.count_in-n.ensures, le-ltb _ _ c.if-t-lt-HEAD_BYTES.false)

pub returns-then-t-events_end : goal.returns-then-t-events_end
unfolding read_counted
returns-then-t-events_end c =
    simp (
      lt-ltb _ _ c.if-t-events_end.true,
      ← c.events_end.ensures,
      le-ltb _ _ c.if-n-gt-MOST_EVENTS.false,
      ← c.count_in-n.ensures,
      le-ltb _ _ c.if-t-lt-HEAD_BYTES.false,
    )

pub returns : goal.returns
unfolding read_counted
returns c =
    simp (
      ← c.read_kind.ensures,
      le-ltb _ _ c.if-t-events_end.false,
      ← c.events_end.ensures,
      le-ltb _ _ c.if-n-gt-MOST_EVENTS.false,
      ← c.count_in-n.ensures,
      le-ltb _ _ c.if-t-lt-HEAD_BYTES.false,
    )
