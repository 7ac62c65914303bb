-- Each call of `orders::list_from` of itself has one event less in both scripts together.
-- Assumes nothing.
use Rattle.std.specs.Prelude.{◌+◌}
use Rattle.arbiter.specs.Traces.{event_count}
use Rattle.orders.proofs.+list_from.Given as goal

-- the events left in both scripts
abbrev pub decreases-list_from : goal.decreases-list_from
decreases-list_from l = event_count l.script0.now + event_count l.script1.now
