-- Each call of `orders::orders_of` of itself has one event less.
-- Assumes nothing.
use Rattle.std.specs.Prelude.{◌+◌}
use Rattle.orders.proofs.+orders_of.Given as goal

-- the events of both
abbrev pub decreases-orders_of : goal.decreases-orders_of
decreases-orders_of l = l.m + l.n
