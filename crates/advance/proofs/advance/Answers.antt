-- `advance::advance` meets its contract.
-- Assumes nothing.
use borrow.Author.Tests.{le-ltb, lt-ltb}
use Rattle.advance.specs.Advance.{advanced}
use Rattle.advance.proofs.advance.Goals as goal

pub returns-then-n-gt-MOST_TICKS : goal.returns-then-n-gt-MOST_TICKS
unfolding advanced
returns-then-n-gt-MOST_TICKS c = simp (lt-ltb _ _ c.if-n-gt-MOST_TICKS.true)

pub returns-else-n-gt-MOST_TICKS : goal.returns-else-n-gt-MOST_TICKS
unfolding advanced
returns-else-n-gt-MOST_TICKS c = simp (le-ltb _ _ c.if-n-gt-MOST_TICKS.false) c.leap.ensures
