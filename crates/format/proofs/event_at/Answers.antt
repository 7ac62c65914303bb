-- `format::event_at` meets its contract.
-- Assumes nothing.
use native.Mathlib.Nat.{add-zero}
use lib.Seq.{get_or-drop}
use borrow.Author.Tests.{le-ltb, lt-ltb}
use Rattle.format.specs.Places.{event_at}
use Rattle.format.proofs.event_at.Goals as goal

pub returns-then-i-events : goal.returns-then-i-events
unfolding event_at
returns-then-i-events c = simp (lt-ltb _ _ c.if-i-events.true, get_or-drop, add-zero)

pub returns : goal.returns
unfolding event_at
returns c = simp (le-ltb _ _ c.if-i-events.false)
