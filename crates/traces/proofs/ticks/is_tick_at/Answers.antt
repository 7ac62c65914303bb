-- `traces::ticks::is_tick_at` meets its contract: the four bytes at the place of event i, which is there.
-- Assumes nothing.
use native.Mathlib.Nat.{add-zero}
use native.Mathlib.Omega.{arith}
use lib.Seq.{get_or-drop}
use borrow.Author.Tests.{lt-ltb}
use Rattle.arbiter.specs.Traces.{event_count}
use Rattle.format.specs.Places.{event_at}
use Rattle.traces.proofs.ticks.is_tick_at.Goals as goal

pub returns : goal.returns
unfolding event_at
returns c =
    let given = c.args in
    simp (lt-ltb given.i (event_count given.events.now) (omega arith), get_or-drop, add-zero) c.is_tick.ensures
