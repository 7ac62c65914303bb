-- `traces::ticks::put_there` meets its contract: the four bytes of the answer at the place of event i, which is there.
-- Assumes nothing.
use native.Mathlib.Omega.{arith}
use borrow.Author.Tests.{lt-ltb}
use Rattle.arbiter.specs.Traces.{event_count}
use Rattle.format.specs.Places.{put_at, with_answer}
use Rattle.traces.proofs.ticks.put_there.Goals as goal

pub returns : goal.returns
unfolding put_at with_answer
returns c = simp (lt-ltb c.args.i (event_count c.args.answers.now) (omega arith))
