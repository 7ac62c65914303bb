-- `traces::ticks::play_ticks` meets its contract: the events after event i that were passed are TICKs, and as many places have the answer.
-- Assumes nothing.
use Prim.Native.Nat.{◌-◌}
use Rattle.traces.proofs.Batch.{Passed}
use Rattle.traces.proofs.ticks.play_ticks.Given as goal

abbrev pub invariant-loop-at : goal.invariant-loop-at
invariant-loop-at l = Passed l.events l.initial.answers l.i l.last l.a l.answers l.at

abbrev pub decreases-loop-at : goal.decreases-loop-at
decreases-loop-at l = l.last - l.at
