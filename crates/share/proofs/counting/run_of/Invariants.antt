-- `share::counting::run_of` meets its contract.
-- Assumes nothing.
use Rattle.share.specs.Walk.{AllSuch}
use Rattle.share.proofs.counting.run_of.Given as goal

abbrev pub invariant-loop-k : goal.invariant-loop-k
invariant-loop-k l = AllSuch l.ticks l.k l.at l.events
