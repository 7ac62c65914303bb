-- `share::counting::waited_on` meets its contract.
-- Assumes nothing.
use Rattle.share.specs.Walk.{waited_on}
use Rattle.share.proofs.counting.waited_on.Goals as goal

pub returns-then-waiting : goal.returns-then-waiting
unfolding waited_on
returns-then-waiting c = simp c.if-waiting.true

pub returns-else-waiting : goal.returns-else-waiting
unfolding waited_on
returns-else-waiting c = simp c.if-waiting.false
