-- `format::put_head` meets its contract.
-- Assumes nothing.
use lib.Seq.{sets-eq}
use borrow.Author.Tests.{le-ltb, lt-ltb}
use Rattle.arbiter.specs.Writing.{trace_head}
use Rattle.format.specs.Places.{with_head}
use Rattle.format.proofs.put_head.Goals as goal

pub returns-then-out-ge-HEAD_BYTES : goal.returns-then-out-ge-HEAD_BYTES
unfolding with_head
returns-then-out-ge-HEAD_BYTES c =
    let start = c.args in
    simp (le-ltb _ _ c.if-out-ge-HEAD_BYTES.true) (sets-eq (trace_head start.p start.n) start.out.now 0 c.if-out-ge-HEAD_BYTES.true)

pub returns-else-out-ge-HEAD_BYTES : goal.returns-else-out-ge-HEAD_BYTES
unfolding with_head
returns-else-out-ge-HEAD_BYTES c = simp (lt-ltb _ _ c.if-out-ge-HEAD_BYTES.false)
