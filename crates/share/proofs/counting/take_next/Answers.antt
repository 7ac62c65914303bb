-- `share::counting::take_next` meets its contract.
-- Assumes nothing.
use native.Mathlib.Omega.{arith}
use Rattle.share.proofs.Quiet.{counted_whole}
use Rattle.share.proofs.Others.{others_onward}
use Rattle.share.proofs.counting.take_next.Goals as goal

pub returns-else-k-eq0 : goal.returns-else-k-eq0
returns-else-k-eq0 c =
    let run = c.run_of-k.ensures in
    let few = c.min-few.ensures in
    others_onward c.args.events.now _ (counted_whole c.args.events.now) c.args.p _ _ c.if-k-eq0.false c.requires.2 c.requires.3
    (omega (arith, run.0, few, c.requires.0)) run.1 c.take_others.ensures
