-- `share::counting::take_ticks` meets its contract.
-- Assumes nothing.
use Rattle.share.proofs.Quiet.{counted_whole, one_onward, quiet_onward}
use Rattle.share.proofs.counting.take_ticks.Goals as goal

pub returns-then-j-eq0 : goal.returns-then-j-eq0
returns-then-j-eq0 c =
    one_onward c.args.events.now _ (counted_whole c.args.events.now) c.args.p _ c.requires.0 c.requires.2 c.requires.3
    c.take_one.ensures

pub returns-else-j-eq0 : goal.returns-else-j-eq0
returns-else-j-eq0 c =
    let run = c.quiet_run-j.ensures in
    quiet_onward c.args.events.now _ (counted_whole c.args.events.now) c.args.p _ _ c.if-j-eq0.false c.requires.2 c.requires.3 run.0
    run.1 run.2 c.take_quiet.ensures
