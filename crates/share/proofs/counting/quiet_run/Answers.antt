-- `share::counting::quiet_run` meets its contract.
-- Assumes nothing.
use native.Mathlib.Omega.{arith}
use Rattle.traces.proofs.Batch.{settled_left}
use Rattle.share.proofs.Quiet.{all_ticks}
use Rattle.share.proofs.counting.quiet_run.Goals as goal

pub returns-then-is_tick : goal.returns-then-is_tick
returns-then-is_tick c =
    let few = c.min-quiet.ensures in
    let asked = c.counts_left.ensures in
    let left = settled_left c.args.d c.requires.1 in
    let run = c.run_of.ensures in
    (omega (arith, run.0, few, c.requires.0), omega (arith, run.0, few, asked, left), all_ticks _ _ _ run.1)
