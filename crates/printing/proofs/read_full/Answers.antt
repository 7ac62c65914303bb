-- `printing::read_full`: what a read puts behind what was read before is what the stream loses after that.
-- Assumes nothing.
use Rattle.std.proofs.Common.{arith}
use Rattle.printing.proofs.Filled.{filled}
use Rattle.printing.proofs.read_full.Goals as goal

pub loop-done-preserved : goal.loop-done-preserved
loop-done-preserved g c =
    let told = c.in_ok-n.ensures in
    (omega (arith, told.bound.0), filled _ _ _ _ _ _ _ _ c.loop-done.invariant.0 told.bound.0 c.loop-done.invariant.1 told.bytes.0)
