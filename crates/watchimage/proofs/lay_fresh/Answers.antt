-- `watchimage::lay_fresh` meets its contract.
-- Assumes nothing.
use Prim.Native.Nat.{◌<◌}
use mathlib.Core.Path.{subst, sym}
use Rattle.ranges.specs.Ranges.{pulses}
use Rattle.layout.proofs.Steps.{fresh_pulses}
use Rattle.watch.specs.declared.Watcher.{Watcher}
use Rattle.watch.specs.Stream.{beginning}
use Rattle.watchimage.proofs.lay_fresh.Goals as goal

pub lay-requires : goal.lay-requires
unfolding beginning
lay-requires c =
    let few = subst (λ (w : Watcher). pulses w.device.arb.switch < 9) (sym c.begin.ensures) (fresh_pulses _) in
    (few, c.requires)
