-- `watchimage::hear` meets its contract.
-- Assumes nothing.
use Prim.Native.Nat.{◌<◌}
use mathlib.Core.Path.{subst, sym, ap, ◌∙◌}
use Rattle.ranges.specs.Ranges.{pulses}
use Rattle.watch.specs.declared.Watcher.{Watcher}
use Rattle.watch.specs.Told.{listened}
use Rattle.watchlayout.proofs.Fits.{watch_good}
use Rattle.watchimage.proofs.Kept.{heard_pulses}
use Rattle.watchimage.proofs.hear.Goals as goal

pub watcher_in-requires : goal.watcher_in-requires
watcher_in-requires c = (watch_good _ c.requires).0

pub lay-requires : goal.lay-requires
lay-requires c =
    let xs = c.args.samples.now in
    let heard = c.listen-done.ensures.0 ∙ ap (listened xs) c.watcher_in.ensures in
    let few = subst (λ (w : Watcher). pulses w.device.arb.switch < 9) (sym heard) (heard_pulses xs _ c.requires) in
    (few, (watch_good _ c.requires).0)
