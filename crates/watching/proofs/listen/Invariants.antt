-- The walk of `watching::listen`: the samples before `at` are heard, none of them had anything to tell, and how many are taken is known from there.
-- Assumes nothing.
use Rattle.std.proofs.Common.{◌≡◌, ◌+◌, ◌-◌, ◌≤◌, length, take, drop}
use Rattle.watch.specs.Stream.{watched}
use Rattle.watch.specs.Told.{taken}
use Rattle.watching.proofs.listen.Given as goal

abbrev pub invariant-loop-at : goal.invariant-loop-at
invariant-loop-at l =
    (l.at ≤ length l.samples) × (l.watcher ≡ watched (take l.at l.samples) l.initial.watcher)
    × (taken l.samples l.initial.watcher ≡ l.at + taken (drop l.at l.samples) l.watcher)

abbrev pub decreases-loop-at : goal.decreases-loop-at
decreases-loop-at l = length l.samples - l.at
