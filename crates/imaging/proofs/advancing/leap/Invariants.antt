-- `imaging::advancing::leap` meets its contract.
-- Assumes nothing.
use Prim.Native.Nat.{◌-◌, ◌≤◌}
use mathlib.Core.Path.{◌≡◌}
use Rattle.layout.specs.Layout.{image_of, device_in}
use Rattle.quiet.specs.Quiet.{ticks}
use Rattle.advance.specs.Advance.{changing}
use Rattle.imaging.proofs.advancing.leap.Given as goal

abbrev pub invariant-loop-left : goal.invariant-loop-left
invariant-loop-left l =
    (l.left ≤ l.n)
    × (l.image ≡ image_of (ticks (l.n - l.left) (device_in l.initial.image)))
    × (l.reported ≡ changing (l.n - l.left) (device_in l.initial.image))

abbrev pub decreases-loop-left : goal.decreases-loop-left
decreases-loop-left l = l.left
