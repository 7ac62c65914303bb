-- `advance::leap` meets its contract: what is left to reach stays the same.
-- Assumes nothing.
use Prim.Native.Nat.{◌+◌, ◌≤◌}
use mathlib.Core.Path.{◌≡◌}
use Rattle.quiet.specs.Quiet.{ticks}
use Rattle.advance.specs.Advance.{changing, most_ticks}
use Rattle.advance.proofs.leap.Given as goal

abbrev pub invariant-loop-w : goal.invariant-loop-w
invariant-loop-w l =
    (ticks l.w.left l.w.device ≡ ticks l.initial.w.left l.initial.w.device)
    × (l.w.reported + changing l.w.left l.w.device ≡ l.initial.w.reported + changing l.initial.w.left l.initial.w.device)
    × (l.w.reported + l.w.left ≤ most_ticks)

abbrev pub decreases-loop-w : goal.decreases-loop-w
decreases-loop-w l = l.w.left
