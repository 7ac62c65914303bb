-- `traces::playing::play` meets its contract: the loop holds the device after i events by its parts, their answers stand before the untouched rest,
-- Assumes nothing.
use mathlib.Core.Path.{◌≡◌}
use Rattle.traces.proofs.TwoSides.{held}
use Prim.Native.Nat.{◌-◌}
use lib.ListN.{length}
use Rattle.traces.proofs.Turn.{Known}
use Rattle.traces.proofs.playing.play.Given as goal

abbrev pub invariant-loop-i : goal.invariant-loop-i
invariant-loop-i l =
    (length l.sides ≡ 2) × Known l.events l.initial.answers l.n (held l.kind l.initial.sides l.initial.bus l.initial.arb) l.answers l.owner l.lines
    (held l.kind l.sides l.bus l.arb) l.i

abbrev pub decreases-loop-i : goal.decreases-loop-i
decreases-loop-i l = l.n - l.i
