-- `share::counting::count_all` meets its contract. The counts so far, with those of the states that are still to come, are the counts of
-- Assumes nothing.
use Prim.Native.Nat.{◌≤◌, ◌-◌}
use mathlib.Core.Path.{◌≡◌}
use Rattle.light.specs.Light.{Settled}
use Rattle.arbiter.specs.Traces.{event_count}
use Rattle.share.specs.States.{states_from}
use Rattle.share.specs.Walk.{tally_from, Within, left}
use Rattle.share.proofs.counting.count_all.Given as goal

abbrev pub invariant-loop-p : goal.invariant-loop-p
invariant-loop-p l =
    (l.p.at ≤ event_count l.events)
    × Within l.p.at l.p.tally
    × (tally_from l.p.tally (states_from l.p.device (left l.events (event_count l.events) l.p.at))
    ≡ tally_from l.initial.p.tally (states_from l.initial.p.device (left l.events (event_count l.events) l.initial.p.at)))
    × Settled l.p.device

abbrev pub decreases-loop-p : goal.decreases-loop-p
decreases-loop-p l = event_count l.events - l.p.at
