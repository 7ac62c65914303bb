-- `traces::playing::step_each` meets its contract: the loop holds the device after i events, and their answers stand before the untouched rest.
-- Assumes nothing.
use Prim.Native.Nat.{◌≤◌, ◌-◌, ◌*◌}
use mathlib.Core.Path.{◌≡◌}
use mathlib.Core.List.{◌++◌}
use lib.ListN.{length, drop}
use Rattle.arbiter.specs.Steps.{run_from, answers_from}
use Rattle.arbiter.specs.Traces.{event_bytes, raws_in, bytes_of}
use Rattle.traces.proofs.playing.step_each.Given as goal

abbrev pub invariant-loop-i : goal.invariant-loop-i
invariant-loop-i l =
    (l.i ≤ l.n)
    × (length l.answers ≡ length l.initial.answers)
    × (l.d ≡ run_from l.initial.d (raws_in l.i l.events))
    × (l.answers ≡ bytes_of (answers_from l.initial.d (raws_in l.i l.events)) ++ drop (event_bytes * l.i) l.initial.answers)

abbrev pub decreases-loop-i : goal.decreases-loop-i
decreases-loop-i l = l.n - l.i
