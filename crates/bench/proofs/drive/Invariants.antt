-- `bench::drive`: the standing device is the run's after the events so far, and the stream has a line for each of them.
use Rattle.std.proofs.Common.{◌≡◌}
use Rattle.std.specs.Io.KnownBytes.{Appends}
use Rattle.arbiter.specs.Effects.{power_up}
use Rattle.arbiter.specs.Steps.{run_from, answers_from}
use Rattle.arbiter.specs.Traces.{raws_in}
use Rattle.arbiter.specs.Listing.{answer_lines}
use Rattle.format.specs.Places.{events_part, kind_in}
use Rattle.bench.proofs.drive.Given as goal

abbrev pub invariant-loop-i : goal.invariant-loop-i
invariant-loop-i g l =
    record {
      device : l.standing ≡ run_from (power_up (kind_in l.t)) (raws_in l.i (events_part l.t));
      lines : Appends (g.W.Write.contents l.fn.out) (g.W.Write.contents l.out)
          (answer_lines (answers_from (power_up (kind_in l.t)) (raws_in l.i (events_part l.t))));
    }
