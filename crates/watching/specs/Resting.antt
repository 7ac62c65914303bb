-- Samples that repeat the one before and bring no TICK, which most samples of a bus do: many at once. proofs/Resting.antt proves that they come to the
-- same as one after the other.
-- Assumes nothing.
use Rattle.std.specs.Prelude.{ℕ, ◌+◌, Bool, true, not, ◌&&◌, ◌||◌, List, [], ◌∷◌, eqb, ltb, if◌then◌else◌}
use Rattle.watch.specs.declared.Settings.{Settings}
use Rattle.watch.specs.declared.Ear.{Ear}
use Rattle.watch.specs.declared.Tally.{Tally}
use Rattle.watch.specs.declared.Watcher.{Watcher}
use Rattle.watch.specs.Stream.{plus}

-- every one of them is this
unfoldable pub are_all : ℕ → List ℕ → Bool
are_all x [] = true
are_all x (y ∷ ys) = eqb y x && are_all x ys

-- nothing is left over from before (a first sample was there, and no fault waits to be counted), and no TICK is due in the next n samples
unfoldable pub is_ready : Settings → Ear → ℕ → Bool
is_ready c e n =
    (e.begun && not e.both.bus0.broken && not e.both.bus1.broken) && (eqb c.every 0 || ltb (e.since + n) c.every)

-- so many more samples counted
unfoldable pub with_samples : ℕ → Tally → Tally
with_samples n t =
    record {
      samples = plus t.samples n;
      events = t.events;
      reads = t.reads;
      differences = t.differences;
      faults = plus t.faults 0;
      fault = t.fault;
      first = t.first;
      read0 = t.read0;
      read1 = t.read1;
    }

-- nearer to the next TICK, if there are TICKs
unfoldable pub since_more : Settings → Ear → ℕ → ℕ
since_more c e n = if eqb c.every 0 then 0 else e.since + n

unfoldable pub ear_rested : Settings → Ear → ℕ → Ear
ear_rested c e n = record { begun = e.begun; before = e.before; since = since_more c e n; both = e.both }

unfoldable pub rested : ℕ → Watcher → Watcher
rested n w =
    record {
      settings = w.settings;
      ear = ear_rested w.settings w.ear n;
      device = w.device;
      tally = with_samples n w.tally;
    }
