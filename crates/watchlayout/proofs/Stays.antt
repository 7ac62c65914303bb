-- A fresh listener is in range, and samples leave a listener in range, whatever they are.
-- Assumes nothing.
use Prim.Native.Nat.{◌≤◌, ◌<◌}
use mathlib.Core.Path.{◌≡◌, refl}
use native.Mathlib.Omega.{arith}
use borrow.Author.Tests.{ltb-true, not-true, not-false}
use Rattle.arbiter.specs.Effects.{power_up}
use Rattle.arbiter.specs.Steps.{run_from, run}
use Rattle.arbiter.proofs.Choice.{either}
use Rattle.ranges.specs.Ranges.{in_range, are_bytes}
use Rattle.ranges.proofs.Ranges.{in_range_lem, stays_in_range}
use Rattle.capture.specs.Events.{raw_of}
use mathlib.Core.Bool.{and-eq-true_iff}
use Rattle.std.specs.Prelude.{◌+◌, ◌&&◌, ◌∷◌}
use Rattle.watch.specs.Names.{ℕ, true, not, List, [], eqb, ltb, worth, of, Master, Zero, One, Kind, Device, Event, Command, Write, Read, Stop}
use Rattle.watch.specs.Names.{Pair, Lines, Tick, Pulse, Reset, GeneralCall, Both}
use Rattle.watch.specs.declared.Settings.{Settings}
use Rattle.watch.specs.declared.Ear.{Ear}
use Rattle.watch.specs.declared.Check.{Check}
use Rattle.watch.specs.declared.Tally.{Tally}
use Rattle.watch.specs.declared.Watcher.{Watcher}
use Rattle.watch.specs.Sample.{is_timed, is_due, since_after, ear_after, silent_ear}
use Rattle.watch.specs.Stream.{top, check_of, differs, with_event, with_read, tally_with, followed, followed_all, with_sample, events_now, faults_now, heard_by}
use Rattle.watch.specs.Stream.{watched_at, watched, no_check, no_tally, beginning}
use Rattle.watch.proofs.Sums.{plus_below, none_below}
use Rattle.watchlayout.specs.Laws.{Fit, StaysFit, BeginsFit}
use Rattle.watchlayout.proofs.Given.{AllBytes, BothFit, heard_fits, events_bytes}

-- ---- the device

power_up_fits : (k : Kind) → in_range (power_up k) ≡ true
unfolding run run_from are_bytes
power_up_fits k = in_range_lem k [] refl

device_fits : (es : List Event) (w : Watcher) → AllBytes es → in_range w.device ≡ true → in_range (followed_all es w).device ≡ true
unfolding followed_all followed
device_fits [] w b h = h
device_fits (e ∷ es) w b h = device_fits es (followed e w) b.1 (stays_in_range w.device (raw_of e) b.0 h)

-- ---- the counts

record Counted (t : Tally) : Type 0 where
  samples : t.samples ≤ top
  events : t.events ≤ top
  reads : t.reads ≤ top
  differences : t.differences ≤ top
  faults : t.faults ≤ top
  fault : t.fault ≤ top
  first : t.first.sample ≤ top
  read0 : t.read0.sample ≤ top
  read1 : t.read1.sample ≤ top

event_counted : (t : Tally) → Counted t → Counted (with_event t)
unfolding with_event
event_counted t c =
    record {
      samples = c.samples;
      events = plus_below t.events 1;
      reads = c.reads;
      differences = c.differences;
      faults = c.faults;
      fault = c.fault;
      first = c.first;
      read0 = c.read0;
      read1 = c.read1;
    }

abbrev Early : Check → Type 0
Early k = k.sample ≤ top

of_early : (m : Master) (x y : Check) → Early x → Early y → Early (of m x y)
of_early Zero x y h g = h
of_early One x y h g = g

-- the sample of a READ is the count of samples
read_counted : (m : Master) (s : Both) (d : Device) (t : Tally) → Counted t → Counted (with_read (check_of t.samples s m d) t)
unfolding with_read check_of
read_counted m s d t c =
    let k : Check = check_of t.samples s m d in
    record {
      samples = c.samples;
      events = plus_below t.events 1;
      reads = plus_below t.reads 1;
      differences = plus_below t.differences (worth 1 (differs k));
      faults = c.faults;
      fault = c.fault;
      first = either Early (eqb t.differences 0 && differs k) (λ x. c.samples) (λ x. c.first);
      read0 = of_early m k t.read0 c.samples c.read0;
      read1 = of_early m t.read1 k c.read1 c.samples;
    }

counted : (e : Event) (s : Both) (d : Device) (t : Tally) → Counted t → Counted (tally_with e s d t)
unfolding tally_with
counted (Command m v) s d t c = event_counted t c
counted (Write m v) s d t c = event_counted t c
counted (Read m) s d t c = read_counted m s d t c
counted (Stop m) s d t c = event_counted t c
counted (Pair u v) s d t c = event_counted t c
counted (Lines scl sda intin) s d t c = event_counted t c
counted Tick s d t c = event_counted t c
counted (Pulse sda) s d t c = event_counted t c
counted Reset s d t c = event_counted t c
counted (GeneralCall m b) s d t c = event_counted t c

all_counted : (es : List Event) (w : Watcher) → Counted w.tally → Counted (followed_all es w).tally
unfolding followed_all followed
all_counted [] w c = c
all_counted (e ∷ es) w c = all_counted es (followed e w) (counted e w.ear.both w.device w.tally c)

sample_counted : (faults : ℕ) (t : Tally) → Counted t → Counted (with_sample faults t)
unfolding with_sample
sample_counted faults t c =
    record {
      samples = plus_below t.samples 1;
      events = c.events;
      reads = c.reads;
      differences = c.differences;
      faults = plus_below t.faults faults;
      fault = either (λ (n : ℕ). n ≤ top) (eqb t.faults 0 && not (eqb faults 0)) (λ x. c.samples) (λ x. c.fault);
      first = c.first;
      read0 = c.read0;
      read1 = c.read1;
    }

-- ---- time

since_fits : (c : Settings) (e : Ear) → c.every < 4294967296 → since_after c e < 4294967296
unfolding since_after
since_fits c e h =
    either (λ (n : ℕ). n < 4294967296) (is_timed c e && not (is_due c e))
    (λ t.
    let early = not-true (is_due c e) ((and-eq-true_iff (is_timed c e) (not (is_due c e))).0 t).1 in
    let less : e.since + 1 < c.every = ltb-true (e.since + 1) c.every (not-false (ltb (e.since + 1) c.every) early) in
    omega arith)
    (λ f. omega arith)

-- ---- one sample, and all

sample_fits : (x : ℕ) (w : Watcher) → Fit w → Fit (watched_at x w)
unfolding watched_at heard_by ear_after
sample_fits x w h =
    let buses : BothFit w.ear.both = (h.value0, h.value1) in
    let es : List Event = events_now x w in
    let before : Counted w.tally = record {
      samples = h.samples;
      events = h.events;
      reads = h.reads;
      differences = h.differences;
      faults = h.faults;
      fault = h.fault;
      first = h.first;
      read0 = h.read0;
      read1 = h.read1;
    } in
    let c = sample_counted (faults_now x w) (followed_all es w).tally (all_counted es w before) in
    let values = (heard_fits w.settings x w.ear buses).0 in
    record {
      device = device_fits es w (events_bytes w.settings x w.ear buses) h.device;
      every = h.every;
      since = since_fits w.settings w.ear h.every;
      value0 = values.0;
      value1 = values.1;
      whole0 = refl;
      whole1 = refl;
      samples = c.samples;
      events = c.events;
      reads = c.reads;
      differences = c.differences;
      faults = c.faults;
      fault = c.fault;
      first = c.first;
      read0 = c.read0;
      read1 = c.read1;
    }

pub stays_fit : StaysFit
unfolding watched
stays_fit [] w h = h
stays_fit (x ∷ xs) w h = stays_fit xs (watched_at x w) (sample_fits x w h)

-- ---- a fresh one

pub begins_fit : BeginsFit
unfolding beginning silent_ear no_tally no_check
begins_fit k c h =
    record {
      device = power_up_fits k;
      every = h;
      since = omega arith;
      value0 = omega arith;
      value1 = omega arith;
      whole0 = refl;
      whole1 = refl;
      samples = none_below;
      events = none_below;
      reads = none_below;
      differences = none_below;
      faults = none_below;
      fault = none_below;
      first = none_below;
      read0 = none_below;
      read1 = none_below;
    }
