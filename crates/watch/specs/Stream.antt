-- A stream of samples: each event is stepped on the device, each READ is held against the model's answer, and what was found is counted.
-- Assumes nothing.
use Rattle.arbiter.specs.Effects.{power_up}
use Rattle.arbiter.specs.Steps.{step}
use Rattle.capture.specs.Events.{raw_of}
use Rattle.std.specs.Prelude.{◌+◌, ◌&&◌, ◌∷◌, ◌++◌, if◌then◌else◌}
use Rattle.watch.specs.Names.{ℕ, Bool, not, List, [], eqb, ltb, worth, of, side, Master, Zero, Id, Kind, Device, Event, Command, Write, Read, Stop, Pair, Lines, Tick, Pulse, Reset, GeneralCall, Both, Settings, Check, Tally, Watcher}
use Rattle.watch.specs.Sample.{heard_now, faults_in, events_at, ear_after, silent_ear}

-- ---- counts stop at the top of 64 bits

unfoldable pub top : ℕ
top = 18446744073709551615

abbrev pub up_to : ℕ → ℕ
up_to n = if ltb top n then top else n

unfoldable pub plus : ℕ → ℕ → ℕ
plus a b = up_to (a + b)

-- ---- a READ held against the model

-- the byte on m's SDA: the bits that its bus has brought when the ninth clock comes
abbrev pub heard_on : Master → Both → ℕ
heard_on m s = of m s.bus0.value s.bus1.value

-- m's READ in sample n, with both buses as they were before it: the byte heard, and the byte that the model answers
unfoldable pub check_of : ℕ → Both → Master → Device → Check
check_of n s m d =
    record { sample = n; master = m; register = (side m d).pointer; heard = heard_on m s; expected = (step d (raw_of (Read m))).answer.read }

abbrev pub differs : Check → Bool
differs k = not (eqb k.heard k.expected)

-- ---- one event: it is counted; and a READ is counted, kept as the last one of its master, and, if it is the first that differs, as that

unfoldable pub with_event : Tally → Tally
with_event t =
    record {
      samples = t.samples;
      events = plus t.events 1;
      reads = t.reads;
      differences = t.differences;
      faults = t.faults;
      fault = t.fault;
      first = t.first;
      read0 = t.read0;
      read1 = t.read1;
    }

abbrev pub first_with : Tally → Check → Check
first_with t k = if eqb t.differences 0 && differs k then k else t.first

unfoldable pub with_read : Check → Tally → Tally
with_read k t =
    record {
      samples = t.samples;
      events = plus t.events 1;
      reads = plus t.reads 1;
      differences = plus t.differences (worth 1 (differs k));
      faults = t.faults;
      fault = t.fault;
      first = first_with t k;
      read0 = of k.master k t.read0;
      read1 = of k.master t.read1 k;
    }

unfoldable pub tally_with : Event → Both → Device → Tally → Tally
tally_with (Command m c) s d t = with_event t
tally_with (Write m v) s d t = with_event t
tally_with (Read m) s d t = with_read (check_of t.samples s m d) t
tally_with (Stop m) s d t = with_event t
tally_with (Pair v0 v1) s d t = with_event t
tally_with (Lines scl sda intin) s d t = with_event t
tally_with Tick s d t = with_event t
tally_with (Pulse sda) s d t = with_event t
tally_with Reset s d t = with_event t
tally_with (GeneralCall m b) s d t = with_event t

-- and it is stepped on the device
unfoldable pub followed : Event → Watcher → Watcher
followed e w =
    record {
      settings = w.settings;
      ear = w.ear;
      device = (step w.device (raw_of e)).device;
      tally = tally_with e w.ear.both w.device w.tally;
    }

-- one after the other
unfoldable pub followed_all : List Event → Watcher → Watcher
followed_all [] w = w
followed_all (e ∷ es) w = followed_all es (followed e w)

-- ---- one sample: its events, then the sample itself is counted, with its faults, and kept for the next one

abbrev pub fault_with : ℕ → Tally → ℕ
fault_with faults t = if eqb t.faults 0 && not (eqb faults 0) then t.samples else t.fault

unfoldable pub with_sample : ℕ → Tally → Tally
with_sample faults t =
    record {
      samples = plus t.samples 1;
      events = t.events;
      reads = t.reads;
      differences = t.differences;
      faults = plus t.faults faults;
      fault = fault_with faults t;
      first = t.first;
      read0 = t.read0;
      read1 = t.read1;
    }

abbrev pub events_now : ℕ → Watcher → List Event
events_now x w = events_at w.settings x w.ear

abbrev pub faults_now : ℕ → Watcher → ℕ
faults_now x w = faults_in (heard_now w.settings x w.ear).both

-- as it was before the sample, and with its events followed
unfoldable pub heard_by : ℕ → Watcher → Watcher → Watcher
heard_by x w after =
    record {
      settings = w.settings;
      ear = ear_after w.settings x w.ear;
      device = after.device;
      tally = with_sample (faults_now x w) after.tally;
    }

unfoldable pub watched_at : ℕ → Watcher → Watcher
watched_at x w = heard_by x w (followed_all (events_now x w) w)

-- ---- a stream, and all its events

unfoldable pub watched : List ℕ → Watcher → Watcher
watched [] w = w
watched (x ∷ xs) w = watched xs (watched_at x w)

unfoldable pub events_in : List ℕ → Watcher → List Event
events_in [] w = []
events_in (x ∷ xs) w = events_now x w ++ events_in xs (watched_at x w)

-- ---- before the first sample

unfoldable pub no_check : Check
no_check = record { sample = 0; master = Zero; register = Id; heard = 0; expected = 0 }

unfoldable pub no_tally : Tally
no_tally =
    record {
      samples = 0;
      events = 0;
      reads = 0;
      differences = 0;
      faults = 0;
      fault = 0;
      first = no_check;
      read0 = no_check;
      read1 = no_check;
    }

unfoldable pub beginning : Kind → Settings → Watcher
beginning k c = record { settings = c; ear = silent_ear; device = power_up k; tally = no_tally }
