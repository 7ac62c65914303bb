-- What is proved of every stream of samples, each statement by its name, and all of them in one record. proofs/Answers.antt fills it with one term,
-- so that a lost proof fails the check.
-- Assumes nothing.
use Rattle.std.specs.Prelude.{◌-◌, ◌≤◌, ◌<◌, ◌≡◌, take, ◌||◌, ◌∷◌, ◌++◌, if◌then◌else◌}
use Rattle.arbiter.specs.Steps.{run_from}
use Rattle.capture.specs.OneBus.{inside}
use Rattle.capture.specs.Events.{raw_of, captured}
use Rattle.capture.specs.Import.{cut_on_either}
use Rattle.watch.specs.Names.{ℕ, Bool, true, false, not, List, [], map, eqb, length, Kind, Event, Command, Write, Read, Stop, Pair, Lines, Tick, Pulse, Reset, GeneralCall, Settings, Watcher}
use Rattle.watch.specs.Stream.{up_to, watched, events_in, no_check, beginning}
use Rattle.watch.specs.Examples.{ExamplesHold}
use Rattle.watch.specs.Found.{checks, differing, first_or, faults}
use Rattle.watch.specs.Told.{tells, taken}

-- ---- chunks: what is found does not depend on how the samples come

abbrev pub ChunksAlike : Type 0
ChunksAlike = (p q : List ℕ) (w : Watcher) → watched (p ++ q) w ≡ watched q (watched p w)

abbrev pub EventsInChunks : Type 0
EventsInChunks = (p q : List ℕ) (w : Watcher) → events_in (p ++ q) w ≡ events_in p w ++ events_in q (watched p w)

abbrev pub ChecksInChunks : Type 0
ChecksInChunks = (p q : List ℕ) (w : Watcher) → checks (p ++ q) w ≡ checks p w ++ checks q (watched p w)

-- ---- the device is the run of the events

abbrev pub DeviceIsRun : Type 0
DeviceIsRun = (samples : List ℕ) (w : Watcher) → (watched samples w).device ≡ run_from w.device (map raw_of (events_in samples w))

-- ---- the events are those of an import (#104)

-- without time and without the bus below: exactly those, of every capture, also where an import refuses it
abbrev pub plainly : ℕ → Settings
plainly address = record { address = address; every = 0; below = false }

abbrev pub AsImported : Type 0
AsImported = (k : Kind) (address : ℕ) (samples : List ℕ) → events_in samples (beginning k (plainly address)) ≡ captured address samples

-- with both: LINES and TICKs stand between them, and the others are those, in their order
unfoldable pub is_above : Event → Bool
is_above (Command m c) = true
is_above (Write m v) = true
is_above (Read m) = true
is_above (Stop m) = true
is_above (Pair v0 v1) = true
is_above (Lines scl sda intin) = false
is_above Tick = false
is_above (Pulse sda) = true
is_above Reset = true
is_above (GeneralCall m b) = true

unfoldable pub above : List Event → List Event
above [] = []
above (e ∷ es) = if is_above e then e ∷ above es else above es

abbrev pub AboveAsImported : Type 0
AboveAsImported = (k : Kind) (c : Settings) (samples : List ℕ) → above (events_in samples (beginning k c)) ≡ captured c.address samples

-- ---- faults: a capture is one that #104 refuses with 12 exactly if one was counted or the last sample is inside a byte

abbrev pub FaultsTold : Type 0
FaultsTold =
    (k : Kind) (c : Settings) (samples : List ℕ)
    → cut_on_either c.address samples
    ≡ (not (eqb (faults samples (beginning k c)) 0) || (inside (watched samples (beginning k c)).ear.both.bus0 || inside (watched samples (beginning k c)).ear.both.bus1))

-- ---- what is counted is what there is, up to the top of 64 bits

pub record Counted (samples : List ℕ) (w : Watcher) : Type 0 where
  pub all_samples : (watched samples w).tally.samples ≡ up_to (length samples)
  pub all_events : (watched samples w).tally.events ≡ up_to (length (events_in samples w))
  pub all_reads : (watched samples w).tally.reads ≡ up_to (length (checks samples w))
  pub all_differences : (watched samples w).tally.differences ≡ up_to (length (differing (checks samples w)))
  pub all_faults : (watched samples w).tally.faults ≡ up_to (faults samples w)
  pub first_difference : (watched samples w).tally.first ≡ first_or no_check (differing (checks samples w))

abbrev pub AllCounted : Type 0
AllCounted = (k : Kind) (c : Settings) (samples : List ℕ) → Counted samples (beginning k c)

-- ---- what one call takes

-- it takes some, if there are any, and not more than there are
abbrev pub SomeTaken : Type 0
SomeTaken = (x : ℕ) (xs : List ℕ) (w : Watcher) → (0 < taken (x ∷ xs) w) × (taken (x ∷ xs) w ≤ length (x ∷ xs))

-- before the last that it takes no READ that differs and no fault was counted
abbrev pub NoneMissed : Type 0
NoneMissed =
    (xs : List ℕ) (w : Watcher) (n : ℕ) → n < taken xs w
    → ((watched (take n xs) w).tally.differences ≤ w.tally.differences) × ((watched (take n xs) w).tally.faults ≤ w.tally.faults)

-- and if it leaves some, the last one has something to tell
abbrev pub LeftWhereTold : Type 0
LeftWhereTold =
    (xs : List ℕ) (w : Watcher) → taken xs w < length xs
    → tells (watched (take (taken xs w - 1) xs) w).tally (watched (take (taken xs w) xs) w).tally ≡ true

pub record Answers : Type 0 where
  pub chunks_alike : ChunksAlike
  pub events_in_chunks : EventsInChunks
  pub checks_in_chunks : ChecksInChunks
  pub device_is_run : DeviceIsRun
  pub as_imported : AsImported
  pub above_as_imported : AboveAsImported
  pub faults_told : FaultsTold
  pub all_counted : AllCounted
  pub some_taken : SomeTaken
  pub none_missed : NoneMissed
  pub left_where_told : LeftWhereTold
  pub examples_hold : ExamplesHold
