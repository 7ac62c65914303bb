-- Laws of `watchlayout`: what holds of a listener in a buffer: it is read back from it, a buffer stays one, and in what chunks samples come plays
-- no part. proofs/ proves each.
-- Assumes nothing.
use Rattle.std.specs.Prelude.{◌≡◌, ℕ, ◌<◌, ◌≤◌, true, false, List, length}
use Rattle.arbiter.specs.declared.Kind.{Kind}
use Rattle.ranges.specs.Ranges.{in_range}
use Rattle.watch.specs.declared.Settings.{Settings}
use Rattle.watch.specs.declared.Watcher.{Watcher}
use Rattle.watch.specs.Stream.{top, watched, beginning}
use Rattle.watchlayout.specs.Places.{watch_length, laid, watcher_in}
use Rattle.watchlayout.specs.Calls.{is_watch, heeded_after, heeded_through, taken_through}

-- ---- a listener whose fields are in range

pub record Fit (w : Watcher) : Type 0 where
  pub device : in_range w.device ≡ true
  pub every : w.settings.every < 4294967296
  pub since : w.ear.since < 4294967296
  pub value0 : w.ear.both.bus0.value < 256
  pub value1 : w.ear.both.bus1.value < 256
  pub whole0 : w.ear.both.bus0.broken ≡ false
  pub whole1 : w.ear.both.bus1.broken ≡ false
  pub samples : w.tally.samples ≤ top
  pub events : w.tally.events ≤ top
  pub reads : w.tally.reads ≤ top
  pub differences : w.tally.differences ≤ top
  pub faults : w.tally.faults ≤ top
  pub fault : w.tally.fault ≤ top
  pub first : w.tally.first.sample ≤ top
  pub read0 : w.tally.read0.sample ≤ top
  pub read1 : w.tally.read1.sample ≤ top

-- ---- there and back

abbrev pub Whole : Type 0
Whole = (w : Watcher) → length (laid w) ≡ watch_length

abbrev pub ReadBack : Type 0
ReadBack = (w : Watcher) → Fit w → watcher_in (laid w) ≡ w

abbrev pub BufferFits : Type 0
BufferFits = (b : List ℕ) → is_watch b ≡ true → Fit (watcher_in b)

abbrev pub ListenerFits : Type 0
ListenerFits = (w : Watcher) → Fit w → is_watch (laid w) ≡ true

-- ---- samples

-- whatever they are, a listener in range stays so
abbrev pub StaysFit : Type 0
StaysFit = (xs : List ℕ) (w : Watcher) → Fit w → Fit (watched xs w)

-- a fresh one is in range
abbrev pub BeginsFit : Type 0
BeginsFit = (k : Kind) (c : Settings) → c.every < 4294967296 → Fit (beginning k c)

-- a buffer that listened is one that can listen
abbrev pub StaysWatch : Type 0
StaysWatch = (xs b : List ℕ) → is_watch b ≡ true → is_watch (heeded_after xs b) ≡ true

-- In what chunks samples come plays no part: the buffer holds the listener after all samples that were taken.
abbrev pub ManyCalls : Type 0
ManyCalls = (chunks : List (List ℕ)) (w : Watcher) → Fit w → heeded_through chunks (laid w) ≡ laid (watched (taken_through chunks (laid w)) w)

pub record Answers : Type 0 where
  pub whole : Whole
  pub read_back : ReadBack
  pub buffer_fits : BufferFits
  pub listener_fits : ListenerFits
  pub stays_fit : StaysFit
  pub begins_fit : BeginsFit
  pub stays_watch : StaysWatch
  pub many_calls : ManyCalls
