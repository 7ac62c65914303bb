-- Request 104: what is proved of every capture, each statement by its name, and all of them in one record. proofs/Answers.antt fills it with
-- one term, so that a lost proof fails the check.
-- Assumes nothing.
use Rattle.std.specs.Prelude.{◌-◌, ◌≤◌, ◌≡◌, ◌*◌, ◌%◌, ◌||◌, ◌∷◌, ◌++◌}
use Rattle.arbiter.specs.Events.{decode}
use Rattle.arbiter.specs.Traces.{most_events}
use Rattle.std.specs.Prelude.{Ok}
use Rattle.capture.specs.Names.{ℕ, List, map, length, Master, Event}
use Rattle.capture.specs.OneBus.{levels, given, is_cut, cut_on}
use Rattle.capture.specs.Events.{captured, raw_of}
use Rattle.capture.specs.Import.{most_samples, cut_on_either, import_number}
use Rattle.capture.specs.Examples.{ExamplesHold}
use Rattle.capture.specs.Samples.{both_after, events_after}

-- ---- how many events: an event takes nine samples, so a capture that is not refused for its length gives 3,640 at most

abbrev pub NineSamples : Type 0
NineSamples = (address : ℕ) (samples : List ℕ) → 9 * length (captured address samples) ≤ length samples

abbrev pub most_given : ℕ
most_given = 3640

abbrev pub MostCaptured : Type 0
MostCaptured = (address : ℕ) (samples : List ℕ) → length samples ≤ most_samples → length (captured address samples) ≤ most_given

-- "No capture gives above 4,096 events"
abbrev pub CapturedInRange : Type 0
CapturedInRange = (address : ℕ) (samples : List ℕ) → length samples ≤ most_samples → length (captured address samples) ≤ most_events

-- and one gives 3,640: it is accepted where there is room for them, and refused with 9 where there is a byte less
pub record MostReached : Type 0 where
  pub address : ℕ
  pub samples : List ℕ
  pub count : length (captured address samples) ≡ most_given
  pub accepted : import_number address samples (4 * most_given) ≡ 0
  pub no_room : import_number address samples (4 * most_given - 1) ≡ 9

-- ---- what plays a part

-- of each bus, its own two lines alone
abbrev pub OwnLines : Type 0
OwnLines =
    (m : Master) (address : ℕ) (p q : List ℕ) → map (levels m) p ≡ map (levels m) q
    → (given m address p ≡ given m address q) × (cut_on m address p ≡ cut_on m address q)

-- "bits 4 to 7 are ignored"
abbrev pub low_bits : List ℕ → List ℕ
low_bits samples = map (λ (x : ℕ). x % 16) samples

abbrev pub UpperBitsIgnored : Type 0
UpperBitsIgnored =
    (address : ℕ) (samples : List ℕ) → (captured address (low_bits samples) ≡ captured address samples) × (cut_on_either address (low_bits samples) ≡ cut_on_either address samples)

-- a sample that only repeats the one before it changes nothing
abbrev pub RepeatedSample : Type 0
RepeatedSample =
    (address x : ℕ) (p q : List ℕ)
    → (captured address (p ++ x ∷ x ∷ q) ≡ captured address (p ++ x ∷ q)) × (cut_on_either address (p ++ x ∷ x ∷ q) ≡ cut_on_either address (p ++ x ∷ q))

-- ---- both buses at once, as the code goes through them (Samples), give what each gives by itself

abbrev pub EventsJoined : Type 0
EventsJoined = (address : ℕ) (samples : List ℕ) → events_after address samples ≡ captured address samples

abbrev pub CutJoined : Type 0
CutJoined =
    (address : ℕ) (samples : List ℕ) → (is_cut (both_after address samples).bus0 || is_cut (both_after address samples).bus1) ≡ cut_on_either address samples

-- ---- the four bytes of an event read as that event

abbrev pub EventsReadBack : Type 0
EventsReadBack = (e : Event) → decode (raw_of e) ≡ Ok e

pub record Answers : Type 0 where
  pub nine_samples : NineSamples
  pub most_captured : MostCaptured
  pub captured_in_range : CapturedInRange
  pub most_reached : MostReached
  pub own_lines : OwnLines
  pub upper_bits_ignored : UpperBitsIgnored
  pub repeated_sample : RepeatedSample
  pub events_joined : EventsJoined
  pub cut_joined : CutJoined
  pub events_read_back : EventsReadBack
  pub examples_hold : ExamplesHold
