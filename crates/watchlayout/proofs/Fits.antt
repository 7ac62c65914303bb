-- A buffer whose fields are in range holds a listener in range, and a listener in range lays out such a buffer.
-- Assumes nothing.
use Prim.Native.Nat.{ℕ, ◌+◌, ◌≤◌, ◌<◌}
use mathlib.Core.Path.{◌≡◌, refl, sym, ap, ap₂, subst, ◌∙◌}
use mathlib.Core.Bool.{Bool, true, ◌&&◌, false≢true, and-eq-true_iff}
use mathlib.Core.List.{List, [], ◌∷◌}
use native.Mathlib.Omega.{arith}
use lib.Dec.{eqb, leb}
use lib.ListN.{length}
use borrow.Author.Tests.{leb-true, le-leb, eq-eqb, eqb-true}
use Rattle.arbiter.specs.Words.{worth}
use Rattle.arbiter.specs.Traces.{byte_at}
use Rattle.arbiter.proofs.Choice.{split, if_true, if_false}
use Rattle.capture.specs.declared.Listener.{Listener}
use Rattle.layout.specs.Layout.{laid_out, image_of}
use Rattle.layout.specs.Images.{is_image}
use Rattle.layout.proofs.Fits.{record_fits, image_fits}
use Rattle.layout.proofs.Numbers.{register_back, flag_back}
use Rattle.watch.specs.declared.Check.{Check}
use Rattle.watch.specs.declared.Watcher.{Watcher}
use Rattle.watch.specs.Stream.{top}
use Rattle.watchlayout.specs.Numbers.{double_at, long_at}
use Rattle.watchlayout.specs.Places.{watch_length, laid, settings_in, bus_at, ear_in, check_at, tally_in, watcher_in, image_part, bytes_fit, fits_at}
use Rattle.watchlayout.specs.Places.{settings_fit}
use Rattle.watchlayout.specs.Places.{bus_fits, ear_fits, check_fits, tally_fits, watch_in_range}
use Rattle.watchlayout.specs.Calls.{is_long, watch_number, is_watch}
use Rattle.watchlayout.specs.Laws.{Fit, Whole, BufferFits, ListenerFits}
use Rattle.watchlayout.proofs.Numbers.{awaited_back, master_back, Small, double_small, long_small, longs_small, each, small_fits, fits_small}
use Rattle.watchlayout.proofs.Numbers.{double_fits, long_fits}

-- ---- the refusals

-- what is not refused has the length, and its fields are in range
pub watch_good : (b : List ℕ) → is_watch b ≡ true → (length b ≡ watch_length) × (watch_in_range b ≡ true)
unfolding watch_number
watch_good b h =
    split (is_long b)
    (λ long. split (watch_in_range b)
    (λ fits. (eqb-true (length b) watch_length long, fits))
    (λ out. absurd (false≢true (sym (ap (λ (n : ℕ). eqb n 0) (if_true _ 9 long ∙ if_false 0 16 out)) ∙ h))))
    (λ other. absurd (false≢true (sym (ap (λ (n : ℕ). eqb n 0) (if_false _ 9 other)) ∙ h)))

good_watch : (b : List ℕ) → length b ≡ watch_length → watch_in_range b ≡ true → is_watch b ≡ true
unfolding watch_number
good_watch b long fits = ap (λ (n : ℕ). eqb n 0) (if_true _ 9 (eq-eqb (length b) watch_length long) ∙ if_true 0 16 fits)

-- ---- from a listener to its buffer

pub whole : Whole
unfolding laid image_of laid_out
whole w = refl

pub image_part_lem : (w : Watcher) → image_part (laid w) ≡ image_of w.device
unfolding laid image_of laid_out
image_part_lem w = refl

flag_fits : (f : Bool) → leb (worth 1 f) 1 ≡ true
flag_fits f = (flag_back f).1

image_there : (w : Watcher) → Fit w → is_image (image_part (laid w)) ≡ true
image_there w h = subst (λ (l : List ℕ). is_image l ≡ true) (sym (image_part_lem w)) (record_fits w.device h.device)

settings_there : (w : Watcher) → Fit w → settings_fit (laid w) ≡ true
unfolding settings_fit laid image_of laid_out
settings_there w h = ap₂ ◌&&◌ (small_fits 4 39 (laid w) (double_small w.settings.every h.every)) (flag_fits w.settings.below)

bus0_there : (w : Watcher) → Fit w → bus_fits 50 (laid w) ≡ true
unfolding bus_fits laid image_of laid_out
bus0_there w h =
    let l : Listener = w.ear.both.bus0 in
    let v : l.value < 256 = h.value0 in
    ap₂ ◌&&◌ (ap₂ ◌&&◌ (awaited_back l.awaited).1 (le-leb l.value 255 (omega arith))) (flag_fits l.owed)

bus1_there : (w : Watcher) → Fit w → bus_fits 54 (laid w) ≡ true
unfolding bus_fits laid image_of laid_out
bus1_there w h =
    let l : Listener = w.ear.both.bus1 in
    let v : l.value < 256 = h.value1 in
    ap₂ ◌&&◌ (ap₂ ◌&&◌ (awaited_back l.awaited).1 (le-leb l.value 255 (omega arith))) (flag_fits l.owed)

begun_there : (w : Watcher) → fits_at 44 1 (laid w) ≡ true
unfolding laid image_of laid_out
begun_there w = flag_fits w.ear.begun

since_there : (w : Watcher) → Fit w → bytes_fit 46 4 (laid w) ≡ true
unfolding laid image_of laid_out
since_there w h = small_fits 4 46 (laid w) (double_small w.ear.since h.since)

ear_there : (w : Watcher) → Fit w → ear_fits (laid w) ≡ true
unfolding ear_fits
ear_there w h = ap₂ ◌&&◌ (ap₂ ◌&&◌ (ap₂ ◌&&◌ (begun_there w) (since_there w h)) (bus0_there w h)) (bus1_there w h)

counts_there : (w : Watcher) → Fit w → bytes_fit 58 48 (laid w) ≡ true
unfolding laid image_of laid_out
counts_there w h =
    let t = w.tally in
    let counts : List ℕ = t.samples ∷ t.events ∷ t.reads ∷ t.differences ∷ t.faults ∷ t.fault ∷ [] in
    small_fits 48 58 (laid w) (longs_small counts (h.samples, (h.events, (h.reads, (h.differences, (h.faults, (h.fault, tt)))))))

first_there : (w : Watcher) → w.tally.first.sample ≤ top → check_fits 106 (laid w) ≡ true
unfolding check_fits laid image_of laid_out
first_there w h =
    let k : Check = w.tally.first in
    ap₂ ◌&&◌ (ap₂ ◌&&◌ (small_fits 8 106 (laid w) (long_small k.sample h)) (master_back k.master).1) (register_back k.register).1

read0_there : (w : Watcher) → w.tally.read0.sample ≤ top → check_fits 118 (laid w) ≡ true
unfolding check_fits laid image_of laid_out
read0_there w h =
    let k : Check = w.tally.read0 in
    ap₂ ◌&&◌ (ap₂ ◌&&◌ (small_fits 8 118 (laid w) (long_small k.sample h)) (master_back k.master).1) (register_back k.register).1

read1_there : (w : Watcher) → w.tally.read1.sample ≤ top → check_fits 130 (laid w) ≡ true
unfolding check_fits laid image_of laid_out
read1_there w h =
    let k : Check = w.tally.read1 in
    ap₂ ◌&&◌ (ap₂ ◌&&◌ (small_fits 8 130 (laid w) (long_small k.sample h)) (master_back k.master).1) (register_back k.register).1

tally_there : (w : Watcher) → Fit w → tally_fits (laid w) ≡ true
unfolding tally_fits
tally_there w h = ap₂ ◌&&◌ (ap₂ ◌&&◌ (ap₂ ◌&&◌ (counts_there w h) (first_there w h.first)) (read0_there w h.read0)) (read1_there w h.read1)

all_there : (w : Watcher) → Fit w → watch_in_range (laid w) ≡ true
unfolding watch_in_range
all_there w h = ap₂ ◌&&◌ (ap₂ ◌&&◌ (ap₂ ◌&&◌ (image_there w h) (settings_there w h)) (ear_there w h)) (tally_there w h)

pub listener_fits : ListenerFits
listener_fits w h = good_watch (laid w) (whole w) (all_there w h)

-- ---- from a buffer to its listener

three : (a b c : Bool) → a && b && c ≡ true → (a ≡ true) × (b ≡ true) × (c ≡ true)
three a b c h =
    let last = (and-eq-true_iff (a && b) c).0 h in
    let first = (and-eq-true_iff a b).0 last.0 in
    (first.0, first.1, last.1)

four : (a b c d : Bool) → a && b && c && d ≡ true → (a ≡ true) × (b ≡ true) × (c ≡ true) × (d ≡ true)
four a b c d h =
    let last = (and-eq-true_iff (a && b && c) d).0 h in
    let others = three a b c last.0 in
    (others.0, others.1, others.2, last.1)

settings_here : (b : List ℕ) → settings_fit b ≡ true → double_at 39 b < 4294967296
unfolding settings_fit
settings_here b h = (double_fits 0 39 b (fits_small 4 39 b ((and-eq-true_iff (bytes_fit 39 4 b) (fits_at 43 1 b)).0 h).0)).0

value_here : (at : ℕ) (b : List ℕ) → bus_fits at b ≡ true → byte_at (at + 2) b < 256
unfolding bus_fits
value_here at b h =
    let v : byte_at (at + 2) b ≤ 255 = leb-true (byte_at (at + 2) b) 255 (three (fits_at at 6 b) (fits_at (at + 2) 255 b) (fits_at (at + 3) 1 b) h).1 in
    omega arith

ear_here : (b : List ℕ) → ear_fits b ≡ true → (double_at 46 b < 4294967296) × (byte_at 52 b < 256) × (byte_at 56 b < 256)
unfolding ear_fits
ear_here b h =
    let all = four (fits_at 44 1 b) (bytes_fit 46 4 b) (bus_fits 50 b) (bus_fits 54 b) h in
    ((double_fits 0 46 b (fits_small 4 46 b all.1)).0, value_here 50 b all.2, value_here 54 b all.3)

check_here : (at : ℕ) (b : List ℕ) → check_fits at b ≡ true → Small (each 8 at b)
unfolding check_fits
check_here at b h = fits_small 8 at b (three (bytes_fit at 8 b) (fits_at (at + 8) 1 b) (fits_at (at + 9) 7 b) h).0

-- the counts, and the samples of the three checks
record Counted (b : List ℕ) : Type 0 where
  samples : long_at 58 b ≤ top
  events : long_at 66 b ≤ top
  reads : long_at 74 b ≤ top
  differences : long_at 82 b ≤ top
  faults : long_at 90 b ≤ top
  fault : long_at 98 b ≤ top
  first : long_at 106 b ≤ top
  read0 : long_at 118 b ≤ top
  read1 : long_at 130 b ≤ top

tally_here : (b : List ℕ) → tally_fits b ≡ true → Counted b
unfolding tally_fits
tally_here b h =
    let all = four (bytes_fit 58 48 b) (check_fits 106 b) (check_fits 118 b) (check_fits 130 b) h in
    let samples = long_fits 40 58 b (fits_small 48 58 b all.0) in
    let events = long_fits 32 66 b samples.1 in
    let reads = long_fits 24 74 b events.1 in
    let differences = long_fits 16 82 b reads.1 in
    let faults = long_fits 8 90 b differences.1 in
    record {
      samples = samples.0;
      events = events.0;
      reads = reads.0;
      differences = differences.0;
      faults = faults.0;
      fault = (long_fits 0 98 b faults.1).0;
      first = (long_fits 0 106 b (check_here 106 b all.1)).0;
      read0 = (long_fits 0 118 b (check_here 118 b all.2)).0;
      read1 = (long_fits 0 130 b (check_here 130 b all.3)).0;
    }

pub buffer_fits : BufferFits
unfolding watch_in_range watcher_in settings_in bus_at ear_in check_at tally_in
buffer_fits b h =
    let all = four (is_image (image_part b)) (settings_fit b) (ear_fits b) (tally_fits b) (watch_good b h).1 in
    let ear = ear_here b all.2 in
    let tally = tally_here b all.3 in
    record {
      device = image_fits (image_part b) all.0;
      every = settings_here b all.1;
      since = ear.0;
      value0 = ear.1;
      value1 = ear.2;
      whole0 = refl;
      whole1 = refl;
      samples = tally.samples;
      events = tally.events;
      reads = tally.reads;
      differences = tally.differences;
      faults = tally.faults;
      fault = tally.fault;
      first = tally.first;
      read0 = tally.read0;
      read1 = tally.read1;
    }
