-- A listener in range comes back from its buffer, part by part.
-- Assumes nothing.
use mathlib.Core.Path.{◌≡◌, sym, ap, ◌∙◌}
use mathlib.Core.Bool.{false}
use Rattle.layout.specs.Layout.{laid_out, image_of, device_in}
use Rattle.layout.proofs.Back.{read_back as device-back}
use Rattle.layout.proofs.Numbers.{register_back, flag_back}
use Rattle.watch.specs.declared.Watcher.{Watcher}
use Rattle.watchlayout.specs.Places.{laid, settings_in, bus_at, ear_in, check_at, tally_in, watcher_in, image_part}
use Rattle.watchlayout.specs.Laws.{Fit, ReadBack}
use Rattle.watchlayout.proofs.Numbers.{awaited_back, master_back, double_back, long_back}
use Rattle.watchlayout.proofs.Fits.{image_part_lem}

device_there : (w : Watcher) → Fit w → device_in (image_part (laid w)) ≡ w.device
device_there w h = ap device_in (image_part_lem w) ∙ device-back w.device h.device

settings_back : (w : Watcher) → settings_in (laid w) ≡ w.settings
unfolding laid image_of laid_out settings_in
settings_back w = simp (double_back w.settings.every, (flag_back w.settings.below).0)

bus0_back : (w : Watcher) → w.ear.both.bus0.broken ≡ false → bus_at 50 (laid w) ≡ w.ear.both.bus0
unfolding laid image_of laid_out bus_at
bus0_back w whole =
    let l = w.ear.both.bus0 in
    λ i. record {
      awaited = (awaited_back l.awaited).0 i;
      clocks = l.clocks;
      value = l.value;
      owed = (flag_back l.owed).0 i;
      broken = sym whole i;
    }

bus1_back : (w : Watcher) → w.ear.both.bus1.broken ≡ false → bus_at 54 (laid w) ≡ w.ear.both.bus1
unfolding laid image_of laid_out bus_at
bus1_back w whole =
    let l = w.ear.both.bus1 in
    λ i. record {
      awaited = (awaited_back l.awaited).0 i;
      clocks = l.clocks;
      value = l.value;
      owed = (flag_back l.owed).0 i;
      broken = sym whole i;
    }

ear_back : (w : Watcher) → Fit w → ear_in (laid w) ≡ w.ear
unfolding laid image_of laid_out ear_in
ear_back w h =
    let e = w.ear in
    λ i. record {
      begun = (flag_back e.begun).0 i;
      before = e.before;
      since = double_back e.since i;
      both = record { bus0 = bus0_back w h.whole0 i; bus1 = bus1_back w h.whole1 i };
    }

first_back : (w : Watcher) → check_at 106 (laid w) ≡ w.tally.first
unfolding laid image_of laid_out check_at
first_back w =
    let k = w.tally.first in
    λ i. record {
      sample = long_back k.sample i;
      master = (master_back k.master).0 i;
      register = (register_back k.register).0 i;
      heard = k.heard;
      expected = k.expected;
    }

read0_back : (w : Watcher) → check_at 118 (laid w) ≡ w.tally.read0
unfolding laid image_of laid_out check_at
read0_back w =
    let k = w.tally.read0 in
    λ i. record {
      sample = long_back k.sample i;
      master = (master_back k.master).0 i;
      register = (register_back k.register).0 i;
      heard = k.heard;
      expected = k.expected;
    }

read1_back : (w : Watcher) → check_at 130 (laid w) ≡ w.tally.read1
unfolding laid image_of laid_out check_at
read1_back w =
    let k = w.tally.read1 in
    λ i. record {
      sample = long_back k.sample i;
      master = (master_back k.master).0 i;
      register = (register_back k.register).0 i;
      heard = k.heard;
      expected = k.expected;
    }

tally_back : (w : Watcher) → tally_in (laid w) ≡ w.tally
unfolding laid image_of laid_out tally_in
tally_back w =
    let t = w.tally in
    λ i. record {
      samples = long_back t.samples i;
      events = long_back t.events i;
      reads = long_back t.reads i;
      differences = long_back t.differences i;
      faults = long_back t.faults i;
      fault = long_back t.fault i;
      first = first_back w i;
      read0 = read0_back w i;
      read1 = read1_back w i;
    }

pub read_back : ReadBack
unfolding watcher_in
read_back w h =
    λ i. record { settings = settings_back w i; ear = ear_back w h i; device = device_there w h i; tally = tally_back w i }
