-- A listener laid out in one buffer of 142 bytes, so that whoever lends it keeps all that a listener knows: the image of its device (#108), its settings,
-- what it knows between two samples, and what it has counted. docs/CAPTURES.md prints the table. Numbers of several bytes have the low one first.
-- Assumes nothing.
use Rattle.std.specs.Prelude.{ℕ, zero, suc, ◌+◌, Bool, true, false, ◌&&◌, List, [], ◌∷◌, ◌++◌, leb, take}
use Rattle.arbiter.specs.Words.{worth}
use Rattle.arbiter.specs.Registers.{register_number}
use Rattle.arbiter.specs.Events.{master}
use Rattle.arbiter.specs.Effects.{register_at}
use Rattle.arbiter.specs.Traces.{byte_at}
use Rattle.capture.specs.Events.{master_byte}
use Rattle.capture.specs.declared.Listener.{Listener}
use Rattle.layout.specs.Layout.{image_length, flag_at, image_of, device_in}
use Rattle.layout.specs.Images.{is_image}
use Rattle.watch.specs.declared.Settings.{Settings}
use Rattle.watch.specs.declared.Ear.{Ear}
use Rattle.watch.specs.declared.Check.{Check}
use Rattle.watch.specs.declared.Tally.{Tally}
use Rattle.watch.specs.declared.Watcher.{Watcher}
use Rattle.watchlayout.specs.Numbers.{double_bytes, long_bytes, double_at, long_at, awaited_number, awaited_of}

abbrev pub watch_length : ℕ
watch_length = 142

-- ---- laid out

-- from 38 on: the address, the samples a TICK, and whether bits 4 to 6 are the bus below
abbrev pub settings_bytes : Settings → List ℕ
settings_bytes c = c.address ∷ double_bytes c.every ++ (worth 1 c.below ∷ [])

-- from 50 on bus 0, from 54 on bus 1: what the byte in hand is for, its clocks, its bits so far, and whether a STOP is owed. A fault is never left
-- over.
abbrev pub bus_bytes : Listener → List ℕ
bus_bytes l = awaited_number l.awaited ∷ l.clocks ∷ l.value ∷ worth 1 l.owed ∷ []

-- from 44 on: whether there was a sample, the last one, how many since the last TICK, and both buses
abbrev pub ear_bytes : Ear → List ℕ
ear_bytes e = worth 1 e.begun ∷ e.before ∷ double_bytes e.since ++ bus_bytes e.both.bus0 ++ bus_bytes e.both.bus1

-- a READ: its sample, the master, the register, the byte heard and the one that the model answers
abbrev pub check_bytes : Check → List ℕ
check_bytes k = long_bytes k.sample ++ (master_byte k.master ∷ register_number k.register ∷ k.heard ∷ k.expected ∷ [])

-- from 58 on the counts; from 106 on the first READ that differed, from 118 on the last one of master 0, from 130 on that of master 1
abbrev pub tally_bytes : Tally → List ℕ
tally_bytes t =
    long_bytes t.samples ++ long_bytes t.events ++ long_bytes t.reads ++ long_bytes t.differences ++ long_bytes t.faults
    ++ long_bytes t.fault ++ check_bytes t.first ++ check_bytes t.read0 ++ check_bytes t.read1

unfoldable pub laid : Watcher → List ℕ
laid w = image_of w.device ++ settings_bytes w.settings ++ ear_bytes w.ear ++ tally_bytes w.tally

-- ---- read back

unfoldable pub settings_in : List ℕ → Settings
settings_in b = record { address = byte_at 38 b; every = double_at 39 b; below = flag_at 43 b }

unfoldable pub bus_at : ℕ → List ℕ → Listener
bus_at at b = record { awaited = awaited_of (byte_at at b); clocks = byte_at (at + 1) b; value = byte_at (at + 2) b; owed = flag_at (at + 3) b; broken = false }

unfoldable pub ear_in : List ℕ → Ear
ear_in b = record { begun = flag_at 44 b; before = byte_at 45 b; since = double_at 46 b; both = record { bus0 = bus_at 50 b; bus1 = bus_at 54 b } }

unfoldable pub check_at : ℕ → List ℕ → Check
check_at at b =
    record {
      sample = long_at at b;
      master = master (byte_at (at + 8) b);
      register = register_at (byte_at (at + 9) b);
      heard = byte_at (at + 10) b;
      expected = byte_at (at + 11) b;
    }

unfoldable pub tally_in : List ℕ → Tally
tally_in b =
    record {
      samples = long_at 58 b;
      events = long_at 66 b;
      reads = long_at 74 b;
      differences = long_at 82 b;
      faults = long_at 90 b;
      fault = long_at 98 b;
      first = check_at 106 b;
      read0 = check_at 118 b;
      read1 = check_at 130 b;
    }

-- the device's image stands first
abbrev pub image_part : List ℕ → List ℕ
image_part b = take image_length b

unfoldable pub watcher_in : List ℕ → Watcher
watcher_in b = record { settings = settings_in b; ear = ear_in b; device = device_in (image_part b); tally = tally_in b }

-- ---- which buffers are one

-- so many bytes from `at` on are bytes
unfoldable pub bytes_fit : ℕ → ℕ → List ℕ → Bool
bytes_fit at zero b = true
bytes_fit at (suc n) b = leb (byte_at at b) 255 && bytes_fit (suc at) n b

abbrev pub fits_at : ℕ → ℕ → List ℕ → Bool
fits_at at top b = leb (byte_at at b) top

unfoldable pub settings_fit : List ℕ → Bool
settings_fit b = bytes_fit 39 4 b && fits_at 43 1 b

unfoldable pub bus_fits : ℕ → List ℕ → Bool
bus_fits at b = fits_at at 6 b && fits_at (at + 2) 255 b && fits_at (at + 3) 1 b

unfoldable pub ear_fits : List ℕ → Bool
ear_fits b = fits_at 44 1 b && bytes_fit 46 4 b && bus_fits 50 b && bus_fits 54 b

unfoldable pub check_fits : ℕ → List ℕ → Bool
check_fits at b = bytes_fit at 8 b && fits_at (at + 8) 1 b && fits_at (at + 9) 7 b

unfoldable pub tally_fits : List ℕ → Bool
tally_fits b = bytes_fit 58 48 b && check_fits 106 b && check_fits 118 b && check_fits 130 b

unfoldable pub watch_in_range : List ℕ → Bool
watch_in_range b = is_image (image_part b) && settings_fit b && ear_fits b && tally_fits b
