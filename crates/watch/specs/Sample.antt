-- One sample of a watched bus: the events that it gives, in their order, and what is known after it. START, bits, bytes and STOP are those of request
-- #104 (capture/specs/OneBus); what is added here is time, the bus below, and that listening goes on after a fault.
-- Assumes nothing.
use Rattle.std.specs.Prelude.{◌/◌, ◌%◌, ◌+◌, ◌&&◌, ◌∷◌, ◌++◌, if◌then◌else◌, None}
use Rattle.capture.specs.Samples.{sampled, events_in, both_silent}
use Rattle.watch.specs.Names.{ℕ, Bool, true, false, not, List, [], eqb, ltb, bit, worth, Event, Lines, Tick, Listener, Both, Heard, Settings, Ear}

-- ---- the bus below: bits 4, 5 and 6 of a sample are downstream SCL, SDA and INT_IN, if the settings say so

-- the three levels as one number
abbrev pub levels_below : ℕ → ℕ
levels_below x = x / 16 % 8

-- those of the sample before; of none, those of power-up: "all outside levels 1"
abbrev pub below_before : Ear → ℕ
below_before e = if e.begun then levels_below e.before else 7

-- a change of any of them is a LINES event
unfoldable pub lines_given : Settings → ℕ → Ear → List Event
lines_given c x e =
    if c.below && not (eqb (below_before e) (levels_below x)) then Lines (bit 4 x) (bit 5 x) (bit 6 x) ∷ [] else []

-- ---- both buses above

-- #104: "The first sample is only a starting level."
unfoldable pub heard_now : Settings → ℕ → Ear → Heard
heard_now c x e =
    if e.begun then sampled c.address e.before x e.both else record { both = e.both; given0 = None; given1 = None }

-- A START or STOP inside a byte, for which #104 refuses a capture with 12, is a fault. It is counted, the byte is lost, and listening goes on: after
-- a START with the transfer that it begins, after a STOP with the next START.
abbrev pub mended : Listener → Listener
mended l = record { awaited = l.awaited; clocks = l.clocks; value = l.value; owed = l.owed; broken = false }

abbrev pub both_mended : Both → Both
both_mended s = record { bus0 = mended s.bus0; bus1 = mended s.bus1 }

abbrev pub faults_in : Both → ℕ
faults_in s = worth 1 s.bus0.broken + worth 1 s.bus1.broken

-- ---- time: so many samples after the first one, or after the last TICK, are a TICK

abbrev pub is_timed : Settings → Ear → Bool
is_timed c e = e.begun && not (eqb c.every 0)

abbrev pub is_due : Settings → Ear → Bool
is_due c e = not (ltb (e.since + 1) c.every)

unfoldable pub ticks_given : Settings → Ear → List Event
ticks_given c e = if is_timed c e && is_due c e then Tick ∷ [] else []

unfoldable pub since_after : Settings → Ear → ℕ
since_after c e = if is_timed c e && not (is_due c e) then e.since + 1 else 0

-- ---- the whole sample: the bus below moves first, then the buses above speak in #104's order, and then time passes

unfoldable pub events_at : Settings → ℕ → Ear → List Event
events_at c x e = lines_given c x e ++ (events_in (heard_now c x e) ++ ticks_given c e)

unfoldable pub ear_after : Settings → ℕ → Ear → Ear
ear_after c x e = record { begun = true; before = x; since = since_after c e; both = both_mended (heard_now c x e).both }

-- before the first sample
unfoldable pub silent_ear : Ear
silent_ear = record { begun = false; before = 0; since = 0; both = both_silent }
