-- Request #102: what BUS_HUNG means over the history of the lines' levels, and that a clock which runs is never shown as a hung bus.
-- proofs/Hung.antt proves it.
-- Assumes nothing.
use Rattle.std.specs.Prelude.{◌≤◌, ◌≡◌, ◌⊎◌, ◌||◌, ◌++◌}
use Rattle.arbiter.specs.Types.{ℕ, Bool, true, false, not, List, Kind, Device, Raw}
use Rattle.arbiter.specs.State.{scl_high, sda_high, scl_hung_limit, sda_hung_limit, bus_hung}
use Rattle.arbiter.specs.Steps.{run}
use Rattle.arbiter.specs.AuditWords.{next, reset, ticks_in, never}

-- ---- of an event in a state: it ends a stretch in which a line was low

abbrev pub same_level : Bool → Bool → Bool
same_level true true = true
same_level true false = false
same_level false true = false
same_level false false = true

-- SCL's level after it is another than before it
abbrev pub scl_moves : Raw → Device → Bool
scl_moves r d = not (same_level (scl_high d.bus) (scl_high (next d r).bus))

-- SCL is high after it, or it is a reset
abbrev pub ends_low_scl : Raw → Device → Bool
ends_low_scl r d = reset r d || scl_high (next d r).bus

-- SDA is high after it, or SCL is not as before it, or it is a reset
abbrev pub ends_low_sda : Raw → Device → Bool
ends_low_sda r d = reset r d || (sda_high (next d r).bus || scl_moves r d)

-- ---- the two sentences of 003, as 02 has them, of a run

-- the run ends in a stretch that none of these ends, with so many ticks in it
pub record Stretch (ends : Raw → Device → Bool) (ticks : ℕ) (k : Kind) (rs : List Raw) : Type 0 where
  pub before : List Raw
  pub since : List Raw
  pub whole : rs ≡ before ++ since
  pub unbroken : never ends (run k before) since ≡ true
  pub long : ticks ≤ ticks_in (run k before) since

-- "SCL low for 500 ms"
abbrev pub SclStuck : Kind → List Raw → Type 0
SclStuck k rs = Stretch ends_low_scl scl_hung_limit k rs

-- "SDA low and SCL not toggling for more than 500 ms"
abbrev pub SdaStuck : Kind → List Raw → Type 0
SdaStuck k rs = Stretch ends_low_sda sda_hung_limit k rs

-- BUS_HUNG is shown exactly where one of the two holds.
abbrev pub HungExact : Type 0
HungExact =
    (k : Kind) (rs : List Raw) → (bus_hung (run k rs).bus ≡ true → SclStuck k rs ⊎ SdaStuck k rs) × (SclStuck k rs ⊎ SdaStuck k rs → bus_hung (run k rs).bus ≡ true)

-- ---- the fan monitor

-- in any 500 consecutive ticks of the run SCL's level changes at least once
abbrev pub ClockRuns : Kind → List Raw → Type 0
ClockRuns k rs =
    (before since after : List Raw) → rs ≡ before ++ since ++ after → scl_hung_limit ≤ ticks_in (run k before) since → never scl_moves (run k before) since ≡ false

-- Then BUS_HUNG is not shown, by either line, however long SDA is low and however slow the polling.
abbrev pub ClockNotHung : Type 0
ClockNotHung = (k : Kind) (rs : List Raw) → ClockRuns k rs → bus_hung (run k rs).bus ≡ false
