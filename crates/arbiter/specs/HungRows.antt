-- Request #102 by examples, as STATUS and the interrupt output show them: bit 2 of STATUS is BUS_HUNG. proofs/HungRows.antt proves the table.
-- Assumes nothing.
use Rattle.std.specs.Prelude.{◌≡◌, ◌∷◌, ◌++◌}
use Rattle.arbiter.specs.Types.{ℕ, true, not, List, [], Pca9641, Device, Raw}
use Rattle.arbiter.specs.State.{bus_hung}
use Rattle.arbiter.specs.Effects.{power_up}
use Rattle.arbiter.specs.AuditWords.{throughout}
use Rattle.arbiter.specs.Marks.{Shown, Row, ◌is◌, command, write, read, lines, tick, pulse, general_call, sets, times, after◌on◌, bytes, initialising, AsThePaper}

-- ---- what is done to the lines

-- SDA falls, or SCL does, and so many ticks pass
abbrev pub sda_low : ℕ → List Raw
sda_low n = lines 1 0 1 ∷ times n tick

abbrev pub scl_low : ℕ → List Raw
scl_low n = lines 0 1 1 ∷ times n tick

-- with SDA low, SCL falls and rises, each after 499 ticks
abbrev pub slow_clock : List Raw
slow_clock = times 499 tick ++ lines 0 0 1 ∷ times 499 tick ++ lines 1 0 1 ∷ []

-- SMBUS_SWRST is set and SDA low; a soft reset holds SCL for 35 ticks
abbrev pub held_clock : List Raw
held_clock = sets 0 1 0x10 ++ lines 1 0 1 ∷ general_call 0 0x06 ∷ times 35 tick

-- the owner drives SDA low, and after 20 ticks pulls SCL low and lets it go
abbrev pub driven_clock : List Raw
driven_clock = sets 0 1 0x01 ++ command 0 2 ∷ write 0 0x40 ∷ times 20 tick ++ write 0 0x00 ∷ write 0 0x40 ∷ []

-- ---- what is seen after it: STATUS as master 0 reads it, which is 48h with SCL high and SDA low, and 4Ch if BUS_HUNG is shown

abbrev pub status_after : List Raw → Shown
status_after es = after es ++ command 0 2 ∷ [] on read 0

-- who owns, and whether it initialises, is the third byte; then levels
abbrev pub free : ℕ → Shown
free owner = bytes 0 0x48 owner 0x04

abbrev pub hung : ℕ → Shown
hung owner = bytes 0 0x4C owner 0x04

-- ---- the rows, in three tables that are computed one by one

-- how long
unfoldable pub long_rows : List Row
long_rows =
    -- SDA low: not at 500 ticks, at 501; and the count stops there
    (status_after (sda_low 500) is free 0)
    ∷ (status_after (sda_low 501) is hung 0)
    ∷ (status_after (sda_low 600) is hung 0)
    -- SCL low: not at 499 ticks, at 500
    ∷ (status_after (scl_low 499) is bytes 0 0x88 0 0x08)
    ∷ (status_after (scl_low 500) is bytes 0 0x8C 0 0x08)
    -- a refused event restarts nothing, nor does a PULSE, which is refused here
    ∷ (status_after (sda_low 500 ++ lines 2 0 1 ∷ pulse 1 ∷ tick ∷ []) is hung 0)
    -- nor does a PULSE of an initialisation, which is accepted
    ∷ (status_after (initialising ++ sda_low 250 ++ pulse 0 ∷ times 250 tick) is free 0x31)
    ∷ (status_after (initialising ++ sda_low 250 ++ pulse 0 ∷ times 251 tick) is hung 0x31)
    -- no latch: a change of SCL takes the flag back
    ∷ (status_after (sda_low 501 ++ lines 0 0 1 ∷ lines 1 0 1 ∷ []) is free 0)
    ∷ []

-- what changes SCL
unfoldable pub changed_rows : List Row
changed_rows =
    -- a fall of SCL restarts SDA's count; SCL's own count shows 500 ticks after it
    (status_after (sda_low 20 ++ lines 0 0 1 ∷ times 499 tick) is bytes 0 0x08 0 0x00)
    ∷ (status_after (sda_low 20 ++ lines 0 0 1 ∷ times 500 tick) is bytes 0 0x0C 0 0x00)
    -- a fall and a rise between two ticks
    ∷ (status_after (sda_low 20 ++ lines 0 0 1 ∷ lines 1 0 1 ∷ times 500 tick) is free 0)
    ∷ (status_after (sda_low 20 ++ lines 0 0 1 ∷ lines 1 0 1 ∷ times 501 tick) is hung 0)
    -- the TICK that ends a hold changes SCL: the count is 0 after it
    ∷ (status_after (held_clock ++ times 500 tick) is free 0)
    ∷ (status_after (held_clock ++ times 501 tick) is hung 0)
    -- the drive toggles SCL
    ∷ (status_after (driven_clock ++ times 500 tick) is free 0x21)
    ∷ (status_after (driven_clock ++ times 501 tick) is hung 0x21)
    ∷ []

-- INT_STATUS bit 6 goes with it, and so does the output: INT0 with its mask bit 6 at 0
unfoldable pub shown_rows : List Row
shown_rows =
    (after sets 0 5 0x3F ++ sda_low 499 on tick is bytes 0 0 0 0x04)
    ∷ (after sets 0 5 0x3F ++ sda_low 500 on tick is bytes 0 0 0 0x05)
    ∷ (after sets 0 5 0x3F ++ sda_low 501 ++ command 0 4 ∷ [] on read 0 is bytes 0 0x40 0 0x05)
    ∷ (after sets 0 5 0x3F ++ sda_low 501 on lines 0 0 1 is bytes 0 0 0 0x00)
    ∷ []

abbrev pub HungRowsHold : Type 0
HungRowsHold = AsThePaper long_rows × AsThePaper changed_rows × AsThePaper shown_rows

-- the fan monitor: SDA stays low over 2,994 ticks of a clock that runs, and BUS_HUNG is shown at no time
abbrev pub SlowClockNeverHung : Type 0
SlowClockNeverHung = throughout (λ (d : Device). not (bus_hung d.bus)) (power_up Pca9641) (lines 1 0 1 ∷ slow_clock ++ slow_clock ++ slow_clock) ≡ true
