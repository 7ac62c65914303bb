-- What does a reset leave? Statements over every device, and over every run of either kind of part. proofs/Freed.antt proves them.
-- A reset is the only remedy that the partner has against a claimant that does not send its STOP, or a holder whose bus stays busy (Blocking):
-- its own GENERAL CALL of 06h, or the pin. Either takes its own settings away too.
-- Assumes nothing.
use Rattle.std.specs.Prelude.{◌<◌, ◌≡◌, ◌+◌, ◌-◌, ◌&&◌, ◌∷◌}
use Rattle.ranges.specs.Names.{Bool, true, false, List, Master, Apart, Kind, Device, Raw, Event, Command, Write, Read, Stop, Pair, Lines, Tick, Pulse, Reset, GeneralCall}
use Rattle.arbiter.specs.Words.{worth, of, side}
use Rattle.arbiter.specs.State.{owns, claims}
use Rattle.arbiter.specs.Events.{soft_reset}
use Rattle.arbiter.specs.Effects.{was_reset}
use Rattle.arbiter.specs.Steps.{run_from, run}
use Rattle.arbiter.specs.AuditWords.{next, requests, resting, accepted, reset, tick, ticks_in, never}
use Rattle.arbiter.specs.Marks.{general_call, sets}

-- ---- words

-- a soft reset whose sender has SMBUS_SWRST set: it asks for the hold
abbrev pub asks_hold : Event → Device → Bool
asks_hold (Command m c) d = false
asks_hold (Write m v) d = false
asks_hold (Read m) d = false
asks_hold (Stop m) d = false
asks_hold (Pair v0 v1) d = false
asks_hold (Lines scl sda intin) d = false
asks_hold Tick d = false
asks_hold (Pulse sda) d = false
asks_hold Reset d = false
asks_hold (GeneralCall m b) d = soft_reset b && (side m d).contr.swrst

abbrev pub held_reset : Raw → Device → Bool
held_reset r d = accepted asks_hold r d

-- ---- Whom does it free?

-- After the pin reset and after the soft reset of either master: neither master owns, claims or requests, both ports are at rest, the switch is
-- open, and both drives are released.
abbrev pub ResetFrees : Type 0
ResetFrees =
    (d : Device) (r : Raw) → reset r d ≡ true → let x : Device = next d r in
    ((m : Master) → (owns m x ≡ false) × (claims m x ≡ false) × (requests m x ≡ false) × (resting m x ≡ true))
    × (x.arb.switch ≡ Apart) × (x.bus.drivescl ≡ true) × (x.bus.drivesda ≡ true)

-- "Resets restore everything but outside levels": what they leave, whole, is the fresh device of the same kind with those levels, and with a hold
-- of 35 ticks or none.
abbrev pub ResetRestores : Type 0
ResetRestores = (d : Device) (r : Raw) → reset r d ≡ true → next d r ≡ was_reset (worth 35 (held_reset r d)) d

-- So the partner has its remedy in its own hands: whoever blocks the bus, p's GENERAL CALL of 06h, and then its COMMAND 01h, WRITE 01h and STOP,
-- make p the owner, if p has not set SMBUS_SWRST. But its RT is 00h then and its timer off, and nothing ends its grant by itself: the way back that
-- has a reserve is in recovery/specs/Recipe.
abbrev pub ResetRemedies : Type 0
ResetRemedies =
    (d : Device) (p : Master) → (side p d).contr.swrst ≡ false
    → owns p (run_from d (general_call (of p 0 1) 0x06 ∷ sets (of p 0 1) 1 0x01)) ≡ true

-- ---- And when is the bus given again?

-- After a reset that asks for no hold, at once: no hold runs, and none begins without a reset.
abbrev pub ResetUnheld : Type 0
ResetUnheld =
    (d : Device) (r : Raw) (later : List Raw) → reset r d ≡ true → held_reset r d ≡ false → never reset (next d r) later ≡ true
    → (run_from (next d r) later).bus.hold ≡ 0

-- After one that does, and with no other reset since: the hold is 35 less the ticks accepted; nobody owns until the 35th tick; and at the 35th
-- whoever claims with its port at rest owns.
abbrev pub ResetHolds : Type 0
ResetHolds =
    (k : Kind) (rs : List Raw) (r : Raw) (later : List Raw) → let d : Device = next (run k rs) r in
    let x : Device = run_from d later in
    held_reset r (run k rs) ≡ true → never reset d later ≡ true
    → (x.bus.hold ≡ 35 - ticks_in d later)
    × (ticks_in d later < 35 → (p : Master) → owns p x ≡ false)
    × ((t : Raw) (p : Master) → tick t x ≡ true → ticks_in d later + 1 ≡ 35 → claims p x ≡ true → resting p x ≡ true → owns p (next x t) ≡ true)
