-- How long does a connection last, and when do the drives pull a line? Statements over every run of either kind of part.
-- proofs/Connection.antt, proofs/Transfer.antt and proofs/Released.antt prove them.
-- Assumes nothing.
use Rattle.std.specs.Prelude.{◌<◌, ◌≡◌, ◌&&◌, ◌++◌}
use Rattle.ranges.specs.Names.{ℕ, Bool, true, false, not, List, eqb, Master, Kind, Side, Device, Raw, Event, Command, Write, Read, Stop, Pair, Lines, Tick, Pulse, Reset, GeneralCall}
use Rattle.arbiter.specs.Words.{bit, same_master, of, side}
use Rattle.arbiter.specs.State.{owns, connected}
use Rattle.arbiter.specs.Steps.{run_from, run}
use Rattle.arbiter.specs.AuditWords.{next, reserve_of, accepted, is_contr, reset, tick, withdrawal_of, grant_taken, ticks_in, never, throughout}

-- ---- words

-- the byte v, written by this side, clears its BUS_CONNECT
abbrev pub clears_connect : ℕ → Side → Bool
clears_connect v s = is_contr s.pointer && not (bit 2 v)

-- m disconnects: a byte of its own, its WRITE or its half of a PAIR, clears its BUS_CONNECT
abbrev pub disconnects : Master → Event → Device → Bool
disconnects m (Command k c) d = false
disconnects m (Write k v) d = same_master m k && clears_connect v (side m d)
disconnects m (Read k) d = false
disconnects m (Stop k) d = false
disconnects m (Pair v0 v1) d = clears_connect (of m v0 v1) (side m d)
disconnects m (Lines scl sda intin) d = false
disconnects m Tick d = false
disconnects m (Pulse sda) d = false
disconnects m Reset d = false
disconnects m (GeneralCall k b) d = false

abbrev pub disconnection_of : Master → Raw → Device → Bool
disconnection_of m r d = accepted (disconnects m) r d

-- the 35-tick cut: the tick that makes 35 with SCL low, and m's SMBUS_DIS is 1
abbrev pub cut_of : Master → Raw → Device → Bool
cut_of m r d = tick r d && eqb (next d r).bus.lowscl 35 && (side m d).contr.smbusdis

-- ---- What ends a connection?

-- m is connected. It is so after r exactly if m still owns, r is no byte of m's own that clears BUS_CONNECT, and r is not the 35-tick cut. (m
-- owns no more after a reset, its withdrawal or a loss.) A byte that sets BUS_INIT does not end it, and nothing of the partner's does
-- but a reset.
abbrev pub ConnectionExact : Type 0
ConnectionExact =
    (k : Kind) (m : Master) (rs : List Raw) (r : Raw) → let d : Device = run k rs in
    connected m d ≡ true → connected m (next d r) ≡ owns m (next d r) && not (disconnection_of m r d) && not (cut_of m r d)

-- So it stays as long as the grant does, without such a byte and without the cut.
abbrev pub StaysConnected : Type 0
StaysConnected =
    (k : Kind) (m : Master) (rs : List Raw) (later : List Raw) → let d : Device = run k rs in
    connected m d ≡ true → throughout (owns m) d later ≡ true → never (disconnection_of m) d later ≡ true → never (cut_of m) d later ≡ true
    → connected m (run_from d later) ≡ true

-- And a reserved transfer is not cut short: r gives m the grant, and m is connected after some events. While fewer ticks have been accepted
-- since r than the reserve, no reset has come, and m has neither withdrawn nor disconnected nor been cut, m is connected.
abbrev pub TransferLasts : Type 0
TransferLasts =
    (k : Kind) (m : Master) (rs : List Raw) (r : Raw) (before : List Raw) (later : List Raw) → let d : Device = next (run k rs) r in
    let x : Device = run_from d before in
    grant_taken m r (run k rs) ≡ true → connected m x ≡ true → ticks_in d (before ++ later) < reserve_of m d
    → never reset d (before ++ later) ≡ true → never (withdrawal_of m) d (before ++ later) ≡ true
    → never (disconnection_of m) x later ≡ true → never (cut_of m) x later ≡ true → connected m (run_from x later) ≡ true

-- ---- When are the drives released?

-- Nobody is granted: both drives are released.
abbrev pub UnownedReleased : Type 0
UnownedReleased =
    (k : Kind) (rs : List Raw) → let d : Device = run k rs in
    ((m : Master) → owns m d ≡ false) → (d.bus.drivescl ≡ true) × (d.bus.drivesda ≡ true)

-- The owner's BUS_CONNECT is 1: both drives are released.
abbrev pub ConnectedReleased : Type 0
ConnectedReleased =
    (k : Kind) (m : Master) (rs : List Raw) → let d : Device = run k rs in
    owns m d ≡ true → (side m d).contr.busconnect ≡ true → (d.bus.drivescl ≡ true) × (d.bus.drivesda ≡ true)
