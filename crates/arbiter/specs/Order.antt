-- Document 01, "Order inside a step", parts 2 to 7. Part 1, the event's own effect, is in Effects.
-- Assumes nothing.
use Rattle.std.specs.Prelude.{◌+◌, ◌&&◌, ◌||◌, ◌∷◌, if◌then◌else◌}
use Rattle.arbiter.specs.Types.{ℕ, Bool, true, false, not, List, [], eqb, ltb, get_or, Master, Zero, One, Ground, Sole, Priority, LastGranted, Turn, Nobody, Claims, Owns, Side, Bus, Switch, Apart, Initialising, Closed, Arbitration, Device, Clock, NoClock, ClockLow, ClockHigh, Event, Command, Write, Read, Stop, Pair, Lines, Tick, Pulse, Reset, GeneralCall, Option, None, Some}
use Rattle.arbiter.specs.Words.{worth, partner, same_master, side, device}
use Rattle.arbiter.specs.Parts.{with_lock_req, with_bus_connect, with_bus_init, with_contr, with_ints, with_idle, with_turn, with_switch, with_init_fail, with_side, with_bus, with_arb}
use Rattle.arbiter.specs.State.{at_rest, scl_high, sda_high, is_idle}
use Rattle.arbiter.specs.Registers.{granted_int, lost_int, raised, disconnected, released}
use Rattle.arbiter.specs.Events.{master, soft_reset}
use Rattle.arbiter.specs.Rules.{idle_limit}

-- ---- what a part asks of the event

abbrev pub is_reset : Event → Bool
is_reset (Command m c) = false
is_reset (Write m v) = false
is_reset (Read m) = false
is_reset (Stop m) = false
is_reset (Pair v0 v1) = false
is_reset (Lines scl sda intin) = false
is_reset Tick = false
is_reset (Pulse sda) = false
is_reset Reset = true
is_reset (GeneralCall m b) = soft_reset b

abbrev pub is_tick : Event → Bool
is_tick (Command m c) = false
is_tick (Write m v) = false
is_tick (Read m) = false
is_tick (Stop m) = false
is_tick (Pair v0 v1) = false
is_tick (Lines scl sda intin) = false
is_tick Tick = true
is_tick (Pulse sda) = false
is_tick Reset = false
is_tick (GeneralCall m b) = false

-- what it says of the initialisation's clock
abbrev pub clock_of : Event → Clock
clock_of (Command m c) = NoClock
clock_of (Write m v) = NoClock
clock_of (Read m) = NoClock
clock_of (Stop m) = NoClock
clock_of (Pair v0 v1) = NoClock
clock_of (Lines scl sda intin) = NoClock
clock_of Tick = NoClock
clock_of (Pulse false) = ClockLow
clock_of (Pulse true) = ClockHigh
clock_of Reset = NoClock
clock_of (GeneralCall m b) = NoClock

-- ---- 2. levels

-- "SDA falling with SCL high before and after is START (busy); rising is STOP (not busy)."
abbrev pub is_start : Bus → Bus → Bool
is_start before after = scl_high before && scl_high after && sda_high before && not (sda_high after)

abbrev pub is_stop : Bus → Bus → Bool
is_stop before after = scl_high before && scl_high after && not (sda_high before) && sda_high after

-- "Resets detect neither and clear busy."
abbrev pub busy_after : Bool → Bus → Bus → Bool
busy_after reset before b = not reset && (b.busy || is_start before b) && not (is_stop before b)

-- SCL's level is not what it was before the event: it fell or it rose
abbrev pub scl_changed : Bus → Bus → Bool
scl_changed before after = scl_high before && not (scl_high after) || not (scl_high before) && scl_high after

abbrev pub settled_bus : Bool → Bool → Bus → Bus
settled_bus busy changed b =
    record {
      outscl = b.outscl;
      outsda = b.outsda;
      intin = b.intin;
      drivescl = b.drivescl;
      drivesda = b.drivesda;
      busy = busy;
      hold = b.hold;
      idle = if not busy && scl_high b && sda_high b then b.idle else 0;
      lowscl = if scl_high b then 0 else b.lowscl;
      lowsda = if sda_high b || changed then 0 else b.lowsda;
    }

-- "A high line zeroes its low count; idle means not busy and both high; not idle zeroes the idle count." By #102 "the SDA count restarts at
-- every change of SCL's level". `before` is the bus before the event.
unfoldable pub levels : Bool → Bus → Device → Device
levels reset before d = with_bus (settled_bus (busy_after reset before d.bus) (scl_changed before d.bus) d.bus) d

-- ---- 3. losses

-- "The granted master loses if its reserve was 1 to 255 and that many ticks have passed since the grant, and the bus is idle. With
-- reserve 00h, it loses exactly if IDLE_TIMER_DIS is 1 and the idle count is" at its limit. RT does not change while granted, so the owner's RT
-- is the reserve of its grant.
abbrev pub runs_out : ℕ → Side → ℕ → Bus → Bool
runs_out limit s reserve b = if eqb s.rt 0 then s.contr.idletimer && eqb b.idle limit else eqb reserve 0 && is_idle b

-- "A loss clears LOCK_REQ and sets its bit 1."
abbrev pub loser : Side → Side
loser s = with_ints (raised lost_int true s.ints) (with_contr (with_lock_req false s.contr) s)

unfoldable pub lost : Master → Device → Device
lost m d = device m (disconnected (loser (side m d))) (side (partner m) d) (released d.bus) (with_turn Nobody d.arb) d

unfoldable pub losses_from : Turn → Device → Device
losses_from Nobody d = d
losses_from (Claims m g) d = d
losses_from (Owns m g) d = if runs_out (idle_limit d) (side m d) d.arb.reserve d.bus then lost m d else d

unfoldable pub losses : Device → Device
losses d = losses_from d.arb.turn d

-- ---- 4. "SCL low for 35 ticks, at the tick that makes 35: the granted master's BUS_CONNECT is cleared if its SMBUS_DIS is 1. The grant stays."

abbrev pub cut_ticks : ℕ
cut_ticks = 35

unfoldable pub cut_from : Bool → Turn → Device → Device
cut_from tick Nobody d = d
cut_from tick (Claims m g) d = d
cut_from tick (Owns m g) d =
    if tick && eqb d.bus.lowscl cut_ticks && (side m d).contr.smbusdis then with_side m (disconnected (side m d)) d else d

unfoldable pub cut : Bool → Device → Device
cut tick d = cut_from tick d.arb.turn d

-- ---- 5. claim

-- "four rows of three winners, one row for each pair of priorities, one column each for last granted none, 0, 1"
abbrev pub winners : List (List ℕ)
winners =
    (0 ∷ 1 ∷ 0 ∷ [])
    ∷ (1 ∷ 1 ∷ 1 ∷ [])
    ∷ (0 ∷ 0 ∷ 0 ∷ [])
    ∷ (1 ∷ 1 ∷ 0 ∷ [])
    ∷ []

-- "Rows 00 .. 01 .. 10 .. 11"
abbrev pub row : Bool → Bool → ℕ
row priority0 priority1 = worth 2 priority0 + worth 1 priority1

abbrev pub column : Option Master → ℕ
column None = 0
column (Some Zero) = 1
column (Some One) = 2

unfoldable pub winner : Bool → Bool → Option Master → Master
winner priority0 priority1 last = master (get_or (get_or winners (row priority0 priority1) []) (column last) 0)

-- #107: "The winner choice shall also give its ground: 1 sole requester, 2 priority, 3 last granted. With equal priorities and nobody
-- granted before, it is 3." Of two requesters with these priorities:
abbrev pub ground_of : Bool → Bool → Ground
ground_of true true = LastGranted
ground_of true false = Priority
ground_of false true = Priority
ground_of false false = LastGranted

-- "With no claimant, the one requester claims; if both request, the winner table decides"
abbrev pub claim_by : Bool → Bool → Master → Ground → Turn
claim_by false false w g = Nobody
claim_by true false w g = Claims Zero Sole
claim_by false true w g = Claims One Sole
claim_by true true w g = Claims w g

abbrev pub new_claim : Device → Turn
new_claim d =
    let p0 : Bool = d.side0.contr.priority in
    let p1 : Bool = d.side1.contr.priority in
    claim_by d.side0.contr.lockreq d.side1.contr.lockreq (winner p0 p1 d.arb.last) (ground_of p0 p1)

-- "A claimant whose LOCK_REQ is 0 drops out; a granted master stays the claimant." Its ground stays with it.
abbrev pub claim_after : Turn → Device → Turn
claim_after Nobody d = new_claim d
claim_after (Claims m g) d = if (side m d).contr.lockreq then Claims m g else new_claim d
claim_after (Owns m g) d = Owns m g

unfoldable pub claim : Device → Device
claim d = with_arb (with_turn (claim_after d.arb.turn d) d.arb) d

-- ---- 6. "Grant: a claimant not yet granted, with its port at rest and no hold is granted. Reserve count = RT, idle count = 0, last
-- granted = it, its bit 2 set."

abbrev pub granted_arb : Master → Ground → ℕ → Arbitration → Arbitration
granted_arb m g rt a = record { last = Some m; initfail = a.initfail; switch = a.switch; reserve = rt; turn = Owns m g }

unfoldable pub granted : Master → Ground → Device → Device
granted m g d =
    device m (with_ints (raised granted_int true (side m d).ints) (side m d)) (side (partner m) d) (with_idle 0 d.bus) (granted_arb m g (side m d).rt d.arb) d

unfoldable pub grant_from : Turn → Device → Device
grant_from Nobody d = d
grant_from (Claims m g) d = if at_rest (side m d).port && eqb d.bus.hold 0 then granted m g d else d
grant_from (Owns m g) d = d

unfoldable pub grant : Device → Device
grant d = grant_from d.arb.turn d

-- ---- 7. connection

abbrev pub switched : Switch → Device → Device
switched w d = with_arb (with_switch w d.arb) d

-- "When grant and BUS_CONNECT become both true with BUS_INIT set, initialisation starts and BUS_INIT_FAIL clears."
unfoldable pub joined : Master → Device → Device
joined m d =
    if (side m d).contr.businit then with_arb (with_init_fail false (with_switch (Initialising m 0) d.arb)) d else switched (Closed m) d

-- "A PULSE of 1 ends it: BUS_INIT clears, the switch closes."
abbrev pub initialised : Master → Device → Device
initialised m d = switched (Closed m) (with_side m (with_contr (with_bus_init false (side m d).contr) (side m d)) d)

-- "The ninth PULSE of 0 ends it: BUS_INIT and BUS_CONNECT clear, BUS_INIT_FAIL sets."
abbrev pub failed_side : Side → Side
failed_side s = with_contr (with_bus_init false (with_bus_connect false s.contr)) s

abbrev pub init_failed : Master → Device → Device
init_failed m d = with_arb (with_init_fail true (with_switch Apart d.arb)) (with_side m (failed_side (side m d)) d)

unfoldable pub clocked : Clock → Master → ℕ → Device → Device
clocked NoClock m n d = d
clocked ClockHigh m n d = initialised m d
clocked ClockLow m n d = if ltb n 8 then switched (Initialising m (n + 1)) d else init_failed m d

-- Grant and BUS_CONNECT are both true of m. They were before, too, if the switch was already m's; else they have become so.
unfoldable pub kept_joined : Clock → Master → Switch → Device → Device
kept_joined c m Apart d = joined m d
kept_joined c m (Initialising k n) d = if same_master m k then clocked c m n d else joined m d
kept_joined c m (Closed k) d = if same_master m k then d else joined m d

-- "Losing either grant or BUS_CONNECT abandons it and leaves BUS_INIT .. Otherwise the switch is closed exactly if both are true."
unfoldable pub connect_from : Clock → Turn → Device → Device
connect_from c Nobody d = switched Apart d
connect_from c (Claims m g) d = switched Apart d
connect_from c (Owns m g) d = if (side m d).contr.busconnect then kept_joined c m d.arb.switch d else switched Apart d

unfoldable pub connect : Clock → Device → Device
connect c d = connect_from c d.arb.turn d
