-- The words of the auditor's statements: what is said of an event in a state, and of the events of a run.
-- Assumes nothing.
use Rattle.std.specs.Prelude.{◌+◌, ◌&&◌, ◌∷◌, if◌then◌else◌}
use Rattle.arbiter.specs.Types.{ℕ, Bool, true, false, not, List, [], Master, Register, Id, Contr, Status, Rt, IntStatus, IntMask, MailLow, MailHigh, Side, Device, Raw, Event, Command, Write, Read, Stop, Pair, Lines, Tick, Pulse, Reset, GeneralCall, Result, Unread, Ok, Err, UnknownKind, BadField}
use Rattle.arbiter.specs.Words.{bit, worth, same_master, of, side}
use Rattle.arbiter.specs.State.{owns, at_rest}
use Rattle.arbiter.specs.Events.{decode, in_sequence}
use Rattle.arbiter.specs.Effects.{effect}
use Rattle.arbiter.specs.Order.{is_reset, is_tick, levels}
use Rattle.arbiter.specs.Steps.{step}

-- the device after one more event
abbrev pub next : Device → Raw → Device
next d r = (step d r).device

-- ---- of one master in a state

-- its request stands: LOCK_REQ is 1
abbrev pub requests : Master → Device → Bool
requests m d = (side m d).contr.lockreq

-- its port is at rest
abbrev pub resting : Master → Device → Bool
resting m d = at_rest (side m d).port

-- the reserve of its grant: RT, which does not change while it is granted
abbrev pub reserve_of : Master → Device → ℕ
reserve_of m d = (side m d).rt

-- IDLE_TIMER_DIS is 1, by which document 01 has the idle timer on
abbrev pub idle_timer_on : Master → Device → Bool
idle_timer_on m d = (side m d).contr.idletimer

-- ---- of an event in a state

-- four bytes that read as an event, are in sequence in d, and are such a one
abbrev pub accepted_as : (Event → Device → Bool) → Result Event Unread → Device → Bool
accepted_as such (Ok e) d = in_sequence e d && such e d
accepted_as such (Err u) d = false

abbrev pub accepted : (Event → Device → Bool) → Raw → Device → Bool
accepted such r d = accepted_as such (decode r) d

abbrev pub is_accepted : Raw → Device → Bool
is_accepted r d = accepted (λ (e : Event) (x : Device). true) r d

-- the pin reset or the soft reset
abbrev pub reset : Raw → Device → Bool
reset r d = accepted (λ (e : Event) (x : Device). is_reset e) r d

abbrev pub tick : Raw → Device → Bool
tick r d = accepted (λ (e : Event) (x : Device). is_tick e) r d

abbrev pub is_contr : Register → Bool
is_contr Id = false
is_contr Contr = true
is_contr Status = false
is_contr Rt = false
is_contr IntStatus = false
is_contr IntMask = false
is_contr MailLow = false
is_contr MailHigh = false

-- the byte v, written by this side, clears its LOCK_REQ
abbrev pub clears_request : ℕ → Side → Bool
clears_request v s = is_contr s.pointer && not (bit 0 v)

-- m withdraws: a byte of its own, its WRITE or its half of a PAIR, clears its LOCK_REQ
abbrev pub lets_go : Master → Event → Device → Bool
lets_go m (Command k c) d = false
lets_go m (Write k v) d = same_master m k && clears_request v (side m d)
lets_go m (Read k) d = false
lets_go m (Stop k) d = false
lets_go m (Pair v0 v1) d = clears_request (of m v0 v1) (side m d)
lets_go m (Lines scl sda intin) d = false
lets_go m Tick d = false
lets_go m (Pulse sda) d = false
lets_go m Reset d = false
lets_go m (GeneralCall k b) d = false

abbrev pub withdrawal_of : Master → Raw → Device → Bool
withdrawal_of m r d = accepted (lets_go m) r d

abbrev pub is_stop_of : Master → Event → Bool
is_stop_of m (Command k c) = false
is_stop_of m (Write k v) = false
is_stop_of m (Read k) = false
is_stop_of m (Stop k) = same_master m k
is_stop_of m (Pair v0 v1) = false
is_stop_of m (Lines scl sda intin) = false
is_stop_of m Tick = false
is_stop_of m (Pulse sda) = false
is_stop_of m Reset = false
is_stop_of m (GeneralCall k b) = false

abbrev pub stop_of : Master → Raw → Device → Bool
stop_of m r d = accepted (λ (e : Event) (x : Device). is_stop_of m e) r d

-- m owns after it and did not before; m owned before it and does not after
abbrev pub grant_taken : Master → Raw → Device → Bool
grant_taken m r d = not (owns m d) && owns m (next d r)

abbrev pub grant_ended : Master → Raw → Device → Bool
grant_ended m r d = owns m d && not (owns m (next d r))

-- the device after parts 1 and 2 of the event's step, where part 3 looks for a loss; a refused event has no parts
abbrev pub levelled_by : Result Event Unread → Device → Device
levelled_by (Ok e) d = if in_sequence e d then levels (is_reset e) d.bus (effect e d) else d
levelled_by (Err u) d = d

abbrev pub levelled : Raw → Device → Device
levelled r d = levelled_by (decode r) d

-- ---- of the events rs from d on

-- how many ticks are accepted
unfoldable pub ticks_in : Device → List Raw → ℕ
ticks_in d [] = 0
ticks_in d (r ∷ rs) = worth 1 (tick r d) + ticks_in (next d r) rs

-- none is such a one, each in the state that it meets
unfoldable pub never : (Raw → Device → Bool) → Device → List Raw → Bool
never such d [] = true
never such d (r ∷ rs) = not (such r d) && never such (next d r) rs

-- it holds in d and after each
unfoldable pub throughout : (Device → Bool) → Device → List Raw → Bool
throughout holds d [] = holds d
throughout holds d (r ∷ rs) = holds d && throughout holds (next d r) rs
