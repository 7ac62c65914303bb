-- Document 01, "Order inside a step" as a whole, "Answers", and a run of events from power-up.
-- Assumes nothing.
use Rattle.std.specs.Prelude.{◌+◌, ◌*◌, ◌∷◌, if◌then◌else◌}
use Rattle.arbiter.specs.Types.{ℕ, List, [], Master, Zero, One, Ground, Sole, Priority, LastGranted, Turn, Nobody, Claims, Owns, Switch, Apart, Initialising, Closed, Kind, Device, Raw, Event, Command, Write, Read, Stop, Pair, Lines, Tick, Pulse, Reset, GeneralCall, OutOfSequence, Answer, Stepped, Result, Unread, Ok, Err, UnknownKind, BadField}
use Rattle.arbiter.specs.Words.{worth, side}
use Rattle.arbiter.specs.State.{is_initialising, scl_high, sda_high}
use Rattle.arbiter.specs.Registers.{reads_at, output}
use Rattle.arbiter.specs.Events.{decode, decoded_number, in_sequence, outcome, outcome_number}
use Rattle.arbiter.specs.Effects.{effect, power_up}
use Rattle.arbiter.specs.Order.{is_reset, is_tick, clock_of, levels, losses, cut, claim, grant, connect}

-- ---- the seven parts, one after the other

unfoldable pub parts : Event → Device → Device
parts e d = connect (clock_of e) (grant (claim (cut (is_tick e) (losses (levels (is_reset e) d.bus (effect e d))))))

-- ---- the answer: "outcome; byte read or 00; bits 0-1 owner (0 none, 1 master 0, 2 master 1), bits 2-3 switch likewise, bit 4 initialising;
-- then bit 0 INT0 asserted, 1 INT1 asserted, 2 SCL high, 3 SDA high. All after the step." By #107
-- "the ground of the present claim, kept while the grant lasts, stands in bits 5 and 6 of the third answer byte".

abbrev pub master_number : Master → ℕ
master_number Zero = 1
master_number One = 2

abbrev pub owner_number : Turn → ℕ
owner_number Nobody = 0
owner_number (Claims m g) = 0
owner_number (Owns m g) = master_number m

-- #107: "1 sole requester, 2 priority, 3 last granted"; "0 with no claimant"
abbrev pub ground_number : Ground → ℕ
ground_number Sole = 1
ground_number Priority = 2
ground_number LastGranted = 3

abbrev pub turn_ground : Turn → ℕ
turn_ground Nobody = 0
turn_ground (Claims m g) = ground_number g
turn_ground (Owns m g) = ground_number g

abbrev pub switch_number : Switch → ℕ
switch_number Apart = 0
switch_number (Initialising m n) = 0
switch_number (Closed m) = master_number m

unfoldable pub owner_byte : Device → ℕ
owner_byte d =
    owner_number d.arb.turn + 4 * switch_number d.arb.switch + worth 16 (is_initialising d.arb.switch) + 32 * turn_ground d.arb.turn

unfoldable pub lines_byte : Device → ℕ
lines_byte d = worth 1 (output Zero d) + worth 2 (output One d) + worth 4 (scl_high d.bus) + worth 8 (sda_high d.bus)

-- with the device as it is after the step
abbrev pub answer : ℕ → ℕ → Device → Answer
answer number byte d = record { outcome = number; read = byte; owner = owner_byte d; lines = lines_byte d }

-- READ "hands out the byte" of the register that the pointer named before it
unfoldable pub byte_read : Event → Device → ℕ
byte_read (Command m c) d = 0
byte_read (Write m v) d = 0
byte_read (Read m) d = reads_at (side m d).pointer m d
byte_read (Stop m) d = 0
byte_read (Pair v0 v1) d = 0
byte_read (Lines scl sda intin) d = 0
byte_read Tick d = 0
byte_read (Pulse sda) d = 0
byte_read Reset d = 0
byte_read (GeneralCall m b) d = 0

-- ---- a step

-- "2 / 3 / 4 .. device unchanged, byte read 00; the run goes on"
unfoldable pub refused : ℕ → Device → Stepped
refused number d = record { device = d; answer = answer number 0 d }

unfoldable pub taken : Event → Device → Stepped
taken e d = record { device = parts e d; answer = answer (outcome_number (outcome e d)) (byte_read e d) (parts e d) }

unfoldable pub step_event : Event → Device → Stepped
step_event e d = if in_sequence e d then taken e d else refused (outcome_number OutOfSequence) d

-- "an event that does not read as one is taken out first"
unfoldable pub step_decoded : Result Event Unread → Device → Stepped
step_decoded (Ok e) d = step_event e d
step_decoded (Err u) d = refused (decoded_number (Err u)) d

unfoldable pub step : Device → Raw → Stepped
step d r = step_decoded (decode r) d

-- ---- a run: raw events one after the other, refused ones included

unfoldable pub run_from : Device → List Raw → Device
run_from d [] = d
run_from d (r ∷ rs) = run_from (step d r).device rs

unfoldable pub answers_from : Device → List Raw → List Answer
answers_from d [] = []
answers_from d (r ∷ rs) = (step d r).answer ∷ answers_from (step d r).device rs

unfoldable pub run : Kind → List Raw → Device
run k rs = run_from (power_up k) rs
