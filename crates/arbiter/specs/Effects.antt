-- Document 01, "Events", the table's last column, and part 1 of a step: the event's own effect.
-- Assumes nothing.
use Rattle.std.specs.Prelude.{◌+◌, ◌-◌, ◌%◌, ◌&&◌, if◌then◌else◌}
use Rattle.arbiter.specs.Types.{ℕ, Bool, true, false, not, eqb, ltb, Master, Zero, One, Turn, Nobody, Rest, Open, Writing, Register, Id, Contr, Status, Rt, IntStatus, IntMask, MailLow, MailHigh, Side, Bus, Apart, Arbitration, Kind, Device, Event, Command, Write, Read, Stop, Pair, Lines, Tick, Pulse, Reset, GeneralCall, None}
use Rattle.arbiter.specs.Rules.{idle_limit, rolls}
use Rattle.arbiter.specs.Words.{bit, partner, side, device}
use Rattle.arbiter.specs.Parts.{with_port, with_auto, with_pointer, with_ints, with_mail, with_turn, with_reserve, with_side}
use Rattle.arbiter.specs.State.{owns, scl_high, sda_high, is_idle, scl_hung_limit, sda_hung_limit}
use Rattle.arbiter.specs.Registers.{mail_emptied_int, int_in_int, raised, own_written, mail_written, drives_written, turn_written}
use Rattle.arbiter.specs.Events.{good_command, soft_reset}

-- ---- the pointer

-- "pointer bits 2..0"
abbrev pub register_at : ℕ → Register
register_at p =
    if eqb p 0 then Id
    else if eqb p 1 then Contr
    else if eqb p 2 then Status
    else if eqb p 3 then Rt
    else if eqb p 4 then IntStatus
    else if eqb p 5 then IntMask
    else if eqb p 6 then MailLow
    else MailHigh

-- WRITE: the pointer "rises and stays at 7", or by #105 "rolls from 7 to 0"
abbrev pub after_write : Bool → Register → Register
after_write rolls Id = Contr
after_write rolls Contr = Status
after_write rolls Status = Rt
after_write rolls Rt = IntStatus
after_write rolls IntStatus = IntMask
after_write rolls IntMask = MailLow
after_write rolls MailLow = MailHigh
after_write rolls MailHigh = if rolls then Id else MailHigh

-- READ: it "rises, and goes 7 to 0"
abbrev pub after_read : Register → Register
after_read Id = Contr
after_read Contr = Status
after_read Status = Rt
after_read Rt = IntStatus
after_read IntStatus = IntMask
after_read IntMask = MailLow
after_read MailLow = MailHigh
after_read MailHigh = Id

-- ---- COMMAND: "opens m's port for writing; c = auto-increment bit 7, pointer bits 2..0; bits 6..3 not 0: not acknowledged, both kept,
-- port open but not for writing"

unfoldable pub commanded : ℕ → Side → Side
commanded c s = if good_command c then with_port Writing (with_auto (bit 7 c) (with_pointer (register_at (c % 8)) s)) else with_port Open s

-- ---- WRITE and PAIR

-- "acknowledged or not, with auto-increment the pointer then rises", and at 7 follows the part's rule
abbrev pub write_risen : Bool → Side → Side
write_risen rolls s = if s.auto then with_pointer (after_write rolls s.pointer) s else s

-- what m's byte v does to m's own side, to its partner's side p, to the bus and to the turn
abbrev pub writer_side : Master → ℕ → Device → Side
writer_side m v d = write_risen (rolls d) (own_written (owns m d) (side m d).pointer v (side m d))

abbrev pub partner_side : Master → ℕ → Device → Side → Side
partner_side m v d p = mail_written (side m d).pointer v p

abbrev pub written_bus : Master → ℕ → Device → Bus → Bus
written_bus m v d b = drives_written (owns m d) (side m d).contr.busconnect (side m d).pointer v b

abbrev pub written_turn : Master → ℕ → Device → Turn → Turn
written_turn m v d t = turn_written (owns m d) (side m d).pointer v t

unfoldable pub written : Master → ℕ → Device → Device
written m v d =
    device m (writer_side m v d) (partner_side m v d (side (partner m) d)) (written_bus m v d d.bus) (with_turn (written_turn m v d d.arb.turn) d.arb) d

-- "both masters' WRITE at one instant": each byte by the state before. "A bit one clears and the other sets ends set": each side has its
-- own master's byte first, and then the partner's mail.
unfoldable pub paired : ℕ → ℕ → Device → Device
paired v0 v1 d =
    record {
      side0 = partner_side One v1 d (writer_side Zero v0 d);
      side1 = partner_side Zero v0 d (writer_side One v1 d);
      bus = written_bus One v1 d (written_bus Zero v0 d d.bus);
      arb = with_turn (written_turn One v1 d (written_turn Zero v0 d d.arb.turn)) d.arb;
      kind = d.kind;
    }

-- ---- READ: "port then open, but not for writing"; "Reading 7 of one's own full box empties it and sets the sender's bit 4; the bytes
-- remain readable"

abbrev pub read_risen : Side → Side
read_risen s = if s.auto then with_pointer (after_read s.pointer) s else s

abbrev pub is_mail_high : Register → Bool
is_mail_high Id = false
is_mail_high Contr = false
is_mail_high Status = false
is_mail_high Rt = false
is_mail_high IntStatus = false
is_mail_high IntMask = false
is_mail_high MailLow = false
is_mail_high MailHigh = true

abbrev pub empties : Side → Bool
empties s = is_mail_high s.pointer && s.mail.full

abbrev pub reader_side : Side → Side
reader_side s = with_port Open (read_risen (with_mail (record { low = s.mail.low; high = s.mail.high; full = s.mail.full && not (empties s) }) s))

abbrev pub sender_side : Bool → Side → Side
sender_side emptied s = with_ints (raised mail_emptied_int emptied s.ints) s

unfoldable pub was_read : Master → Device → Device
was_read m d = device m (reader_side (side m d)) (sender_side (empties (side m d)) (side (partner m) d)) d.bus d.arb d

-- ---- LINES: "outside levels, 0 or 1 ..; a fall of INT_IN sets bit 0 for both"

abbrev pub int_in_fallen : Bool → Side → Side
int_in_fallen fell s = with_ints (raised int_in_int fell s.ints) s

abbrev pub outside : Bool → Bool → Bool → Bus → Bus
outside scl sda intin b =
    record { outscl = scl; outsda = sda; intin = intin; drivescl = b.drivescl; drivesda = b.drivesda; busy = b.busy; hold = b.hold; idle = b.idle; lowscl = b.lowscl; lowsda = b.lowsda }

unfoldable pub lined : Bool → Bool → Bool → Device → Device
lined scl sda intin d =
    let fell : Bool = d.bus.intin && not intin in
    record { side0 = int_in_fallen fell d.side0; side1 = int_in_fallen fell d.side1; bus = outside scl sda intin d.bus; arb = d.arb; kind = d.kind }

-- ---- TICK: "takes one from the reserve count and from the hold (each if above 0), and adds one to each low count whose line is low and
-- to the idle count if the bus is idle". "Low counts stop at 500, the idle count at 101"; by #102 SDA's stops at 501, and by #105 the idle
-- count at the part's limit.

abbrev pub counted_to : ℕ → Bool → ℕ → ℕ
counted_to top up n = if up && ltb n top then n + 1 else n

abbrev pub ticked_bus : ℕ → Bus → Bus
ticked_bus limit b =
    record {
      outscl = b.outscl;
      outsda = b.outsda;
      intin = b.intin;
      drivescl = b.drivescl;
      drivesda = b.drivesda;
      busy = b.busy;
      hold = b.hold - 1;
      idle = counted_to limit (is_idle b) b.idle;
      lowscl = counted_to scl_hung_limit (not (scl_high b)) b.lowscl;
      lowsda = counted_to sda_hung_limit (not (sda_high b)) b.lowsda;
    }

abbrev pub ticked_arb : Arbitration → Arbitration
ticked_arb a = with_reserve (a.reserve - 1) a

unfoldable pub ticked : Device → Device
ticked d = record { side0 = d.side0; side1 = d.side1; bus = ticked_bus (idle_limit d) d.bus; arb = ticked_arb d.arb; kind = d.kind }

-- ---- resets: "restore everything but outside levels; ports go to rest with pointer 0"; "5 INT_MSK, reset 7Fh .. All others reset to 0".
-- By #105 "every step keeps" the kind of part, "resets included".

unfoldable pub fresh_side : Side
fresh_side =
    record {
      pointer = Id;
      rt = 0;
      contr = record { priority = false; smbusdis = false; idletimer = false; swrst = false; businit = false; busconnect = false; lockreq = false };
      ints = 0;
      mail = record { low = 0; high = 0; full = false };
      auto = false;
      port = Rest;
      mask = 0x7F;
    }

-- "Drives start released"; SCL is held for so many ticks
abbrev pub fresh_bus : ℕ → Bus → Bus
fresh_bus hold b =
    record { outscl = b.outscl; outsda = b.outsda; intin = b.intin; drivescl = true; drivesda = true; busy = false; hold = hold; idle = 0; lowscl = 0; lowsda = 0 }

abbrev pub fresh_arb : Arbitration
fresh_arb = record { last = None; initfail = false; switch = Apart; reserve = 0; turn = Nobody }

unfoldable pub was_reset : ℕ → Device → Device
was_reset hold d = record { side0 = fresh_side; side1 = fresh_side; bus = fresh_bus hold d.bus; arb = fresh_arb; kind = d.kind }

-- "If the sender of a soft reset had SMBUS_SWRST set, SCL is held low for 35 ticks afterwards .. Every other reset ends a running hold."
abbrev pub hold_ticks : ℕ
hold_ticks = 35

abbrev pub hold_asked : Side → ℕ
hold_asked s = if s.contr.swrst then hold_ticks else 0

-- "Power-up is a reset with all outside levels 1."
unfoldable pub power_up : Kind → Device
power_up k =
    record {
      side0 = fresh_side;
      side1 = fresh_side;
      bus = record { outscl = true; outsda = true; intin = true; drivescl = true; drivesda = true; busy = false; hold = 0; idle = 0; lowscl = 0; lowsda = 0 };
      arb = fresh_arb;
      kind = k;
    }

-- ---- part 1 of a step

unfoldable pub effect : Event → Device → Device
effect (Command m c) d = with_side m (commanded c (side m d)) d
effect (Write m v) d = written m v d
effect (Read m) d = was_read m d
effect (Stop m) d = with_side m (with_port Rest (side m d)) d
effect (Pair v0 v1) d = paired v0 v1 d
effect (Lines scl sda intin) d = lined scl sda intin d
effect Tick d = ticked d
effect (Pulse sda) d = d
effect Reset d = was_reset 0 d
effect (GeneralCall m b) d = if soft_reset b then was_reset (hold_asked (side m d)) d else d
