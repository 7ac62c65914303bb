-- Document 01, "Registers, one set per master": what a master reads, when an output is asserted, and what a written byte does.
-- Assumes nothing.
use Rattle.std.specs.Prelude.{◌-◌, ◌%◌, ◌&&◌, ◌||◌, if◌then◌else◌}
use Rattle.arbiter.specs.Types.{ℕ, Bool, true, false, not, eqb, bit_and, bit_or, Master, Turn, Nobody, Register, Id, Contr, Status, Rt, IntStatus, IntMask, MailLow, MailHigh, Control, Side, Bus, Device}
use Rattle.arbiter.specs.Words.{bit, worth, byte_of, partner, side}
use Rattle.arbiter.specs.Parts.{with_bus_connect, with_contr, with_rt, with_ints, with_mask, with_mail, with_drives}
use Rattle.arbiter.specs.State.{owns, scl_high, sda_high, bus_hung}

-- ---- their numbers: "0 ID", "1 CONTR", "2 STATUS", "3 RT", "4 INT_STATUS", "5 INT_MSK", "6 and 7 mailbox low and high"

abbrev pub register_number : Register → ℕ
register_number Id = 0
register_number Contr = 1
register_number Status = 2
register_number Rt = 3
register_number IntStatus = 4
register_number IntMask = 5
register_number MailLow = 6
register_number MailHigh = 7

-- ---- as they are read

-- "1 CONTR: bit 7 PRIORITY, 6 SMBUS_DIS, 5 IDLE_TIMER_DIS (1 enables the idle timer), 4 SMBUS_SWRST, 3 BUS_INIT, 2 BUS_CONNECT, 1 LOCK_GRANT
-- (read only), 0 LOCK_REQ"
unfoldable pub contr_byte : Bool → Control → ℕ
contr_byte granted c =
    byte_of c.priority c.smbusdis c.idletimer c.swrst c.businit c.busconnect granted c.lockreq

-- "2 STATUS: 7 SDA and 6 SCL levels, 5 TEST_INT (reads 0), 4 own mailbox full, 3 partner's mailbox empty (so 1 after reset, H), 2 BUS_HUNG,
-- 1 BUS_INIT_FAIL (each a single flag shown to both masters, H), 0 partner granted"
unfoldable pub status_byte : Bool → Side → Side → Bus → Bool → ℕ
status_byte partnerGranted own other b initfail =
    byte_of (sda_high b) (scl_high b) false own.mail.full (not other.mail.full) (bus_hung b) initfail partnerGranted

-- "4 INT_STATUS: 6 hung, 5 mail full, 4 mail emptied, 3 test, 2 granted, 1 lost, 0 INT_IN", each as the byte that has this bit alone
abbrev pub hung_int : ℕ
hung_int = 0x40

abbrev pub mail_full_int : ℕ
mail_full_int = 0x20

abbrev pub mail_emptied_int : ℕ
mail_emptied_int = 0x10

abbrev pub test_int : ℕ
test_int = 0x08

abbrev pub granted_int : ℕ
granted_int = 0x04

abbrev pub lost_int : ℕ
lost_int = 0x02

abbrev pub int_in_int : ℕ
int_in_int = 0x01

-- the interrupts i with this one set too, if it happened
abbrev pub raised : ℕ → Bool → ℕ → ℕ
raised this happened i = bit_or i (worth this happened)

-- bits 5 to 0 are kept, "bit 6 equals BUS_HUNG"
abbrev pub int_status_byte : Bool → ℕ → ℕ
int_status_byte hung i = raised hung_int hung i

-- what a master reads of each register: whether it is granted, whether its partner is, its own side, its partner's, the bus and BUS_INIT_FAIL
unfoldable pub register_byte : Register → Bool → Bool → Side → Side → Bus → Bool → ℕ
register_byte Id granted partnerGranted own other b initfail = 0x38
register_byte Contr granted partnerGranted own other b initfail = contr_byte granted own.contr
register_byte Status granted partnerGranted own other b initfail = status_byte partnerGranted own other b initfail
register_byte Rt granted partnerGranted own other b initfail = own.rt
register_byte IntStatus granted partnerGranted own other b initfail = int_status_byte (bus_hung b) own.ints
register_byte IntMask granted partnerGranted own other b initfail = own.mask
register_byte MailLow granted partnerGranted own other b initfail = own.mail.low
register_byte MailHigh granted partnerGranted own other b initfail = own.mail.high

abbrev pub reads_at : Register → Master → Device → ℕ
reads_at r m d = register_byte r (owns m d) (owns (partner m) d) (side m d) (side (partner m) d) d.bus d.arb.initfail

-- "An output is asserted exactly if some status bit of 6 to 0 that is set has mask 0."
-- The bits of 6 to 0 that have mask 0 are those of 7Fh less the mask.
abbrev pub unmasked : ℕ → ℕ
unmasked mask = 0x7F - mask % 128

unfoldable pub is_asserted : Bool → ℕ → ℕ → Bool
is_asserted hung i mask = not (eqb (bit_and (int_status_byte hung i) (unmasked mask)) 0)

abbrev pub output : Master → Device → Bool
output m d = is_asserted (bus_hung d.bus) (side m d).ints (side m d).mask

-- ---- the end of a grant

-- "BUS_CONNECT is cleared whenever a grant ends"
abbrev pub disconnected : Side → Side
disconnected s = with_contr (with_bus_connect false s.contr) s

-- the drives are released "when the granted master writes BUS_CONNECT 1 or its grant ends"
abbrev pub released : Bus → Bus
released b = with_drives true true b

-- "Clearing LOCK_REQ while granted ends the grant in that byte."
abbrev pub withdraws : Bool → ℕ → Bool
withdraws granted v = granted && not (bit 0 v)

-- ---- as they are written: what a byte v does, by the register that it is written to. `granted` says that its writer is granted.

abbrev pub control_of : ℕ → Control
control_of v =
    record { priority = bit 7 v; smbusdis = bit 6 v; idletimer = bit 5 v; swrst = bit 4 v; businit = bit 3 v; busconnect = bit 2 v; lockreq = bit 0 v }

-- "INT_STATUS bits 5 to 0 stay until written 1"
abbrev pub cleared : ℕ → ℕ → ℕ
cleared v i = bit_and i (0x3F - v % 64)

-- to the writer's own registers: "A write of RT while granted is acknowledged and not stored"; "STATUS write: bit 5 = 1 sets the test
-- interrupt"; "5 INT_MSK .. bit 7 reads 0"; ID is read only, and mail goes to the partner
unfoldable pub own_written : Bool → Register → ℕ → Side → Side
own_written granted Id v s = s
own_written granted Contr v s = if withdraws granted v then disconnected (with_contr (control_of v) s) else with_contr (control_of v) s
own_written granted Status v s = with_ints (raised test_int (bit 5 v) s.ints) s
own_written granted Rt v s = if granted then s else with_rt v s
own_written granted IntStatus v s = with_ints (cleared v s.ints) s
own_written granted IntMask v s = with_mask (v % 128) s
own_written granted MailLow v s = s
own_written granted MailHigh v s = s

-- to the partner's side: "a write to 6 or 7 goes to the partner's box, acknowledged but dropped while that box is full. Writing 7 fills
-- it and sets the partner's bit 5."
abbrev pub mail_low : ℕ → Side → Side
mail_low v s = with_mail (record { low = v; high = s.mail.high; full = s.mail.full }) s

abbrev pub mail_high : ℕ → Side → Side
mail_high v s = with_ints (raised mail_full_int true s.ints) (with_mail (record { low = s.mail.low; high = v; full = true }) s)

unfoldable pub mail_written : Register → ℕ → Side → Side
mail_written Id v s = s
mail_written Contr v s = s
mail_written Status v s = s
mail_written Rt v s = s
mail_written IntStatus v s = s
mail_written IntMask v s = s
mail_written MailLow v s = if s.mail.full then s else mail_low v s
mail_written MailHigh v s = if s.mail.full then s else mail_high v s

-- to the drives: STATUS "bits 7 and 6 set the SDA and SCL drives (0 pulls low), only while the writer is granted with BUS_CONNECT 0; else
-- ignored". `connect` is the writer's BUS_CONNECT as it was.
unfoldable pub drives_written : Bool → Bool → Register → ℕ → Bus → Bus
drives_written granted connect Id v b = b
drives_written granted connect Contr v b = if granted && (bit 2 v || not (bit 0 v)) then released b else b
drives_written granted connect Status v b = if granted && not connect then with_drives (bit 6 v) (bit 7 v) b else b
drives_written granted connect Rt v b = b
drives_written granted connect IntStatus v b = b
drives_written granted connect IntMask v b = b
drives_written granted connect MailLow v b = b
drives_written granted connect MailHigh v b = b

-- to the turn
unfoldable pub turn_written : Bool → Register → ℕ → Turn → Turn
turn_written granted Id v t = t
turn_written granted Contr v t = if withdraws granted v then Nobody else t
turn_written granted Status v t = t
turn_written granted Rt v t = t
turn_written granted IntStatus v t = t
turn_written granted IntMask v t = t
turn_written granted MailLow v t = t
turn_written granted MailHigh v t = t
