-- Document 01, "Events": how four bytes read as an event, with refusals 2 and 3, and which events a device takes, with refusal 4.
-- Assumes nothing.
use Rattle.std.specs.Prelude.{◌/◌, ◌%◌, ◌&&◌, ◌||◌, if◌then◌else◌}
use Rattle.arbiter.specs.Types.{ℕ, Bool, true, false, not, eqb, ltb, Master, Zero, One, Register, Id, Contr, Status, Rt, IntStatus, IntMask, MailLow, MailHigh, Raw, Event, Command, Write, Read, Stop, Pair, Lines, Tick, Pulse, Reset, GeneralCall, Outcome, Done, NotAcknowledged, OutOfSequence, Device, Result, Unread, Ok, Err, UnknownKind, BadField}
use Rattle.arbiter.specs.Words.{side}
use Rattle.arbiter.specs.State.{at_rest, for_writing, is_initialising}

-- ---- four bytes as an event

-- "unused fields are 0. m is 0 or 1", and so are levels
abbrev pub unused : ℕ → Bool
unused x = eqb x 0

abbrev pub zero_or_one : ℕ → Bool
zero_or_one x = ltb x 2

abbrev pub master : ℕ → Master
master x = if eqb x 0 then Zero else One

abbrev pub level : ℕ → Bool
level x = eqb x 1

-- the event if its fields are in range and its unused fields 0, else refusal 3
abbrev pub fitting : Bool → Event → Result Event Unread
fitting ok e = if ok then Ok e else Err BadField

-- the table of kinds; "Event order: 2, 3, 4"
unfoldable pub decode : Raw → Result Event Unread
decode r =
    if eqb r.kind 0 then fitting (zero_or_one r.x && unused r.z) (Command (master r.x) r.y)
    else if eqb r.kind 1 then fitting (zero_or_one r.x && unused r.z) (Write (master r.x) r.y)
    else if eqb r.kind 2 then fitting (zero_or_one r.x && unused r.y && unused r.z) (Read (master r.x))
    else if eqb r.kind 3 then fitting (zero_or_one r.x && unused r.y && unused r.z) (Stop (master r.x))
    else if eqb r.kind 4 then fitting (unused r.z) (Pair r.x r.y)
    else if eqb r.kind 5 then fitting (zero_or_one r.x && zero_or_one r.y && zero_or_one r.z) (Lines (level r.x) (level r.y) (level r.z))
    else if eqb r.kind 6 then fitting (unused r.x && unused r.y && unused r.z) Tick
    else if eqb r.kind 7 then fitting (zero_or_one r.x && unused r.y && unused r.z) (Pulse (level r.x))
    else if eqb r.kind 8 then fitting (unused r.x && unused r.y && unused r.z) Reset
    else if eqb r.kind 9 then fitting (zero_or_one r.x && unused r.z) (GeneralCall (master r.x) r.y)
    else Err UnknownKind

-- ---- which events a device takes

-- "PULSE outside initialisation, WRITE or PAIR without the port(s) open for writing, and STOP at rest are 4."
unfoldable pub in_sequence : Event → Device → Bool
in_sequence (Command m c) d = true
in_sequence (Write m v) d = for_writing (side m d).port
in_sequence (Read m) d = true
in_sequence (Stop m) d = not (at_rest (side m d).port)
in_sequence (Pair v0 v1) d = for_writing d.side0.port && for_writing d.side1.port
in_sequence (Lines scl sda intin) d = true
in_sequence Tick d = true
in_sequence (Pulse sda) d = is_initialising d.arb.switch
in_sequence Reset d = true
in_sequence (GeneralCall m b) d = true

-- COMMAND: "bits 6..3 not 0: not acknowledged"
abbrev pub good_command : ℕ → Bool
good_command c = eqb (c / 8 % 16) 0

-- WRITE: "pointer 0 is not acknowledged"
abbrev pub writable : Register → Bool
writable Id = false
writable Contr = true
writable Status = true
writable Rt = true
writable IntStatus = true
writable IntMask = true
writable MailLow = true
writable MailHigh = true

-- GENERAL CALL: "b = 06h soft reset; other b not acknowledged"
abbrev pub soft_reset : ℕ → Bool
soft_reset b = eqb b 0x06

unfoldable pub acknowledged : Event → Device → Bool
acknowledged (Command m c) d = good_command c
acknowledged (Write m v) d = writable (side m d).pointer
acknowledged (Read m) d = true
acknowledged (Stop m) d = true
acknowledged (Pair v0 v1) d = writable d.side0.pointer && writable d.side1.pointer
acknowledged (Lines scl sda intin) d = true
acknowledged Tick d = true
acknowledged (Pulse sda) d = true
acknowledged Reset d = true
acknowledged (GeneralCall m b) d = soft_reset b

unfoldable pub outcome : Event → Device → Outcome
outcome e d = if in_sequence e d then (if acknowledged e d then Done else NotAcknowledged) else OutOfSequence

-- ---- the paper's numbers: "0 / 1 done / not acknowledged", "2 / 3 / 4 unknown kind / field out of range or unused not 0 / out of sequence"

abbrev pub decoded_number : Result Event Unread → ℕ
decoded_number (Ok e) = 0
decoded_number (Err UnknownKind) = 2
decoded_number (Err BadField) = 3

abbrev pub outcome_number : Outcome → ℕ
outcome_number Done = 0
outcome_number NotAcknowledged = 1
outcome_number OutOfSequence = 4

-- ---- the same numbers, said of the bytes: the ten kinds, and each field by its use

abbrev pub is_of : ℕ → Raw → Bool
is_of kind r = eqb r.kind kind

-- the first field: of PAIR any byte, of TICK and RESET unused, of all others a master or a level
abbrev pub first_fits : Raw → Bool
first_fits r = is_of 4 r || (if is_of 6 r || is_of 8 r then unused r.x else zero_or_one r.x)

-- the second: of COMMAND, WRITE, PAIR and GENERAL CALL any byte, of LINES a level, of all others unused
abbrev pub second_fits : Raw → Bool
second_fits r = is_of 0 r || is_of 1 r || is_of 4 r || is_of 9 r || (if is_of 5 r then zero_or_one r.y else unused r.y)

-- the third: of LINES a level, of all others unused
abbrev pub third_fits : Raw → Bool
third_fits r = if is_of 5 r then zero_or_one r.z else unused r.z

unfoldable pub raw_number : Raw → ℕ
raw_number r =
    if not (ltb r.kind 10) then 2
    else if not (first_fits r && second_fits r && third_fits r) then 3
    else 0
