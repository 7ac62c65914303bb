-- Request #111, its words: what a mailbox holds, and what an event does to it, said of the event in the state that it meets. m's box is the one
-- that m reads; its sender is m's partner. The quotes are of document 01's line on mail, and of the ruling on #111 where that is said.
-- Assumes nothing.
use Rattle.std.specs.Prelude.{◌&&◌, ◌||◌, if◌then◌else◌}
use Rattle.mail.specs.Names.{ℕ, Bool, true, false, not, Master, Register, Id, Contr, Status, Rt, IntStatus, IntMask, MailLow, MailHigh, Mailbox, Device, Raw, Event, Command, Write, Read, Stop, Pair, Lines, Tick, Pulse, Reset, GeneralCall, partner, same_master, of, side, decode, is_mail_high, accepted, reset, Word, Result, Unread, Ok, Err, UnknownKind, BadField}

-- ---- a box in a state

abbrev pub box : Master → Device → Mailbox
box m d = (side m d).mail

abbrev pub full : Master → Device → Bool
full m d = (box m d).full

-- the word of these two bytes; the one that m's box holds, full or not
abbrev pub word : ℕ → ℕ → Word
word low high = record { low = low; high = high }

abbrev pub held : Master → Device → Word
held m d = word (box m d).low (box m d).high

-- the register that k's pointer names
abbrev pub at : Master → Device → Register
at k d = (side k d).pointer

-- ---- an event's bytes

-- k writes a byte with it: by its WRITE, or by its half of a PAIR
abbrev pub writes : Master → Event → Bool
writes k (Command m c) = false
writes k (Write m v) = same_master k m
writes k (Read m) = false
writes k (Stop m) = false
writes k (Pair v0 v1) = true
writes k (Lines scl sda intin) = false
writes k Tick = false
writes k (Pulse sda) = false
writes k Reset = false
writes k (GeneralCall m b) = false

-- the byte that k so writes
abbrev pub byte_of : Master → Event → ℕ
byte_of k (Command m c) = 0
byte_of k (Write m v) = v
byte_of k (Read m) = 0
byte_of k (Stop m) = 0
byte_of k (Pair v0 v1) = of k v0 v1
byte_of k (Lines scl sda intin) = 0
byte_of k Tick = 0
byte_of k (Pulse sda) = 0
byte_of k Reset = 0
byte_of k (GeneralCall m b) = 0

-- k reads with it
abbrev pub reads : Master → Event → Bool
reads k (Command m c) = false
reads k (Write m v) = false
reads k (Read m) = same_master k m
reads k (Stop m) = false
reads k (Pair v0 v1) = false
reads k (Lines scl sda intin) = false
reads k Tick = false
reads k (Pulse sda) = false
reads k Reset = false
reads k (GeneralCall m b) = false

-- ---- an event in a state

abbrev pub is_mail_low : Register → Bool
is_mail_low Id = false
is_mail_low Contr = false
is_mail_low Status = false
is_mail_low Rt = false
is_mail_low IntStatus = false
is_mail_low IntMask = false
is_mail_low MailLow = true
is_mail_low MailHigh = false

-- "a write to 6 or 7 goes to the partner's box": a byte of the sender's comes to 6 of m's box, or to 7
abbrev pub mails_low : Master → Event → Device → Bool
mails_low m e d = writes (partner m) e && is_mail_low (at (partner m) d)

abbrev pub mails_high : Master → Event → Device → Bool
mails_high m e d = writes (partner m) e && is_mail_high (at (partner m) d)

-- it is "acknowledged but dropped while that box is full"
abbrev pub drops : Master → Event → Device → Bool
drops m e d = (mails_low m e d || mails_high m e d) && full m d

-- a byte to 6 that is not dropped
abbrev pub lowers : Master → Event → Device → Bool
lowers m e d = mails_low m e d && not (full m d)

-- "Writing 7 fills it"; by the ruling "a fill is an accepted byte at 7 on a box not full, a half of PAIR too"
abbrev pub fills : Master → Event → Device → Bool
fills m e d = mails_high m e d && not (full m d)

-- "Reading 7 of one's own full box empties it"
abbrev pub takes : Master → Event → Device → Bool
takes m e d = reads m e && is_mail_high (at m d)

abbrev pub empties : Master → Event → Device → Bool
empties m e d = takes m e d && full m d

-- ---- the same of four bytes: they read as an event, it is in sequence, and it is such a one

abbrev pub drop_of : Master → Raw → Device → Bool
drop_of m r d = accepted (drops m) r d

abbrev pub low_write_of : Master → Raw → Device → Bool
low_write_of m r d = accepted (lowers m) r d

abbrev pub fill_of : Master → Raw → Device → Bool
fill_of m r d = accepted (fills m) r d

abbrev pub emptying_of : Master → Raw → Device → Bool
emptying_of m r d = accepted (empties m) r d

-- the byte that k writes with them
abbrev pub decoded_byte : Master → Result Event Unread → ℕ
decoded_byte k (Ok e) = byte_of k e
decoded_byte k (Err u) = 0

abbrev pub byte_by : Master → Raw → ℕ
byte_by k r = decoded_byte k (decode r)

-- ---- what they leave of m's box

-- "the bytes remain readable" when it is emptied; a reset leaves it empty with both bytes 0
abbrev pub box_after : Master → Raw → Device → Mailbox
box_after m r d =
    if reset r d then record { low = 0; high = 0; full = false }
    else record {
      low = if low_write_of m r d then byte_by (partner m) r else (box m d).low;
      high = if fill_of m r d then byte_by (partner m) r else (box m d).high;
      full = if fill_of m r d then true else if emptying_of m r d then false else full m d;
    }
