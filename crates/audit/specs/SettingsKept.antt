-- What changes a master's settings, its RT, the four bits of its CONTR that stay as they were written, and its INT_MSK: its own byte there, or a
-- reset, and nothing else. proofs/SettingsKept.antt proves it.
-- Assumes nothing.
use Rattle.std.specs.Prelude.{◌≡◌, ◌%◌, ◌&&◌}
use Rattle.ranges.specs.Names.{ℕ, Bool, true, false, not, List, eqb, Master, Register, Id, Contr, Status, Rt, IntStatus, IntMask, MailLow, MailHigh, Control, Device, Raw, Event, Command, Write, Read, Stop, Pair, Lines, Tick, Pulse, Reset, GeneralCall}
use Rattle.arbiter.specs.Words.{bit, same_master, of, side}
use Rattle.arbiter.specs.State.{owns}
use Rattle.arbiter.specs.Steps.{run_from}
use Rattle.arbiter.specs.AuditWords.{next, reserve_of, is_contr, accepted, reset, never, throughout}

-- ---- the settings

-- PRIORITY, SMBUS_DIS, IDLE_TIMER_DIS and SMBUS_SWRST
abbrev pub lasting_bits : Control → Bool × Bool × Bool × Bool
lasting_bits c = (c.priority, c.smbusdis, c.idletimer, c.swrst)

abbrev pub bits_of : Master → Device → Bool × Bool × Bool × Bool
bits_of m d = lasting_bits (side m d).contr

abbrev pub mask_of : Master → Device → ℕ
mask_of m d = (side m d).mask

-- ---- the bytes that change them

abbrev pub is_rt : Register → Bool
is_rt Id = false
is_rt Contr = false
is_rt Status = false
is_rt Rt = true
is_rt IntStatus = false
is_rt IntMask = false
is_rt MailLow = false
is_rt MailHigh = false

abbrev pub is_int_mask : Register → Bool
is_int_mask Id = false
is_int_mask Contr = false
is_int_mask Status = false
is_int_mask Rt = false
is_int_mask IntStatus = false
is_int_mask IntMask = true
is_int_mask MailLow = false
is_int_mask MailHigh = false

-- a byte of m's own, its WRITE or its half of a PAIR, with its pointer at such a register
abbrev pub writes_at : (Register → Bool) → Master → Event → Device → Bool
writes_at such m (Command k c) d = false
writes_at such m (Write k v) d = same_master m k && such (side m d).pointer
writes_at such m (Read k) d = false
writes_at such m (Stop k) d = false
writes_at such m (Pair v0 v1) d = such (side m d).pointer
writes_at such m (Lines scl sda intin) d = false
writes_at such m Tick d = false
writes_at such m (Pulse sda) d = false
writes_at such m Reset d = false
writes_at such m (GeneralCall k b) d = false

-- the byte
abbrev pub byte_by : Master → Event → ℕ
byte_by m (Command k c) = 0
byte_by m (Write k v) = v
byte_by m (Read k) = 0
byte_by m (Stop k) = 0
byte_by m (Pair v0 v1) = of m v0 v1
byte_by m (Lines scl sda intin) = 0
byte_by m Tick = 0
byte_by m (Pulse sda) = 0
byte_by m Reset = 0
byte_by m (GeneralCall k b) = 0

-- a byte of m's in CONTR, one in INT_MSK, and one in RT while m is not granted, which is stored
abbrev pub writes_to_contr : Master → Raw → Device → Bool
writes_to_contr m r d = accepted (writes_at is_contr m) r d

abbrev pub writes_to_mask : Master → Raw → Device → Bool
writes_to_mask m r d = accepted (writes_at is_int_mask m) r d

abbrev pub stores : Master → Event → Device → Bool
stores m e d = writes_at is_rt m e d && not (owns m d)

abbrev pub stores_rt : Master → Raw → Device → Bool
stores_rt m r d = accepted (stores m) r d

-- ---- one event, from any device

-- m's RT changes only by its own byte at register 3 while it is not granted, or by a reset.
abbrev pub RtKept : Type 0
RtKept = (m : Master) (d : Device) (r : Raw) → reset r d ≡ false → stores_rt m r d ≡ false → reserve_of m (next d r) ≡ reserve_of m d

-- Its four bits change only by its own byte in CONTR, or by a reset.
abbrev pub BitsKept : Type 0
BitsKept = (m : Master) (d : Device) (r : Raw) → reset r d ≡ false → writes_to_contr m r d ≡ false → bits_of m (next d r) ≡ bits_of m d

-- Its INT_MSK changes only by its own byte at register 5, or by a reset.
abbrev pub MaskKept : Type 0
MaskKept = (m : Master) (d : Device) (r : Raw) → reset r d ≡ false → writes_to_mask m r d ≡ false → mask_of m (next d r) ≡ mask_of m d

-- And they do change by these: to the byte v, to the bits of v, to v with bit 7 read as 0, and to what a reset leaves.
abbrev pub RtStored : Type 0
RtStored =
    (m : Master) (d : Device) (r : Raw) (v : ℕ) → accepted (λ (e : Event) (x : Device). stores m e x && eqb (byte_by m e) v) r d ≡ true
    → reserve_of m (next d r) ≡ v

abbrev pub BitsWritten : Type 0
BitsWritten =
    (m : Master) (d : Device) (r : Raw) (v : ℕ) → accepted (λ (e : Event) (x : Device). writes_at is_contr m e x && eqb (byte_by m e) v) r d ≡ true
    → bits_of m (next d r) ≡ (bit 7 v, bit 6 v, bit 5 v, bit 4 v)

abbrev pub MaskWritten : Type 0
MaskWritten =
    (m : Master) (d : Device) (r : Raw) (v : ℕ) → accepted (λ (e : Event) (x : Device). writes_at is_int_mask m e x && eqb (byte_by m e) v) r d ≡ true
    → mask_of m (next d r) ≡ v % 128

abbrev pub SettingsReset : Type 0
SettingsReset =
    (m : Master) (d : Device) (r : Raw) → reset r d ≡ true
    → (reserve_of m (next d r) ≡ 0) × (bits_of m (next d r) ≡ (false, false, false, false)) × (mask_of m (next d r) ≡ 0x7F)

-- The three together: nothing of the partner's touches a master's settings, but a reset.
abbrev pub SettingsKept : Type 0
SettingsKept = RtKept × BitsKept × MaskKept

-- ---- every list of events, from any device

-- m's RT is what it was
abbrev pub rt_is : Master → ℕ → Device → Bool
rt_is m n d = eqb (reserve_of m d) n

abbrev pub RtKeptThroughout : Type 0
RtKeptThroughout =
    (m : Master) (d : Device) (rs : List Raw) → never reset d rs ≡ true → never (stores_rt m) d rs ≡ true
    → (throughout (rt_is m (reserve_of m d)) d rs ≡ true) × (reserve_of m (run_from d rs) ≡ reserve_of m d)

abbrev pub BitsKeptThroughout : Type 0
BitsKeptThroughout =
    (m : Master) (d : Device) (rs : List Raw) → never reset d rs ≡ true → never (writes_to_contr m) d rs ≡ true → bits_of m (run_from d rs) ≡ bits_of m d
