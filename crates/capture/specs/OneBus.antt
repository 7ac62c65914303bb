-- Request 104, one bus by itself: a sample's levels, what two samples after each other show, the nine-clock byte, whom a transfer is for, and
-- what each sample gives.
-- Assumes nothing.
use Rattle.std.specs.Prelude.{◌+◌, ◌*◌, ◌/◌, ◌%◌, ◌&&◌, ◌||◌, ◌∷◌, if◌then◌else◌, Option, Some, None}
use Rattle.capture.specs.Names.{ℕ, Bool, true, false, not, List, [], map, eqb, ltb, bit, worth, of, Master, Command, Read, Stop, GeneralCall, Levels, Sign, Steady, Starts, Stops, Clocks, Awaited, NoByte, AddressByte, CommandByte, WriteByte, ReadByte, CallByte, SkippedByte, Listener, Given, Written, Gives}

-- ---- samples: "one byte a sample, bits 0 to 3 being SCL0, SDA0, SCL1, SDA1 .. bits 4 to 7 are ignored"

abbrev pub levels : Master → ℕ → Levels
levels m x = of m (record { scl = bit 0 x; sda = bit 1 x }) (record { scl = bit 2 x; sda = bit 3 x })

-- ---- what two samples after each other show

-- "START, nine-clock bytes and STOP follow the I2C-bus specification": SDA falls or rises while SCL is high, in the sample before and in
-- this one.
abbrev pub is_start : Levels → Levels → Bool
is_start was now = was.scl && now.scl && was.sda && not now.sda

abbrev pub is_stop : Levels → Levels → Bool
is_stop was now = was.scl && now.scl && not was.sda && now.sda

abbrev pub rises : Levels → Levels → Bool
rises was now = not was.scl && now.scl

-- "A bit is SDA in the sample where SCL rises."
unfoldable pub sign : Levels → Levels → Sign
sign was now =
    if is_start was now then Starts
    else if is_stop was now then Stops
    else if rises was now then Clocks now.sda
    else Steady

-- "The first sample is only a starting level": each later one is compared with the one before it.
unfoldable pub signs_after : Levels → List Levels → List Sign
signs_after was [] = []
signs_after was (now ∷ rest) = sign was now ∷ signs_after now rest

unfoldable pub signs : List Levels → List Sign
signs [] = []
signs (first ∷ rest) = signs_after first rest

-- ---- whom a transfer is for, and what its bytes are

-- The address byte: "byte 00h as address gives GENERAL CALL"; the upper seven bits are the address and bit 0 is the read bit; "Transfers to
-- other addresses are skipped".
unfoldable pub addressed : ℕ → ℕ → Awaited
addressed address v =
    if eqb v 0x00 then CallByte
    else if not (eqb (v / 2) address) then SkippedByte
    else if bit 0 v then ReadByte
    else CommandByte

-- The next byte: "a written transfer gives COMMAND then WRITE", "READ for each byte", "GENERAL CALL for its first data byte alone".
unfoldable pub awaited_after : ℕ → Awaited → ℕ → Awaited
awaited_after address NoByte v = NoByte
awaited_after address AddressByte v = addressed address v
awaited_after address CommandByte v = WriteByte
awaited_after address WriteByte v = WriteByte
awaited_after address ReadByte v = ReadByte
awaited_after address CallByte v = SkippedByte
awaited_after address SkippedByte v = SkippedByte

unfoldable pub byte_gives : Master → Awaited → ℕ → Option Given
byte_gives m NoByte v = None
byte_gives m AddressByte v = None
byte_gives m CommandByte v = Some (Gives (Command m v))
byte_gives m WriteByte v = Some (Written v)
byte_gives m ReadByte v = Some (Gives (Read m))
byte_gives m CallByte v = Some (Gives (GeneralCall m v))
byte_gives m SkippedByte v = None

-- "STOP is given only after a COMMAND or READ since that master's last STOP."
unfoldable pub owes : Awaited → Bool
owes NoByte = false
owes AddressByte = false
owes CommandByte = true
owes WriteByte = false
owes ReadByte = true
owes CallByte = false
owes SkippedByte = false

-- ---- one sign

-- "clocks outside START to STOP are ignored"
unfoldable pub is_outside : Awaited → Bool
is_outside NoByte = true
is_outside AddressByte = false
is_outside CommandByte = false
is_outside WriteByte = false
is_outside ReadByte = false
is_outside CallByte = false
is_outside SkippedByte = false

-- "One rising clock before a START or STOP belongs to that condition; from the second on it is inside a byte."
abbrev pub inside : Listener → Bool
inside l = ltb 1 l.clocks

-- at the first sample: no transfer, and nothing owed
abbrev pub silent : Listener
silent = record { awaited = NoByte; clocks = 0; value = 0; owed = false; broken = false }

unfoldable pub started : Listener → Listener
started l = record { awaited = AddressByte; clocks = 0; value = 0; owed = l.owed; broken = l.broken || inside l }

unfoldable pub stopped : Listener → Listener
stopped l = record { awaited = NoByte; clocks = 0; value = 0; owed = false; broken = l.broken || inside l }

-- one of a byte's first eight clocks brings a bit, the highest first
unfoldable pub shifted : Bool → Listener → Listener
shifted b l = record { awaited = l.awaited; clocks = l.clocks + 1; value = l.value % 128 * 2 + worth 1 b; owed = l.owed; broken = l.broken }

-- the ninth ends the byte: "the ninth bit .. ignored"
unfoldable pub ended : ℕ → Listener → Listener
ended address l =
    record {
      awaited = awaited_after address l.awaited l.value;
      clocks = 0;
      value = 0;
      owed = l.owed || owes l.awaited;
      broken = l.broken;
    }

unfoldable pub at_clock : ℕ → Bool → Listener → Listener
at_clock address b l = if is_outside l.awaited then l else if ltb l.clocks 8 then shifted b l else ended address l

-- the listener after a sign
unfoldable pub heard : ℕ → Sign → Listener → Listener
heard address Steady l = l
heard address Starts l = started l
heard address Stops l = stopped l
heard address (Clocks b) l = at_clock address b l

-- "Events stand at the ninth rising clock, STOP at its sample."
unfoldable pub gives : Master → Sign → Listener → Option Given
gives m Steady l = None
gives m Starts l = None
gives m Stops l = if l.owed then Some (Gives (Stop m)) else None
gives m (Clocks b) l = if ltb l.clocks 8 then None else byte_gives m l.awaited l.value

-- ---- a whole capture on m's bus

abbrev pub signs_on : Master → List ℕ → List Sign
signs_on m samples = signs (map (levels m) samples)

unfoldable pub heard_from : ℕ → Listener → List Sign → Listener
heard_from address l [] = l
heard_from address l (s ∷ rest) = heard_from address (heard address s l) rest

unfoldable pub given_from : Master → ℕ → Listener → List Sign → List (Option Given)
given_from m address l [] = []
given_from m address l (s ∷ rest) = gives m s l ∷ given_from m address (heard address s l) rest

-- what each sample after the first gives
unfoldable pub given : Master → ℕ → List ℕ → List (Option Given)
given m address samples = given_from m address silent (signs_on m samples)

-- "a START or STOP inside a byte, or the capture ending inside one"
abbrev pub is_cut : Listener → Bool
is_cut l = l.broken || inside l

unfoldable pub cut_on : Master → ℕ → List ℕ → Bool
cut_on m address samples = is_cut (heard_from address silent (signs_on m samples))
