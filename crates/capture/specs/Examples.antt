-- Captures where 02's words could be read in two ways, and what is given. They are of bus 0, with bus 1 idle, unless a row says otherwise.
-- The device's address is 70h: E0h writes to it and E1h reads. proofs/Examples.antt proves the table whole.
-- Assumes nothing.
use Rattle.std.specs.Prelude.{◌≡◌, ◌*◌, ◌%◌, ◌∷◌, ◌++◌, if◌then◌else◌}
use Rattle.capture.specs.Names.{ℕ, Bool, true, false, List, [], map, bit}
use Rattle.capture.specs.Import.{import_number, buffer_by}

-- ---- a capture in pieces

-- both lines high: SCL0 and SDA0 are bits 0 and 1, and bus 1 adds 0Ch
abbrev pub idle : ℕ
idle = 0x0F

abbrev pub clock : Bool → List ℕ
clock b = if b then 0x0E ∷ 0x0F ∷ [] else 0x0C ∷ 0x0D ∷ []

-- eight bits of v and the ninth, low for an acknowledged byte
abbrev pub byte_with : Bool → ℕ → List ℕ
byte_with ninth v =
    clock (bit 7 v) ++ clock (bit 6 v) ++ clock (bit 5 v) ++ clock (bit 4 v) ++ clock (bit 3 v) ++ clock (bit 2 v) ++ clock (bit 1 v) ++ clock (bit 0 v) ++ clock ninth

abbrev pub byte : ℕ → List ℕ
byte v = byte_with false v

-- START from idle, or after a byte with one clock; STOP with one clock
abbrev pub start : List ℕ
start = 0x0D ∷ []

abbrev pub start_again : List ℕ
start_again = 0x0E ∷ 0x0F ∷ 0x0D ∷ []

abbrev pub stop : List ℕ
stop = 0x0C ∷ 0x0D ∷ 0x0F ∷ []

-- COMMAND 01h, left without its STOP
abbrev pub command : List ℕ
command = start ++ byte 0xE0 ++ byte 0x01

-- both buses in step
abbrev pub on_both : List ℕ → List ℕ
on_both samples = map (λ (x : ℕ). x % 4 * 5) samples

-- ---- a row: the number with so much room and the events' bytes, and what they should be

pub record Row : Type 0 where
  pub found : List ℕ
  pub wanted : List ℕ

abbrev pub answer : ℕ → List ℕ → List ℕ
answer room samples = import_number 0x70 samples room ∷ buffer_by (import_number 0x70 samples room) 0x70 samples []

infix 15 ◌gives◌
abbrev pub ◌gives◌ : List ℕ → List ℕ → Row
samples gives wanted = record { found = answer 400 samples; wanted = wanted }

unfoldable pub examples : List Row
examples =
    -- SDA that falls as SCL rises is a bit and no START
    ((idle ∷ 0x0E ∷ 0x0D ∷ 0x0C ∷ 0x0E ∷ 0x0F ∷ (command ++ stop)) gives (0 ∷ 0 ∷ 0 ∷ 1 ∷ 0 ∷ 3 ∷ 0 ∷ 0 ∷ 0 ∷ []))
    -- a STOP while the ninth clock is still high: no clock since the byte
    ∷ ((idle ∷ (command ++ 0x0F ∷ [])) gives (0 ∷ 0 ∷ 0 ∷ 1 ∷ 0 ∷ 3 ∷ 0 ∷ 0 ∷ 0 ∷ []))
    -- an end one clock after a byte is not inside one, and with two it is; 12 comes before 9
    ∷ ((idle ∷ (command ++ clock true)) gives (0 ∷ 0 ∷ 0 ∷ 1 ∷ 0 ∷ []))
    ∷ record { found = answer 0 (idle ∷ (command ++ clock true ++ clock true)); wanted = 12 ∷ [] }
    -- a STOP inside a byte for another device
    ∷ ((idle ∷ (start ++ byte 0xE2 ++ clock true ++ stop)) gives (12 ∷ []))
    -- clocks before a START, and a START with its STOP at once
    ∷ ((idle ∷ (clock true ++ clock true ++ clock true ++ start ++ 0x0F ∷ (command ++ stop))) gives (0 ∷ 0 ∷ 0 ∷ 1 ∷ 0 ∷ 3 ∷ 0 ∷ 0 ∷ 0 ∷ []))
    -- no START leads into the first sample
    ∷ ((0x0D ∷ (byte 0xE0 ++ byte 0x01 ++ stop)) gives (0 ∷ []))
    -- the STOP is given, though another device was addressed in between
    ∷ ((idle ∷ (command ++ start_again ++ byte 0xE2 ++ byte 0x07 ++ stop)) gives (0 ∷ 0 ∷ 0 ∷ 1 ∷ 0 ∷ 3 ∷ 0 ∷ 0 ∷ 0 ∷ []))
    -- the first data byte of a general call alone; it leaves the STOP due
    ∷ ((idle ∷ (command ++ start_again ++ byte 0x00 ++ byte 0x06 ++ byte 0x07 ++ stop)) gives (0 ∷ 0 ∷ 0 ∷ 1 ∷ 0 ∷ 9 ∷ 0 ∷ 6 ∷ 0 ∷ 3 ∷ 0 ∷ 0 ∷ 0 ∷ []))
    -- 01h is another address, and a transfer without COMMAND or READ has no STOP
    ∷ ((idle ∷ (start ++ byte 0x01 ++ byte 0x06 ++ stop)) gives (0 ∷ []))
    -- nobody acknowledges: the ninth bit is ignored, and every data byte after the first is a WRITE
    ∷ ((idle ∷ (start ++ byte_with true 0xE0 ++ byte_with true 0x01 ++ byte_with true 0x05 ++ byte_with true 0x06 ++ stop)) gives (0 ∷ 0 ∷ 0 ∷ 1 ∷ 0 ∷ 1 ∷ 0 ∷ 5 ∷ 0 ∷ 1 ∷ 0 ∷ 6 ∷ 0 ∷ 3 ∷ 0 ∷ 0 ∷ 0 ∷ []))
    -- both buses in step: COMMANDs stay apart, data writes are a PAIR
    ∷ (on_both (idle ∷ (command ++ byte 0x05 ++ stop)) gives (0 ∷ 0 ∷ 0 ∷ 1 ∷ 0 ∷ 0 ∷ 1 ∷ 1 ∷ 0 ∷ 4 ∷ 5 ∷ 5 ∷ 0 ∷ 3 ∷ 0 ∷ 0 ∷ 0 ∷ 3 ∷ 1 ∷ 0 ∷ 0 ∷ []))
    ∷ []

abbrev pub found : Row → List ℕ
found r = r.found

abbrev pub wanted : Row → List ℕ
wanted r = r.wanted

abbrev pub ExamplesHold : Type 0
ExamplesHold = map found examples ≡ map wanted examples
