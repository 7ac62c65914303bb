-- Numbers of four and of eight bytes, the low byte first, and the numbers that stand for what a byte is for.
-- Assumes nothing.
use Rattle.std.specs.Prelude.{ℕ, ◌+◌, ◌*◌, ◌/◌, ◌%◌, List, [], ◌∷◌, ◌++◌, eqb, if◌then◌else◌}
use Rattle.capture.specs.declared.Awaited.{Awaited}
use Rattle.capture.specs.declared.Awaited.TheVariants.{NoByte, AddressByte, CommandByte, WriteByte, ReadByte, CallByte, SkippedByte}
use Rattle.layout.specs.Layout.{word_at}

-- ---- written

abbrev pub word_bytes : ℕ → List ℕ
word_bytes n = n % 256 ∷ n / 256 ∷ []

abbrev pub double_bytes : ℕ → List ℕ
double_bytes n = word_bytes (n % 65536) ++ word_bytes (n / 65536)

abbrev pub long_bytes : ℕ → List ℕ
long_bytes n = double_bytes (n % 4294967296) ++ double_bytes (n / 4294967296)

-- ---- read

abbrev pub double_at : ℕ → List ℕ → ℕ
double_at at b = word_at at b + 65536 * word_at (at + 2) b

abbrev pub long_at : ℕ → List ℕ → ℕ
long_at at b = double_at at b + 4294967296 * double_at (at + 4) b

-- ---- what the byte in hand is for

unfoldable pub awaited_number : Awaited → ℕ
awaited_number NoByte = 0
awaited_number AddressByte = 1
awaited_number CommandByte = 2
awaited_number WriteByte = 3
awaited_number ReadByte = 4
awaited_number CallByte = 5
awaited_number SkippedByte = 6

abbrev pub awaited_of : ℕ → Awaited
awaited_of v =
    if eqb v 0 then NoByte
    else if eqb v 1 then AddressByte
    else if eqb v 2 then CommandByte
    else if eqb v 3 then WriteByte
    else if eqb v 4 then ReadByte
    else if eqb v 5 then CallByte
    else SkippedByte
