-- Words that every other file uses: a byte and its bits, and what belongs to one of the two masters. The choice by a test is the library's.
-- Assumes nothing.
use Rattle.std.specs.Prelude.{◌+◌, ◌/◌, ◌%◌, ◌^◌, if◌then◌else◌}
use Rattle.arbiter.specs.Types.{ℕ, Bool, true, false, eqb, Master, Zero, One, Side, Bus, Arbitration, Device}

-- ---- a byte and its bits

-- bit k of a byte: is it 1?
abbrev pub bit : ℕ → ℕ → Bool
bit k v = eqb (v / 2 ^ k % 2) 1

-- what a bit of weight k adds to its byte
abbrev pub worth : ℕ → Bool → ℕ
worth k b = if b then k else 0

-- the byte of eight bits, bit 7 first
unfoldable pub byte_of : Bool → Bool → Bool → Bool → Bool → Bool → Bool → Bool → ℕ
byte_of b7 b6 b5 b4 b3 b2 b1 b0 =
    worth 128 b7 + worth 64 b6 + worth 32 b5 + worth 16 b4 + worth 8 b3 + worth 4 b2 + worth 2 b1 + worth 1 b0

-- ---- the two masters

abbrev pub partner : Master → Master
partner Zero = One
partner One = Zero

abbrev pub same_master : Master → Master → Bool
same_master Zero Zero = true
same_master Zero One = false
same_master One Zero = false
same_master One One = true

-- of two things, master 0's and master 1's, the one that is m's
abbrev pub of : {A : Type 0} → Master → A → A → A
of Zero x y = x
of One x y = y

-- m's port and registers
abbrev pub side : Master → Device → Side
side m d = of m d.side0 d.side1

-- the device d with m's side, its partner's side, the bus and the arbitration replaced
abbrev pub device : Master → Side → Side → Bus → Arbitration → Device → Device
device m s p b a d = record { side0 = of m s p; side1 = of m p s; bus = b; arb = a; kind = d.kind }
