-- Request 104, both buses: how what they give is put in order and paired, and the four bytes of an event.
-- Assumes nothing.
use Rattle.std.specs.Prelude.{◌∷◌, ◌++◌, Option, Some, None}
use Rattle.capture.specs.Names.{ℕ, List, [], worth, of, Master, Zero, One, Raw, Event, Command, Write, Read, Stop, Pair, Lines, Tick, Pulse, Reset, GeneralCall, Given, Written, Gives}
use Rattle.arbiter.specs.Marks.{raw, command, write, read, stop, pair, lines, tick, pulse}
use Rattle.capture.specs.OneBus.{given}

-- ---- one sample: "Two data writes in one sample become PAIR; otherwise master 0 comes first."

abbrev pub from_one : Option Given → List Event
from_one None = []
from_one (Some (Written v)) = Write One v ∷ []
from_one (Some (Gives e)) = e ∷ []

abbrev pub beside_write : ℕ → Option Given → List Event
beside_write v None = Write Zero v ∷ []
beside_write v (Some (Written u)) = Pair v u ∷ []
beside_write v (Some (Gives e)) = Write Zero v ∷ e ∷ []

-- what the buses of masters 0 and 1 give
unfoldable pub together : Option Given → Option Given → List Event
together None h = from_one h
together (Some (Written v)) h = beside_write v h
together (Some (Gives e)) h = e ∷ from_one h

-- ---- all samples; both lists have one element a sample

unfoldable pub merged : List (Option Given) → List (Option Given) → List Event
merged [] hs = []
merged (g ∷ gs) [] = []
merged (g ∷ gs) (h ∷ hs) = together g h ++ merged gs hs

unfoldable pub captured : ℕ → List ℕ → List Event
captured address samples = merged (given Zero address samples) (given One address samples)

-- ---- an event's four bytes, with the numbers of 01's table

abbrev pub master_byte : Master → ℕ
master_byte m = of m 0 1

unfoldable pub raw_of : Event → Raw
raw_of (Command m c) = command (master_byte m) c
raw_of (Write m v) = write (master_byte m) v
raw_of (Read m) = read (master_byte m)
raw_of (Stop m) = stop (master_byte m)
raw_of (Pair v0 v1) = pair v0 v1
raw_of (Lines scl sda intin) = lines (worth 1 scl) (worth 1 sda) (worth 1 intin)
raw_of Tick = tick
raw_of (Pulse sda) = pulse (worth 1 sda)
raw_of Reset = raw 8 0 0 0
raw_of (GeneralCall m b) = raw 9 (master_byte m) b 0

abbrev pub four_bytes : Raw → List ℕ
four_bytes r = r.kind ∷ r.x ∷ r.y ∷ r.z ∷ []

unfoldable pub event_bytes : List Event → List ℕ
event_bytes [] = []
event_bytes (e ∷ rest) = four_bytes (raw_of e) ++ event_bytes rest
