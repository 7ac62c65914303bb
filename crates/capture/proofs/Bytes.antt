-- An event's four bytes read as that event, and the bytes of several read as those events.
-- Assumes nothing.
use Prim.Native.Nat.{ℕ, ◌*◌}
use mathlib.Core.Path.{◌≡◌, refl, ap}
use mathlib.Core.Bool.{true, false}
use mathlib.Core.List.{List, [], ◌∷◌, ◌++◌, map}
use native.Mathlib.Omega.{arith}
use lib.ListN.{length}
use Rattle.arbiter.specs.Events.{decode}
use Rattle.arbiter.specs.Traces.{raws_in}
use Rattle.capture.specs.Names.{Zero, One, Raw, Event, Command, Write, Read, Stop, Pair, Lines, Tick, Pulse, Reset, GeneralCall}
use Rattle.capture.specs.Events.{raw_of, four_bytes, event_bytes}
use Rattle.capture.specs.Answers.{EventsReadBack}

-- what an import writes is what 01 reads
pub events_read_back : EventsReadBack
unfolding decode raw_of
events_read_back (Command Zero c) = refl
events_read_back (Command One c) = refl
events_read_back (Write Zero v) = refl
events_read_back (Write One v) = refl
events_read_back (Read Zero) = refl
events_read_back (Read One) = refl
events_read_back (Stop Zero) = refl
events_read_back (Stop One) = refl
events_read_back (Pair v0 v1) = refl
events_read_back (Lines true true true) = refl
events_read_back (Lines true true false) = refl
events_read_back (Lines true false true) = refl
events_read_back (Lines true false false) = refl
events_read_back (Lines false true true) = refl
events_read_back (Lines false true false) = refl
events_read_back (Lines false false true) = refl
events_read_back (Lines false false false) = refl
events_read_back Tick = refl
events_read_back (Pulse true) = refl
events_read_back (Pulse false) = refl
events_read_back Reset = refl
events_read_back (GeneralCall Zero b) = refl
events_read_back (GeneralCall One b) = refl

pub all_read_back : (es : List Event) → raws_in (length es) (event_bytes es) ≡ map raw_of es
unfolding raws_in event_bytes
all_read_back [] = refl
all_read_back (e ∷ es) = ap (λ (rs : List Raw). raw_of e ∷ rs) (all_read_back es)

-- ---- bytes in a row

pub bytes_append : (p q : List Event) → event_bytes (p ++ q) ≡ event_bytes p ++ event_bytes q
unfolding event_bytes
bytes_append [] q = refl
bytes_append (e ∷ p) q = ap (λ (l : List ℕ). four_bytes (raw_of e) ++ l) (bytes_append p q)

-- four an event
pub bytes_length : (es : List Event) → length (event_bytes es) ≡ 4 * length es
unfolding event_bytes
bytes_length [] = refl
bytes_length (e ∷ es) = let h = bytes_length es in omega (arith, h)
