-- Document 01, "Marked examples", as one table of what the definitions give and what the paper says; and in a second one "Readings we have
-- already paid for", the winner table seen from outside, and M1's trace written, converted and damaged. proofs/Marks.antt proves each whole.
-- Assumes nothing.
use Rattle.std.specs.Prelude.{◌≡◌, take, ◌∷◌, ◌++◌}
use Prim.Native.Char.{code}
use Prim.Native.String.{String, [] as empty, ◌∷◌ as ◌then◌}
use Rattle.arbiter.specs.Types.{ℕ, zero, suc, List, [], map, Zero, One, LastGranted, Turn, Claims, Kind, Pca9641, Tpt29641, Raw, Answer, Option, Some, None}
use Rattle.arbiter.specs.Straps.{pins, address_of}
use Rattle.arbiter.specs.Steps.{step, run}
use Rattle.arbiter.specs.Traces.{events_in}
use Rattle.arbiter.specs.Listing.{listing}
use Rattle.arbiter.specs.OldTraces.{converted_bytes}
use Rattle.arbiter.specs.Writing.{trace_of}

-- ---- a row: what is found, and what the paper says

pub data Shown : Type 0 where
  text : List ℕ → Shown
  answers : Answer → Shown
  turn : Turn → Shown
  strapped : Option ℕ → Shown

infix 15 ◌is◌
pub record Row : Type 0 where
  pub found : Shown
  pub paper : Shown

abbrev pub ◌is◌ : Shown → Shown → Row
x is y = record { found = x; paper = y }

-- ---- the ten events, with the numbers of 01's table; m is 0 or 1

abbrev pub raw : ℕ → ℕ → ℕ → ℕ → Raw
raw kind x y z = record { kind = kind; x = x; y = y; z = z }

abbrev pub command : ℕ → ℕ → Raw
command m c = raw 0 m c 0

abbrev pub write : ℕ → ℕ → Raw
write m v = raw 1 m v 0

abbrev pub read : ℕ → Raw
read m = raw 2 m 0 0

abbrev pub stop : ℕ → Raw
stop m = raw 3 m 0 0

abbrev pub pair : ℕ → ℕ → Raw
pair v0 v1 = raw 4 v0 v1 0

abbrev pub lines : ℕ → ℕ → ℕ → Raw
lines scl sda intin = raw 5 scl sda intin

abbrev pub tick : Raw
tick = raw 6 0 0 0

abbrev pub pulse : ℕ → Raw
pulse sda = raw 7 sda 0 0

abbrev pub reset : Raw
reset = raw 8 0 0 0

abbrev pub general_call : ℕ → ℕ → Raw
general_call m b = raw 9 m b 0

-- m sets register p to v, from COMMAND to STOP; both have CONTR open for writing; an event so often
abbrev pub sets : ℕ → ℕ → ℕ → List Raw
sets m p v = command m p ∷ write m v ∷ stop m ∷ []

abbrev pub both_at_contr : List Raw
both_at_contr = command 0 1 ∷ command 1 1 ∷ []

abbrev pub times : ℕ → Raw → List Raw
times zero e = []
times (suc n) e = e ∷ times n e

-- ---- what is asked of a fresh device

-- the answer to an event that comes after these events
abbrev pub answer_of : Kind → List Raw → Raw → Shown
answer_of k es e = answers (step (run k es) e).answer

infix 18 after◌on◌
abbrev pub after◌on◌ : List Raw → Raw → Shown
after es on e = answer_of Pca9641 es e

-- the same of the second source
infix 18 second◌on◌
abbrev pub second◌on◌ : List Raw → Raw → Shown
second es on e = answer_of Tpt29641 es e

abbrev pub turn_after : List Raw → Shown
turn_after es = turn (run Pca9641 es).arb.turn

-- ---- what the paper says

abbrev pub bytes : ℕ → ℕ → ℕ → ℕ → Shown
bytes outcome byte owner levels = answers (record { outcome = outcome; read = byte; owner = owner; lines = levels })

abbrev pub characters : String → List ℕ
characters empty = []
characters (c then s) = code c ∷ characters s

-- ---- M1 to M11

abbrev pub m1 : List ℕ
m1 = 0x04 ∷ 0 ∷ 0 ∷ 0 ∷ 0 ∷ 0x04 ∷ 0 ∷ 0 ∷ 0 ∷ 1 ∷ 0 ∷ 1 ∷ 0 ∷ 5 ∷ 0 ∷ 3 ∷ 0 ∷ 0 ∷ 0 ∷ 2 ∷ 0 ∷ 0 ∷ 0 ∷ 1 ∷ 0 ∷ []

abbrev pub reserve2 : List Raw
reserve2 = sets 0 3 2 ++ sets 0 1 0x01

abbrev pub initialising : List Raw
initialising = sets 0 1 0x0D

abbrev pub clock_stuck : List Raw
clock_stuck = sets 0 1 0x45 ++ lines 0 1 1 ∷ []

unfoldable pub marked : List Row
marked =
    -- M1 the listing, and a refused trace
    (text (listing m1) is text (characters "70 0004\n0000000C\n0000200C\n0000250C\n0007250C\n"))
    ∷ (text (listing (0x05 ∷ [])) is text (characters "R10\n"))
    -- M2 RT 2, bus idle: owner after one tick, lost at the second
    ∷ (after reserve2 on tick is bytes 0 0 0x21 0x0C)
    ∷ (after reserve2 ++ tick ∷ [] on tick is bytes 0 0 0x00 0x0C)
    -- M3 RT 2, START before the second tick: kept; lost in the LINES event that is the STOP
    ∷ (after reserve2 ++ tick ∷ lines 1 0 1 ∷ [] on tick is bytes 0 0 0x21 0x04)
    ∷ (after reserve2 ++ tick ∷ lines 1 0 1 ∷ tick ∷ [] on lines 1 1 1 is bytes 0 0 0x00 0x0C)
    -- M4 RT 0, idle timer off: owner after 255 idle ticks
    ∷ (after sets 0 1 0x01 ++ times 254 tick on tick is bytes 0 0 0x21 0x0C)
    -- M5 RT 0, idle timer on: owner after 100 idle ticks, lost at 101
    ∷ (after sets 0 1 0x21 ++ times 99 tick on tick is bytes 0 0 0x21 0x0C)
    ∷ (after sets 0 1 0x21 ++ times 100 tick on tick is bytes 0 0 0x00 0x0C)
    -- M6 PAIR of 01h to both CONTR: 0 claims; of 81h: 1 claims
    ∷ (turn_after (both_at_contr ++ pair 0x01 0x01 ∷ []) is turn (Claims Zero LastGranted))
    ∷ (turn_after (both_at_contr ++ pair 0x81 0x81 ∷ []) is turn (Claims One LastGranted))
    -- M7 CONTR written FFh, read before the STOP: FDh
    ∷ (after command 0 1 ∷ write 0 0xFF ∷ [] on read 0 is bytes 0 0xFD 0x20 0x0C)
    -- M8 COMMAND 08h: outcome 1; 81h: outcome 0
    ∷ (after [] on command 0 0x08 is bytes 1 0 0x00 0x0C)
    ∷ (after [] on command 0 0x81 is bytes 0 0 0x00 0x0C)
    -- M9 eight PULSE 0 then PULSE 1 closes the switch; nine PULSE 0 fail: the flag shows in STATUS
    ∷ (after initialising ++ times 8 (pulse 0) on pulse 1 is bytes 0 0 0x25 0x0C)
    ∷ (after initialising ++ times 8 (pulse 0) on pulse 0 is bytes 0 0 0x21 0x0C)
    ∷ (after initialising ++ times 9 (pulse 0) ++ command 0 2 ∷ [] on read 0 is bytes 0 0xCA 0x21 0x0C)
    -- M10 straps 1,0,0,0: refusal 8; straps 1,1,1,3: 0Fh
    ∷ (strapped (address_of (pins 1 0 0 0)) is strapped None)
    ∷ (text (listing (0x04 ∷ 1 ∷ 0 ∷ 0 ∷ 0 ∷ 0 ∷ 0 ∷ [])) is text (characters "R8\n"))
    ∷ (strapped (address_of (pins 1 1 1 3)) is strapped (Some 0x0F))
    -- M11 SMBUS_DIS set, SCL low: connected at 34 ticks, not at 35, still granted
    ∷ (after clock_stuck ++ times 33 tick on tick is bytes 0 0 0x25 0x08)
    ∷ (after clock_stuck ++ times 34 tick on tick is bytes 0 0 0x21 0x08)
    ∷ []

-- ---- readings we have already paid for

unfoldable pub paid_for : List Row
paid_for =
    -- RT 00h is not "already run out", with the partner waiting as on the day of the incident
    (after sets 0 1 0x01 ++ sets 1 1 0x01 ++ times 1000 tick on tick is bytes 0 0 0x21 0x0C)
    -- and its partner's turn comes with a reserve: RT 50
    ∷ (after sets 0 3 50 ++ sets 0 1 0x01 ++ sets 1 1 0x01 ++ times 48 tick on tick is bytes 0 0 0x21 0x0C)
    ∷ (after sets 0 3 50 ++ sets 0 1 0x01 ++ sets 1 1 0x01 ++ times 49 tick on tick is bytes 0 0 0x22 0x0C)
    -- a grant is given at the STOP, not with the LOCK_REQ byte
    ∷ (after command 0 1 ∷ [] on write 0 0x01 is bytes 0 0 0x20 0x0C)
    ∷ (after command 0 1 ∷ write 0 0x01 ∷ times 3 tick on stop 0 is bytes 0 0 0x21 0x0C)
    -- and to M6's claimant at its own STOP, whichever STOP comes first
    ∷ (after both_at_contr ++ pair 0x01 0x01 ∷ [] on stop 1 is bytes 0 0 0x60 0x0C)
    ∷ (after both_at_contr ++ pair 0x01 0x01 ∷ stop 1 ∷ [] on stop 0 is bytes 0 0 0x61 0x0C)
    ∷ (after both_at_contr ++ pair 0x81 0x81 ∷ [] on stop 0 is bytes 0 0 0x60 0x0C)
    ∷ (after both_at_contr ++ pair 0x81 0x81 ∷ stop 0 ∷ [] on stop 1 is bytes 0 0 0x62 0x0C)
    -- the idle timer does not cut an unexpired reserve
    ∷ (after sets 0 3 200 ++ sets 0 1 0x21 ++ times 198 tick on tick is bytes 0 0 0x21 0x0C)
    ∷ (after sets 0 3 200 ++ sets 0 1 0x21 ++ times 199 tick on tick is bytes 0 0 0x00 0x0C)
    -- a released owner does not claim again before its waiting partner
    ∷ (after sets 0 1 0x01 ++ sets 1 1 0x01 ++ command 0 1 ∷ [] on write 0 0x00 is bytes 0 0 0x22 0x0C)
    ∷ (after sets 0 1 0x01 ++ sets 1 1 0x01 ++ command 0 1 ∷ write 0 0x00 ∷ write 0 0x01 ∷ [] on stop 0 is bytes 0 0 0x22 0x0C)
    -- a write pointer stays at 7: a second byte is still acknowledged; a read pointer goes to 0, the ID
    ∷ (after command 0 0x87 ∷ write 0 0x11 ∷ [] on write 0 0x22 is bytes 0 0 0x00 0x0C)
    ∷ (after command 0 0x87 ∷ read 0 ∷ [] on read 0 is bytes 0 0x38 0x00 0x0C)
    -- but the second source's rolls to 0, where a byte is not acknowledged and moves it to 1
    ∷ (second command 0 0x87 ∷ write 0 0x11 ∷ [] on write 0 0x22 is bytes 1 0 0x00 0x0C)
    ∷ (second command 0 0x87 ∷ write 0 0x11 ∷ write 0 0x22 ∷ write 0 0x01 ∷ [] on stop 0 is bytes 0 0 0x21 0x0C)
    -- so too in a PAIR, and the byte after that is CONTR's
    ∷ (second command 0 0x87 ∷ command 1 0x87 ∷ pair 0x11 0x22 ∷ [] on pair 0x33 0x44 is bytes 1 0 0x00 0x0C)
    ∷ (second command 0 0x87 ∷ command 1 0x87 ∷ pair 0x11 0x22 ∷ pair 0x33 0x44 ∷ pair 0x01 0x00 ∷ [] on stop 0 is bytes 0 0 0x21 0x0C)
    -- and its idle timer, M5: owner after 150 idle ticks, lost at 151; so too after a reset
    ∷ (second sets 0 1 0x21 ++ times 149 tick on tick is bytes 0 0 0x21 0x0C)
    ∷ (second sets 0 1 0x21 ++ times 150 tick on tick is bytes 0 0 0x00 0x0C)
    ∷ (second raw 8 0 0 0 ∷ sets 0 1 0x21 ++ times 149 tick on tick is bytes 0 0 0x21 0x0C)
    -- a timer set late: at 150 idle ticks the grant stays, at 151 it ends in that WRITE
    ∷ (second sets 0 1 0x01 ++ times 150 tick ++ command 0 1 ∷ [] on write 0 0x21 is bytes 0 0 0x21 0x0C)
    ∷ (second sets 0 1 0x01 ++ times 151 tick ++ command 0 1 ∷ [] on write 0 0x21 is bytes 0 0 0x00 0x0C)
    ∷ []

-- ---- the winner table, seen from outside: both ask in one PAIR, and both stop

-- nobody, or m alone, was granted before
abbrev pub never : List Raw
never = []

abbrev pub was : ℕ → List Raw
was m = sets m 1 0x01 ++ sets m 1 0x00

abbrev pub contest : List Raw → ℕ → ℕ → Shown
contest before v0 v1 = after before ++ both_at_contr ++ pair v0 v1 ∷ stop 0 ∷ [] on stop 1

-- by priority, and by last granted
abbrev pub by_priority0 : Shown
by_priority0 = bytes 0 0 0x41 0x0C

abbrev pub by_priority1 : Shown
by_priority1 = bytes 0 0 0x42 0x0C

abbrev pub by_last0 : Shown
by_last0 = bytes 0 0 0x61 0x0C

abbrev pub by_last1 : Shown
by_last1 = bytes 0 0 0x62 0x0C

unfoldable pub contests : List Row
contests =
    -- row 00: 0,1,0
    (contest never 0x01 0x01 is by_last0)
    ∷ (contest (was 0) 0x01 0x01 is by_last1)
    ∷ (contest (was 1) 0x01 0x01 is by_last0)
    -- row 01: 1,1,1
    ∷ (contest never 0x01 0x81 is by_priority1)
    ∷ (contest (was 0) 0x01 0x81 is by_priority1)
    ∷ (contest (was 1) 0x01 0x81 is by_priority1)
    -- row 10: 0,0,0
    ∷ (contest never 0x81 0x01 is by_priority0)
    ∷ (contest (was 0) 0x81 0x01 is by_priority0)
    ∷ (contest (was 1) 0x81 0x01 is by_priority0)
    -- row 11: 1,1,0
    ∷ (contest never 0x81 0x81 is by_last1)
    ∷ (contest (was 0) 0x81 0x81 is by_last1)
    ∷ (contest (was 1) 0x81 0x81 is by_last0)
    ∷ []

-- ---- M1's trace without its kind of part or with a wrong one, and written: requests #101 and #105

-- as it was before #105
abbrev pub old_m1 : List ℕ
old_m1 = take 23 m1

unfoldable pub sections : List Row
sections =
    -- "10 for a count other than 1, 3 as a whole-call refusal for another kind", and 7 for a byte after that; an old trace is refused with 5
    (text (listing (old_m1 ++ 0x02 ∷ 0x00 ∷ [])) is text (characters "R10\n"))
    ∷ (text (listing (old_m1 ++ 0x01 ∷ 0x02 ∷ [])) is text (characters "R3\n"))
    ∷ (text (listing (m1 ++ 0x00 ∷ [])) is text (characters "R7\n"))
    ∷ (text (listing old_m1) is text (characters "R5\n"))
    -- "an accepted old trace with 01 00 added": M1's own, in the 25 bytes that it wants, and nothing in 24
    ∷ (text (converted_bytes old_m1 25) is text m1)
    ∷ (text (converted_bytes old_m1 24) is text [])
    -- its pins and events written
    ∷ (text (trace_of (pins 0 0 0 0) (events_in 4 m1) Pca9641) is text m1)
    ∷ []

-- ---- the two statements: every row's finding is what the paper says

abbrev pub AsThePaper : List Row → Type 0
AsThePaper rows = map (λ (r : Row). r.found) rows ≡ map (λ (r : Row). r.paper) rows

-- "M1 to M11 form a single table proved by one statement"
abbrev pub MarksHold : Type 0
MarksHold = AsThePaper marked

abbrev pub ReadingsHold : Type 0
ReadingsHold = AsThePaper (paid_for ++ contests ++ sections)
