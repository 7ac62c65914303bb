-- Request #110 by example: one table of what the definitions give and what the request says. proofs/Examples.antt proves it whole.
-- Assumes nothing.
use Rattle.std.specs.Prelude.{◌≡◌, ◌∷◌, ◌++◌}
use Rattle.arbiter.specs.Marks.{raw, command, stop, pair, lines, tick, pulse, reset, general_call, sets, both_at_contr, times}
use Rattle.shelf.specs.Names.{ℕ, zero, suc, List, [], map, length, Pca9641, Raw, Answer, Record}
use Rattle.shelf.specs.Shelf.{shelf_answer, shelf_show}
use Rattle.shelf.specs.Runs.{Named, Slot, fresh_row, shelf_run}

-- ---- a row of the table: what is found, and what the request says

pub data Shown : Type 0 where
  one : Answer → Shown
  each : List Answer → Shown

infix 15 ◌is◌
pub record Row : Type 0 where
  pub found : Shown
  pub paper : Shown

abbrev pub ◌is◌ : Shown → Shown → Row
x is y = record { found = x; paper = y }

-- ---- shelves

abbrev pub slot : ℕ → Slot
slot address = record { address = address; kind = Pca9641 }

-- fresh devices with these addresses
abbrev pub shelf : List ℕ → List Record
shelf roll = fresh_row (map slot roll)

-- n addresses from this one on; one address n times
abbrev pub run : ℕ → ℕ → List ℕ
run a zero = []
run a (suc n) = a ∷ run (suc a) n

abbrev pub alike : ℕ → ℕ → List ℕ
alike a zero = []
alike a (suc n) = a ∷ alike a n

-- these events, each with the same name
abbrev pub at : ℕ → List Raw → List Named
at name es = map (λ (r : Raw). let e : Named = record { name = name; event = r } in e) es

infix 18 ◌after◌
abbrev pub ◌after◌ : List Record → List Named → List Record
row after es = shelf_run row es

-- ---- what is asked of a shelf

-- the answer to one event
abbrev pub answered : List Record → ℕ → Raw → Shown
answered row name r = one (shelf_answer row name r)

abbrev pub shown : List Record → ℕ → Shown
shown row place = one (shelf_show row place)

-- what its places show, from place 0 on
abbrev pub places : List Record → Shown
places row = each (map (shelf_show row) (run 0 (length row)))

-- ---- what the request says

abbrev pub bytes : ℕ → ℕ → ℕ → ℕ → Answer
bytes outcome byte owner levels = record { outcome = outcome; read = byte; owner = owner; lines = levels }

abbrev pub says : ℕ → ℕ → ℕ → ℕ → Shown
says outcome byte owner levels = one (bytes outcome byte owner levels)

-- a device as it shows itself: its owner byte and its lines
abbrev pub stands : ℕ → ℕ → Answer
stands owner levels = bytes 0 0 owner levels

-- ---- the shelves of the table

abbrev pub two : List Record
two = shelf (0x70 ∷ 0x71 ∷ [])

-- the same address twice
abbrev pub twins : List Record
twins = shelf (0x70 ∷ 0x70 ∷ [])

abbrev pub crowd : List Record
crowd = shelf (alike 0x70 17)

abbrev pub sixteen : List Record
sixteen = shelf (run 0x70 16)

-- master 0 owns at place 0 alone, at place 1 alone
abbrev pub first_owned : List Record
first_owned = two after at 0x70 (sets 0 1 0x01)

abbrev pub second_owned : List Record
second_owned = two after at 0x71 (sets 0 1 0x01)

-- master 0's port is open on both
abbrev pub both_open : List Record
both_open = two after (at 0x70 (command 0 1 ∷ []) ++ at 0x71 (command 0 1 ∷ []))

-- both masters' ports are open for writing at 71h alone
abbrev pub pair_at71 : List Record
pair_at71 = two after at 0x71 both_at_contr

-- SMBUS_SWRST of master 0 is set at one of the two, and then comes a soft reset by master 0
abbrev pub soft_first : List Record
soft_first = two after (at 0x70 (sets 0 1 0x10) ++ at 0 (general_call 0 0x06 ∷ []))

abbrev pub soft_second : List Record
soft_second = two after (at 0x71 (sets 0 1 0x10) ++ at 0 (general_call 0 0x06 ∷ []))

-- the address 1 at place 0, and the address 0 at place 1
abbrev pub crossed : List Record
crossed = shelf (1 ∷ 0 ∷ [])

-- ---- the table

unfoldable pub examples : List Row
examples =
    -- 5 an empty row, whatever the event names
    (answered [] 0x70 (command 0 1) is says 5 0 0 0)
    ∷ (answered [] 0 tick is says 5 0 0 0)
    -- 6 above 16, before 17; 16 are taken
    ∷ (answered crowd 0x70 (command 0 1) is says 6 0 0 0)
    ∷ (answered crowd 0 tick is says 6 0 0 0)
    ∷ (answered sixteen 0 tick is says 0 0 0 0x0C)
    ∷ (answered sixteen 0x7F (command 0 1) is says 0 0 0 0x0C)
    -- 17 two equal addresses, before 18 and before 2 and 3, also for an event that names nothing or a place
    ∷ (answered twins 0x33 (command 0 1) is says 17 0 0 0)
    ∷ (answered twins 0 tick is says 17 0 0 0)
    ∷ (answered twins 0 (lines 0 1 1) is says 17 0 0 0)
    ∷ (answered twins 0 (raw 77 0 0 0) is says 17 0 0 0)
    ∷ (answered twins 0 (raw 6 1 0 0) is says 17 0 0 0)
    -- 18 an address or place not in the row, before 3 and 4
    ∷ (answered two 0x33 (command 0 1) is says 18 0 0 0)
    ∷ (answered two 0x33 (command 2 1) is says 18 0 0 0)
    ∷ (answered two 0x33 (stop 0) is says 18 0 0 0)
    ∷ (answered two 2 (raw 5 2 2 2) is says 18 0 0 0)
    ∷ (answered two 2 (pulse 0) is says 18 0 0 0)
    ∷ (answered two 0x70 (lines 0 1 1) is says 18 0 0 0)
    -- and in the row 01's own
    ∷ (answered two 0x70 (command 2 1) is says 3 0 0 0x0C)
    ∷ (answered two 0x71 (stop 0) is says 4 0 0 0x0C)
    ∷ (answered two 1 (pulse 0) is says 4 0 0 0x0C)
    -- an unknown kind names nothing, and answers 2 for place 0; so does a TICK with a bad field with 3
    ∷ (answered first_owned 0x33 (raw 77 0 0 0) is says 2 0 0x21 0x0C)
    ∷ (answered second_owned 0x71 (raw 77 0 0 0) is says 2 0 0 0x0C)
    ∷ (answered first_owned 0x33 (raw 6 1 0 0) is says 3 0 0x21 0x0C)
    ∷ (answered second_owned 0x71 (raw 6 1 0 0) is says 3 0 0 0x0C)
    -- an event that reaches all answers for place 0, and each device is readable by its place
    ∷ (answered first_owned 0 tick is says 0 0 0x21 0x0C)
    ∷ (answered second_owned 0 tick is says 0 0 0 0x0C)
    ∷ (places (second_owned after at 0 (tick ∷ [])) is each (stands 0 0x0C ∷ stands 0x21 0x0C ∷ []))
    ∷ (places (second_owned after at 0 (reset ∷ [])) is each (stands 0 0x0C ∷ stands 0 0x0C ∷ []))
    -- what is shown is refused like an event that names a place
    ∷ (shown [] 0 is says 5 0 0 0)
    ∷ (shown crowd 0 is says 6 0 0 0)
    ∷ (shown twins 2 is says 17 0 0 0)
    ∷ (shown two 2 is says 18 0 0 0)
    ∷ (shown second_owned 1 is says 0 0 0x21 0x0C)
    -- STOP reaches the named device alone: the other's port is still open
    ∷ (answered (both_open after at 0x71 (stop 0 ∷ [])) 0x71 (stop 0) is says 4 0 0 0x0C)
    ∷ (answered (both_open after at 0x71 (stop 0 ∷ [])) 0x70 (stop 0) is says 0 0 0 0x0C)
    -- PAIR names one address for both masters
    ∷ (answered pair_at71 0x71 (pair 0x01 0x00) is says 0 0 0x20 0x0C)
    ∷ (answered pair_at71 0x70 (pair 0x01 0x00) is says 4 0 0 0x0C)
    ∷ (places (pair_at71 after (at 0x71 (pair 0x01 0x00 ∷ stop 0 ∷ stop 1 ∷ []))) is each (stands 0 0x0C ∷ stands 0x21 0x0C ∷ []))
    -- a soft reset holds SCL by each device's own SMBUS_SWRST, for 35 ticks
    ∷ (places soft_first is each (stands 0 0x08 ∷ stands 0 0x0C ∷ []))
    ∷ (places soft_second is each (stands 0 0x0C ∷ stands 0 0x08 ∷ []))
    ∷ (places (soft_second after at 0 (times 34 tick)) is each (stands 0 0x0C ∷ stands 0 0x08 ∷ []))
    ∷ (places (soft_second after at 0 (times 35 tick)) is each (stands 0 0x0C ∷ stands 0 0x0C ∷ []))
    -- a place is no address: LINES at place 0 and COMMAND at address 0 reach two devices
    ∷ (places (crossed after at 0 (lines 0 1 1 ∷ [])) is each (stands 0 0x08 ∷ stands 0 0x0C ∷ []))
    ∷ (answered (crossed after at 0 (command 0 1 ∷ [])) 1 (stop 0) is says 4 0 0 0x0C)
    ∷ (answered (crossed after at 0 (command 0 1 ∷ [])) 0 (stop 0) is says 0 0 0 0x0C)
    ∷ (places (crossed after at 0 (sets 0 1 0x01)) is each (stands 0 0x0C ∷ stands 0x21 0x0C ∷ []))
    ∷ []

abbrev pub ExamplesHold : Type 0
ExamplesHold = map (λ (r : Row). r.found) examples ≡ map (λ (r : Row). r.paper) examples
