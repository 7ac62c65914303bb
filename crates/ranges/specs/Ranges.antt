-- The range of every field of the device record, as a run from power-up of a part of either kind can give it: field by field, each range
-- exact. proofs/Ranges.antt proves that no run leaves them, and RangeWitnesses has runs that reach every value in them.
-- Assumes nothing.
use Rattle.std.specs.Prelude.{◌≡◌, ◌+◌, ◌&&◌, ◌||◌, ◌∷◌, ◌++◌}
use Rattle.ranges.specs.Names.{ℕ, Bool, true, false, not, List, [], ltb, Master, Zero, One, Sole, Priority, LastGranted, Turn, Nobody, Claims, Owns, Port, Rest, Open, Writing, IntStatus, IntMask, Switch, Apart, Initialising, Closed, Kind, Device, Raw, Option, None, Some}
use Rattle.arbiter.specs.Rules.{limit_of}
use Rattle.arbiter.specs.Words.{bit, worth, of, side}
use Rattle.arbiter.specs.State.{bus_hung}
use Rattle.arbiter.specs.Registers.{register_number, reads_at, output}
use Rattle.arbiter.specs.Steps.{step, run}
use Rattle.arbiter.specs.AuditWords.{next}

-- ---- a field as a number, from 0 to its top, which the kind of part may decide

pub record Field : Type 0 where
  pub value : Device → ℕ
  pub top : Kind → ℕ

infix 15 ◌up_to◌
abbrev pub ◌up_to◌ : (Device → ℕ) → ℕ → Field
value up_to top = record { value = value; top = λ (k : Kind). top }

-- ---- the fields that are numbers

-- INT_STATUS keeps its bits 5 to 0, and INT_MSK its bits 6 to 0
abbrev pub side_narrow : Master → List Field
side_narrow m =
    ((λ (d : Device). (side m d).ints) up_to 63)
    ∷ ((λ (d : Device). (side m d).mask) up_to 127)
    ∷ []

-- the PULSEs of 0 that an initialisation has had: the ninth ends it
abbrev pub pulses : Switch → ℕ
pulses Apart = 0
pulses (Initialising m n) = n
pulses (Closed m) = 0

-- the shared counts but the reserve's: the hold, the idle count up to the part's limit, the low counts of SCL and SDA, the PULSEs
abbrev pub shared_narrow : List Field
shared_narrow =
    ((λ (d : Device). d.bus.hold) up_to 35)
    ∷ record { value = λ (d : Device). d.bus.idle; top = limit_of }
    ∷ ((λ (d : Device). d.bus.lowscl) up_to 500)
    ∷ ((λ (d : Device). d.bus.lowsda) up_to 501)
    ∷ ((λ (d : Device). pulses d.arb.switch) up_to 8)
    ∷ []

abbrev pub narrow : List Field
narrow = side_narrow Zero ++ side_narrow One ++ shared_narrow

-- RT, the two bytes of the mailbox and the reserve count, which begins as RT, hold a byte as it was written
abbrev pub side_bytes : Master → List Field
side_bytes m =
    ((λ (d : Device). (side m d).rt) up_to 255)
    ∷ ((λ (d : Device). (side m d).mail.low) up_to 255)
    ∷ ((λ (d : Device). (side m d).mail.high) up_to 255)
    ∷ []

abbrev pub bytes : List Field
bytes = side_bytes Zero ++ side_bytes One ++ ((λ (d : Device). d.arb.reserve) up_to 255) ∷ []

-- ---- the fields that are no numbers: every value of their type is in range. They are numbered here to be listed with the others.

abbrev pub flag : (Device → Bool) → Field
flag on = (λ (d : Device). worth 1 (on d)) up_to 1

abbrev pub port_number : Port → ℕ
port_number Rest = 0
port_number Open = 1
port_number Writing = 2

abbrev pub last_number : Option Master → ℕ
last_number None = 0
last_number (Some Zero) = 1
last_number (Some One) = 2

-- nobody; master 0 claims, master 1 claims, master 0 owns, master 1 owns, each on one of the three grounds
abbrev pub turn_number : Turn → ℕ
turn_number Nobody = 0
turn_number (Claims Zero Sole) = 1
turn_number (Claims Zero Priority) = 2
turn_number (Claims Zero LastGranted) = 3
turn_number (Claims One Sole) = 4
turn_number (Claims One Priority) = 5
turn_number (Claims One LastGranted) = 6
turn_number (Owns Zero Sole) = 7
turn_number (Owns Zero Priority) = 8
turn_number (Owns Zero LastGranted) = 9
turn_number (Owns One Sole) = 10
turn_number (Owns One Priority) = 11
turn_number (Owns One LastGranted) = 12

-- apart; closed for master 0 and for master 1; initialising for each, by its PULSEs
abbrev pub state_number : Switch → ℕ
state_number Apart = 0
state_number (Closed Zero) = 1
state_number (Closed One) = 2
state_number (Initialising Zero n) = 3 + n
state_number (Initialising One n) = 12 + n

-- the pointer, the seven stored bits of CONTR, the mailbox's full flag, auto-increment and the port
abbrev pub side_choices : Master → List Field
side_choices m =
    ((λ (d : Device). register_number (side m d).pointer) up_to 7)
    ∷ flag (λ (d : Device). (side m d).contr.priority)
    ∷ flag (λ (d : Device). (side m d).contr.smbusdis)
    ∷ flag (λ (d : Device). (side m d).contr.idletimer)
    ∷ flag (λ (d : Device). (side m d).contr.swrst)
    ∷ flag (λ (d : Device). (side m d).contr.businit)
    ∷ flag (λ (d : Device). (side m d).contr.busconnect)
    ∷ flag (λ (d : Device). (side m d).contr.lockreq)
    ∷ flag (λ (d : Device). (side m d).mail.full)
    ∷ flag (λ (d : Device). (side m d).auto)
    ∷ ((λ (d : Device). port_number (side m d).port) up_to 2)
    ∷ []

-- the outside levels, the drives, busy, BUS_INIT_FAIL, the last granted, the turn with its ground, and the switch with its PULSEs. The kind
-- of part is the run's own.
abbrev pub shared_choices : List Field
shared_choices =
    flag (λ (d : Device). d.bus.outscl)
    ∷ flag (λ (d : Device). d.bus.outsda)
    ∷ flag (λ (d : Device). d.bus.intin)
    ∷ flag (λ (d : Device). d.bus.drivescl)
    ∷ flag (λ (d : Device). d.bus.drivesda)
    ∷ flag (λ (d : Device). d.bus.busy)
    ∷ flag (λ (d : Device). d.arb.initfail)
    ∷ ((λ (d : Device). last_number d.arb.last) up_to 2)
    ∷ ((λ (d : Device). turn_number d.arb.turn) up_to 12)
    ∷ ((λ (d : Device). state_number d.arb.switch) up_to 20)
    ∷ []

abbrev pub choices : List Field
choices = side_choices Zero ++ side_choices One ++ shared_choices

-- ---- the test

abbrev pub fits : Field → Device → Bool
fits f d = ltb (f.value d) (f.top d.kind + 1)

unfoldable pub all_fit : List Field → Device → Bool
all_fit [] d = true
all_fit (f ∷ fs) d = fits f d && all_fit fs d

-- every number of the record is in its range
unfoldable pub in_range : Device → Bool
in_range d = all_fit narrow d && all_fit bytes d

-- ---- over every run

-- the four fields of an event are bytes, as they are in a trace
abbrev pub is_bytes : Raw → Bool
is_bytes r = ltb r.kind 256 && ltb r.x 256 && ltb r.y 256 && ltb r.z 256

unfoldable pub are_bytes : List Raw → Bool
are_bytes [] = true
are_bytes (r ∷ rs) = is_bytes r && are_bytes rs

-- Over every run of events in bytes each field stays in its range.
abbrev pub InRange : Type 0
InRange = (k : Kind) (rs : List Raw) → are_bytes rs ≡ true → in_range (run k rs) ≡ true

-- Those that hold no byte as it was written do so whatever numbers the events have.
abbrev pub NarrowInRange : Type 0
NarrowInRange = (k : Kind) (rs : List Raw) → all_fit narrow (run k rs) ≡ true

-- Each step keeps them, of every device that has them in range, though no run may reach it.
abbrev pub StaysInRange : Type 0
StaysInRange = (d : Device) (r : Raw) → is_bytes r ≡ true → in_range d ≡ true → in_range (next d r) ≡ true

-- ---- what follows for the interrupts

-- "bit 6 equals BUS_HUNG", and INT_STATUS has no bit 7
abbrev pub IntStatusReads : Type 0
IntStatusReads =
    (k : Kind) (rs : List Raw) (m : Master) → let d : Device = run k rs in
    (bit 6 (reads_at IntStatus m d) ≡ bus_hung d.bus) × (bit 7 (reads_at IntStatus m d) ≡ false)

-- "5 INT_MSK .. bit 7 reads 0"
abbrev pub IntMaskReads : Type 0
IntMaskReads = (k : Kind) (rs : List Raw) (m : Master) → bit 7 (reads_at IntMask m (run k rs)) ≡ false

-- bit k of the status byte is set and has mask 0
abbrev pub unmasked_bit : ℕ → Master → Device → Bool
unmasked_bit k m d = bit k (reads_at IntStatus m d) && not (bit k (reads_at IntMask m d))

-- "some status bit of 6 to 0 that is set has mask 0", both as m reads them
abbrev pub some_unmasked : Master → Device → Bool
some_unmasked m d =
    unmasked_bit 6 m d || unmasked_bit 5 m d || unmasked_bit 4 m d || unmasked_bit 3 m d || unmasked_bit 2 m d || unmasked_bit 1 m d || unmasked_bit 0 m d

-- "An output is asserted exactly if" so: in the state, and in the answer's last byte, "bit 0 INT0 asserted, 1 INT1 asserted".
abbrev pub OutputAsserted : Type 0
OutputAsserted = (k : Kind) (rs : List Raw) (m : Master) → output m (run k rs) ≡ some_unmasked m (run k rs)

abbrev pub AnswerAsserted : Type 0
AnswerAsserted =
    (k : Kind) (rs : List Raw) (r : Raw) (m : Master) → bit (of m 0 1) (step (run k rs) r).answer.lines ≡ some_unmasked m (next (run k rs) r)
