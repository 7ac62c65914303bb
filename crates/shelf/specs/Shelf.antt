-- Request #110: "A shelf is a lent row of up to 16 device records, each with its address." Whom an event reaches, what it answers and what
-- it leaves of the row.
-- Assumes nothing.
use Rattle.std.specs.Prelude.{◌≡◌, ◌||◌, ◌∷◌, if◌then◌else◌}
use Rattle.arbiter.specs.Effects.{power_up}
use Rattle.arbiter.specs.Steps.{step, answer}
use Rattle.shelf.specs.Names.{ℕ, suc, Bool, true, false, List, [], map, eqb, ltb, length, get_or, set, Pca9641, Device, Raw, Answer, Record, Naming, AnAddress, APlace, Nothing, Fault, EmptyRow, TooMany, EqualAddresses, NotInRow, Reach, At, Everyone, Result, Ok, Err}

-- ---- the row

abbrev pub most_records : ℕ
most_records = 16

-- the addresses of a row, place by place. They are names: any byte is one.
abbrev pub addresses_of : List Record → List ℕ
addresses_of row = map (λ (c : Record). c.address) row

-- what stands past a row's end: nothing looks there
unfoldable pub no_record : Record
no_record = record { address = 0; device = power_up Pca9641 }

-- places count from 0
abbrev pub record_at : List Record → ℕ → Record
record_at row i = get_or row i no_record

abbrev pub device_at : List Record → ℕ → Device
device_at row i = (record_at row i).device

-- ---- what an event names

-- "Port events name an address; PAIR names one address for both masters; LINES and PULSE name a place in the row; TICK, RESET and GENERAL
-- CALL reach all." The kind alone decides: 0 to 3 are the port events, 4 is PAIR, 5 LINES and 7 PULSE. An unknown kind names nothing.
unfoldable pub naming : ℕ → Naming
naming kind = if ltb kind 5 then AnAddress else if eqb kind 5 || eqb kind 7 then APlace else Nothing

-- ---- whom it reaches

abbrev pub is_in : ℕ → List ℕ → Bool
is_in a [] = false
is_in a (b ∷ bs) = eqb b a || is_in a bs

-- "two equal addresses"
abbrev pub two_equal : List ℕ → Bool
two_equal [] = false
two_equal (b ∷ bs) = is_in b bs || two_equal bs

-- the place of an address, or refusal 18
abbrev pub further : Result Reach Fault → Result Reach Fault
further (Ok (At i)) = Ok (At (suc i))
further (Ok Everyone) = Ok Everyone
further (Err f) = Err f

abbrev pub place_of : ℕ → List ℕ → Result Reach Fault
place_of a [] = Err NotInRow
place_of a (b ∷ bs) = if eqb b a then Ok (At 0) else further (place_of a bs)

-- the name, an address or a place, is not looked at where the event names nothing
abbrev pub reach_by : Naming → ℕ → List ℕ → Result Reach Fault
reach_by AnAddress name roll = place_of name roll
reach_by APlace name roll = if ltb name (length roll) then Ok (At name) else Err NotInRow
reach_by Nothing name roll = Ok Everyone

-- "Refusals, before 01's own: 17 two equal addresses, 18 an address or place not in the row, 6 above 16, 5 an empty row; order 5, 6, 17, 18"
abbrev pub reach_of : Naming → ℕ → List ℕ → Result Reach Fault
reach_of n name roll =
    if eqb (length roll) 0 then Err EmptyRow
    else if ltb most_records (length roll) then Err TooMany
    else if two_equal roll then Err EqualAddresses
    else reach_by n name roll

unfoldable pub reaches : List ℕ → ℕ → Raw → Result Reach Fault
reaches roll name r = reach_of (naming r.kind) name roll

abbrev pub fault_number : Fault → ℕ
fault_number EmptyRow = 5
fault_number TooMany = 6
fault_number EqualAddresses = 17
fault_number NotInRow = 18

-- the device at this place is reached
abbrev pub reaches_place : ℕ → Result Reach Fault → Bool
reaches_place j (Ok (At i)) = eqb i j
reaches_place j (Ok Everyone) = true
reaches_place j (Err f) = false

-- ---- one event on a shelf

-- a record that an event reaches: its device makes the step, its address stays
unfoldable pub step_record : Raw → Record → Record
step_record r c = record { address = c.address; device = (step c.device r).device }

abbrev pub row_after : Result Reach Fault → Raw → List Record → List Record
row_after (Ok (At i)) r row = set row i (step_record r (record_at row i))
row_after (Ok Everyone) r row = map (step_record r) row
row_after (Err f) r row = row

-- "they answer number, 00, 00, 00 and change no record"
abbrev pub fault_answer : Fault → Answer
fault_answer f = record { outcome = fault_number f; read = 0; owner = 0; lines = 0 }

-- "An event that reaches all, or of unknown kind, answers for place 0"
abbrev pub answer_after : Result Reach Fault → Raw → List Record → Answer
answer_after (Ok (At i)) r row = (step (device_at row i) r).answer
answer_after (Ok Everyone) r row = (step (device_at row 0) r).answer
answer_after (Err f) r row = fault_answer f

unfoldable pub shelf_row : List Record → ℕ → Raw → List Record
shelf_row row name r = row_after (reaches (addresses_of row) name r) r row

unfoldable pub shelf_answer : List Record → ℕ → Raw → Answer
shelf_answer row name r = answer_after (reaches (addresses_of row) name r) r row

-- what the call leaves: the row after it, and its answer
abbrev pub ShelfStepped : List Record → ℕ → Raw → List Record → Answer → Type 0
ShelfStepped before name r after a = (after ≡ shelf_row before name r) × (a ≡ shelf_answer before name r)

-- an event of these four bytes; and those of "tick all, reset all" (document 01)
abbrev pub raw_of : ℕ → ℕ → ℕ → ℕ → Raw
raw_of kind x y z = record { kind = kind; x = x; y = y; z = z }

abbrev pub tick_raw : Raw
tick_raw = raw_of 6 0 0 0

abbrev pub reset_raw : Raw
reset_raw = raw_of 8 0 0 0

-- ---- a device shown by its place

-- "each device then being readable by its place": outcome 0, no byte read, and owner and lines as they stand. A name that is a place never
-- reaches everyone.
abbrev pub show_by : Result Reach Fault → List Record → Answer
show_by (Ok (At i)) row = answer 0 0 (device_at row i)
show_by (Ok Everyone) row = answer 0 0 (device_at row 0)
show_by (Err f) row = fault_answer f

-- refused like an event that names this place; no record changes
unfoldable pub shelf_show : List Record → ℕ → Answer
shelf_show row place = show_by (reach_of APlace place (addresses_of row)) row
