-- What holds of every shelf, whatever stands in its row: an event for one device and the others; and a run of a shelf seen from one place,
-- by which everything said of every run of one device is said of each device of a shelf. Each statement is proved in proofs/, under the
-- same name in small letters.
-- Assumes nothing.
use Rattle.std.specs.Prelude.{◌+◌, ◌<◌, ◌≤◌, ◌≡◌, ◌∷◌, ◌++◌, if◌then◌else◌}
use Rattle.arbiter.specs.Words.{partner}
use Rattle.arbiter.specs.State.{owns, claims, connected, is_idle}
use Rattle.arbiter.specs.Events.{decode, decoded_number}
use Rattle.arbiter.specs.Effects.{power_up}
use Rattle.arbiter.specs.Steps.{answer, step, refused, run_from, run}
use Rattle.arbiter.specs.AuditWords.{next, requests, resting, reserve_of, reset, tick, withdrawal_of, stop_of, grant_taken, grant_ended, ticks_in, never, throughout}
use Rattle.arbiter.specs.declared.Master.{Master}
use Rattle.arbiter.specs.declared.Unread.TheVariants.{UnknownKind}
use Rattle.arbiter.specs.declared.Event.TheVariants.{Stop}
use Rattle.shelf.specs.Names.{ℕ, Bool, true, false, List, [], map, eqb, length, get_or, Kind, Pca9641, Device, Raw, Record, AnAddress, Fault, Reach, At, Everyone, Result, Ok, Err}
use Rattle.shelf.specs.Shelf.{addresses_of, record_at, device_at, naming, reaches, reaches_place, most_records, two_equal, step_record, fault_answer, shelf_row, shelf_answer, shelf_show}

-- ---- one event

-- No event changes an address, or the number of records.
abbrev pub KeepsAddresses : Type 0
KeepsAddresses = (row : List Record) (name : ℕ) (r : Raw) → addresses_of (shelf_row row name r) ≡ addresses_of row

-- "An event for one device leaves every other record the same": so does each event to all that it does not reach.
abbrev pub OthersSame : Type 0
OthersSame =
    (row : List Record) (name : ℕ) (r : Raw) (j : ℕ) → reaches_place j (reaches (addresses_of row) name r) ≡ false
    → record_at (shelf_row row name r) j ≡ record_at row j

-- A device that it reaches makes the step of one device.
abbrev pub ReachedSteps : Type 0
ReachedSteps =
    (row : List Record) (name : ℕ) (r : Raw) (j : ℕ) → j < length row → reaches_place j (reaches (addresses_of row) name r) ≡ true
    → record_at (shelf_row row name r) j ≡ step_record r (record_at row j)

-- "and its answer, refusals 5, 6, 17 and 18 apart, does not depend on them": on two shelves in which it reaches equal devices, at whatever
-- places, the answer is the same, and it is that device's.
abbrev pub AnswerAlone : Type 0
AnswerAlone =
    (row other : List Record) (name : ℕ) (r : Raw) (i j : ℕ) → reaches (addresses_of row) name r ≡ Ok (At i) → reaches (addresses_of other) name r ≡ Ok (At j)
    → device_at row i ≡ device_at other j
    → (shelf_answer row name r ≡ (step (device_at row i) r).answer) × (shelf_answer row name r ≡ shelf_answer other name r)

-- A shelf that refuses changes no record, and answers number, 00, 00, 00.
abbrev pub RefusedSame : Type 0
RefusedSame =
    (row : List Record) (name : ℕ) (r : Raw) (f : Fault) → reaches (addresses_of row) name r ≡ Err f
    → (shelf_row row name r ≡ row) × (shelf_answer row name r ≡ fault_answer f)

-- Only a row of 1 to 16 records, no two of them with the same address, takes an event; the one that is reached has the address that was
-- named.
abbrev pub ReachedInRow : Type 0
ReachedInRow =
    (roll : List ℕ) (name : ℕ) (r : Raw) (i : ℕ) → reaches roll name r ≡ Ok (At i)
    → (i < length roll) × (length roll ≤ most_records) × (two_equal roll ≡ false) × (naming r.kind ≡ AnAddress → get_or roll i 0 ≡ name)

-- An event of unknown kind names nothing; it changes no record and answers for place 0 with refusal 2.
abbrev pub UnknownChangesNone : Type 0
UnknownChangesNone =
    (row : List Record) (name : ℕ) (r : Raw) → decode r ≡ Err UnknownKind → reaches (addresses_of row) name r ≡ Ok Everyone
    → (shelf_row row name r ≡ row) × (shelf_answer row name r ≡ (refused (decoded_number (Err UnknownKind)) (device_at row 0)).answer)

-- "An event that reaches all .. answers for place 0, each device then being readable by its place": what is shown after an event of a
-- device that it reached is that device after its own step.
abbrev pub ShownAtPlace : Type 0
ShownAtPlace =
    (row : List Record) (name : ℕ) (r : Raw) (j : ℕ) → j < length row → reaches_place j (reaches (addresses_of row) name r) ≡ true
    → shelf_show (shelf_row row name r) j ≡ answer 0 0 (step (device_at row j) r).device

-- ---- a run of a shelf

-- an event with the number beside it: the address or the place that it names
pub record Named : Type 0 where
  pub name : ℕ
  pub event : Raw

unfoldable pub shelf_run : List Record → List Named → List Record
shelf_run row [] = row
shelf_run row (e ∷ es) = shelf_run (shelf_row row e.name e.event) es

-- a place of a shelf before power-up: its address, and the kind of part there
pub record Slot : Type 0 where
  pub address : ℕ
  pub kind : Kind

abbrev pub fresh_at : ℕ → Kind → Record
fresh_at address kind = record { address = address; device = power_up kind }

abbrev pub fresh_record : Slot → Record
fresh_record s = fresh_at s.address s.kind

-- all devices after power-up
abbrev pub fresh_row : List Slot → List Record
fresh_row slots = map fresh_record slots

abbrev pub kind_at : List Slot → ℕ → Kind
kind_at slots i = (get_or slots i (record { address = 0; kind = Pca9641 })).kind

-- the shelf of these slots after the events es from power-up
abbrev pub shelf_after : List Slot → List Named → List Record
shelf_after slots es = shelf_run (fresh_row slots) es

-- of the events es those that reach place i, in a row of these addresses
unfoldable pub reached : ℕ → List ℕ → List Named → List Raw
reached i roll [] = []
reached i roll (e ∷ es) = if reaches_place i (reaches roll e.name e.event) then e.event ∷ reached i roll es else reached i roll es

abbrev pub reached_at : ℕ → List Slot → List Named → List Raw
reached_at i slots es = reached i (addresses_of (fresh_row slots)) es

-- this event, on a shelf of these slots, reaches place i; is answered for place i
abbrev pub reaches_at : ℕ → List Slot → Named → Bool
reaches_at i slots e = reaches_place i (reaches (addresses_of (fresh_row slots)) e.name e.event)

abbrev pub answers_for : ℕ → Result Reach Fault → Bool
answers_for i (Ok (At j)) = eqb j i
answers_for i (Ok Everyone) = eqb 0 i
answers_for i (Err f) = false

abbrev pub answers_at : ℕ → List Slot → Named → Bool
answers_at i slots e = answers_for i (reaches (addresses_of (fresh_row slots)) e.name e.event)

-- ---- "Demands 2 and 3 hold per device, over the events that reach it."

-- Demand 2: after every run of a shelf from fresh devices, the device at a place is the run of exactly those events that reached it,
abbrev pub AtPlace : Type 0
AtPlace =
    (slots : List Slot) (es : List Named) (i : ℕ) → i < length slots
    → device_at (shelf_after slots es) i ≡ run (kind_at slots i) (reached_at i slots es)

-- and each answer for it is that run's answer.
abbrev pub AnswerAtPlace : Type 0
AnswerAtPlace =
    (slots : List Slot) (es : List Named) (e : Named) (i : ℕ) → i < length slots → answers_at i slots e ≡ true
    → shelf_answer (shelf_after slots es) e.name e.event ≡ (step (run (kind_at slots i) (reached_at i slots es)) e.event).answer

-- So whatever holds of every run of one device, of its events and of what they leave, holds of the events that reach a place of a shelf and of
-- the device there.
abbrev pub EveryRunAtPlace : Type 1
EveryRunAtPlace =
    (Holds : Kind → List Raw → Device → Type 0) → ((k : Kind) (rs : List Raw) → Holds k rs (run k rs))
    → (slots : List Slot) (es : List Named) (i : ℕ) → i < length slots
    → Holds (kind_at slots i) (reached_at i slots es) (device_at (shelf_after slots es) i)

-- Demand 3, for a place: at most one master is connected, and it holds the grant.
abbrev pub OneConnectedAtPlace : Type 0
OneConnectedAtPlace =
    (slots : List Slot) (es : List Named) (i : ℕ) (m : Master) → i < length slots → let d : Device = device_at (shelf_after slots es) i in
    connected m d ≡ true → (owns m d ≡ true) × (connected (partner m) d ≡ false)

-- The same with events before, one event e and events after it: of those after it, the ones that reach the place are its run.
abbrev pub LaterAtPlace : Type 0
LaterAtPlace =
    (slots : List Slot) (es : List Named) (e : Named) (later : List Named) (i : ℕ) → i < length slots → reaches_at i slots e ≡ true
    → device_at (shelf_after slots (es ++ e ∷ later)) i ≡ run_from (next (device_at (shelf_after slots es) i) e.event) (reached_at i slots later)

-- e gives m the grant at place i. While fewer ticks have been accepted there since than the reserve that it was taken with, no reset has come
-- and m has not withdrawn there, m owns there, whatever is done to the other devices.
abbrev pub ReserveLastsAtPlace : Type 0
ReserveLastsAtPlace =
    (slots : List Slot) (i : ℕ) (m : Master) (es : List Named) (e : Named) (later : List Named) → i < length slots
    → let before : Device = device_at (shelf_after slots es) i in
    let d : Device = next before e.event in
    let here : List Raw = reached_at i slots later in
    reaches_at i slots e ≡ true → grant_taken m e.event before ≡ true → ticks_in d here < reserve_of m d
    → never reset d here ≡ true → never (withdrawal_of m) d here ≡ true
    → owns m (device_at (shelf_after slots (es ++ e ∷ later)) i) ≡ true

-- And t is the tick that makes as many as its reserve. If after t the partner's request stands there, the bus is idle and the partner's port
-- at rest, then the partner owns there.
abbrev pub PartnerInTimeAtPlace : Type 0
PartnerInTimeAtPlace =
    (slots : List Slot) (i : ℕ) (m : Master) (es : List Named) (e : Named) (later : List Named) (t : Named) → i < length slots
    → let before : Device = device_at (shelf_after slots es) i in
    let d : Device = next before e.event in
    let here : List Raw = reached_at i slots later in
    let end : Device = device_at (shelf_after slots (es ++ e ∷ (later ++ t ∷ []))) i in
    reaches_at i slots e ≡ true → reaches_at i slots t ≡ true → grant_taken m e.event before ≡ true → ticks_in d here + 1 ≡ reserve_of m d
    → tick t.event (run_from d here) ≡ true → never reset d here ≡ true → never (withdrawal_of m) d here ≡ true
    → requests (partner m) end ≡ true → is_idle end.bus ≡ true → resting (partner m) end ≡ true → owns (partner m) end ≡ true

-- Where the partner's request stands there all the while from the grant on, m may withdraw as well, and the partner owns after t just so.
abbrev pub PartnerInTimeThroughoutAtPlace : Type 0
PartnerInTimeThroughoutAtPlace =
    (slots : List Slot) (i : ℕ) (m : Master) (es : List Named) (e : Named) (later : List Named) (t : Named) → i < length slots
    → let before : Device = device_at (shelf_after slots es) i in
    let d : Device = next before e.event in
    let here : List Raw = reached_at i slots later in
    let end : Device = device_at (shelf_after slots (es ++ e ∷ (later ++ t ∷ []))) i in
    reaches_at i slots e ≡ true → reaches_at i slots t ≡ true → grant_taken m e.event before ≡ true → ticks_in d here + 1 ≡ reserve_of m d
    → tick t.event (run_from d here) ≡ true → never reset d here ≡ true → throughout (requests (partner m)) d (here ++ t.event ∷ []) ≡ true
    → is_idle end.bus ≡ true → resting (partner m) end ≡ true → owns (partner m) end ≡ true

-- p is next at place i after the events es: it owns there at once if its port is at rest. Else, whatever comes to the shelf later, it stays the
-- claimant there until its withdrawal, its STOP or a reset there, and its STOP makes it the owner.
abbrev pub IsNextAtPlace : List Slot → ℕ → Master → List Named → Type 0
IsNextAtPlace slots i p es =
    let d : Device = device_at (shelf_after slots es) i in
    (resting p d ≡ true → owns p d ≡ true)
    × (resting p d ≡ false → (later : List Named) → let here : List Raw = reached_at i slots later in
    never reset d here ≡ true → never (withdrawal_of p) d here ≡ true → never (stop_of p) d here ≡ true
    → (claims p (device_at (shelf_after slots (es ++ later)) i) ≡ true)
    × ((s : Named) → reaches_at i slots s ≡ true → decode s.event ≡ Ok (Stop p)
    → owns p (device_at (shelf_after slots (es ++ (later ++ s ∷ []))) i) ≡ true))

-- e, no reset, ends m's grant at place i, and the partner's request stands there after it: the partner is next there.
abbrev pub PartnerNextAtPlace : Type 0
PartnerNextAtPlace =
    (slots : List Slot) (i : ℕ) (m : Master) (es : List Named) (e : Named) → i < length slots
    → let before : Device = device_at (shelf_after slots es) i in
    let d : Device = device_at (shelf_after slots (es ++ e ∷ [])) i in
    reaches_at i slots e ≡ true → grant_ended m e.event before ≡ true → reset e.event before ≡ false → requests (partner m) d ≡ true
    → IsNextAtPlace slots i (partner m) (es ++ e ∷ [])
