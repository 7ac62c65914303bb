-- Document 01, "Answers and the trace": how bytes read as a trace, the refusals in their order, and what a trace's run leaves.
-- Assumes nothing.
use Rattle.std.specs.Prelude.{◌+◌, ◌*◌, ◌/◌, ◌%◌, ◌∷◌, ◌++◌, if◌then◌else◌}
use Rattle.arbiter.specs.Types.{ℕ, zero, suc, not, List, [], eqb, ltb, length, drop, get_or, Bool, Kind, Pca9641, Tpt29641, Device, Raw, Answer, Pins, Refusal, TraceCut, TooManyEvents, BytesAfterEnd, BadStraps, NoRoom, BadCount, UnknownPart, Report, Option, Some, None, Result, Accepted, Err, Ok}
use Rattle.arbiter.specs.Types.{Ran}
use Rattle.arbiter.specs.Straps.{pins, address_of}
use Rattle.arbiter.specs.Effects.{power_up}
use Rattle.arbiter.specs.Steps.{run_from, answers_from, run}

-- ---- the parts of a trace: "a count byte 4 and the pins AD3 to AD0; then a two-byte low-first count n up to 4,096, and n events"; and by
-- #105 "a third section after the events: count byte 1 and kind, 0 (PCA9641) or 1"

abbrev pub pin_count : ℕ
pin_count = 4

-- the count byte and the pins; then these and the count of events, after which the events start
abbrev pub pin_bytes : ℕ
pin_bytes = 5

abbrev pub head_bytes : ℕ
head_bytes = 7

-- "Four bytes: kind and three fields"; "An event answers four bytes"
abbrev pub event_bytes : ℕ
event_bytes = 4

abbrev pub most_events : ℕ
most_events = 4096

-- where n events end and the third section starts, and its length
abbrev pub events_end : ℕ → ℕ
events_end n = head_bytes + event_bytes * n

abbrev pub kind_count : ℕ
kind_count = 1

abbrev pub kind_bytes : ℕ
kind_bytes = 2

-- the length of a trace of n events, and of the longest
abbrev pub whole_bytes : ℕ → ℕ
whole_bytes n = events_end n + kind_bytes

abbrev pub most_bytes : ℕ
most_bytes = whole_bytes most_events

-- "The answers need 4n bytes": room for those of any trace
abbrev pub answer_room : ℕ
answer_room = event_bytes * most_events

abbrev pub byte_at : ℕ → List ℕ → ℕ
byte_at i t = get_or t i 0

abbrev pub pins_in : List ℕ → Pins
pins_in t = pins (byte_at 1 t) (byte_at 2 t) (byte_at 3 t) (byte_at 4 t)

abbrev pub count_in : List ℕ → ℕ
count_in t = byte_at 5 t + 256 * byte_at 6 t

-- the first n events of these bytes
abbrev pub raw_in : List ℕ → Raw
raw_in t = record { kind = byte_at 0 t; x = byte_at 1 t; y = byte_at 2 t; z = byte_at 3 t }

unfoldable pub raws_in : ℕ → List ℕ → List Raw
raws_in zero t = []
raws_in (suc n) t = raw_in t ∷ raws_in n (drop event_bytes t)

abbrev pub events_in : ℕ → List ℕ → List Raw
events_in n t = raws_in n (drop head_bytes t)

-- the kind's byte, and its section
abbrev pub kind_number : Kind → ℕ
kind_number Pca9641 = 0
kind_number Tpt29641 = 1

abbrev pub kind_section : Kind → List ℕ
kind_section k = kind_count ∷ kind_number k ∷ []

abbrev pub is_kind : ℕ → Bool
is_kind b = ltb b 2

abbrev pub kind_of : ℕ → Kind
kind_of b = if eqb b 0 then Pca9641 else Tpt29641

abbrev pub kind_at : ℕ → List ℕ → ℕ
kind_at n t = byte_at (events_end n + 1) t

-- ---- the refusals: "Trace order: first count missing 5, wrong 10, pins missing 5, pins 8, n missing 5, 6, events missing 5, 7, 9." By #105
-- "10 for a count other than 1, 3 as a whole-call refusal for another kind, both after the events' 5 and before 7; 5 where the section is
-- missing".

-- a trace that is accepted: its address, its count of events and its kind of part
abbrev pub accepted_with : ℕ → ℕ → Kind → Result Accepted Refusal
accepted_with address n k = Ok (record { address = address; events = n; kind = k })

-- from the third section on; `room` is the length of the answer buffer
unfoldable pub read_kind : ℕ → ℕ → List ℕ → ℕ → Result Accepted Refusal
read_kind address n t room =
    if ltb (length t) (events_end n + 1) then Err TraceCut
    else if not (eqb (byte_at (events_end n) t) kind_count) then Err BadCount
    else if ltb (length t) (whole_bytes n) then Err TraceCut
    else if not (is_kind (kind_at n t)) then Err UnknownPart
    else if ltb (whole_bytes n) (length t) then Err BytesAfterEnd
    else if ltb room (event_bytes * n) then Err NoRoom
    else accepted_with address n (kind_of (kind_at n t))

-- from the count of events on
unfoldable pub read_counted : ℕ → List ℕ → ℕ → Result Accepted Refusal
read_counted address t room =
    if ltb (length t) head_bytes then Err TraceCut
    else if ltb most_events (count_in t) then Err TooManyEvents
    else if ltb (length t) (events_end (count_in t)) then Err TraceCut
    else read_kind address (count_in t) t room

unfoldable pub read_strapped : Option ℕ → List ℕ → ℕ → Result Accepted Refusal
read_strapped (Some a) t room = read_counted a t room
read_strapped None t room = Err BadStraps

unfoldable pub read_trace : List ℕ → ℕ → Result Accepted Refusal
read_trace t room =
    if ltb (length t) 1 then Err TraceCut
    else if not (eqb (byte_at 0 t) pin_count) then Err BadCount
    else if ltb (length t) pin_bytes then Err TraceCut
    else read_strapped (address_of (pins_in t)) t room

-- ---- the paper's numbers: "5 / 6 / 7 trace cut / n above 4,096 / bytes after the end", "8 pin code above 3 or unlisted strapping",
-- "9 answer room under 4n", "10 first count not 4"; by #105 "10 for a count other than 1, 3 as a whole-call refusal for another kind"

abbrev pub refusal_number : Refusal → ℕ
refusal_number TraceCut = 5
refusal_number TooManyEvents = 6
refusal_number BytesAfterEnd = 7
refusal_number BadStraps = 8
refusal_number NoRoom = 9
refusal_number BadCount = 10
refusal_number UnknownPart = 3

-- an accepted trace's is "0 .. done"
abbrev pub read_number : Result Accepted Refusal → ℕ
read_number (Ok a) = 0
read_number (Err r) = refusal_number r

-- ---- what a run of a trace leaves: "an accepted trace reports n events"; a refused one "answers untouched, 0 events, fresh device";
-- by #105 "a refused trace gives kind 0"

unfoldable pub report_of : Result Accepted Refusal → List ℕ → Report
report_of (Ok a) t = record { number = read_number (Ok a); address = a.address; events = a.events; device = run a.kind (events_in a.events t) }
report_of (Err r) t = record { number = read_number (Err r); address = 0; events = 0; device = power_up Pca9641 }

abbrev pub bytes_of : List Answer → List ℕ
bytes_of [] = []
bytes_of (a ∷ rest) = a.outcome ∷ a.read ∷ a.owner ∷ a.lines ∷ bytes_of rest

abbrev pub answers_in : Kind → ℕ → List ℕ → List Answer
answers_in k n t = answers_from (power_up k) (events_in n t)

-- "Answer bytes past 4n stay."
unfoldable pub buffer_of : Result Accepted Refusal → List ℕ → List ℕ → List ℕ
buffer_of (Ok a) t buffer = bytes_of (answers_in a.kind a.events t) ++ drop (event_bytes * a.events) buffer
buffer_of (Err r) t buffer = buffer

-- the report of a trace, and the answer buffer after it
unfoldable pub report : List ℕ → List ℕ → Report
report t buffer = report_of (read_trace t (length buffer)) t

unfoldable pub buffer_after : List ℕ → List ℕ → List ℕ
buffer_after t buffer = buffer_of (read_trace t (length buffer)) t buffer

-- ---- raw events alone, from any device: the run of a trace without the trace around it

-- how many events these bytes hold
abbrev pub event_count : List ℕ → ℕ
event_count events = length events / event_bytes

-- the number of such a run: 5 where the bytes are not in fours, then 9 where the answers have no room
unfoldable pub ran_number : List ℕ → ℕ → ℕ
ran_number events room =
    if not (eqb (length events % event_bytes) 0) then refusal_number TraceCut
    else if ltb room (event_bytes * event_count events) then refusal_number NoRoom
    else 0

-- a refused call runs none of them
unfoldable pub ran_count : List ℕ → ℕ → ℕ
ran_count events room = if eqb (ran_number events room) 0 then event_count events else 0

-- what the run reports, and the answer buffer after it
unfoldable pub ran : Device → List ℕ → List ℕ → Ran
ran d events buffer =
    let n = ran_count events (length buffer) in
    record { number = ran_number events (length buffer); events = n; device = run_from d (raws_in n events) }

unfoldable pub buffer_ran : Device → List ℕ → List ℕ → List ℕ
buffer_ran d events buffer =
    let n = ran_count events (length buffer) in
    bytes_of (answers_from d (raws_in n events)) ++ drop (event_bytes * n) buffer
