-- Request #101: the bytes of a trace from its pins, its events and, by #105, its kind of part; what the call that writes them leaves, and
-- what reading and writing are to each other.
-- Assumes nothing.
use Rattle.arbiter.specs.Types.{ℕ, not, List, [], eqb, ltb, length, drop, Raw, Pins, TraceCut, TooManyEvents, BadStraps, NoRoom, UnknownPart, Kind, Some}
use Rattle.arbiter.specs.Straps.{address_of, strapped_number}
use Rattle.arbiter.specs.Traces.{pin_count, event_bytes, most_events, whole_bytes, byte_at, pins_in, raws_in, events_in, kind_section, is_kind, kind_of, read_trace, refusal_number, event_count, accepted_with}
use Rattle.arbiter.specs.Types.{Written}
use Rattle.std.specs.Prelude.{◌≡◌, ◌<◌, ◌≤◌, ◌*◌, ◌/◌, ◌%◌, ◌∷◌, ◌++◌, if◌then◌else◌}

-- ---- the trace: "a count byte 4 and the pins AD3 to AD0; then a two-byte low-first count n up to 4,096, and n events", then "count byte 1
-- and kind"

abbrev pub trace_head : Pins → ℕ → List ℕ
trace_head p n = pin_count ∷ p.ad3 ∷ p.ad2 ∷ p.ad1 ∷ p.ad0 ∷ n % 256 ∷ n / 256 ∷ []

abbrev pub raw_bytes : Raw → List ℕ
raw_bytes r = r.kind ∷ r.x ∷ r.y ∷ r.z ∷ []

abbrev pub raws_bytes : List Raw → List ℕ
raws_bytes [] = []
raws_bytes (r ∷ rs) = raw_bytes r ++ raws_bytes rs

unfoldable pub trace_of : Pins → List Raw → Kind → List ℕ
trace_of p rs k = trace_head p (length rs) ++ raws_bytes rs ++ kind_section k

-- ---- the call: "8 for the pins, 5 for event bytes not in fours, 6 for too many, then 9 for room; the buffer is untouched then"; by #105
-- "refusing another kind with 3 just before 9"

unfoldable pub written_number : Pins → ℕ → List ℕ → ℕ → ℕ
written_number p kind events room =
    if not (eqb (strapped_number (address_of p)) 0) then refusal_number BadStraps
    else if not (eqb (length events % event_bytes) 0) then refusal_number TraceCut
    else if ltb most_events (event_count events) then refusal_number TooManyEvents
    else if not (is_kind kind) then refusal_number UnknownPart
    else if ltb room (whole_bytes (event_count events)) then refusal_number NoRoom
    else 0

-- what is written: the trace, and nothing where the call is refused. "Events are written as given, also those a device will refuse."
unfoldable pub written_bytes : Pins → ℕ → List ℕ → ℕ → List ℕ
written_bytes p kind events room =
    if eqb (written_number p kind events room) 0 then trace_of p (raws_in (event_count events) events) (kind_of kind) else []

-- the number and the length of what is written, and the buffer, whose bytes past that stay
unfoldable pub written : Pins → ℕ → List ℕ → List ℕ → Written
written p kind events buffer =
    record { number = written_number p kind events (length buffer); length = length (written_bytes p kind events (length buffer)) }

unfoldable pub buffer_written : Pins → ℕ → List ℕ → List ℕ → List ℕ
buffer_written p kind events buffer =
    let bytes = written_bytes p kind events (length buffer) in
    bytes ++ drop (length bytes) buffer

-- ---- "Reading what it wrote gives the same pins and events": with room for the answers, the trace is accepted with the address of its
-- pins, its count of events and its kind, and pins and events are read as they were written

abbrev pub ReadsBack : Type 0
ReadsBack =
    (p : Pins) (rs : List Raw) (k : Kind) (address room : ℕ) → address_of p ≡ Some address → length rs ≤ most_events → event_bytes * length rs ≤ room
    → (read_trace (trace_of p rs k) room ≡ accepted_with address (length rs) k) × (pins_in (trace_of p rs k) ≡ p) × (events_in (length rs) (trace_of p rs k) ≡ rs)

-- the events are written as the bytes that were given
abbrev pub WritesAsGiven : Type 0
WritesAsGiven = (events : List ℕ) (n : ℕ) → length events ≡ event_bytes * n → raws_bytes (raws_in n events) ≡ events

-- ---- "writing what was read from an accepted trace gives the same bytes"

-- each element of the list is a byte
abbrev pub Bytes : List ℕ → Type 0
Bytes t = (i : ℕ) → byte_at i t < 256

abbrev pub WritesBack : Type 0
WritesBack =
    (t : List ℕ) (address n room : ℕ) (k : Kind) → Bytes t → read_trace t room ≡ accepted_with address n k → trace_of (pins_in t) (events_in n t) k ≡ t

-- ---- the three, which proofs/Back.antt of the crate `writer` fills with one term, so that a lost proof fails the check

pub record UndoEachOther : Type 0 where
  pub reads_back : ReadsBack
  pub writes_as_given : WritesAsGiven
  pub writes_back : WritesBack
