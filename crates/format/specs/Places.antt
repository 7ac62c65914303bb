-- Where the head of a trace, its events and its kind are, and where the answers go, for any bytes: a place past their end has no event and
-- takes neither answer nor byte.
-- Assumes nothing.
use Rattle.std.specs.Prelude.{ℕ, ◌+◌, ◌*◌, List, [], ◌++◌, ltb, length, take, drop, set, if◌then◌else◌}
use Rattle.arbiter.specs.Traces.{head_bytes, event_bytes, events_end, whole_bytes, count_in, raw_in, kind_section, kind_of, kind_at, event_count}
use Rattle.arbiter.specs.Writing.{trace_head}
use Rattle.arbiter.specs.declared.Kind.{Kind}
use Rattle.arbiter.specs.declared.Pins.{Pins}
use Rattle.arbiter.specs.declared.Raw.{Raw}
use Rattle.arbiter.specs.declared.Answer.{Answer}

-- a buffer with the head of a trace of n events, if it has room for that
unfoldable pub with_head : List ℕ → Pins → ℕ → List ℕ
with_head buffer p n = if ltb (length buffer) head_bytes then buffer else trace_head p n ++ drop head_bytes buffer

-- a buffer with these bytes from a place on, if it has room for them
unfoldable pub with_bytes : List ℕ → ℕ → List ℕ → List ℕ
with_bytes buffer at bytes = if ltb (length buffer) (at + length bytes) then buffer else take at buffer ++ bytes ++ drop (at + length bytes) buffer

-- the bytes of a trace's events: none where it ends before they do
unfoldable pub events_part : List ℕ → List ℕ
events_part t = if ltb (length t) (events_end (count_in t)) then [] else take (event_bytes * count_in t) (drop head_bytes t)

-- event i of these bytes, and four zeros past the last
unfoldable pub event_at : ℕ → List ℕ → Raw
event_at i events = if ltb i (event_count events) then raw_in (drop (event_bytes * i) events) else record { kind = 0; x = 0; y = 0; z = 0 }

-- the kind of part that a trace names
abbrev pub kind_in : List ℕ → Kind
kind_in t = kind_of (kind_at (count_in t) t)

-- a buffer with the kind of part after n events, if it has room for the whole trace
unfoldable pub with_kind : List ℕ → ℕ → Kind → List ℕ
with_kind buffer n k = if ltb (length buffer) (whole_bytes n) then buffer else take (events_end n) buffer ++ kind_section k ++ drop (whole_bytes n) buffer

-- four bytes of an answer at a place, and the answer to event i in a buffer that has its place
unfoldable pub put_at : List ℕ → ℕ → Answer → List ℕ
put_at l at a = set (set (set (set l at a.outcome) (at + 1) a.read) (at + 2) a.owner) (at + 3) a.lines

unfoldable pub with_answer : List ℕ → ℕ → Answer → List ℕ
with_answer answers i a = if ltb i (event_count answers) then put_at answers (event_bytes * i) a else answers
