-- Request #101 over the two calls themselves: what `write_trace` left is read back by `read_trace`, and what was read is written back.
-- Assumes nothing.
use Rattle.std.specs.Prelude.{ℕ, ◌≤◌, ◌≡◌, List, ◌++◌, length, take, drop}
use Rattle.arbiter.specs.Straps.{address_of, strapped_address}
use Rattle.arbiter.specs.Traces.{pins_in, raws_in, events_in, kind_number, kind_of, read_trace, event_count, accepted_with}
use Rattle.arbiter.specs.Writing.{raws_bytes, written, buffer_written, Bytes}
use Rattle.arbiter.specs.declared.Kind.{Kind}
use Rattle.arbiter.specs.declared.Pins.{Pins}

-- the front of the lent buffer, as long as the call tells
abbrev pub trace_left : Pins → ℕ → List ℕ → List ℕ → List ℕ
trace_left p kind events buffer = take (written p kind events buffer).length (buffer_written p kind events buffer)

-- "Reading what it wrote gives the same pins and events": where the writing is not refused and there is room for the answers, which take as many
-- bytes as the events
abbrev pub WrittenReadBack : Type 0
WrittenReadBack =
    (p : Pins) (kind : ℕ) (events buffer : List ℕ) (room : ℕ) → (written p kind events buffer).number ≡ 0 → length events ≤ room
    → (read_trace (trace_left p kind events buffer) room ≡ accepted_with (strapped_address (address_of p)) (event_count events) (kind_of kind))
    × (pins_in (trace_left p kind events buffer) ≡ p)
    × (events_in (event_count events) (trace_left p kind events buffer) ≡ raws_in (event_count events) events)

-- "writing what was read from an accepted trace gives the same bytes": with room for the trace it is not refused, and the buffer begins with it
abbrev pub ReadWrittenBack : Type 0
ReadWrittenBack =
    (t buffer : List ℕ) (address n room : ℕ) (k : Kind) → Bytes t → read_trace t room ≡ accepted_with address n k → length t ≤ length buffer
    → (written (pins_in t) (kind_number k) (raws_bytes (events_in n t)) buffer ≡ record { number = 0; length = length t })
    × (buffer_written (pins_in t) (kind_number k) (raws_bytes (events_in n t)) buffer ≡ t ++ drop (length t) buffer)

-- ---- the two, which proofs/Calls.antt fills with one term, so that a lost proof fails the check

pub record CallsUndo : Type 0 where
  pub written_read_back : WrittenReadBack
  pub read_written_back : ReadWrittenBack
