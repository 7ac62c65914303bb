-- The number of a writing whose pins have an address, from the kind, the length of the events' bytes and the room alone.
-- Assumes nothing.
use Rattle.std.specs.Prelude.{ℕ, ◌/◌, ◌%◌, not, eqb, ltb, if◌then◌else◌}
use Rattle.arbiter.specs.Traces.{event_bytes, most_events, whole_bytes, is_kind, refusal_number}
use Rattle.arbiter.specs.declared.Refusal.TheVariants.{TraceCut, TooManyEvents, NoRoom, UnknownPart}

unfoldable pub body_number : ℕ → ℕ → ℕ → ℕ
body_number kind len room =
    if not (eqb (len % event_bytes) 0) then refusal_number TraceCut
    else if ltb most_events (len / event_bytes) then refusal_number TooManyEvents
    else if not (is_kind kind) then refusal_number UnknownPart
    else if ltb room (whole_bytes (len / event_bytes)) then refusal_number NoRoom
    else 0
