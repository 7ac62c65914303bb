-- Request #105: traces as they were before it, without the section for the kind of part, and the same trace with that section added.
-- proofs/OldTraces.antt proves the statements.
-- Assumes nothing.
use Rattle.std.specs.Prelude.{◌≤◌, ◌≡◌, ◌*◌, ◌++◌, if◌then◌else◌}
use Rattle.arbiter.specs.Types.{ℕ, not, List, [], eqb, ltb, length, drop, Pca9641, TraceCut, TooManyEvents, BytesAfterEnd, BadStraps, NoRoom, BadCount, Option, Some, None, Err}
use Rattle.arbiter.specs.Types.{Written}
use Rattle.arbiter.specs.Straps.{address_of}
use Rattle.arbiter.specs.Traces.{pin_count, pin_bytes, head_bytes, event_bytes, most_events, events_end, kind_section, byte_at, pins_in, count_in, events_in, read_trace, answers_in, refusal_number, accepted_with}

-- ---- what document 01's rules accept, room apart: "first count missing 5, wrong 10, pins missing 5, pins 8, n missing 5, 6, events missing
-- 5, 7"

abbrev pub old_counted : List ℕ → ℕ
old_counted t =
    if ltb (length t) head_bytes then refusal_number TraceCut
    else if ltb most_events (count_in t) then refusal_number TooManyEvents
    else if ltb (length t) (events_end (count_in t)) then refusal_number TraceCut
    else if ltb (events_end (count_in t)) (length t) then refusal_number BytesAfterEnd
    else 0

abbrev pub old_strapped : Option ℕ → List ℕ → ℕ
old_strapped (Some a) t = old_counted t
old_strapped None t = refusal_number BadStraps

unfoldable pub old_number : List ℕ → ℕ
old_number t =
    if ltb (length t) 1 then refusal_number TraceCut
    else if not (eqb (byte_at 0 t) pin_count) then refusal_number BadCount
    else if ltb (length t) pin_bytes then refusal_number TraceCut
    else old_strapped (address_of (pins_in t)) t

-- ---- "writes an accepted old trace with 01 00 added"

unfoldable pub converted : List ℕ → List ℕ
converted t = t ++ kind_section Pca9641

-- ---- the call that converts a trace into a lent buffer: what document 01's rules say, and 9 where the buffer has no room for it

unfoldable pub converted_number : List ℕ → ℕ → ℕ
converted_number t room =
    if not (eqb (old_number t) 0) then old_number t
    else if ltb room (length (converted t)) then refusal_number NoRoom
    else 0

-- what is written: the converted trace, and nothing where the call is refused
unfoldable pub converted_bytes : List ℕ → ℕ → List ℕ
converted_bytes t room = if eqb (converted_number t room) 0 then converted t else []

-- the number and the length of what is written, and the buffer, whose bytes past that stay
unfoldable pub conversion : List ℕ → List ℕ → Written
conversion t buffer = record { number = converted_number t (length buffer); length = length (converted_bytes t (length buffer)) }

unfoldable pub buffer_converted : List ℕ → List ℕ → List ℕ
buffer_converted t buffer =
    let bytes = converted_bytes t (length buffer) in
    bytes ++ drop (length bytes) buffer

-- ---- what becomes of an old trace

-- Nothing that was accepted before is lost: the converted trace is accepted as one of a PCA9641, with the old address and count, and its
-- events, and so its answers, are those of the old one.
abbrev pub ConvertedAccepted : Type 0
ConvertedAccepted =
    (t : List ℕ) (room a : ℕ) → old_number t ≡ 0 → address_of (pins_in t) ≡ Some a → event_bytes * count_in t ≤ room
    → (read_trace (converted t) room ≡ accepted_with a (count_in t) Pca9641)
    × (events_in (count_in t) (converted t) ≡ events_in (count_in t) t)
    × (answers_in Pca9641 (count_in t) (converted t) ≡ answers_in Pca9641 (count_in t) t)

-- "An old trace is refused": with 5, whatever the room.
abbrev pub OldRefused : Type 0
OldRefused = (t : List ℕ) (room : ℕ) → old_number t ≡ 0 → read_trace t room ≡ Err TraceCut
