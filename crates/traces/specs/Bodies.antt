-- The end of a trace's reading, from its count of events, its length, the kind's byte and the room alone; and what the calls hand back, told as the reports
-- of arbiter/specs/Traces and without their device.
-- Assumes nothing.
use Rattle.arbiter.specs.declared.Accepted.{Accepted}
use Rattle.std.specs.Prelude.{ℕ, ◌*◌, ◌%◌, not, ltb, eqb, List, length, Result, Ok, Err, if◌then◌else◌}
use Rattle.arbiter.specs.Effects.{power_up}
use Rattle.arbiter.specs.Traces.{event_bytes, event_count, whole_bytes, kind_number, is_kind, kind_of, refusal_number, accepted_with}
use Rattle.arbiter.specs.declared.Kind.TheVariants.{Pca9641}
use Rattle.arbiter.specs.declared.Refusal.{Refusal}
use Rattle.arbiter.specs.declared.Refusal.TheVariants.{TraceCut, BytesAfterEnd, NoRoom, UnknownPart}
use Rattle.arbiter.specs.declared.Device.{Device}
use Rattle.arbiter.specs.Types.{Ran}
use Rattle.arbiter.specs.Types.{Report}
use Rattle.traces.specs.declared.Head.{Head as Found}
use Rattle.traces.specs.declared.Run.{Run}
use Rattle.traces.specs.declared.Traced.{Traced}
use Rattle.traces.specs.declared.Unanswered.{Unanswered}
use Rattle.traces.specs.declared.Untraced.{Untraced}

unfoldable pub kind_read : ℕ → ℕ → ℕ → ℕ → ℕ → Result Accepted Refusal
kind_read address n len kind room =
    if ltb len (whole_bytes n) then Err TraceCut
    else if not (is_kind kind) then Err UnknownPart
    else if ltb (whole_bytes n) len then Err BytesAfterEnd
    else if ltb room (event_bytes * n) then Err NoRoom
    else accepted_with address n (kind_of kind)

-- ---- raw events

-- how many events these bytes are, where they are in fours and the answers have room
unfoldable pub with_room : List ℕ → ℕ → Result ℕ Refusal
with_room events room =
    if not (eqb (length events % event_bytes) 0) then Err TraceCut
    else if ltb room (event_bytes * event_count events) then Err NoRoom
    else Ok (event_count events)

abbrev pub ran_with : ℕ → ℕ → Device → Ran
ran_with number events d = record { number = number; events = events; device = d }

-- a run from d as `ran` tells it: one that is refused runs no event and leaves the device
abbrev pub ran_of : Device → Result Run Refusal → Ran
ran_of d (Ok r) = ran_with 0 r.events r.device
ran_of d (Err why) = ran_with (refusal_number why) 0 d

-- ---- a trace

abbrev pub report_with : ℕ → ℕ → ℕ → Device → Report
report_with number address events d = record { number = number; address = address; events = events; device = d }

-- a refusal and what is told with it: address 0, no events, and a fresh device of kind 0
abbrev pub untraced : Refusal → Untraced
untraced why = record { refusal = why; told = record { address = 0; events = 0; device = power_up Pca9641 } }

-- what a run of a trace tells as `report` tells it: each part, of a refused one too, read out of what was handed back
abbrev pub report_of_run : Result Traced Untraced → Report
report_of_run (Ok r) = report_with 0 r.address r.events r.device
report_of_run (Err u) = report_with (refusal_number u.refusal) u.told.address u.told.events u.told.device

-- a report with the kind of its device alone, by its number
pub record Head : Type 0 where
  pub number : ℕ
  pub address : ℕ
  pub events : ℕ
  pub kind : ℕ

abbrev pub head_of : Report → Head
head_of r = record { number = r.number; address = r.address; events = r.events; kind = kind_number r.device.kind }

-- what is told of a refused trace, without its device
abbrev pub unanswered : Untraced → Unanswered
unanswered u = record {
  refusal = u.refusal;
  told = record { address = u.told.address; events = u.told.events; kind = u.told.device.kind };
}

abbrev pub head_of_run : Result Found Unanswered → Head
head_of_run (Ok h) = record { number = 0; address = h.address; events = h.events; kind = kind_number h.kind }
head_of_run (Err u) = record { number = refusal_number u.refusal; address = u.told.address; events = u.told.events; kind = kind_number u.told.kind }
