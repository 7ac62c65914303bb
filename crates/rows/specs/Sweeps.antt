-- A row gone through by the code: the places that make the step, one after the other.
-- Assumes nothing.
use Rattle.std.specs.Prelude.{ℕ, zero, suc, ◌-◌, List, Option, Some, None, set}
use Rattle.std.specs.declared.ops.Range.{Range}
use Rattle.arbiter.specs.Steps.{step}
use Rattle.arbiter.specs.declared.Raw.{Raw}
use Rattle.arbiter.specs.declared.Answer.{Answer}
use Rattle.shelf.specs.declared.Record.{Record}
use Rattle.shelf.specs.Shelf.{record_at, device_at, step_record}
use Rattle.routing.specs.Deciding.{first_answer}

-- the record at place i makes the step, and answers if none did so before it
abbrev pub turn : Raw → ℕ → List Record × Option Answer → List Record × Option Answer
turn r i s = (set s.0 i (step_record r (record_at s.0 i)), Some (first_answer s.1 (step (device_at s.0 i) r).answer))

-- k places after this one
abbrev pub place_after : ℕ → ℕ → ℕ
place_after from zero = from
place_after from (suc k) = suc (place_after from k)

-- k records from this place on
unfoldable pub sweep_of : Raw → ℕ → ℕ → List Record × Option Answer → List Record × Option Answer
sweep_of r from zero s = s
sweep_of r from (suc k) s = turn r (place_after from k) (sweep_of r from k s)

unfoldable pub carried_out : Raw → Range ℕ → List Record → List Record × Option Answer
carried_out r p row = sweep_of r p.start (p.end - p.start) (row, None)
