-- What the code knows of a row that it shows a place of, in the shape in which it decides it.
-- Assumes nothing.
use Rattle.std.specs.Prelude.{ℕ, zero, suc, Bool, List, Result, Ok, Err, eqb, length, if◌then◌else◌}
use Rattle.arbiter.specs.Steps.{answer}
use Rattle.arbiter.specs.declared.Device.{Device}
use Rattle.arbiter.specs.declared.Answer.{Answer}
use Rattle.shelf.specs.declared.Record.{Record}
use Rattle.shelf.specs.declared.Naming.TheVariants.{APlace}
use Rattle.shelf.specs.declared.Reach.{Reach}
use Rattle.shelf.specs.declared.Fault.{Fault}
use Rattle.shelf.specs.Shelf.{record_at, fault_answer}
use Rattle.routing.specs.Deciding.{start_of, see_of, reach_for, no_answer}
use Rattle.showing.specs.declared.Looked.{Looked}

unfoldable pub look_start : ℕ → Looked
look_start place = record { seen = start_of place; answer = no_answer }

abbrev pub shown_here : Bool → Device → Answer → Answer
shown_here here d before = if here then answer 0 0 d else before

unfoldable pub look_of : Looked → Record → Looked
look_of s c = record {
  seen = see_of s.seen c.address;
  answer = shown_here (eqb s.seen.count s.seen.name) c.device s.answer;
}

-- after the first i records of the row
unfoldable pub looked_to : ℕ → ℕ → List Record → Looked
looked_to zero place row = look_start place
looked_to (suc i) place row = look_of (looked_to i place row) (record_at row i)

unfoldable pub looked_of : ℕ → List Record → Looked
looked_of place row = looked_to (length row) place row

abbrev pub shown_with : Result Reach Fault → Answer → Answer
shown_with (Ok w) a = a
shown_with (Err f) a = fault_answer f

unfoldable pub shown_of : Looked → Answer
shown_of s = shown_with (reach_for s.seen APlace) s.answer
