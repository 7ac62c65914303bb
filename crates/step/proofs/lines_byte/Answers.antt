-- `step::lines_byte` meets its contract.
-- Assumes nothing.
use Rattle.arbiter.specs.Steps.{lines_byte}
use Rattle.step.proofs.lines_byte.Goals as goal

pub returns : goal.returns
unfolding lines_byte
returns c =
    simp (
      c.worth_of-4.ensures.0,
      c.sda_high.ensures,
      c.worth_of-3.ensures.0,
      c.scl_high.ensures,
      c.worth_of-2.ensures.0,
      c.worth_of.ensures.0,
      c.is_asserted_by-int1.ensures,
      c.is_asserted_by-int0.ensures,
      c.bus_hung-hung.ensures,
    )
