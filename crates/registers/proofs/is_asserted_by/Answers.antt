-- `registers::is_asserted_by` meets its contract.
-- Assumes nothing.
use Rattle.arbiter.specs.Registers.{is_asserted}
use Rattle.registers.proofs.is_asserted_by.Goals as goal

pub returns : goal.returns
unfolding is_asserted
returns c = simp c.int_status_byte-status.ensures
