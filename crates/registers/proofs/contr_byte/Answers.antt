-- `registers::contr_byte` meets its contract.
-- Assumes nothing.
use Rattle.arbiter.specs.Order.{granted}
use Rattle.arbiter.specs.Registers.{contr_byte}
use Rattle.registers.proofs.contr_byte.Goals as goal

pub returns : goal.returns
unfolding granted contr_byte
returns c = simp c.byte_of.ensures
