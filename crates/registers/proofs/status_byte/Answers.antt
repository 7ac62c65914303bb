-- `registers::status_byte` meets its contract.
-- Assumes nothing.
use Rattle.arbiter.specs.Registers.{status_byte}
use Rattle.registers.proofs.status_byte.Goals as goal

pub returns : goal.returns
unfolding status_byte
returns c =
    simp (
      c.byte_of.ensures,
      c.is_full-2.ensures,
      c.is_full.ensures,
      c.bus_hung-hung.ensures,
      c.scl_high-scl.ensures,
      c.sda_high-sda.ensures,
    )
