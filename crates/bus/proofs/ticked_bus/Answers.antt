-- `bus::ticked_bus` meets its contract: the idle count is a byte's again after it was counted in the wider type.
-- Assumes nothing.
use Rattle.std.proofs.Common.{arith}
use Rattle.bus.proofs.Bytes.{counted_byte}
use Rattle.bus.proofs.ticked_bus.Goals as goal

pub overflow_cast-result : goal.overflow_cast-result
overflow_cast-result c =
    let small = counted_byte c.from.result c.is_idle-idle.result c.from-2.result (omega arith) (omega arith) in
    omega (arith, small, c.counted.ensures)
