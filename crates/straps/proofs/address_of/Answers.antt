-- `straps::address_of` returns the address of the pins: the worked-out address is that.
-- Assumes nothing.
use Rattle.std.proofs.Common.{true, false, sym}
use Rattle.straps.proofs.Worked.{address_worked}
use Rattle.straps.proofs.address_of.Goals as goal

pub returns-then-coded-in_range-clause-value : goal.returns-then-coded-in_range-clause-value
returns-then-coded-in_range-clause-value c = sym (address_worked _ true _ c.in_range.ensures c.if-coded-in_range.true)

pub returns-else-coded-in_range-clause-value : goal.returns-else-coded-in_range-clause-value
returns-else-coded-in_range-clause-value c = sym (address_worked _ false _ c.in_range.ensures c.if-coded-in_range.false)
