-- `straps::straps_of` returns the strapping of the address: inside 08h to 77h that is the worked-out pins, and outside it there is none.
-- Assumes nothing.
use Rattle.std.proofs.Common.{sym, ◌∙◌}
use Rattle.straps.proofs.Laws.{straps_worked, none_outside}
use Rattle.straps.proofs.straps_of.Goals as goal

pub returns-then-in_range-clause-value : goal.returns-then-in_range-clause-value
returns-then-in_range-clause-value c = sym (straps_worked _ (sym c.in_range.ensures ∙ c.if-in_range.true))

pub returns-else-in_range-clause-value : goal.returns-else-in_range-clause-value
returns-else-in_range-clause-value c = sym (none_outside _ (sym c.in_range.ensures ∙ c.if-in_range.false))
