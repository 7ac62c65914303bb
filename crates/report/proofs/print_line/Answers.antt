-- `report::print_line` meets its contract: each number is printed by its digits (`Lines.antt`).
-- Assumes nothing.
use Rattle.printing.proofs.Text.{same_text}
use Rattle.report.proofs.Lines.{line_printed}
use Rattle.report.proofs.print_line.Goals as goal

pub returns : goal.returns
returns g c =
    same_text _ _ _ _ _ (line_printed _ _ _ _ c.requires c.ranges.owned.fits c.ranges.connected.fits c.ranges.waited.fits) c.writeln.ensures.bytes
