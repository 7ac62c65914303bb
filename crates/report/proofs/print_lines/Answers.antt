-- `report::print_lines` meets its contract: a line a controller, and R6 after them past 65,535 traces (`Lines.antt`).
-- Assumes nothing.
use Rattle.report.proofs.Lines.{without_past, with_past}
use Rattle.report.proofs.print_lines.Goals as goal

pub returns-in_ok-writeln : goal.returns-in_ok-writeln
returns-in_ok-writeln g c =
    with_past c.args.x c.args.past _ _ _ c.in_ok-print_line.ensures c.in_ok-print_line-2.ensures _ c.if-past.true c.in_ok-writeln.ensures.bytes

pub returns-else-past : goal.returns-else-past
returns-else-past g c =
    without_past c.args.x c.args.past _ _ _ c.in_ok-print_line.ensures c.in_ok-print_line-2.ensures c.if-past.false
