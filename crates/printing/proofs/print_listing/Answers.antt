-- `printing::print_listing`: what is written out is the buffer's front, and the listing stands there (`Listed.antt`).
-- Assumes nothing.
use Rattle.std.proofs.Common.{arith}
use Rattle.printing.proofs.Listed.{written}
use Rattle.printing.proofs.Text.{same_text}
use Rattle.printing.proofs.print_listing.Goals as goal

pub returns : goal.returns
returns g c =
    let told = c.list_trace-n.ensures in
    same_text _ _ _ _ _ (written _ _ _ _ (omega (arith, told.upper_bound)) told.value.0 told.value.1) c.write_all.ensures.bytes
