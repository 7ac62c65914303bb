-- `listing::run`: what is read is the input's beginning, and that lists as the whole input does.
-- Assumes nothing.
use Rattle.std.proofs.Common.{arith}
use Rattle.printing.proofs.Listed.{printed, in_any_case}
use Rattle.listing.proofs.run.Goals as goal

pub returns : goal.returns
returns g c = in_any_case c.say_if_refused.result _ (printed _ _ _ _ _ (omega arith) c.in_ok-n.ensures.front c.in_ok-print_listing.ensures)
