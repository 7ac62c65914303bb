-- `share::lent::totals_in` meets its contract.
-- Assumes nothing.
use mathlib.Core.Path.{refl}
use Rattle.share.specs.Lent.{totals_in}
use Rattle.share.proofs.lent.totals_in.Goals as goal

pub returns : goal.returns
unfolding totals_in
returns c = refl
