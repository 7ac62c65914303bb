-- `share::lent::put_totals` meets its contract.
-- Assumes nothing.
use Rattle.share.specs.Lent.{totals_list}
use Rattle.share.proofs.Buffers.{stored_whole}
use Rattle.share.proofs.lent.put_totals.Goals as goal

pub returns : goal.returns
unfolding totals_list
returns c = stored_whole c.args.x c.args.b.now c.requires
