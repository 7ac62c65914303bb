-- `watchimage::laying::put_counts` meets its contract.
-- Assumes nothing.
use Rattle.watchimage.proofs.Laid.{counts_put}
use Rattle.watchimage.proofs.laying.put_counts.Goals as goal

pub returns : goal.returns
returns c =
    counts_put c.args.t c.args.out.now _ _ _ _ _ _ c.requires
    c.put_long.ensures
    c.put_long-2.ensures
    c.put_long-3.ensures
    c.put_long-4.ensures
    c.put_long-5.ensures
    c.put_long-6.ensures
