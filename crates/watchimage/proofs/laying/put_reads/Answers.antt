-- `watchimage::laying::put_reads` meets its contract.
-- Assumes nothing.
use Rattle.watchimage.proofs.Laid.{reads_put}
use Rattle.watchimage.proofs.laying.put_reads.Goals as goal

pub returns : goal.returns
returns c =
    reads_put c.args.t c.args.out.now _ _ _ c.requires c.put_check.ensures
    c.put_check-2.ensures c.put_check-3.ensures
