-- What the public call of `watching` promises leaves room for one result.
-- Assumes nothing.
use Rattle.arbiter.proofs.Once.{OneResult, once}
use Rattle.watching.proofs.listen.Reads as listen

pub listen_once : OneResult listen.Post
listen_once κ a x y s t p q = λ j. record { watcher = once p.0 q.0 j; taken = once p.1 q.1 j }
