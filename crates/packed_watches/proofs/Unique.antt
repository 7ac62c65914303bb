-- What each public call of `packed_watches` promises leaves room for one result, and for one state of the lent buffer.
-- Assumes nothing.
use Rattle.arbiter.proofs.Once.{OneLeft, once}
use Rattle.packed_watches.proofs.fresh_packed.Reads as fresh-packed
use Rattle.packed_watches.proofs.listen_packed.Reads as listen-packed

pub fresh_packed_once : OneLeft (λ κ s. s.1.1.1.1.0.now) fresh-packed.Post
fresh_packed_once κ a x y s t p q = (once p.0 q.0, once p.1 q.1)

pub listen_packed_once : OneLeft (λ κ s. s.1.0.now) listen-packed.Post
listen_packed_once κ a x y s t p q = (once p.0 q.0, once p.1 q.1)
