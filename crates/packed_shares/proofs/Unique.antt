-- What each public call of `packed_shares` promises leaves room for one result.
-- Assumes nothing.
use Rattle.arbiter.proofs.Once.{OneLeft, once}
use Rattle.packed_shares.proofs.add_packed.Reads as add-packed
use Rattle.packed_shares.proofs.join_packed.Reads as join-packed

pub add_packed_once : OneLeft (λ κ s. s.1.0.now) add-packed.Post
add_packed_once κ a x y s t p q = (once p.0 q.0, once p.1 q.1)

pub join_packed_once : OneLeft (λ κ s. s.1.0.now) join-packed.Post
join_packed_once κ a x y s t p q = (once p.0 q.0, once p.1 q.1)
