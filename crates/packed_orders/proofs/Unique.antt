-- What each public call of `packed_orders` promises leaves room for one result.
-- Assumes nothing.
use Rattle.arbiter.proofs.Once.{OneLeft, once}
use Rattle.packed_orders.proofs.list_packed.Reads as list-packed

pub list_packed_once : OneLeft (λ κ s. s.1.1.1.0.now) list-packed.Post
list_packed_once κ a x y s t p q = (once p.0 q.0, once p.1 q.1)
