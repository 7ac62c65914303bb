-- What each public call of `packed_shelves` promises leaves room for one result.
-- Assumes nothing.
use Rattle.arbiter.proofs.Once.{OneResult, OneLeft, once}
use Rattle.packed_shelves.proofs.step_packed.Reads as step-packed
use Rattle.packed_shelves.proofs.show_packed.Reads as show-packed
use Rattle.packed_shelves.proofs.fresh_packed.Reads as fresh-packed

pub step_packed_once : OneLeft (λ κ s. s.1.1.1.1.1.0.now) step-packed.Post
step_packed_once κ a x y s t p q = (once p.0 q.0, once p.1 q.1)

pub show_packed_once : OneResult show-packed.Post
show_packed_once κ a x y s t p q = once p q

pub fresh_packed_once : OneLeft (λ κ s. s.1.0.now) fresh-packed.Post
fresh_packed_once κ a x y s t p q = (once p.0 q.0, once p.1 q.1)
