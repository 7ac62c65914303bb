-- What each public call of `packed_images` promises leaves room for one result.
-- Assumes nothing.
use Rattle.arbiter.proofs.Once.{OneResult, OneLeft, once}
use Rattle.packed_images.proofs.fresh_packed.Reads as fresh-packed
use Rattle.packed_images.proofs.step_packed.Reads as step-packed
use Rattle.packed_images.proofs.advance_packed.Reads as advance-packed
use Rattle.packed_images.proofs.read_packed.Reads as read-packed

pub fresh_packed_once : OneLeft (λ κ s. s.1.0.now) fresh-packed.Post
fresh_packed_once κ a x y s t p q = (once p.0 q.0, once p.1 q.1)

pub step_packed_once : OneLeft (λ κ s. s.1.1.1.1.0.now) step-packed.Post
step_packed_once κ a x y s t p q = (once p.0 q.0, once p.1 q.1)

pub advance_packed_once : OneLeft (λ κ s. s.1.0.now) advance-packed.Post
advance_packed_once κ a x y s t p q = (once p.0 q.0, once p.1 q.1)

pub read_packed_once : OneResult read-packed.Post
read_packed_once κ a x y s t p q = once p q
