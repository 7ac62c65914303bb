-- What each public call of `packed_captures` promises leaves room for one result.
-- Assumes nothing.
use Rattle.arbiter.proofs.Once.{OneLeft, once}
use Rattle.packed_captures.proofs.import_packed.Reads as import-packed

pub import_packed_once : OneLeft (λ κ s. s.1.1.0.now) import-packed.Post
import_packed_once κ a x y s t p q = (once p.0 q.0, once p.1 q.1)
