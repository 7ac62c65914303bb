-- What each public call of `packed_traces` promises leaves room for one result.
-- Assumes nothing.
use Rattle.arbiter.proofs.Once.{OneLeft, once}
use Rattle.packed_traces.proofs.run_packed.Reads as run-packed
use Rattle.packed_traces.proofs.write_packed.Reads as write-packed
use Rattle.packed_traces.proofs.convert_packed.Reads as convert-packed

pub run_packed_once : OneLeft (λ κ s. s.1.0.now) run-packed.Post
run_packed_once κ a x y s t p q = (once p.0 q.0, once p.1 q.1)

pub write_packed_once : OneLeft (λ κ s. s.1.1.1.1.1.1.0.now) write-packed.Post
write_packed_once κ a x y s t p q = (once p.0 q.0, once p.1 q.1)

pub convert_packed_once : OneLeft (λ κ s. s.1.0.now) convert-packed.Post
convert_packed_once κ a x y s t p q = (once p.0 q.0, once p.1 q.1)
