-- What the public call of `writer` promises leaves room for one result, and for one state of the lent buffer.
-- Assumes nothing.
use Rattle.arbiter.proofs.Once.{OneLeft, once}
use Rattle.format.proofs.Refused.{written_once}
use Rattle.writer.proofs.write_trace.Reads as write-trace

pub write_trace_once : OneLeft (λ κ s. s.1.1.1.0.now) write-trace.Post
write_trace_once κ a x y s t p q = (written_once x y (once p.0 q.0), once p.1 q.1)
