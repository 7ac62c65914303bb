-- What the public call of `converter` promises leaves room for one result, and for one state of the lent buffer.
-- Assumes nothing.
use Rattle.arbiter.proofs.Once.{OneLeft, once}
use Rattle.format.proofs.Refused.{written_once}
use Rattle.converter.proofs.convert_trace.Reads as convert-trace

pub convert_trace_once : OneLeft (λ κ s. s.1.0.now) convert-trace.Post
convert_trace_once κ a x y s t p q = (written_once x y (once p.0 q.0), once p.1 q.1)
