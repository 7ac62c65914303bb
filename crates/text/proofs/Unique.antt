-- What each public call of `text` promises leaves room for one result.
-- Assumes nothing.
use Rattle.arbiter.proofs.Once.{OneResult, OneLeft, once}
use Rattle.text.proofs.high_digit.Reads as high_digit
use Rattle.text.proofs.low_digit.Reads as low_digit
use Rattle.text.proofs.list_trace.Reads as list-trace

pub high_digit_once : OneResult high_digit.Post
high_digit_once κ a x y s t p q = once p q

pub low_digit_once : OneResult low_digit.Post
low_digit_once κ a x y s t p q = once p q

pub list_trace_once : OneLeft (λ κ s. s.1.0.now) list-trace.Post
list_trace_once κ a x y s t p q = (once p.1.0 q.1.0, once p.1.1 q.1.1)
