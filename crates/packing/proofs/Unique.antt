-- What each public call of `packing` promises leaves room for one result.
-- Assumes nothing.
use Rattle.arbiter.proofs.Once.{OneResult, once}
use Rattle.packing.proofs.long_of.Reads as Long-of
use Rattle.packing.proofs.packed_answer.Reads as packed-answer

pub long_of_once : OneResult Long-of.Post
long_of_once κ a x y s t p q = once p.0 q.0

pub packed_answer_once : OneResult packed-answer.Post
packed_answer_once κ a x y s t p q = once p q
