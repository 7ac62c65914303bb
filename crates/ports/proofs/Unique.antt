-- What each public call of `ports` promises leaves room for one result.
-- Assumes nothing.
use Rattle.arbiter.proofs.Once.{OneResult, once}
use Rattle.ports.proofs.is_at_rest.Reads as is-at-rest
use Rattle.ports.proofs.is_for_writing.Reads as is-for-writing
use Rattle.ports.proofs.commanded_side.Reads as commanded-side
use Rattle.ports.proofs.stopped_side.Reads as stopped-side

pub is_at_rest_once : OneResult is-at-rest.Post
is_at_rest_once κ a x y s t p q = once p q

pub is_for_writing_once : OneResult is-for-writing.Post
is_for_writing_once κ a x y s t p q = once p q

pub commanded_side_once : OneResult commanded-side.Post
commanded_side_once κ a x y s t p q = once p q

pub stopped_side_once : OneResult stopped-side.Post
stopped_side_once κ a x y s t p q = once p q
