-- What each public call of `straps` promises leaves room for one result.
-- Assumes nothing.
use Rattle.arbiter.proofs.Once.{OneResult, once}
use Rattle.straps.proofs.in_range.Reads as in_range_lem
use Rattle.straps.proofs.address_of.Reads as address-of
use Rattle.straps.proofs.straps_of.Reads as straps-of

pub in_range_once : OneResult in_range_lem.Post
in_range_once κ a x y s t p q = once p q

pub address_of_once : OneResult address-of.Post
address_of_once κ a x y s t p q = once p.0 q.0

pub straps_of_once : OneResult straps-of.Post
straps_of_once κ a x y s t p q = once p.0 q.0
