-- What each public call of `packed_straps` promises leaves room for one result.
-- Assumes nothing.
use Rattle.arbiter.proofs.Once.{OneResult, once}
use Rattle.packed_straps.proofs.packed_address.Reads as packed-address
use Rattle.packed_straps.proofs.packed_pins.Reads as packed-pins

pub packed_address_once : OneResult packed-address.Post
packed_address_once κ a x y s t p q = once p q

pub packed_pins_once : OneResult packed-pins.Post
packed_pins_once κ a x y s t p q = once p q
