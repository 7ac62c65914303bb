-- What each public call of `resets` promises leaves room for one result.
-- Assumes nothing.
use Rattle.arbiter.proofs.Once.{OneResult, once}
use Rattle.resets.proofs.reset_device.Reads as reset-device
use Rattle.resets.proofs.soft_reset.Reads as soft_reset_lem
use Rattle.resets.proofs.fresh_device.Reads as fresh_device

pub reset_device_once : OneResult reset-device.Post
reset_device_once κ a x y s t p q = once p q

pub soft_reset_once : OneResult soft_reset_lem.Post
soft_reset_once κ a x y s t p q = once p q

pub fresh_device_once : OneResult fresh_device.Post
fresh_device_once κ a x y s t p q = once p q
