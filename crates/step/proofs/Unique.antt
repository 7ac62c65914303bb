-- What each public call of `step` promises leaves room for one result.
-- Assumes nothing.
use Rattle.arbiter.proofs.Once.{OneResult, once}
use Rattle.step.proofs.fresh.Reads as fresh
use Rattle.step.proofs.step_device.Reads as step-device
use Rattle.step.proofs.answered.Reads as answered
use Rattle.step.proofs.finish.Reads as finish

pub fresh_once : OneResult fresh.Post
fresh_once κ a x y s t p q = once p q

pub step_device_once : OneResult step-device.Post
step_device_once κ a x y s t p q = once p q

pub answered_once : OneResult answered.Post
answered_once κ a x y s t p q = once p q

pub finish_once : OneResult finish.Post
finish_once κ a x y s t p q = once p q
