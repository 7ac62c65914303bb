-- What each public call of `showing` promises leaves room for one result, and for one state of the lent record.
-- Assumes nothing.
use Rattle.arbiter.proofs.Once.{OneResult, OneLeft, once}
use Rattle.showing.proofs.visit.Reads as visit
use Rattle.showing.proofs.show_device.Reads as show-device
use Rattle.showing.proofs.look_start.Reads as look-start
use Rattle.showing.proofs.look.Reads as look
use Rattle.showing.proofs.shown.Reads as shown

pub visit_once : OneLeft (λ κ s. s.0.now) visit.Post
visit_once κ a x y s t p q = (once p.1 q.1, once p.0 q.0)

pub show_device_once : OneResult show-device.Post
show_device_once κ a x y s t p q = once p q

pub look_start_once : OneResult look-start.Post
look_start_once κ a x y s t p q = once p q

pub look_once : OneResult look.Post
look_once κ a x y s t p q = once p q

pub shown_once : OneResult shown.Post
shown_once κ a x y s t p q = once p q
