-- What each public call of `packed_sheets` promises leaves room for one result.
-- Assumes nothing.
use Rattle.arbiter.proofs.Once.{OneResult, OneLeft, once}
use Rattle.packed_sheets.proofs.packed_box.Reads as packed-box
use Rattle.packed_sheets.proofs.packed_events.Reads as packed-events
use Rattle.packed_sheets.proofs.packed_wait.Reads as packed-wait

pub packed_box_once : OneResult packed-box.Post
packed_box_once κ a x y s t p q = once p q

pub packed_events_once : OneLeft (λ κ s. s.1.1.0.now) packed-events.Post
packed_events_once κ a x y s t p q = (once p.0 q.0, once p.1 q.1)

pub packed_wait_once : OneResult packed-wait.Post
packed_wait_once κ a x y s t p q = once p q
