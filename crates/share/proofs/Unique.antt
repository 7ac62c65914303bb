-- What each public call of `share` promises leaves room for one result.
-- Assumes nothing.
use mathlib.Core.Path.{ap}
use Rattle.share.specs.Share.{Added}
use Rattle.arbiter.proofs.Once.{OneResult, OneLeft, once}
use Rattle.share.proofs.uncounted_number.Reads as uncounted-number
use Rattle.share.proofs.empty_totals.Reads as empty-totals
use Rattle.share.proofs.add_trace.Reads as add-trace
use Rattle.share.proofs.join.Reads as join
use Rattle.share.proofs.lent.add_totals.Reads as add-totals
use Rattle.share.proofs.lent.join_lent.Reads as join-lent

pub empty_totals_once : OneResult empty-totals.Post
empty_totals_once κ a x y s t p q = once p q

pub add_trace_once : OneLeft (λ κ s. s.0.now) add-trace.Post
add_trace_once κ a x y s t p q = (once p.0 q.0, ap (λ (z : Added). z.totals) (once p.1 q.1))

pub join_once : OneLeft (λ κ s. s.0.now) join.Post
join_once κ a x y s t p q = (once p.0 q.0, ap (λ (z : Added). z.totals) (once p.1 q.1))

pub add_totals_once : OneLeft (λ κ s. s.0.now) add-totals.Post
add_totals_once κ a x y s t p q = (once p.0 q.0, once p.2 q.2)

pub join_lent_once : OneLeft (λ κ s. s.0.now) join-lent.Post
join_lent_once κ a x y s t p q = (once p.0 q.0, once p.2 q.2)

pub uncounted_number_once : OneResult uncounted-number.Post
uncounted_number_once κ a x y s t p q = once p q
