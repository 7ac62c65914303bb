-- What each public call of `rowimage` promises leaves room for one result, and for one state of the lent buffer.
-- Assumes nothing.
use Rattle.arbiter.proofs.Once.{OneResult, OneLeft, once}
use Rattle.rowimage.proofs.Faults.{same_number}
use Rattle.rowimage.proofs.number_of.Reads as number-of
use Rattle.rowimage.proofs.step_row.Reads as step_row
use Rattle.rowimage.proofs.show_row.Reads as show-row
use Rattle.rowimage.proofs.slots.fresh_row.Reads as fresh-row

pub number_of_once : OneResult number-of.Post
number_of_once κ a x y s t p q = once p q

pub step_row_once : OneLeft (λ κ s. s.0.now) step_row.Post
step_row_once κ a x y s t p q = (once p.0 q.0, once p.1 q.1)

pub show_row_once : OneResult show-row.Post
show_row_once κ a x y s t p q = once p q

pub fresh_row_once : OneLeft (λ κ s. s.1.0.now) fresh-row.Post
fresh_row_once κ a x y s t p q = (same_number x y (once p.0 q.0), once p.1 q.1)
