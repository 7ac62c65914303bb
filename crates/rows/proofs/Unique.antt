-- What each public call of `rows` promises leaves room for one result, and for one state of the lent row.
-- Assumes nothing.
use Rattle.arbiter.proofs.Once.{OneResult, OneLeft, once}
use Rattle.rows.proofs.survey.Reads as survey
use Rattle.rows.proofs.route_event.Reads as route-event
use Rattle.rows.proofs.step_shelf.Reads as step-shelf
use Rattle.rows.proofs.tick_all.Reads as tick-all
use Rattle.rows.proofs.reset_all.Reads as reset-all
use Rattle.rows.proofs.show_place.Reads as show-place
use Rattle.rows.proofs.fresh_record.Reads as fresh-record

pub survey_once : OneResult survey.Post
survey_once κ a x y s t p q = once p q

pub route_event_once : OneLeft (λ κ s. s.0.now) route-event.Post
route_event_once κ a x y s t p q = (once p.1 q.1, once p.0 q.0)

pub step_shelf_once : OneLeft (λ κ s. s.0.now) step-shelf.Post
step_shelf_once κ a x y s t p q = (once p.1 q.1, once p.0 q.0)

pub tick_all_once : OneLeft (λ κ s. s.0.now) tick-all.Post
tick_all_once κ a x y s t p q = (once p.1 q.1, once p.0 q.0)

pub reset_all_once : OneLeft (λ κ s. s.0.now) reset-all.Post
reset_all_once κ a x y s t p q = (once p.1 q.1, once p.0 q.0)

pub show_place_once : OneResult show-place.Post
show_place_once κ a x y s t p q = once p q

pub fresh_record_once : OneResult fresh-record.Post
fresh_record_once κ a x y s t p q = once p q
