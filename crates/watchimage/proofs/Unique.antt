-- What each public call of `watchimage` promises leaves room for one result, and for one state of the lent buffer.
-- Assumes nothing.
use Rattle.arbiter.proofs.Once.{OneLeft, once}
use Rattle.watchlayout.proofs.Once.{number_once, heeded_once}
use Rattle.watchimage.proofs.fresh_watch.Reads as fresh-watch
use Rattle.watchimage.proofs.listen_watch.Reads as listen-watch

pub fresh_watch_once : OneLeft (λ κ s. s.1.1.1.1.0.now) fresh-watch.Post
fresh_watch_once κ a x y s t p q = (number_once p.0 q.0, once p.1 q.1)

pub listen_watch_once : OneLeft (λ κ s. s.1.0.now) listen-watch.Post
listen_watch_once κ a x y s t p q = (heeded_once p.0 q.0, once p.1 q.1)
