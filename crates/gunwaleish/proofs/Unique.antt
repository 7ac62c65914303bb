-- What each public call of `gunwaleish` promises leaves room for one result.
-- Assumes nothing.
use Rattle.arbiter.proofs.Once.{OneResult, OneLeft, once}
use Rattle.gunwaleish.proofs.gunwaleish_version.Reads as gunwaleish-version
use Rattle.gunwaleish.proofs.gunwaleish_run_trace.Reads as gunwaleish-run-trace
use Rattle.gunwaleish.proofs.gunwaleish_write_trace.Reads as gunwaleish-write-trace
use Rattle.gunwaleish.proofs.gunwaleish_convert_trace.Reads as gunwaleish-convert-trace
use Rattle.gunwaleish.proofs.gunwaleish_listing.Reads as gunwaleish-listing
use Rattle.gunwaleish.proofs.gunwaleish_import_capture.Reads as gunwaleish-import-capture
use Rattle.gunwaleish.proofs.gunwaleish_watch_fresh.Reads as gunwaleish-watch-fresh
use Rattle.gunwaleish.proofs.gunwaleish_watch_listen.Reads as gunwaleish-watch-listen
use Rattle.gunwaleish.proofs.gunwaleish_sheet_box.Reads as gunwaleish-sheet-box
use Rattle.gunwaleish.proofs.gunwaleish_sheet_events.Reads as gunwaleish-sheet-events
use Rattle.gunwaleish.proofs.gunwaleish_sheet_wait.Reads as gunwaleish-sheet-wait
use Rattle.gunwaleish.proofs.gunwaleish_image_fresh.Reads as gunwaleish-image-fresh
use Rattle.gunwaleish.proofs.gunwaleish_image_step.Reads as gunwaleish-image-step
use Rattle.gunwaleish.proofs.gunwaleish_image_advance.Reads as gunwaleish-image-advance
use Rattle.gunwaleish.proofs.gunwaleish_image_read.Reads as gunwaleish-image-read
use Rattle.gunwaleish.proofs.gunwaleish_shelf_step.Reads as gunwaleish-shelf-step
use Rattle.gunwaleish.proofs.gunwaleish_shelf_show.Reads as gunwaleish-shelf-show
use Rattle.gunwaleish.proofs.gunwaleish_shelf_fresh.Reads as gunwaleish-shelf-fresh
use Rattle.gunwaleish.proofs.gunwaleish_list_orders.Reads as gunwaleish-list-orders
use Rattle.gunwaleish.proofs.gunwaleish_share_add.Reads as gunwaleish-share-add
use Rattle.gunwaleish.proofs.gunwaleish_share_join.Reads as gunwaleish-share-join
use Rattle.gunwaleish.proofs.gunwaleish_address_of.Reads as gunwaleish-address-of
use Rattle.gunwaleish.proofs.gunwaleish_pins_of.Reads as gunwaleish-pins-of

pub gunwaleish_version_once : OneResult gunwaleish-version.Post
gunwaleish_version_once κ a x y s t p q = once p q

pub gunwaleish_run_trace_once : OneLeft (λ κ s. s.1.0.now) gunwaleish-run-trace.Post
gunwaleish_run_trace_once κ a x y s t p q = (once p.0 q.0, once p.1 q.1)

pub gunwaleish_write_trace_once : OneLeft (λ κ s. s.1.1.1.1.1.1.0.now) gunwaleish-write-trace.Post
gunwaleish_write_trace_once κ a x y s t p q = (once p.0 q.0, once p.1 q.1)

pub gunwaleish_convert_trace_once : OneLeft (λ κ s. s.1.0.now) gunwaleish-convert-trace.Post
gunwaleish_convert_trace_once κ a x y s t p q = (once p.0 q.0, once p.1 q.1)

pub gunwaleish_listing_once : OneLeft (λ κ s. s.1.0.now) gunwaleish-listing.Post
gunwaleish_listing_once κ a x y s t p q = (once p.0 q.0, once p.1 q.1)

pub gunwaleish_import_capture_once : OneLeft (λ κ s. s.1.1.0.now) gunwaleish-import-capture.Post
gunwaleish_import_capture_once κ a x y s t p q = (once p.0 q.0, once p.1 q.1)

pub gunwaleish_watch_fresh_once : OneLeft (λ κ s. s.1.1.1.1.0.now) gunwaleish-watch-fresh.Post
gunwaleish_watch_fresh_once κ a x y s t p q = (once p.0 q.0, once p.1 q.1)

pub gunwaleish_watch_listen_once : OneLeft (λ κ s. s.1.0.now) gunwaleish-watch-listen.Post
gunwaleish_watch_listen_once κ a x y s t p q = (once p.0 q.0, once p.1 q.1)

pub gunwaleish_sheet_box_once : OneResult gunwaleish-sheet-box.Post
gunwaleish_sheet_box_once κ a x y s t p q = once p q

pub gunwaleish_sheet_events_once : OneLeft (λ κ s. s.1.1.0.now) gunwaleish-sheet-events.Post
gunwaleish_sheet_events_once κ a x y s t p q = (once p.0 q.0, once p.1 q.1)

pub gunwaleish_sheet_wait_once : OneResult gunwaleish-sheet-wait.Post
gunwaleish_sheet_wait_once κ a x y s t p q = once p q

pub gunwaleish_image_fresh_once : OneLeft (λ κ s. s.1.0.now) gunwaleish-image-fresh.Post
gunwaleish_image_fresh_once κ a x y s t p q = (once p.0 q.0, once p.1 q.1)

pub gunwaleish_image_step_once : OneLeft (λ κ s. s.1.1.1.1.0.now) gunwaleish-image-step.Post
gunwaleish_image_step_once κ a x y s t p q = (once p.0 q.0, once p.1 q.1)

pub gunwaleish_image_advance_once : OneLeft (λ κ s. s.1.0.now) gunwaleish-image-advance.Post
gunwaleish_image_advance_once κ a x y s t p q = (once p.0 q.0, once p.1 q.1)

pub gunwaleish_image_read_once : OneResult gunwaleish-image-read.Post
gunwaleish_image_read_once κ a x y s t p q = once p q

pub gunwaleish_shelf_step_once : OneLeft (λ κ s. s.1.1.1.1.1.0.now) gunwaleish-shelf-step.Post
gunwaleish_shelf_step_once κ a x y s t p q = (once p.0 q.0, once p.1 q.1)

pub gunwaleish_shelf_show_once : OneResult gunwaleish-shelf-show.Post
gunwaleish_shelf_show_once κ a x y s t p q = once p q

pub gunwaleish_shelf_fresh_once : OneLeft (λ κ s. s.1.0.now) gunwaleish-shelf-fresh.Post
gunwaleish_shelf_fresh_once κ a x y s t p q = (once p.0 q.0, once p.1 q.1)

pub gunwaleish_list_orders_once : OneLeft (λ κ s. s.1.1.1.0.now) gunwaleish-list-orders.Post
gunwaleish_list_orders_once κ a x y s t p q = (once p.0 q.0, once p.1 q.1)

pub gunwaleish_share_add_once : OneLeft (λ κ s. s.1.0.now) gunwaleish-share-add.Post
gunwaleish_share_add_once κ a x y s t p q = (once p.0 q.0, once p.1 q.1)

pub gunwaleish_share_join_once : OneLeft (λ κ s. s.1.0.now) gunwaleish-share-join.Post
gunwaleish_share_join_once κ a x y s t p q = (once p.0 q.0, once p.1 q.1)

pub gunwaleish_address_of_once : OneResult gunwaleish-address-of.Post
gunwaleish_address_of_once κ a x y s t p q = once p q

pub gunwaleish_pins_of_once : OneResult gunwaleish-pins-of.Post
gunwaleish_pins_of_once κ a x y s t p q = once p q
