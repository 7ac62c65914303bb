-- What each public call of `quiet` promises leaves room for one result.
-- Assumes nothing.
use Rattle.arbiter.proofs.Once.{OneResult, once}
use Rattle.quiet.proofs.hold_ticks.Reads as hold-ticks
use Rattle.quiet.proofs.scl_ticks.Reads as scl-ticks
use Rattle.quiet.proofs.sda_ticks.Reads as sda-ticks
use Rattle.quiet.proofs.idle_ticks.Reads as idle-ticks
use Rattle.quiet.proofs.owner_ticks.Reads as owner-ticks
use Rattle.quiet.proofs.is_still.Reads as is-still
use Rattle.quiet.proofs.is_calm.Reads as is-calm
use Rattle.quiet.proofs.quiet_ticks.Reads as quiet-ticks
use Rattle.quiet.proofs.counts_left.Reads as counts-left
use Rattle.quiet.proofs.after_ticks.Reads as after-ticks

pub hold_ticks_once : OneResult hold-ticks.Post
hold_ticks_once κ a x y s t p q = once p q

pub scl_ticks_once : OneResult scl-ticks.Post
scl_ticks_once κ a x y s t p q = once p q

pub sda_ticks_once : OneResult sda-ticks.Post
sda_ticks_once κ a x y s t p q = once p q

pub idle_ticks_once : OneResult idle-ticks.Post
idle_ticks_once κ a x y s t p q = once p q

pub owner_ticks_once : OneResult owner-ticks.Post
owner_ticks_once κ a x y s t p q = once p q

pub is_still_once : OneResult is-still.Post
is_still_once κ a x y s t p q = once p q

pub is_calm_once : OneResult is-calm.Post
is_calm_once κ a x y s t p q = once p q

pub quiet_ticks_once : OneResult quiet-ticks.Post
quiet_ticks_once κ a x y s t p q = once p q

pub counts_left_once : OneResult counts-left.Post
counts_left_once κ a x y s t p q = once p q

pub after_ticks_once : OneResult after-ticks.Post
after_ticks_once κ a x y s t p q = once p q
