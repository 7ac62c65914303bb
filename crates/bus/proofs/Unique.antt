-- What each public call of `bus` promises leaves room for one result.
-- Assumes nothing.
use Rattle.arbiter.proofs.Once.{OneResult, once}
use Rattle.bus.proofs.scl_high.Reads as scl-high
use Rattle.bus.proofs.sda_high.Reads as sda-high
use Rattle.bus.proofs.is_idle.Reads as is-idle
use Rattle.bus.proofs.bus_hung.Reads as bus-hung
use Rattle.bus.proofs.outside_of.Reads as Outside-of
use Rattle.bus.proofs.ticked_bus.Reads as ticked-bus
use Rattle.bus.proofs.settled_bus.Reads as settled-bus
use Rattle.bus.proofs.released_if.Reads as released-if
use Rattle.bus.proofs.idle_kept.Reads as idle-kept

pub scl_high_once : OneResult scl-high.Post
scl_high_once κ a x y s t p q = once p q

pub sda_high_once : OneResult sda-high.Post
sda_high_once κ a x y s t p q = once p q

pub is_idle_once : OneResult is-idle.Post
is_idle_once κ a x y s t p q = once p q

pub bus_hung_once : OneResult bus-hung.Post
bus_hung_once κ a x y s t p q = once p q

pub outside_of_once : OneResult Outside-of.Post
outside_of_once κ a x y s t p q = once p q

pub ticked_bus_once : OneResult ticked-bus.Post
ticked_bus_once κ a x y s t p q = once p q

pub settled_bus_once : OneResult settled-bus.Post
settled_bus_once κ a x y s t p q = once p q

pub released_if_once : OneResult released-if.Post
released_if_once κ a x y s t p q = once p q

pub idle_kept_once : OneResult idle-kept.Post
idle_kept_once κ a x y s t p q = once p q
