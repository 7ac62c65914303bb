-- Part 2 of a tick that leaves SCL as it is has nothing to do: no line has moved, and every count that does not run is 0 already.
-- Assumes nothing.
use Prim.Native.Nat.{◌-◌}
use mathlib.Core.Path.{◌≡◌, ap}
use lib.Dec.{eqb}
use Rattle.arbiter.specs.Rules.{idle_limit}
use Rattle.arbiter.specs.Parts.{with_bus}
use Rattle.arbiter.specs.Effects.{ticked, effect}
use Rattle.arbiter.specs.Order.{levels}
use Rattle.arbiter.specs.declared.Bus.{Bus}
use Rattle.arbiter.specs.declared.Device.{Device}
use Rattle.arbiter.specs.declared.Event.TheVariants.{Tick}
use Rattle.arbiter.proofs.Settled.{Still}
use Rattle.arbiter.proofs.Owner.{mid}
use Rattle.quiet.proofs.Tick.{bus_same}

pub mid_ticked : (d : Device) → eqb (d.bus.hold - 1) 0 ≡ eqb d.bus.hold 0 → Still d.bus → mid Tick d ≡ ticked d
unfolding levels effect ticked
mid_ticked d held still = ap (λ (x : Bus). with_bus x (ticked d)) (bus_same (idle_limit d) d.bus held still)
