-- Quiet of `connection`: where its test says that part 7 has nothing to do, it changes nothing: true of every device value, at an event that is
-- no clock.
-- Assumes nothing.
use mathlib.Core.Path.{◌≡◌, refl, sym, ap}
use mathlib.Core.Bool.{Bool, true, false, false≢true}
use Rattle.std.specs.Prelude.{if◌then◌else◌}
use Rattle.arbiter.specs.Words.{side}
use Rattle.arbiter.specs.Order.{switched, joined, clocked, kept_joined, connect_from, connect}
use Rattle.arbiter.specs.declared.Master.{Master}
use Rattle.arbiter.specs.declared.Turn.{Turn}
use Rattle.arbiter.specs.declared.Turn.TheVariants.{Nobody, Claims, Owns}
use Rattle.arbiter.specs.declared.Switch.{Switch}
use Rattle.arbiter.specs.declared.Switch.TheVariants.{Apart, Initialising, Closed}
use Rattle.arbiter.specs.declared.Clock.TheVariants.{NoClock}
use Rattle.arbiter.specs.declared.Device.{Device}
use Rattle.arbiter.proofs.Choice.{if_true}
use Rattle.fields.specs.Apart.{is_apart}
use Rattle.connection.specs.Quiet.{linked, switch_stays}

switched_same : (w : Switch) (d : Device) → w ≡ d.arb.switch → switched w d ≡ d
switched_same w d e = ap (λ (x : Switch). switched x d) e

-- without an owner the switch is apart
apart : (w : Switch) → is_apart w ≡ true → Apart ≡ w
apart Apart q = refl
apart (Initialising m n) q = absurd (false≢true q)
apart (Closed m) q = absurd (false≢true q)

-- with the owner m it is as BUS_CONNECT has it
linked_same : (m : Master) (busconnect : Bool) (w : Switch) (d : Device) → d.arb.switch ≡ w → linked m busconnect w ≡ true
    → (if busconnect then kept_joined NoClock m w d else switched Apart d) ≡ d
unfolding kept_joined clocked
linked_same m true Apart d e q = absurd (false≢true q)
linked_same m false Apart d e q = switched_same Apart d (sym e)
linked_same m true (Initialising k n) d e q = if_true d (joined m d) q
linked_same m false (Initialising k n) d e q = absurd (false≢true q)
linked_same m true (Closed k) d e q = if_true d (joined m d) q
linked_same m false (Closed k) d e q = absurd (false≢true q)

connect_quiet : (t : Turn) (d : Device) → switch_stays t d ≡ true → connect_from NoClock t d ≡ d
unfolding connect_from
connect_quiet Nobody d q = switched_same Apart d (apart d.arb.switch q)
connect_quiet (Claims m g) d q = switched_same Apart d (apart d.arb.switch q)
connect_quiet (Owns m g) d q = linked_same m (side m d).contr.busconnect d.arb.switch d refl q

pub switch_stays_lem : (d : Device) → switch_stays d.arb.turn d ≡ true → connect NoClock d ≡ d
unfolding connect
switch_stays_lem d q = connect_quiet d.arb.turn d q
