-- Quiet of `connection`: when part 7 has nothing to do, by the turn, at an event that is no clock.
-- Assumes nothing.
use Rattle.std.specs.Prelude.{Bool, not, ◌&&◌}
use Rattle.arbiter.specs.Words.{same_master, side}
use Rattle.arbiter.specs.declared.Master.{Master}
use Rattle.arbiter.specs.declared.Turn.{Turn}
use Rattle.arbiter.specs.declared.Turn.TheVariants.{Nobody, Claims, Owns}
use Rattle.arbiter.specs.declared.Switch.{Switch}
use Rattle.arbiter.specs.declared.Switch.TheVariants.{Apart, Initialising, Closed}
use Rattle.arbiter.specs.declared.Device.{Device}
use Rattle.fields.specs.Apart.{is_apart}

-- the switch is as m's grant and BUS_CONNECT have it
abbrev pub linked : Master → Bool → Switch → Bool
linked m busconnect Apart = not busconnect
linked m busconnect (Initialising k n) = busconnect && same_master m k
linked m busconnect (Closed k) = busconnect && same_master m k

abbrev pub switch_stays : Turn → Device → Bool
switch_stays Nobody d = is_apart d.arb.switch
switch_stays (Claims m g) d = is_apart d.arb.switch
switch_stays (Owns m g) d = linked m (side m d).contr.busconnect d.arb.switch
