-- A side, an arbitration and a device of their fields.
-- Assumes nothing.
use Rattle.std.specs.Prelude.{ℕ, Bool}
use Rattle.arbiter.specs.declared.Register.{Register}
use Rattle.arbiter.specs.declared.Control.{Control}
use Rattle.arbiter.specs.declared.Mailbox.{Mailbox}
use Rattle.arbiter.specs.declared.Port.{Port}
use Rattle.arbiter.specs.declared.Side.{Side}
use Rattle.std.specs.Prelude.{Option}
use Rattle.arbiter.specs.declared.Master.{Master}
use Rattle.arbiter.specs.declared.Switch.{Switch}
use Rattle.arbiter.specs.declared.Turn.{Turn}
use Rattle.arbiter.specs.declared.Arbitration.{Arbitration}
use Rattle.arbiter.specs.declared.Bus.{Bus}
use Rattle.arbiter.specs.declared.Device.{Device}

abbrev pub side_with : Register → ℕ → Control → ℕ → Mailbox → Bool → Port → ℕ → Side
side_with pointer rt contr ints mail auto port mask =
    record { pointer = pointer; rt = rt; contr = contr; ints = ints; mail = mail; auto = auto; port = port; mask = mask }

abbrev pub arb_with : Option Master → Bool → Switch → ℕ → Turn → Arbitration
arb_with last initfail switch reserve turn = record { last = last; initfail = initfail; switch = switch; reserve = reserve; turn = turn }

-- the kind is that of the device that was
abbrev pub device_with : Side → Side → Bus → Arbitration → Device → Device
device_with side0 side1 bus arb d = record { side0 = side0; side1 = side1; bus = bus; arb = arb; kind = d.kind }
