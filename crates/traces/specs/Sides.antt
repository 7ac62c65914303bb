-- Request #114: what the loop over events asks of one event and of the two sides that it holds beside each other.
-- Assumes nothing.
use Rattle.std.specs.Prelude.{ℕ, ◌+◌, Bool, true, not, ◌&&◌}
use Rattle.arbiter.specs.Words.{bit, worth}
use Rattle.arbiter.specs.State.{scl_high, sda_high, bus_hung}
use Rattle.arbiter.specs.Registers.{is_asserted}
use Rattle.arbiter.specs.declared.Master.{Master}
use Rattle.arbiter.specs.declared.Turn.{Turn}
use Rattle.arbiter.specs.declared.Register.{Register}
use Rattle.arbiter.specs.declared.Register.TheVariants.{Id, Contr, Status, Rt, IntStatus, IntMask, MailLow, MailHigh}
use Rattle.arbiter.specs.declared.Side.{Side}
use Rattle.arbiter.specs.declared.Bus.{Bus}
use Rattle.arbiter.specs.declared.Arbitration.{Arbitration}
use Rattle.arbiter.specs.declared.Kind.{Kind}
use Rattle.arbiter.specs.declared.Device.{Device}
use Rattle.light.specs.Ended.{leaves_turn}

-- write_is_light of crate light, from the turn, m's grant and m's BUS_CONNECT alone
abbrev pub byte_is_light : Register → Master → Bool → ℕ → Turn → Bool → Bool
byte_is_light Id m granted v t connect = true
byte_is_light Contr m granted v t connect = leaves_turn m (bit 0 v) t
byte_is_light Status m granted v t connect = not (granted && not connect)
byte_is_light Rt m granted v t connect = true
byte_is_light IntStatus m granted v t connect = true
byte_is_light IntMask m granted v t connect = true
byte_is_light MailLow m granted v t connect = true
byte_is_light MailHigh m granted v t connect = true

-- the last answer byte, from the two sides and the bus alone
abbrev pub lines_shown : Side → Side → Bus → ℕ
lines_shown s0 s1 b =
    worth 1 (is_asserted (bus_hung b) s0.ints s0.mask) + worth 2 (is_asserted (bus_hung b) s1.ints s1.mask) + worth 4 (scl_high b) + worth 8 (sda_high b)

-- the device of its parts
abbrev pub device_of : Kind → Side → Side → Bus → Arbitration → Device
device_of k s0 s1 b a = record { kind = k; side0 = s0; side1 = s1; bus = b; arb = a }
