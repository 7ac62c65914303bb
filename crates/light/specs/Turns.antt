-- Request #114: events that move the turn in a settled device and nothing of the other master. The STOP of a claimant brings it the grant; a byte to CONTR
-- with LOCK_REQ, while nobody claims or owns, makes its writer the claimant.
-- Assumes nothing.
use Rattle.std.specs.Prelude.{ℕ, ◌≡◌, Bool, true, false, not, ◌&&◌, eqb, if◌then◌else◌}
use Rattle.arbiter.specs.Words.{bit, partner, side, device}
use Rattle.arbiter.specs.Parts.{with_port, with_ints, with_idle, with_turn}
use Rattle.arbiter.specs.State.{claims_turn, for_writing}
use Rattle.arbiter.specs.Registers.{granted_int, raised}
use Rattle.arbiter.specs.Effects.{writer_side}
use Rattle.arbiter.specs.Steps.{parts}
use Rattle.arbiter.specs.declared.Master.{Master}
use Rattle.arbiter.specs.declared.Ground.TheVariants.{Sole}
use Rattle.arbiter.specs.declared.Turn.{Turn}
use Rattle.arbiter.specs.declared.Turn.TheVariants.{Nobody, Claims, Owns}
use Rattle.std.specs.Prelude.{Some}
use Rattle.arbiter.specs.declared.Register.{Register}
use Rattle.arbiter.specs.declared.Register.TheVariants.{Id, Contr, Status, Rt, IntStatus, IntMask, MailLow, MailHigh}
use Rattle.arbiter.specs.declared.Port.TheVariants.{Rest}
use Rattle.arbiter.specs.declared.Switch.{Switch}
use Rattle.arbiter.specs.declared.Switch.TheVariants.{Apart, Initialising, Closed}
use Rattle.arbiter.specs.declared.Control.{Control}
use Rattle.arbiter.specs.declared.Side.{Side}
use Rattle.arbiter.specs.declared.Arbitration.{Arbitration}
use Rattle.arbiter.specs.declared.Device.{Device}
use Rattle.arbiter.specs.declared.Event.TheVariants.{Write, Stop}
use Rattle.arbitration.specs.Cleared.{ground_in}
use Rattle.light.specs.Light.{Settled}

-- ---- the grant at a STOP

-- the claimant's side: its port is at rest, and it is told of its grant
abbrev pub side_granted : Side → Side
side_granted s = with_ints (raised granted_int true s.ints) (with_port Rest s)

-- the switch, by the new owner's CONTR
abbrev pub switch_granted : Master → Control → Switch
switch_granted m c = if c.busconnect then (if c.businit then Initialising m 0 else Closed m) else Apart

-- the arbitration, s being the claimant's side; an initialisation that starts clears BUS_INIT_FAIL
abbrev pub arb_granted : Master → Side → Arbitration → Arbitration
arb_granted m s a =
    record { last = Some m; initfail = not (s.contr.busconnect && s.contr.businit) && a.initfail; switch = switch_granted m s.contr; reserve = s.rt; turn = Owns m (ground_in a.turn) }

-- ---- the claim by a byte

abbrev pub is_contr : Register → Bool
is_contr Id = false
is_contr Contr = true
is_contr Status = false
is_contr Rt = false
is_contr IntStatus = false
is_contr IntMask = false
is_contr MailLow = false
is_contr MailHigh = false

abbrev pub is_nobody : Turn → Bool
is_nobody Nobody = true
is_nobody (Claims m g) = false
is_nobody (Owns m g) = false

-- ---- what is proved

-- After the STOP of a claimant, while SCL is not held, it owns the bus, the idle count is 0, and its partner's side stays.
abbrev pub GrantedAtStop : Type 0
GrantedAtStop =
    (m : Master) (d : Device) → Settled d → claims_turn m d.arb.turn && eqb d.bus.hold 0 ≡ true
    → parts (Stop m) d ≡ device m (side_granted (side m d)) (side (partner m) d) (with_idle 0 d.bus) (arb_granted m (side m d) d.arb) d

-- After a byte to CONTR with LOCK_REQ, while nobody claims or owns, its writer is the sole claimant, and but for its own side nothing else moves.
abbrev pub ClaimedByWrite : Type 0
ClaimedByWrite =
    (m : Master) (v : ℕ) (d : Device) → Settled d → is_nobody d.arb.turn ≡ true → is_contr (side m d).pointer ≡ true → bit 0 v ≡ true → for_writing (side m d).port ≡ true
    → parts (Write m v) d ≡ device m (writer_side m v d) (side (partner m) d) d.bus (with_turn (Claims m Sole) d.arb) d
