-- Request #113: a tick that changes "anything other than counts". As ruled, counts are reserve, hold, idle and both low counts, and a change of
-- the levels or of BUS_HUNG is a change. So two devices are compared in each field but the counts, and in what the counts show.
-- Assumes nothing.
use Rattle.std.specs.Prelude.{◌≡◌, Bool, true, false, not, ◌&&◌, ◌||◌, eqb}
use Rattle.arbiter.specs.Words.{same_master}
use Rattle.arbiter.specs.State.{at_rest, for_writing, scl_high, sda_high, bus_hung}
use Rattle.arbiter.specs.Registers.{register_number}
use Rattle.arbiter.specs.Steps.{ground_number}
use Rattle.arbiter.specs.Traces.{kind_number}
use Rattle.arbiter.specs.declared.Turn.{Turn}
use Rattle.arbiter.specs.declared.Turn.TheVariants.{Nobody, Claims, Owns}
use Rattle.std.specs.Prelude.{Option, Some, None}
use Rattle.arbiter.specs.declared.Master.{Master}
use Rattle.arbiter.specs.declared.Switch.{Switch}
use Rattle.arbiter.specs.declared.Switch.TheVariants.{Apart, Initialising, Closed}
use Rattle.arbiter.specs.declared.Port.{Port}
use Rattle.arbiter.specs.declared.Register.{Register}
use Rattle.arbiter.specs.declared.Ground.{Ground}
use Rattle.arbiter.specs.declared.Control.{Control}
use Rattle.arbiter.specs.declared.Mailbox.{Mailbox}
use Rattle.arbiter.specs.declared.Side.{Side}
use Rattle.arbiter.specs.declared.Bus.{Bus}
use Rattle.arbiter.specs.declared.Arbitration.{Arbitration}
use Rattle.arbiter.specs.declared.Kind.{Kind}
use Rattle.arbiter.specs.declared.Device.{Device}
use Rattle.quiet.specs.Counts.{with_counts}
use Rattle.quiet.specs.Quiet.{Same}

-- ---- two flags, and two values of each choice, are the same

abbrev pub agree : Bool → Bool → Bool
agree x y = x && y || not x && not y

abbrev pub same_port : Port → Port → Bool
same_port p q = agree (at_rest p) (at_rest q) && agree (for_writing p) (for_writing q)

abbrev pub same_register : Register → Register → Bool
same_register r s = eqb (register_number r) (register_number s)

abbrev pub same_ground : Ground → Ground → Bool
same_ground g h = eqb (ground_number g) (ground_number h)

abbrev pub same_turn : Turn → Turn → Bool
same_turn Nobody Nobody = true
same_turn Nobody (Claims k h) = false
same_turn Nobody (Owns k h) = false
same_turn (Claims m g) Nobody = false
same_turn (Claims m g) (Claims k h) = same_master m k && same_ground g h
same_turn (Claims m g) (Owns k h) = false
same_turn (Owns m g) Nobody = false
same_turn (Owns m g) (Claims k h) = false
same_turn (Owns m g) (Owns k h) = same_master m k && same_ground g h

abbrev pub same_last : Option Master → Option Master → Bool
same_last None None = true
same_last None (Some k) = false
same_last (Some m) None = false
same_last (Some m) (Some k) = same_master m k

abbrev pub same_switch : Switch → Switch → Bool
same_switch Apart Apart = true
same_switch Apart (Initialising k p) = false
same_switch Apart (Closed k) = false
same_switch (Initialising m n) Apart = false
same_switch (Initialising m n) (Initialising k p) = same_master m k && eqb n p
same_switch (Initialising m n) (Closed k) = false
same_switch (Closed m) Apart = false
same_switch (Closed m) (Initialising k p) = false
same_switch (Closed m) (Closed k) = same_master m k

-- ---- field by field

abbrev pub same_control : Control → Control → Bool
same_control c e =
    agree c.priority e.priority
    && agree c.smbusdis e.smbusdis
    && agree c.idletimer e.idletimer
    && agree c.swrst e.swrst
    && agree c.businit e.businit
    && agree c.busconnect e.busconnect
    && agree c.lockreq e.lockreq

abbrev pub same_mail : Mailbox → Mailbox → Bool
same_mail m n = eqb m.low n.low && eqb m.high n.high && agree m.full n.full

abbrev pub same_side : Side → Side → Bool
same_side s t =
    same_register s.pointer t.pointer
    && eqb s.rt t.rt
    && same_control s.contr t.contr
    && eqb s.ints t.ints
    && same_mail s.mail t.mail
    && agree s.auto t.auto
    && same_port s.port t.port
    && eqb s.mask t.mask

-- all of the bus but hold, idle and both low counts
abbrev pub same_lines : Bus → Bus → Bool
same_lines b c =
    agree b.outscl c.outscl
    && agree b.outsda c.outsda
    && agree b.intin c.intin
    && agree b.drivescl c.drivescl
    && agree b.drivesda c.drivesda
    && agree b.busy c.busy

-- all of the arbitration but the reserve count
abbrev pub same_arb : Arbitration → Arbitration → Bool
same_arb a c = same_last a.last c.last && agree a.initfail c.initfail && same_switch a.switch c.switch && same_turn a.turn c.turn

abbrev pub same_kind : Kind → Kind → Bool
same_kind k l = eqb (kind_number k) (kind_number l)

unfoldable pub same_but_counts : Device → Device → Bool
same_but_counts d e =
    same_kind d.kind e.kind
    && same_side d.side0 e.side0
    && same_side d.side1 e.side1
    && same_lines d.bus e.bus
    && same_arb d.arb e.arb

-- what is shown of the lines and the counts: the levels and BUS_HUNG
unfoldable pub same_shown : Bus → Bus → Bool
same_shown b c = agree (scl_high b) (scl_high c) && agree (sda_high b) (sda_high c) && agree (bus_hung b) (bus_hung c)

-- ---- the test

unfoldable pub changes : Device → Device → Bool
changes before after = not (same_but_counts before after && same_shown before.bus after.bus)

-- It says what it is meant to: nothing has changed exactly if the devices with their counts left out are equal, and levels and BUS_HUNG too.
abbrev pub bare : Device → Device
bare d = with_counts 0 0 0 0 0 d

abbrev pub Unchanged : Type 0
Unchanged =
    (before after : Device)
    → (changes before after ≡ false → (bare after ≡ bare before) × Same before after)
    × (bare after ≡ bare before → Same before after → changes before after ≡ false)
