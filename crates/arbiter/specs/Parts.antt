-- One part of a record replaced by another, everything else kept: `with_port p s` is s with the port p.
-- Assumes nothing.
use Rattle.arbiter.specs.Types.{ℕ, Bool, Master, Turn, Port, Register, Control, Mailbox, Side, Bus, Switch, Arbitration, Device}
use Rattle.arbiter.specs.Words.{partner, side, device}

-- ---- CONTR

abbrev pub with_lock_req : Bool → Control → Control
with_lock_req x c =
    record { priority = c.priority; smbusdis = c.smbusdis; idletimer = c.idletimer; swrst = c.swrst; businit = c.businit; busconnect = c.busconnect; lockreq = x }

abbrev pub with_bus_connect : Bool → Control → Control
with_bus_connect x c =
    record { priority = c.priority; smbusdis = c.smbusdis; idletimer = c.idletimer; swrst = c.swrst; businit = c.businit; busconnect = x; lockreq = c.lockreq }

abbrev pub with_bus_init : Bool → Control → Control
with_bus_init x c =
    record { priority = c.priority; smbusdis = c.smbusdis; idletimer = c.idletimer; swrst = c.swrst; businit = x; busconnect = c.busconnect; lockreq = c.lockreq }

-- ---- one side

abbrev pub with_port : Port → Side → Side
with_port x s = record { pointer = s.pointer; rt = s.rt; contr = s.contr; ints = s.ints; mail = s.mail; auto = s.auto; port = x; mask = s.mask }

abbrev pub with_auto : Bool → Side → Side
with_auto x s = record { pointer = s.pointer; rt = s.rt; contr = s.contr; ints = s.ints; mail = s.mail; auto = x; port = s.port; mask = s.mask }

abbrev pub with_pointer : Register → Side → Side
with_pointer x s = record { pointer = x; rt = s.rt; contr = s.contr; ints = s.ints; mail = s.mail; auto = s.auto; port = s.port; mask = s.mask }

abbrev pub with_contr : Control → Side → Side
with_contr x s = record { pointer = s.pointer; rt = s.rt; contr = x; ints = s.ints; mail = s.mail; auto = s.auto; port = s.port; mask = s.mask }

abbrev pub with_rt : ℕ → Side → Side
with_rt x s = record { pointer = s.pointer; rt = x; contr = s.contr; ints = s.ints; mail = s.mail; auto = s.auto; port = s.port; mask = s.mask }

abbrev pub with_ints : ℕ → Side → Side
with_ints x s = record { pointer = s.pointer; rt = s.rt; contr = s.contr; ints = x; mail = s.mail; auto = s.auto; port = s.port; mask = s.mask }

abbrev pub with_mask : ℕ → Side → Side
with_mask x s = record { pointer = s.pointer; rt = s.rt; contr = s.contr; ints = s.ints; mail = s.mail; auto = s.auto; port = s.port; mask = x }

abbrev pub with_mail : Mailbox → Side → Side
with_mail x s = record { pointer = s.pointer; rt = s.rt; contr = s.contr; ints = s.ints; mail = x; auto = s.auto; port = s.port; mask = s.mask }

-- ---- the bus

abbrev pub with_drives : Bool → Bool → Bus → Bus
with_drives scl sda b =
    record { outscl = b.outscl; outsda = b.outsda; intin = b.intin; drivescl = scl; drivesda = sda; busy = b.busy; hold = b.hold; idle = b.idle; lowscl = b.lowscl; lowsda = b.lowsda }

abbrev pub with_idle : ℕ → Bus → Bus
with_idle x b =
    record { outscl = b.outscl; outsda = b.outsda; intin = b.intin; drivescl = b.drivescl; drivesda = b.drivesda; busy = b.busy; hold = b.hold; idle = x; lowscl = b.lowscl; lowsda = b.lowsda }

-- ---- the arbitration

abbrev pub with_turn : Turn → Arbitration → Arbitration
with_turn x a = record { last = a.last; initfail = a.initfail; switch = a.switch; reserve = a.reserve; turn = x }

abbrev pub with_reserve : ℕ → Arbitration → Arbitration
with_reserve x a = record { last = a.last; initfail = a.initfail; switch = a.switch; reserve = x; turn = a.turn }

abbrev pub with_switch : Switch → Arbitration → Arbitration
with_switch x a = record { last = a.last; initfail = a.initfail; switch = x; reserve = a.reserve; turn = a.turn }

abbrev pub with_init_fail : Bool → Arbitration → Arbitration
with_init_fail x a = record { last = a.last; initfail = x; switch = a.switch; reserve = a.reserve; turn = a.turn }

-- ---- the device

abbrev pub with_side : Master → Side → Device → Device
with_side m x d = device m x (side (partner m) d) d.bus d.arb d

abbrev pub with_bus : Bus → Device → Device
with_bus x d = record { side0 = d.side0; side1 = d.side1; bus = x; arb = d.arb; kind = d.kind }

abbrev pub with_arb : Arbitration → Device → Device
with_arb x d = record { side0 = d.side0; side1 = d.side1; bus = d.bus; arb = x; kind = d.kind }
