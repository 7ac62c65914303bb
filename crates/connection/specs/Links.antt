-- What becomes of the switch where grant and BUS_CONNECT are both true, as one small value: part 7 without the device.
-- Assumes nothing.
use Rattle.std.specs.Prelude.{ℕ, ◌+◌, Bool, true, false, not, ◌&&◌, ◌||◌, ltb, if◌then◌else◌}
use Rattle.arbiter.specs.Words.{same_master}
use Rattle.arbiter.specs.declared.Master.{Master}
use Rattle.arbiter.specs.declared.Master.TheVariants.{Zero, One}
use Rattle.arbiter.specs.declared.Turn.{Turn}
use Rattle.arbiter.specs.declared.Turn.TheVariants.{Nobody, Claims, Owns}
use Rattle.arbiter.specs.declared.Switch.{Switch}
use Rattle.arbiter.specs.declared.Switch.TheVariants.{Apart, Initialising, Closed}
use Rattle.arbiter.specs.declared.Clock.{Clock}
use Rattle.arbiter.specs.declared.Clock.TheVariants.{NoClock, ClockLow, ClockHigh}
use Rattle.arbiter.specs.declared.Control.{Control}
use Rattle.arbiter.specs.declared.Arbitration.{Arbitration}
use Rattle.connection.specs.declared.Link.{Link}

abbrev pub still : Switch → Link
still w = record { switch = w; starts = false; ends = false; fails = false }

abbrev pub joining : Master → Bool → Link
joining m businit = if businit then record { switch = Initialising m 0; starts = true; ends = false; fails = false } else still (Closed m)

abbrev pub clocking : Clock → Master → ℕ → Switch → Link
clocking NoClock m n w = still w
clocking ClockHigh m n w = record { switch = Closed m; starts = false; ends = true; fails = false }
clocking ClockLow m n w = if ltb n 8 then still (Initialising m (n + 1)) else record { switch = Apart; starts = false; ends = true; fails = true }

unfoldable pub linking : Clock → Master → Bool → Switch → Link
linking c m businit Apart = joining m businit
linking c m businit (Initialising k n) = if same_master m k then clocking c m n (Initialising k n) else joining m businit
linking c m businit (Closed k) = if same_master m k then still (Closed k) else joining m businit

unfoldable pub link_of : Clock → Turn → Control → Control → Switch → Link
link_of c Nobody c0 c1 w = still Apart
link_of c (Claims m g) c0 c1 w = still Apart
link_of c (Owns Zero g) c0 c1 w = if c0.busconnect then linking c Zero c0.businit w else still Apart
link_of c (Owns One g) c0 c1 w = if c1.busconnect then linking c One c1.businit w else still Apart

-- BUS_INIT cleared by the first test, BUS_CONNECT by the second
abbrev pub contr_ended : Bool → Bool → Control → Control
contr_ended ends fails c =
    record { priority = c.priority; smbusdis = c.smbusdis; idletimer = c.idletimer; swrst = c.swrst; businit = not ends && c.businit; busconnect = not fails && c.busconnect; lockreq = c.lockreq }

abbrev pub arb_linked : Link → Arbitration → Arbitration
arb_linked l a = record { last = a.last; initfail = not l.starts && (l.fails || a.initfail); switch = l.switch; reserve = a.reserve; turn = a.turn }
