-- Small words of the code: the ground of the present claim; CONTR with bits cleared if a test says so.
-- Assumes nothing.
use Rattle.std.specs.Prelude.{Bool, not, ◌&&◌}
use Rattle.arbiter.specs.declared.Ground.{Ground}
use Rattle.arbiter.specs.declared.Ground.TheVariants.{Sole}
use Rattle.arbiter.specs.declared.Turn.{Turn}
use Rattle.arbiter.specs.declared.Turn.TheVariants.{Nobody, Claims, Owns}
use Rattle.arbiter.specs.declared.Control.{Control}

-- where there is no claim, nothing depends on it
abbrev pub ground_in : Turn → Ground
ground_in Nobody = Sole
ground_in (Claims m g) = g
ground_in (Owns m g) = g

-- BUS_CONNECT cleared by the first test, LOCK_REQ by the second
abbrev pub contr_unless : Bool → Bool → Control → Control
contr_unless apart drops c =
    record { priority = c.priority; smbusdis = c.smbusdis; idletimer = c.idletimer; swrst = c.swrst; businit = c.businit; busconnect = not apart && c.busconnect; lockreq = not drops && c.lockreq }
