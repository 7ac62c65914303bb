-- Quiet of `arbitration`: when each of parts 3 to 6 has nothing to do, by the turn.
-- Assumes nothing.
use Rattle.std.specs.Prelude.{Bool, true, not, ◌&&◌, eqb}
use Rattle.arbiter.specs.Rules.{idle_limit}
use Rattle.arbiter.specs.Words.{side}
use Rattle.arbiter.specs.State.{at_rest}
use Rattle.arbiter.specs.Order.{runs_out, cut_ticks}
use Rattle.arbiter.specs.declared.Turn.{Turn}
use Rattle.arbiter.specs.declared.Turn.TheVariants.{Nobody, Claims, Owns}
use Rattle.arbiter.specs.declared.Side.{Side}
use Rattle.arbiter.specs.declared.Bus.{Bus}
use Rattle.arbiter.specs.declared.Device.{Device}

-- part 3: the owner's grant does not run out
abbrev pub no_loss : Turn → Device → Bool
no_loss Nobody d = true
no_loss (Claims m g) d = true
no_loss (Owns m g) d = not (runs_out (idle_limit d) (side m d) d.arb.reserve d.bus)

-- part 4: the owner is not cut off
abbrev pub is_cut : Bool → Side → Bus → Bool
is_cut tick s b = tick && eqb b.lowscl cut_ticks && s.contr.smbusdis

abbrev pub no_cut : Bool → Turn → Device → Bool
no_cut tick Nobody d = true
no_cut tick (Claims m g) d = true
no_cut tick (Owns m g) d = not (is_cut tick (side m d) d.bus)

-- part 5: nobody requests; or the claimant still does
abbrev pub no_claim : Turn → Device → Bool
no_claim Nobody d = not d.side0.contr.lockreq && not d.side1.contr.lockreq
no_claim (Claims m g) d = (side m d).contr.lockreq
no_claim (Owns m g) d = true

-- part 6: the claimant is not granted, for its port is not at rest or SCL is held
abbrev pub is_ready : Side → Bus → Bool
is_ready s b = at_rest s.port && eqb b.hold 0

abbrev pub no_grant : Turn → Device → Bool
no_grant Nobody d = true
no_grant (Claims m g) d = not (is_ready (side m d) d.bus)
no_grant (Owns m g) d = true
