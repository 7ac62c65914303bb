-- Request #114: what the loop over events asks of the two events that move the turn in a settled device, a STOP that brings the grant and a byte that
-- claims (crate light, specs/Turns.antt).
-- Assumes nothing.
use Rattle.std.specs.Prelude.{ℕ, ◌+◌, ◌*◌, Bool, not, ◌&&◌, eqb}
use Rattle.arbiter.specs.Words.{bit, worth}
use Rattle.arbiter.specs.State.{claims_turn, is_initialising, at_rest, for_writing}
use Rattle.arbiter.specs.Events.{unused, zero_or_one, master}
use Rattle.arbiter.specs.Steps.{master_number, switch_number}
use Rattle.arbiter.specs.declared.Control.{Control}
use Rattle.arbiter.specs.declared.Side.{Side}
use Rattle.arbiter.specs.declared.Bus.{Bus}
use Rattle.arbiter.specs.declared.Arbitration.{Arbitration}
use Rattle.arbiter.specs.declared.Raw.{Raw}
use Rattle.light.specs.Turns.{switch_granted, is_contr, is_nobody}

-- the event is a STOP that brings its master, whose side is s, the grant
abbrev pub stop_grants : Raw → Bus → Arbitration → Side → Bool
stop_grants r b a s =
    eqb r.kind 3 && (zero_or_one r.x && unused r.y && unused r.z) && not (at_rest s.port) && (claims_turn (master r.x) a.turn && eqb b.hold 0)

-- what that grant adds to the owner byte: the owner, and the switch by its CONTR
abbrev pub granted_bits : ℕ → Control → ℕ
granted_bits x c =
    master_number (master x) + 4 * switch_number (switch_granted (master x) c) + worth 16 (is_initialising (switch_granted (master x) c))

-- the event is a byte to CONTR that makes its master, whose side is s, the claimant
abbrev pub byte_claims : Raw → Arbitration → Side → Bool
byte_claims r a s =
    eqb r.kind 1 && (zero_or_one r.x && unused r.z) && for_writing s.port && is_contr s.pointer && bit 0 r.y && is_nobody a.turn
