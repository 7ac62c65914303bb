-- Parts 3 to 7 as one, when they have nothing to do, part 1's effect carried through the other parts, and the answer after them.
-- Assumes nothing.
use Rattle.std.specs.Prelude.{ℕ, Bool, true, false, ◌&&◌, eqb, if◌then◌else◌}
use Rattle.arbiter.specs.Events.{decoded_number, in_sequence, outcome, outcome_number}
use Rattle.arbiter.specs.Order.{is_tick, clock_of, levels, losses, cut, claim, grant, connect}
use Rattle.arbiter.specs.Steps.{parts, byte_read, answer}
use Rattle.arbiter.specs.declared.Turn.{Turn}
use Rattle.arbiter.specs.declared.Bus.{Bus}
use Rattle.arbiter.specs.declared.Device.{Device}
use Rattle.arbiter.specs.declared.Clock.{Clock}
use Rattle.arbiter.specs.declared.Clock.TheVariants.{NoClock, ClockLow, ClockHigh}
use Rattle.arbiter.specs.declared.Event.{Event}
use Rattle.arbiter.specs.declared.Answer.{Answer}
use Rattle.arbiter.specs.declared.Stepped.{Stepped}
use Rattle.std.specs.Prelude.{Result, Ok, Err}
use Rattle.arbiter.specs.declared.Unread.TheVariants.{BadField, UnknownKind}
use Rattle.arbiter.specs.declared.Unread.{Unread}
use Rattle.arbiter.specs.declared.Outcome.TheVariants.{OutOfSequence}
use Rattle.arbitration.specs.Quiet.{no_loss, no_cut, no_claim, no_grant}
use Rattle.connection.specs.Quiet.{switch_stays}
use Rattle.effects.specs.declared.Effect.{Effect}
use Rattle.effects.specs.Effect.{did}

-- ---- parts 3 to 7

unfoldable pub parts_three_to_seven : Bool → Clock → Device → Device
parts_three_to_seven tick c d = connect c (grant (claim (cut tick (losses d))))

-- ---- a test that they change nothing: each part's own, at an event that is no clock

abbrev pub is_silent : Clock → Bool
is_silent NoClock = true
is_silent ClockLow = false
is_silent ClockHigh = false

abbrev pub quiet_from : Turn → Bool → Device → Bool
quiet_from t tick d = switch_stays t d && no_grant t d && no_claim t d && no_cut tick t d && no_loss t d

unfoldable pub is_quiet : Bool → Device → Bool
is_quiet tick d = quiet_from d.arb.turn tick d

-- ---- part 1's effect carried through parts 2 to 7, and any four bytes

unfoldable pub finished : Event → Bus → Effect → Effect
finished e before f =
    if eqb f.outcome (outcome_number OutOfSequence) then f
    else did (parts_three_to_seven (is_tick e) (clock_of e) (levels false before f.device)) f.outcome f.read

unfoldable pub moved : Result Event Unread → Device → Effect
moved (Ok e) d =
    if in_sequence e d then did (parts e d) (outcome_number (outcome e d)) (byte_read e d) else did d (outcome_number OutOfSequence) 0
moved (Err u) d = did d (decoded_number (Err u)) 0

abbrev pub stepped_with : Device → Answer → Stepped
stepped_with d a = record { device = d; answer = a }

-- the answer is of the device after the effect
abbrev pub told : Effect → Stepped
told f = stepped_with f.device (answer f.outcome f.read f.device)

-- an answer with these last two bytes
abbrev pub kept : ℕ → ℕ → ℕ → ℕ → Answer
kept number byte owner lines = record { outcome = number; read = byte; owner = owner; lines = lines }
