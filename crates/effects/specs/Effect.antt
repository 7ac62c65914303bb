-- An event's own effect with its outcome and the byte read, as one value: what part 1 hands to the rest of the step.
-- Assumes nothing.
use Rattle.std.specs.Prelude.{ℕ, if◌then◌else◌}
use Rattle.arbiter.specs.Events.{in_sequence, outcome, outcome_number}
use Rattle.arbiter.specs.Effects.{effect}
use Rattle.arbiter.specs.Steps.{byte_read}
use Rattle.arbiter.specs.declared.Device.{Device}
use Rattle.arbiter.specs.declared.Event.{Event}
use Rattle.arbiter.specs.declared.Outcome.TheVariants.{OutOfSequence}
use Rattle.effects.specs.declared.Effect.{Effect}

abbrev pub did : Device → ℕ → ℕ → Effect
did d number byte = record { device = d; outcome = number; read = byte }

unfoldable pub effect_of : Event → Device → Effect
effect_of e d =
    if in_sequence e d then did (effect e d) (outcome_number (outcome e d)) (byte_read e d) else did d (outcome_number OutOfSequence) 0
