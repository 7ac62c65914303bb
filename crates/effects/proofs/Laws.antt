-- Laws of `effects`: what READ does, by either master.
-- Assumes nothing.
use mathlib.Core.Path.{◌≡◌, refl}
use Rattle.arbiter.specs.Words.{partner, side, device}
use Rattle.arbiter.specs.Registers.{reads_at}
use Rattle.arbiter.specs.Events.{in_sequence, acknowledged, outcome, outcome_number}
use Rattle.arbiter.specs.Effects.{empties, reader_side, sender_side, was_read, effect}
use Rattle.arbiter.specs.Steps.{byte_read}
use Rattle.arbiter.specs.declared.Master.{Master}
use Rattle.arbiter.specs.declared.Event.TheVariants.{Read}
use Rattle.arbiter.specs.declared.Outcome.TheVariants.{Done}
use Rattle.arbiter.specs.declared.Device.{Device}
use Rattle.effects.specs.Effect.{did, effect_of}

pub read_law : (m : Master) (d : Device)
    → did (device m (reader_side (side m d)) (sender_side (empties (side m d)) (side (partner m) d)) d.bus d.arb d) (outcome_number Done)
    (reads_at (side m d).pointer m d) ≡ effect_of (Read m) d
unfolding effect_of in_sequence acknowledged outcome effect was_read byte_read
read_law m d = refl
