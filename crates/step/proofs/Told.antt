-- An event carried through the parts and told is its step, and so are bytes that are no event, told with the device as it is.
-- Assumes nothing.
use mathlib.Core.Path.{◌≡◌, refl, ap, ◌∙◌}
use mathlib.Core.Bool.{Bool, true, false}
use Rattle.std.specs.Prelude.{if◌then◌else◌}
use Rattle.arbiter.specs.Events.{decoded_number, in_sequence, outcome, outcome_number}
use Rattle.arbiter.specs.Steps.{parts, byte_read, answer, taken, refused, step_event, step_decoded}
use Rattle.arbiter.specs.declared.Device.{Device}
use Rattle.arbiter.specs.declared.Event.{Event}
use Rattle.std.specs.Prelude.{Result, Ok, Err}
use Rattle.arbiter.specs.declared.Unread.TheVariants.{BadField, UnknownKind}
use Rattle.arbiter.specs.declared.Unread.{Unread}
use Rattle.arbiter.specs.declared.Outcome.TheVariants.{OutOfSequence}
use Rattle.effects.specs.declared.Effect.{Effect}
use Rattle.effects.specs.Effect.{did, effect_of}
use Rattle.step.specs.Carried.{finished, moved, stepped_with, told}
use Rattle.step.proofs.Laws.{moved_law}

told_moved : (e : Event) (d : Device) → told (moved (Ok e) d) ≡ step_event e d
unfolding moved step_event taken refused
told_moved e d = go (in_sequence e d)
  where
    ways : Bool → Effect
    ways seq = if seq then did (parts e d) (outcome_number (outcome e d)) (byte_read e d) else did d (outcome_number OutOfSequence) 0

    go : (seq : Bool) → told (ways seq) ≡ (if seq then taken e d else refused (outcome_number OutOfSequence) d)
    go true = refl
    go false = refl

pub told_event : (e : Event) (d : Device) → told (finished e d.bus (effect_of e d)) ≡ step_event e d
told_event e d = ap told (moved_law e d) ∙ told_moved e d

-- four bytes that do not read as an event
pub told_unread : (x : Result Event Unread) (d : Device) → ((e : Event) → x ≡ Ok e → ⊥) → stepped_with d (answer (decoded_number x) 0 d) ≡ step_decoded x d
unfolding step_decoded refused
told_unread (Ok e) d h = absurd (h e refl)
told_unread (Err UnknownKind) d h = refl
told_unread (Err BadField) d h = refl
