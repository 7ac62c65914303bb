-- The step of an event that ends it itself, and that an answer shows the device after its step.
-- Assumes nothing.
use Prim.Native.Nat.{ℕ}
use mathlib.Core.Path.{◌≡◌, refl, sym, ap, ap₂, ◌∙◌}
use mathlib.Core.Bool.{Bool, true, false, not, ◌&&◌, ◌||◌}
use Rattle.std.specs.Prelude.{if◌then◌else◌}
use Rattle.arbiter.specs.Events.{decode, decoded_number, in_sequence, outcome, outcome_number}
use Rattle.arbiter.specs.Effects.{effect}
use Rattle.arbiter.specs.Steps.{parts, byte_read, owner_byte, lines_byte, answer, taken, refused, step_event, step_decoded, step}
use Rattle.arbiter.specs.declared.Device.{Device}
use Rattle.arbiter.specs.declared.Event.{Event}
use Rattle.std.specs.Prelude.{Result, Ok, Err}
use Rattle.arbiter.specs.declared.Unread.TheVariants.{BadField, UnknownKind}
use Rattle.arbiter.specs.declared.Unread.{Unread}
use Rattle.arbiter.specs.declared.Outcome.TheVariants.{OutOfSequence}
use Rattle.arbiter.specs.declared.Answer.{Answer}
use Rattle.arbiter.specs.declared.Stepped.{Stepped}
use Rattle.step.specs.Carried.{kept}
use Rattle.light.specs.Light.{Settled}
use Rattle.light.specs.Ended.{ends_itself, keeps_lines, its_end, EndedIsStep, AnswerShows}
use Rattle.light.proofs.Light.{ends_itself_lem}

-- ---- the step of an event that ends it itself

-- the lines byte, asked or kept
either_byte : (keeps : Bool) (old new : ℕ) → (keeps ≡ true → new ≡ old) → new ≡ (if keeps then old else new)
either_byte true old new h = h refl
either_byte false old new h = refl

pub ended_is_step : EndedIsStep
unfolding step_event taken
ended_is_step e d h seq l =
    let alone = ends_itself_lem e d h l in
    let number = outcome_number (outcome e d) in
    ap (λ (b : Bool). if b then taken e d else refused (outcome_number OutOfSequence) d) seq
    ∙ ap (λ (x : Device). record { device = x; answer = answer number (byte_read e d) x }) alone.0
    ∙ (λ i. record {
      device = its_end e d;
      answer = kept number (byte_read e d) (alone.1 i)
          (either_byte (keeps_lines e d) (lines_byte d) (lines_byte (its_end e d)) alone.2 i);
    })

-- ---- an answer shows the device after its step

abbrev Shows : Stepped → Type 0
Shows s = (s.answer.owner ≡ owner_byte s.device) × (s.answer.lines ≡ lines_byte s.device)

shows_event : (e : Event) (d : Device) → Shows (step_event e d)
unfolding step_event taken refused
shows_event e d = go (in_sequence e d)
  where
    go : (seq : Bool) → Shows (if seq then taken e d else refused (outcome_number OutOfSequence) d)
    go true = (refl, refl)
    go false = (refl, refl)

shows_decoded : (x : Result Event Unread) (d : Device) → Shows (step_decoded x d)
unfolding step_decoded refused
shows_decoded (Ok e) d = shows_event e d
shows_decoded (Err UnknownKind) d = (refl, refl)
shows_decoded (Err BadField) d = (refl, refl)

pub answer_shows : AnswerShows
unfolding step
answer_shows d r = shows_decoded (decode r) d
