-- Steps on an image and on its record go together, and so do runs; a refused event leaves the image.
-- Assumes nothing.
use Prim.Native.Nat.{ℕ, ◌+◌, ◌≤◌, ◌<◌}
use mathlib.Core.Path.{◌≡◌, refl, sym, ap, ap₂, subst, ◌∙◌}
use mathlib.Core.Bool.{true, and-eq-true_iff}
use mathlib.Core.List.{List, [], ◌∷◌}
use native.Mathlib.Omega.{arith}
use lib.Dec.{leb}
use borrow.Author.Tests.{leb-true}
use Rattle.arbiter.specs.Rules.{idle_limit}
use Rattle.arbiter.specs.Events.{decode, in_sequence, acknowledged, outcome, outcome_number}
use Rattle.arbiter.specs.Effects.{power_up}
use Rattle.arbiter.specs.Steps.{answer, refused, taken, step_event, step_decoded, step, run_from, answers_from, run}
use Rattle.ranges.specs.Ranges.{in_range, is_bytes, are_bytes, pulses}
use Rattle.arbiter.specs.declared.Kind.{Kind}
use Rattle.arbiter.specs.declared.Device.{Device}
use Rattle.arbiter.specs.declared.Raw.{Raw}
use Rattle.arbiter.specs.declared.Event.{Event}
use Rattle.arbiter.specs.declared.Answer.{Answer}
use Rattle.arbiter.specs.declared.Stepped.{Stepped}
use Rattle.std.specs.Prelude.{Result, Ok, Err}
use Rattle.arbiter.specs.declared.Unread.TheVariants.{BadField, UnknownKind}
use Rattle.arbiter.specs.declared.Unread.{Unread}
use Rattle.arbiter.specs.declared.Outcome.{Outcome}
use Rattle.arbiter.specs.declared.Outcome.TheVariants.{OutOfSequence}
use Rattle.arbiter.proofs.Choice.{either, if_true}
use Rattle.ranges.proofs.Fields.{DeviceFits}
use Rattle.ranges.proofs.Fits.{step_ok}
use Rattle.ranges.proofs.Ranges.{Any, in_range_lem, stays_in_range}
use Rattle.layout.specs.Layout.{image_of, device_in}
use Rattle.layout.specs.Images.{is_image, image_answer, image_after, image_run, image_answers}
use Rattle.layout.specs.Laws.{StepsAlike, StaysImage, RefusedKept, RunsAlike, RunsInRange}
use Rattle.layout.proofs.Fits.{held, held_pulses, record_fits, image_fits}
use Rattle.layout.proofs.Back.{read_back, laid_out_back}

-- ---- a step on an image in range

pub answered : (b : List ℕ) (r : Raw) → is_image b ≡ true → image_answer b r ≡ (step (device_in b) r).answer
unfolding image_answer
answered b r h = if_true _ _ h

pub left : (b : List ℕ) (r : Raw) → is_image b ≡ true → image_after b r ≡ image_of (step (device_in b) r).device
unfolding image_after
left b r h = if_true _ _ h

pub steps_alike : StepsAlike
steps_alike d r h =
    let good = record_fits d h in
    let back = read_back d h in
    let told = answered (image_of d) r good ∙ ap (λ (d : Device). (step d r).answer) back in
    (told, left (image_of d) r good ∙ ap (λ (d : Device). image_of (step d r).device) back)

pub stays_image : StaysImage
stays_image b r bytes h =
    subst (λ (l : List ℕ). is_image l ≡ true) (sym (left b r h))
    (record_fits (step (device_in b) r).device (stays_in_range (device_in b) r bytes (image_fits b h)))

-- ---- the PULSEs of the switch stay in range whatever numbers the event has, so its number fits a byte

below : (v top : ℕ) → leb v top ≡ true → v < top + 1
below v top h = let most : v ≤ top = leb-true v top h in omega arith

few_pulses : (d : Device) (r : Raw) → in_range d ≡ true → pulses (step d r).device.arb.switch < 9
few_pulses d r h =
    let (ints0, (mask0, (ints1, (mask1, (hold, (idle, (scl, (sda, (pulsed, _))))))))) = (held d h).0 in
    let fits : DeviceFits Any d = record {
      zero = (below d.side0.ints 63 ints0, below d.side0.mask 127 mask0, tt, (tt, tt));
      one = (below d.side1.ints 63 ints1, below d.side1.mask 127 mask1, tt, (tt, tt));
      bus = (below d.bus.hold 35 hold, below d.bus.idle (idle_limit d) idle, below d.bus.lowscl 500 scl, below d.bus.lowsda 501 sda);
      arb = (below (pulses d.arb.switch) 8 pulsed, tt);
    } in
    (step_ok Any tt (λ n b. tt) d r (tt, tt) fits).arb.0

pub pulses_stay : (b : List ℕ) (r : Raw) → is_image b ≡ true → pulses (step (device_in b) r).device.arb.switch < 9
pulses_stay b r h = few_pulses (device_in b) r (image_fits b h)

power_up_fits : (k : Kind) → in_range (power_up k) ≡ true
unfolding run run_from are_bytes
power_up_fits k = in_range_lem k [] refl

-- a fresh one has none
pub fresh_pulses : (k : Kind) → pulses (power_up k).arb.switch < 9
fresh_pulses k = held_pulses (power_up k) (power_up_fits k)

-- ---- refused events

in_sequence_lem : (e : Event) (d : Device) → in_sequence e d ≡ true → 1 < outcome_number (outcome e d) → ⊥
unfolding outcome
in_sequence_lem e d t =
    subst (λ (o : Outcome). 1 < outcome_number o → ⊥) (sym (if_true _ OutOfSequence t))
    (either (λ (o : Outcome). 1 < outcome_number o → ⊥) (acknowledged e d) (λ x h. omega arith) (λ x h. omega arith))

-- a step that answers more than 1 leaves the device and shows it
abbrev Kept : Device → Stepped → Type 0
Kept d s = 1 < s.answer.outcome → (s.device ≡ d) × (s.answer ≡ answer s.answer.outcome 0 d)

decoded_kept : (x : Result Event Unread) (d : Device) → Kept d (step_decoded x d)
unfolding step_decoded step_event refused taken
decoded_kept (Ok e) d = either (Kept d) (in_sequence e d) (λ t h. absurd (in_sequence_lem e d t h)) (λ t h. (refl, refl))
decoded_kept (Err UnknownKind) d = λ h. (refl, refl)
decoded_kept (Err BadField) d = λ h. (refl, refl)

step_kept : (d : Device) (r : Raw) → Kept d (step d r)
unfolding step
step_kept d r = decoded_kept (decode r) d

pub refused_kept : RefusedKept
refused_kept b r h above =
    let d : Device = device_in b in
    let told = answered b r h in
    let kept = step_kept d r (subst (λ (a : Answer). 1 < a.outcome) told above) in
    (left b r h ∙ ap image_of kept.0 ∙ laid_out_back b h, told ∙ kept.1 ∙ ap (λ (a : Answer). answer a.outcome 0 d) (sym told))

-- ---- runs

from_alike : (d : Device) (rs : List Raw) → in_range d ≡ true → are_bytes rs ≡ true
    → (image_run (image_of d) rs ≡ image_of (run_from d rs)) × (image_answers (image_of d) rs ≡ answers_from d rs)
unfolding image_run image_answers run_from answers_from are_bytes
from_alike d [] h b = (refl, refl)
from_alike d (r ∷ rs) h b =
    let two = (and-eq-true_iff (is_bytes r) (are_bytes rs)).0 b in
    let one = steps_alike d r h in
    let rest = from_alike (step d r).device rs (stays_in_range d r two.0 h) two.1 in
    (ap (λ (l : List ℕ). image_run l rs) one.1 ∙ rest.0, ap₂ ◌∷◌ one.0 (ap (λ (l : List ℕ). image_answers l rs) one.1 ∙ rest.1))

pub runs_alike : RunsAlike
unfolding run
runs_alike k rs b = from_alike (power_up k) rs (power_up_fits k) b

pub runs_in_range : RunsInRange
runs_in_range k rs b = record_fits (run k rs) (in_range_lem k rs b)
