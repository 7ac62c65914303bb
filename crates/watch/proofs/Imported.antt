-- The events of a stream are those of an import (#104): a fault that is forgotten plays no part in them, and LINES and TICKs only stand between them.
-- Assumes nothing.
use mathlib.Core.Path.{◌≡◌, refl, ap, ◌∙◌}
use mathlib.Core.List.{append-nil}
use Rattle.capture.specs.Events.{together, captured}
use Rattle.capture.specs.Samples.{sign_of, sampled, events_in, both_silent, events_from, events_after}
use Rattle.capture.proofs.Joined.{events_joined}
use Rattle.std.specs.Prelude.{◌∷◌, ◌++◌}
use Rattle.watch.specs.Names.{ℕ, true, false, List, [], Zero, One, Kind, Device, Event, Both, Settings, Tally, Watcher}
use Rattle.watch.specs.Sample.{both_mended, lines_given, heard_now, ticks_given, events_at, ear_after, silent_ear}
use Rattle.watch.specs.Stream.{heard_by, events_now, watched_at, events_in as streamEvents, beginning}
use Rattle.watch.specs.Answers.{plainly, AsImported, above, AboveAsImported}
use Rattle.watch.proofs.Mended.{gives_mended, heard_mended}
use Rattle.watch.proofs.Above.{above_append, above_at, above_first}

-- a listener that has begun, of these parts
abbrev pub listening : Settings → ℕ → ℕ → Both → Device → Tally → Watcher
listening c before since s d t = record { settings = c; ear = record { begun = true; before = before; since = since; both = s }; device = d; tally = t }

-- ---- one sample, with faults forgotten or not

pub events_mended : (address before x : ℕ) (s : Both) → events_in (sampled address before x (both_mended s)) ≡ events_in (sampled address before x s)
unfolding sampled
events_mended address before x s = λ j. together (gives_mended Zero (sign_of Zero before x) s.bus0 j) (gives_mended One (sign_of One before x) s.bus1 j)

pub both_mended_lem : (address before x : ℕ) (s : Both)
    → both_mended (sampled address before x (both_mended s)).both ≡ both_mended (sampled address before x s).both
unfolding sampled
both_mended_lem address before x s =
    λ j. record { bus0 = heard_mended address (sign_of Zero before x) s.bus0 j; bus1 = heard_mended address (sign_of One before x) s.bus1 j }

-- ---- a stream, by what is kept of its events: those from above, or all of them

module _ (c : Settings) (keep : List Event → List Event) (kept-none : keep [] ≡ []) (kept_append : (xs ys : List Event) → keep (xs ++ ys) ≡ keep xs ++ keep ys)
    (kept_at : (x before since : ℕ) (s : Both) → keep (events_at c x (record { begun = true; before = before; since = since; both = s }))
    ≡ events_in (sampled c.address before x s))
    (kept-first : (x before since : ℕ) (s : Both) → keep (events_at c x (record { begun = false; before = before; since = since; both = s })) ≡ []) where
  kept_from : (rest : List ℕ) (before since : ℕ) (s : Both) (d : Device) (t : Tally)
      → keep (streamEvents rest (listening c before since (both_mended s) d t)) ≡ events_from c.address before s rest
  unfolding streamEvents events_from watched_at heard_by ear_after heard_now
  kept_from [] before since s d t = kept-none
  kept_from (x ∷ rest) before since s d t =
      let w : Watcher = listening c before since (both_mended s) d t in
      let after : Watcher = watched_at x w in
      let next : Both = (sampled c.address before x s).both in
      kept_append (events_now x w) (streamEvents rest after)
      ∙ ap (λ (l : List Event). l ++ keep (streamEvents rest after)) (kept_at x before since (both_mended s) ∙ events_mended c.address before x s)
      ∙ ap (λ (l : List Event). events_in (sampled c.address before x s) ++ l)
      (ap (λ (b : Both). keep (streamEvents rest (listening c x after.ear.since b after.device after.tally))) (both_mended_lem c.address before x s)
      ∙ kept_from rest x after.ear.since next after.device after.tally)

  pub kept : (k : Kind) (samples : List ℕ) → keep (streamEvents samples (beginning k c)) ≡ captured c.address samples
  unfolding streamEvents events_after watched_at heard_by ear_after heard_now beginning silent_ear
  kept k [] = kept-none ∙ events_joined c.address []
  kept k (x ∷ rest) =
      let w : Watcher = beginning k c in
      let after : Watcher = watched_at x w in
      kept_append (events_now x w) (streamEvents rest after)
      ∙ ap (λ (l : List Event). l ++ keep (streamEvents rest after)) (kept-first x 0 0 both_silent)
      ∙ kept_from rest x after.ear.since both_silent after.device after.tally
      ∙ events_joined c.address (x ∷ rest)

-- ---- those from above, with any settings

pub above_as_imported : AboveAsImported
unfolding above
above_as_imported k c samples = kept c above refl above_append (above_at c) (above_first c) k samples

-- ---- all, without time and without the bus below

pub as_imported : AsImported
unfolding events_at lines_given ticks_given heard_now together
as_imported k address samples =
    kept (plainly address) (λ (es : List Event). es) refl (λ xs ys. refl)
    (λ x before since s. append-nil (events_in (sampled address before x s)))
    (λ x before since s. refl) k samples
