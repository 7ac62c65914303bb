-- The events of one sample, in three parts, followed one part after the other.
-- Assumes nothing.
use Prim.Native.Nat.{ℕ}
use mathlib.Core.Path.{◌≡◌, refl, sym, ap, ◌∙◌}
use mathlib.Core.List.{List, [], ◌∷◌, ◌++◌}
use Rattle.std.specs.Prelude.{Option}
use Rattle.arbiter.specs.declared.Event.{Event}
use Rattle.capture.specs.declared.Heard.{Heard}
use Rattle.capture.specs.Samples.{events_in}
use Rattle.importing.specs.Listed.{listed, one_listed}
use Rattle.watch.specs.declared.Watcher.{Watcher}
use Rattle.watch.specs.Sample.{lines_given, heard_now, ticks_given, events_at}
use Rattle.watch.specs.Stream.{followed, followed_all, heard_by, watched_at}

-- the events of one sample
abbrev Few : Type 0
Few = Option (Event × Option Event)

followed_append : (p q : List Event) (w : Watcher) → followed_all (p ++ q) w ≡ followed_all q (followed_all p w)
unfolding followed_all
followed_append [] q w = refl
followed_append (e ∷ p) q w = followed_append p q (followed e w)

module _ (x : ℕ) (w : Watcher) (h : Heard) (hears : h ≡ heard_now w.settings x w.ear) (f : Option Event) (g : Few) (t : Option Event)
    (lines : one_listed f ≡ lines_given w.settings x w.ear) (above : listed g ≡ events_in h) (ticks : one_listed t ≡ ticks_given w.settings w.ear)
    (moved spoken passed : Watcher) (moves : moved ≡ followed_all (one_listed f) w) (speaks : spoken ≡ followed_all (listed g) moved)
    (passes : passed ≡ followed_all (one_listed t) spoken) where
  pub sample_watched : heard_by x w passed ≡ watched_at x w
  unfolding watched_at events_at
  sample_watched =
      let below : List Event = lines_given w.settings x w.ear in
      let heard : List Event = events_in (heard_now w.settings x w.ear) in
      let time : List Event = ticks_given w.settings w.ear in
      ap (heard_by x w)
      (passes
      ∙ (λ j. followed_all (ticks j) (speaks j))
      ∙ ap (followed_all time) (λ j. followed_all ((above ∙ ap events_in hears) j) ((moves ∙ ap (λ (es : List Event). followed_all es w) lines) j))
      ∙ sym (followed_append heard time (followed_all below w))
      ∙ sym (followed_append below (heard ++ time) w))
