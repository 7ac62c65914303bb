-- Light of `hearing`: the short ways of a sample end where the long one does.
-- Assumes nothing.
use Prim.Native.Nat.{ℕ, ◌<◌}
use mathlib.Core.Path.{◌≡◌, refl, sym, ap, ◌∙◌}
use mathlib.Core.Bool.{Bool, true, false, not, ◌&&◌, ◌||◌, false≢true}
use lib.Dec.{eqb, ltb}
use borrow.Author.Tests.{eqb-true, ltb-true}
use Rattle.std.specs.Prelude.{if◌then◌else◌, None}
use Rattle.arbiter.specs.Words.{bit}
use Rattle.arbiter.specs.declared.Master.{Master}
use Rattle.arbiter.specs.declared.Master.TheVariants.{Zero, One}
use Rattle.arbiter.proofs.Choice.{split, not_true}
use Rattle.capture.specs.declared.Levels.{Levels}
use Rattle.capture.specs.declared.Listener.{Listener}
use Rattle.capture.specs.declared.Sign.TheVariants.{Steady}
use Rattle.capture.specs.declared.Both.{Both}
use Rattle.capture.specs.OneBus.{levels, is_start, is_stop, rises, sign, is_outside, at_clock, heard, gives}
use Rattle.capture.specs.Samples.{sampled}
use Rattle.capture.proofs.Laws.{same_steady}
use Rattle.hearing.specs.Light.{is_still, is_marked, has_room, is_light, are_light, lightly, both_lightly, unheard}

-- ---- tests

and_left : (a b : Bool) → (a && b) ≡ true → a ≡ true
and_left true b h = refl
and_left false b h = absurd (false≢true h)

and_right : (a b : Bool) → (a && b) ≡ true → b ≡ true
and_right true b h = h
and_right false b h = absurd (false≢true h)

-- ---- a still sample shows nothing

-- the same levels again (`same-steady`), or SCL low
pub low_steady : (was now : Levels) → now.scl ≡ false → sign was now ≡ Steady
unfolding sign
low_steady was now h = go was.scl was.sda now.scl now.sda h
  where
    go : (a b c d : Bool) → c ≡ false → sign (record { scl = a; sda = b }) (record { scl = c; sda = d }) ≡ Steady
    go true true false d h = refl
    go true false false d h = refl
    go false b false d h = refl
    go a b true d h = absurd (false≢true (sym h))

pub still_sampled : (address before now : ℕ) (s : Both) → is_still before now ≡ true → unheard s ≡ sampled address before now s
unfolding is_still sampled heard gives
still_sampled address before now s h =
    split (eqb before now) (λ e. let b : before ≡ now = eqb-true before now e in rw (b, same_steady (levels Zero now), same_steady (levels One now)) refl)
    λ e. let both-low : (not (bit 0 now) && not (bit 2 now)) ≡ true = sym (ap (λ (b : Bool). b || (not (bit 0 now) && not (bit 2 now))) e) ∙ h in
    rw (
      low_steady (levels Zero before) (levels Zero now) (not_true (bit 0 now) (and_left (not (bit 0 now)) (not (bit 2 now)) both-low)),
      low_steady (levels One before) (levels One now) (not_true (bit 2 now) (and_right (not (bit 0 now)) (not (bit 2 now)) both-low)),
    ) refl

-- ---- a light sample brings at most a bit

module _ (was now : Levels) (l : Listener) (light : is_light was now l ≡ true) where
  tests : (is_start was now ≡ false) × (is_stop was now ≡ false) × (rises was now ≡ true → (is_outside l.awaited ≡ false) × (ltb l.clocks 8 ≡ true))
  unfolding is_light is_marked has_room
  tests = go was.scl was.sda now.scl now.sda (is_outside l.awaited) (ltb l.clocks 8) light
    where
      go : (a b c d o t : Bool) → (if (not a && c) then (not o && t) else not (a && c && ((b && not d) || (not b && d)))) ≡ true
          → ((a && c && b && not d) ≡ false) × ((a && c && not b && d) ≡ false) × ((not a && c) ≡ true → (o ≡ false) × (t ≡ true))
      go true b false d o t h = (refl, refl, λ e. absurd (false≢true e))
      go false b false d o t h = (refl, refl, λ e. absurd (false≢true e))
      go true true true true o t h = (refl, refl, λ e. absurd (false≢true e))
      go true false true false o t h = (refl, refl, λ e. absurd (false≢true e))
      go true true true false o t h = absurd (false≢true h)
      go true false true true o t h = absurd (false≢true h)
      go false b true d true t h = absurd (false≢true h)
      go false b true d false true h = (refl, refl, λ e. (refl, refl))
      go false b true d false false h = absurd (false≢true h)

  pub light_clocks : rises was now ≡ true → l.clocks < 8
  light_clocks r = ltb-true l.clocks 8 (tests.2 r).1

  pub light_heard : (address : ℕ) → lightly was now l ≡ heard address (sign was now) l
  unfolding sign heard at_clock lightly
  light_heard address =
      split (rises was now) (λ r. simp (tests.0, tests.1, r, (tests.2 r).0, (tests.2 r).1)) (λ r. simp (tests.0, tests.1, r))

  pub light_gives : (m : Master) → None ≡ gives m (sign was now) l
  unfolding sign gives
  light_gives m = split (rises was now) (λ r. simp (tests.0, tests.1, r, (tests.2 r).1)) (λ r. simp (tests.0, tests.1, r))

pub light_0 : (before now : ℕ) (s : Both) → are_light before now s ≡ true → is_light (levels Zero before) (levels Zero now) s.bus0 ≡ true
unfolding are_light
light_0 before now s h =
    and_left (is_light (levels Zero before) (levels Zero now) s.bus0) (is_light (levels One before) (levels One now) s.bus1) h

pub light_1 : (before now : ℕ) (s : Both) → are_light before now s ≡ true → is_light (levels One before) (levels One now) s.bus1 ≡ true
unfolding are_light
light_1 before now s h =
    and_right (is_light (levels Zero before) (levels Zero now) s.bus0) (is_light (levels One before) (levels One now) s.bus1) h

pub light_sampled : (address before now : ℕ) (s : Both) → are_light before now s ≡ true → unheard (both_lightly before now s) ≡ sampled address before now s
unfolding sampled both_lightly
light_sampled address before now s h =
    let z = light_0 before now s h in
    let o = light_1 before now s h in
    rw (light_heard _ _ _ z address, light_heard _ _ _ o address, ← light_gives _ _ _ z Zero, ← light_gives _ _ _ o One) refl
