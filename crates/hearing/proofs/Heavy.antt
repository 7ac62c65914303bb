-- A sample that is not light on a bus: what it shows there, and both buses after it.
-- Assumes nothing.
use Prim.Native.Nat.{ℕ}
use mathlib.Core.Path.{◌≡◌, refl, sym, ap, ◌∙◌}
use mathlib.Core.Bool.{Bool, true, false, not, ◌&&◌, ◌||◌, false≢true}
use lib.Dec.{ltb}
use Rattle.std.specs.Prelude.{if◌then◌else◌, Option, None}
use Rattle.arbiter.specs.declared.Master.{Master}
use Rattle.arbiter.specs.declared.Master.TheVariants.{Zero, One}
use Rattle.arbiter.proofs.Choice.{split}
use Rattle.capture.specs.declared.Levels.{Levels}
use Rattle.capture.specs.declared.Listener.{Listener}
use Rattle.capture.specs.declared.Awaited.{Awaited}
use Rattle.capture.specs.declared.Awaited.TheVariants.{NoByte, AddressByte, CommandByte, WriteByte, ReadByte, CallByte, SkippedByte}
use Rattle.capture.specs.declared.Sign.TheVariants.{Starts, Stops, Clocks}
use Rattle.capture.specs.declared.Given.{Given}
use Rattle.capture.specs.declared.Both.{Both}
use Rattle.capture.specs.declared.Heard.{Heard}
use Rattle.capture.specs.OneBus.{levels, sign, awaited_after, byte_gives, owes, is_outside, started, stopped, ended, at_clock, heard, gives}
use Rattle.capture.specs.Samples.{sampled}
use Rattle.hearing.specs.Light.{is_marked, has_room, is_light}

-- ---- one bus

abbrev level : Bool → Bool → Levels
level scl sda = record { scl = scl; sda = sda }

outside_gives : (m : Master) (w : Awaited) (v : ℕ) → is_outside w ≡ true → byte_gives m w v ≡ None
unfolding is_outside byte_gives
outside_gives m NoByte v o = refl
outside_gives m AddressByte v o = absurd (false≢true o)
outside_gives m CommandByte v o = absurd (false≢true o)
outside_gives m WriteByte v o = absurd (false≢true o)
outside_gives m ReadByte v o = absurd (false≢true o)
outside_gives m CallByte v o = absurd (false≢true o)
outside_gives m SkippedByte v o = absurd (false≢true o)

module _ (was now : Levels) (l : Listener) (heavy : is_light was now l ≡ false) where
  shows : (was.scl ≡ true → now.sda ≡ true → sign was now ≡ Stops) × (was.scl ≡ true → now.sda ≡ false → sign was now ≡ Starts)
      × (was.scl ≡ false → (sign was now ≡ Clocks now.sda) × ((not (is_outside l.awaited) && ltb l.clocks 8) ≡ false))
  unfolding is_light is_marked has_room sign
  shows = go was.scl was.sda now.scl now.sda (is_outside l.awaited) (ltb l.clocks 8) heavy
    where
      go : (a b c d o t : Bool) → (if (not a && c) then (not o && t) else not (a && c && ((b && not d) || (not b && d)))) ≡ false
          → (a ≡ true → d ≡ true → sign (level a b) (level c d) ≡ Stops) × (a ≡ true → d ≡ false → sign (level a b) (level c d) ≡ Starts)
          × (a ≡ false → (sign (level a b) (level c d) ≡ Clocks d) × ((not o && t) ≡ false))
      go true b false d o t h = absurd (false≢true (sym h))
      go false b false d o t h = absurd (false≢true (sym h))
      go true true true true o t h = absurd (false≢true (sym h))
      go true false true false o t h = absurd (false≢true (sym h))
      go true true true false o t h = (λ p q. absurd (false≢true q), λ p q. refl, λ p. absurd (false≢true (sym p)))
      go true false true true o t h = (λ p q. refl, λ p q. absurd (false≢true (sym q)), λ p. absurd (false≢true (sym p)))
      go false b true d o t h = (λ p q. absurd (false≢true p), λ p q. absurd (false≢true p), λ p. (refl, h))

  pub on_stop : was.scl ≡ true → now.sda ≡ true → (address : ℕ) (m : Master) → (stopped l ≡ heard address (sign was now) l)
      × (gives m Stops l ≡ gives m (sign was now) l)
  unfolding heard
  on_stop p q address m = rw (shows.0 p q) (refl, refl)

  pub on_start : was.scl ≡ true → now.sda ≡ false → (address : ℕ) (m : Master) → (started l ≡ heard address (sign was now) l)
      × (None ≡ gives m (sign was now) l)
  unfolding heard gives
  on_start p q address m = rw (shows.1 p q) (refl, refl)

  pub on_outside : was.scl ≡ false → is_outside l.awaited ≡ true → (address : ℕ) (m : Master) → (l ≡ heard address (sign was now) l)
      × (None ≡ gives m (sign was now) l)
  unfolding heard gives at_clock
  on_outside p o address m = (
    simp ((shows.2 p).0, o),
    split (ltb l.clocks 8) (λ t. simp ((shows.2 p).0, t)) (λ t. simp ((shows.2 p).0, t, outside_gives m l.awaited l.value o)),
  )

  full : was.scl ≡ false → is_outside l.awaited ≡ false → ltb l.clocks 8 ≡ false
  full p o = sym (ap (λ (x : Bool). not x && ltb l.clocks 8) o) ∙ (shows.2 p).1

  pub on_ninth : was.scl ≡ false → is_outside l.awaited ≡ false → (address : ℕ) (m : Master)
      → (ended address l ≡ heard address (sign was now) l) × (byte_gives m l.awaited l.value ≡ gives m (sign was now) l)
  unfolding heard gives at_clock
  on_ninth p o address m = (simp ((shows.2 p).0, o, full p o), simp ((shows.2 p).0, full p o))

-- the byte's end, written out
abbrev pub ended_by : Awaited → Bool → Listener → Listener
ended_by w o l = record { awaited = w; clocks = 0; value = 0; owed = l.owed || o; broken = l.broken }

pub is_ended : (address : ℕ) (l : Listener) (w : Awaited) (o : Bool) → w ≡ awaited_after address l.awaited l.value → o ≡ owes l.awaited → ended_by w o l
    ≡ ended address l
unfolding ended
is_ended address l w o p q = λ j. ended_by (p j) (q j) l

-- ---- both buses

abbrev pub heard_with : Listener → Listener → Option Given → Option Given → Heard
heard_with b c g h = record { both = record { bus0 = b; bus1 = c }; given0 = g; given1 = h }

-- what each bus shows by itself is what both show
module _ (address before now : ℕ) (s : Both) (w n x y : Levels) (p : w ≡ levels Zero before) (q : n ≡ levels Zero now) (r : x ≡ levels One before)
    (t : y ≡ levels One now) where
  pub both_heard : (b c : Listener) (g h : Option Given) → b ≡ heard address (sign w n) s.bus0 → c ≡ heard address (sign x y) s.bus1
      → g ≡ gives Zero (sign w n) s.bus0 → h ≡ gives One (sign x y) s.bus1 → heard_with b c g h ≡ sampled address before now s
  unfolding sampled
  both_heard b c g h e f d k =
      (λ j. heard_with (e j) (f j) (d j) (k j))
      ∙ λ j. heard_with (heard address (sign (p j) (q j)) s.bus0) (heard address (sign (r j) (t j)) s.bus1) (gives Zero (sign (p j) (q j)) s.bus0)
      (gives One (sign (r j) (t j)) s.bus1)
