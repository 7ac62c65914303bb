-- The two low counts in a step: each restarts at an event that ends its stretch, and else counts a tick.
-- Assumes nothing.
use mathlib.Core.Path.{◌≡◌, refl, sym, ap, ap₂, ◌∙◌, subst}
use mathlib.Core.Bool.{true≢false, false≢true, and-false, or-false}
use native.Mathlib.Omega.{arith}
use borrow.Author.Tests.{eq-eqb, eqb-true}
use Rattle.std.specs.Prelude.{◌-◌, ◌&&◌, ◌||◌, if◌then◌else◌}
use Rattle.arbiter.specs.Types.{ℕ, Bool, true, false, not, eqb, Bus, Device, Raw, Event, Command, Write, Read, Stop, Pair, Lines, Tick}
use Rattle.arbiter.specs.Types.{Pulse, Reset, GeneralCall}
use Rattle.arbiter.specs.State.{scl_high, sda_high, scl_hung_limit, sda_hung_limit}
use Rattle.arbiter.specs.Events.{soft_reset}
use Rattle.arbiter.specs.Effects.{counted_to, ticked, was_reset, effect}
use Rattle.arbiter.specs.Order.{is_reset, is_tick, scl_changed, levels}
use Rattle.arbiter.specs.Steps.{parts}
use Rattle.arbiter.specs.AuditWords.{next, reset, tick}
use Rattle.arbiter.specs.Hung.{same_level, scl_moves, ends_low_scl, ends_low_sda}
use Rattle.arbiter.proofs.Choice.{either, split, if_true, neither}
use Rattle.arbiter.proofs.Cases.{step_keeps}
use Rattle.arbiter.proofs.Effects.{counts, effect_counts}
use Rattle.arbiter.proofs.Raws.{refuses, takes, met, event_tick}
use Rattle.arbiter.proofs.Settled.{Still, parts_ready}
use Rattle.arbiter.proofs.Again.{scl_stays}
use Rattle.arbiter.proofs.Idle.{parts_bus}

-- ---- part 1: the low counts

-- A reset takes both back.
reset_lows : (e : Event) (d : Device) → is_reset e ≡ true → ((effect e d).bus.lowscl ≡ 0) × ((effect e d).bus.lowsda ≡ 0)
unfolding effect was_reset
reset_lows (Command k c) d h = absurd (false≢true h)
reset_lows (Write k v) d h = absurd (false≢true h)
reset_lows (Read k) d h = absurd (false≢true h)
reset_lows (Stop k) d h = absurd (false≢true h)
reset_lows (Pair v0 v1) d h = absurd (false≢true h)
reset_lows (Lines scl sda intin) d h = absurd (false≢true h)
reset_lows Tick d h = absurd (false≢true h)
reset_lows (Pulse sda) d h = absurd (false≢true h)
reset_lows Reset d h = (refl, refl)
reset_lows (GeneralCall k b) d h =
    either (λ (n : Device). (n.bus.lowscl ≡ 0) × (n.bus.lowsda ≡ 0)) (soft_reset b) (λ r. (refl, refl)) (λ r. absurd (false≢true (sym r ∙ h)))

-- A tick leaves SDA's level, and a line that it leaves low was low: a hold can only end.
hold_ends : (high : Bool) (n : ℕ) → high && eqb (n - 1) 0 ≡ false → high && eqb n 0 ≡ false
hold_ends high n h =
    split (eqb n 0)
    (λ z. let none = eqb-true n 0 z in ap (λ (b : Bool). high && b) (z ∙ sym (eq-eqb (n - 1) 0 (omega arith))) ∙ h)
    (λ z. ap (λ (b : Bool). high && b) z ∙ and-false high)

-- So a line that is low after part 1 counts the tick.
module _ (e : Event) (d : Device) (ok : is_reset e ≡ false) where
  scl_counted : scl_high (effect e d).bus ≡ false → (effect e d).bus.lowscl ≡ counted_to scl_hung_limit (is_tick e) d.bus.lowscl
  unfolding effect ticked
  scl_counted h = ap (λ c. c.3) (effect_counts e d ok) ∙ go (is_tick e) refl
    where
      go : (b : Bool) → is_tick e ≡ b → (if b then counts (ticked d) else counts d).3 ≡ counted_to scl_hung_limit b d.bus.lowscl
      go false t = refl
      go true t =
          ap (λ (s : Bool). counted_to scl_hung_limit (not s) d.bus.lowscl)
          (hold_ends (d.bus.outscl && d.bus.drivescl) d.bus.hold (subst (λ (f : Event). scl_high (effect f d).bus ≡ false) (event_tick e t) h))

  sda_counted : sda_high (effect e d).bus ≡ false → (effect e d).bus.lowsda ≡ counted_to sda_hung_limit (is_tick e) d.bus.lowsda
  unfolding effect ticked
  sda_counted h = ap (λ c. c.4) (effect_counts e d ok) ∙ go (is_tick e) refl
    where
      go : (b : Bool) → is_tick e ≡ b → (if b then counts (ticked d) else counts d).4 ≡ counted_to sda_hung_limit b d.bus.lowsda
      go false t = refl
      go true t =
          ap (λ (s : Bool). counted_to sda_hung_limit (not s) d.bus.lowsda) (subst (λ (f : Event). sda_high (effect f d).bus ≡ false) (event_tick e t) h)

-- ---- a step

-- What a count is where its line is low decides what it is after part 2.
low_only : (ended : Bool) (n m : ℕ) → (ended ≡ false → n ≡ m) → (if ended then 0 else n) ≡ (if ended then 0 else m)
low_only true n m h = refl
low_only false n m h = h refl

none_left : (ended : Bool) (n : ℕ) → n ≡ 0 → (if ended then 0 else n) ≡ 0
none_left true n h = refl
none_left false n h = h

module _ (e : Event) (d : Device) where
  -- the levels after a step are those of part 2, which zeroed the counts by them
  scl_parts : is_reset e ≡ false → (parts e d).bus.lowscl ≡ (if scl_high (parts e d).bus then 0 else counted_to scl_hung_limit (is_tick e) d.bus.lowscl)
  unfolding levels
  scl_parts ok =
      ap (λ (b : Bus). b.lowscl) (parts_bus e d)
      ∙ low_only (scl_high (effect e d).bus) (effect e d).bus.lowscl (counted_to scl_hung_limit (is_tick e) d.bus.lowscl) (scl_counted e d ok)
      ∙ ap (λ (b : Bus). if scl_high b then 0 else counted_to scl_hung_limit (is_tick e) d.bus.lowscl) (sym (parts_bus e d))

  sda_parts : is_reset e ≡ false
      → (parts e d).bus.lowsda
      ≡ (if sda_high (parts e d).bus || scl_changed d.bus (parts e d).bus then 0 else counted_to sda_hung_limit (is_tick e) d.bus.lowsda)
  unfolding levels
  sda_parts ok =
      ap (λ (b : Bus). b.lowsda) (parts_bus e d)
      ∙ low_only (sda_high (effect e d).bus || scl_changed d.bus (effect e d).bus) (effect e d).bus.lowsda
      (counted_to sda_hung_limit (is_tick e) d.bus.lowsda)
      (λ h. sda_counted e d ok (neither (sda_high (effect e d).bus) (scl_changed d.bus (effect e d).bus) h).0)
      ∙ ap (λ (b : Bus). if sda_high b || scl_changed d.bus b then 0 else counted_to sda_hung_limit (is_tick e) d.bus.lowsda) (sym (parts_bus e d))

  reset_parts : is_reset e ≡ true → ((parts e d).bus.lowscl ≡ 0) × ((parts e d).bus.lowsda ≡ 0)
  unfolding levels
  reset_parts h =
      let lows = reset_lows e d h in (
        ap (λ (b : Bus). b.lowscl) (parts_bus e d) ∙ none_left (scl_high (effect e d).bus) _ lows.0,
        ap (λ (b : Bus). b.lowsda) (parts_bus e d) ∙ none_left (sda_high (effect e d).bus || scl_changed d.bus (effect e d).bus) _ lows.1,
      )

-- ---- four bytes

-- Every step leaves a high line's count at 0.
pub next_still : (r : Raw) (d : Device) → Still d.bus → Still (next d r).bus
next_still r d s = step_keeps (λ (x : Device). Still x.bus) (λ e x h. (parts_ready e x).0.0) d r s

-- One law for either line: `low` is its count, and `ends` says of the levels before and after an event that its stretch is over.
module _ (limit : ℕ) (low : Device → ℕ) (ends : Bus → Bus → Bool)
    (taken_back : (e : Event) (d : Device) → is_reset e ≡ true → low (parts e d) ≡ 0)
    (counted : (e : Event) (d : Device) → is_reset e ≡ false → low (parts e d)
    ≡ (if ends d.bus (parts e d).bus then 0 else counted_to limit (is_tick e) (low d)))
    (stays : (d : Device) → Still d.bus → low d ≡ (if ends d.bus d.bus then 0 else low d)) where
  -- what the count is after an event of which it is known whether it is a reset and a tick, and which device it leaves
  abbrev Counted : Device → Bool → Bool → Device → Type 0
  Counted d back ticks n = low n ≡ (if back || ends d.bus n.bus then 0 else counted_to limit ticks (low d))

  pub low_next : (r : Raw) (d : Device) → Still d.bus → Counted d (reset r d) (tick r d) (next d r)
  low_next r d s =
      elim (met r d) [
        | refuses x ↦
            subst (Counted d (reset r d) (tick r d)) (sym x.after)
            (stays d s
            ∙ ap₂ (λ (a t : Bool). if a || ends d.bus d.bus then 0 else counted_to limit t (low d)) (sym (x.none λ f y. is_reset f))
            (sym (x.none λ f y. is_tick f)))
        | takes e x ↦
            subst (Counted d (reset r d) (tick r d)) (sym x.after)
            (subst (λ (t : Bool). Counted d (reset r d) t (parts e d)) (sym (x.same λ f y. is_tick f))
            (subst (λ (a : Bool). Counted d a (is_tick e) (parts e d)) (sym (x.same λ f y. is_reset f))
            (split (is_reset e)
            (λ h. taken_back e d h ∙ sym (if_true _ _ (ap (λ (a : Bool). a || ends d.bus (parts e d).bus) h)))
            (λ h. counted e d h ∙ ap (λ (a : Bool). if a || ends d.bus (parts e d).bus then 0 else counted_to limit (is_tick e) (low d)) (sym h)))))
      ]

-- So of SCL, and of SDA.
kept_low : (high : Bool) (n : ℕ) → (high ≡ true → n ≡ 0) → n ≡ (if high then 0 else n)
kept_low true n h = h refl
kept_low false n h = refl

pub scl_next : (r : Raw) (d : Device) → Still d.bus → (next d r).bus.lowscl
    ≡ (if ends_low_scl r d then 0 else counted_to scl_hung_limit (tick r d) d.bus.lowscl)
scl_next =
    low_next scl_hung_limit (λ (d : Device). d.bus.lowscl) (λ (before after : Bus). scl_high after) (λ e d h. (reset_parts e d h).0) scl_parts
    (λ d s. kept_low (scl_high d.bus) d.bus.lowscl s.0)

-- SCL's level has changed in part 2 if it is another after the step than before it.
changed_moves : (before after : Bus) → scl_changed before after ≡ not (same_level (scl_high before) (scl_high after))
changed_moves before after =
    split (scl_high before) (λ p. split (scl_high after) (λ q. simp (p, q)) (λ q. simp (p, q)))
    (λ p. split (scl_high after) (λ q. simp (p, q)) (λ q. simp (p, q)))

pub sda_next : (r : Raw) (d : Device) → Still d.bus → (next d r).bus.lowsda
    ≡ (if ends_low_sda r d then 0 else counted_to sda_hung_limit (tick r d) d.bus.lowsda)
sda_next r d s =
    low_next sda_hung_limit (λ (d : Device). d.bus.lowsda) (λ (before after : Bus). sda_high after || scl_changed before after) (λ e d h. (reset_parts e d h).1)
    sda_parts
    (λ d s. kept_low (sda_high d.bus) d.bus.lowsda s.1
    ∙ ap (λ (over : Bool). if over then 0 else d.bus.lowsda)
    (sym (ap (λ (c : Bool). sda_high d.bus || c) (scl_stays d.bus) ∙ or-false (sda_high d.bus)))) r d s
    ∙ ap (λ (moved : Bool). if reset r d || (sda_high (next d r).bus || moved) then 0 else counted_to sda_hung_limit (tick r d) d.bus.lowsda)
    (changed_moves d.bus (next d r).bus)

-- ---- where SCL falls, its count starts, and no tick does that

-- Where SCL is low after a tick, it was low before it.
tick_parts : (e : Event) (d : Device) → is_tick e ≡ true → scl_high (parts e d).bus ≡ false → scl_high d.bus ≡ false
unfolding levels effect ticked
tick_parts e d t h =
    hold_ends (d.bus.outscl && d.bus.drivescl) d.bus.hold
    (subst (λ (f : Event). scl_high (effect f d).bus ≡ false) (event_tick e t) (ap scl_high (sym (parts_bus e d)) ∙ h))

tick_low : (r : Raw) (d : Device) → tick r d ≡ true → scl_high (next d r).bus ≡ false → scl_high d.bus ≡ false
tick_low r d t h =
    elim (met r d) [
      | refuses x ↦ absurd (false≢true (sym (x.none λ f y. is_tick f) ∙ t))
      | takes e x ↦ tick_parts e d (sym (x.same λ f y. is_tick f) ∙ t) (ap (λ (n : Device). scl_high n.bus) (sym x.after) ∙ h)
    ]

fallen : (high : Bool) → not (same_level high false) ≡ true → high ≡ true
fallen true h = refl
fallen false h = absurd (false≢true h)

-- So a move of SCL restarts its count too, as it does SDA's.
pub scl_restarts : (r : Raw) (d : Device) → Still d.bus
    → (next d r).bus.lowscl ≡ (if ends_low_scl r d || scl_moves r d then 0 else counted_to scl_hung_limit (tick r d) d.bus.lowscl)
scl_restarts r d s =
    scl_next r d s
    ∙ split (ends_low_scl r d)
    (λ h. ap (λ (b : Bool). if b then 0 else counted) h ∙ sym (ap (λ (b : Bool). if b || scl_moves r d then 0 else counted) h))
    (λ h. ap (λ (b : Bool). if b then 0 else counted) h ∙ unless-moved h ∙ sym (ap (λ (b : Bool). if b || scl_moves r d then 0 else counted) h))
  where
    counted : ℕ
    counted = counted_to scl_hung_limit (tick r d) d.bus.lowscl

    -- it has fallen: it was high, so nothing was counted, and the event is no tick
    from-high : ends_low_scl r d ≡ false → scl_moves r d ≡ true → counted ≡ 0
    from-high h m =
        let low : scl_high (next d r).bus ≡ false = (neither (reset r d) (scl_high (next d r).bus) h).1 in
        let high : scl_high d.bus ≡ true = fallen (scl_high d.bus) (ap (λ (b : Bool). not (same_level (scl_high d.bus) b)) (sym low) ∙ m) in
        split (tick r d)
        (λ t. absurd (true≢false (sym high ∙ tick_low r d t low)))
        (λ t. ap (λ (b : Bool). counted_to scl_hung_limit b d.bus.lowscl) t ∙ s.0 high)

    unless-moved : ends_low_scl r d ≡ false → counted ≡ (if scl_moves r d then 0 else counted)
    unless-moved h = either (λ (n : ℕ). counted ≡ n) (scl_moves r d) (λ m. from-high h m) (λ m. refl)
