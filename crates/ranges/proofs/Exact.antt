-- Whose the switch is, what PAIR is to two WRITEs, and what power-up is to a reset.
-- Assumes nothing.
use mathlib.Core.Path.{◌≡◌, refl, sym, ap, ap₂, ◌∙◌}
use mathlib.Core.Bool.{false≢true, and-eq-true_iff, or-false}
use Rattle.std.specs.Prelude.{◌&&◌, ◌||◌, if◌then◌else◌}
use Rattle.ranges.specs.Names.{ℕ, Bool, true, false, Master, Switch, Apart, Initialising, Closed, Bus, Clock, Device, Event, Command, Write}
use Rattle.ranges.specs.Names.{Read, Stop, Pair, Lines, Tick, Pulse, Reset, GeneralCall}
use Rattle.arbiter.specs.Words.{side}
use Rattle.arbiter.specs.State.{closed_for, scl_high, sda_high}
use Rattle.arbiter.specs.Effects.{fresh_bus, fresh_side, was_reset, hold_asked, power_up, effect}
use Rattle.arbiter.specs.Order.{is_reset, is_tick, clock_of, scl_changed, settled_bus, levels, losses_from, losses, cut_from, cut, claim, grant_from, grant}
use Rattle.arbiter.specs.Order.{connect_from, connect}
use Rattle.arbiter.specs.Steps.{parts, run}
use Rattle.arbiter.specs.AuditWords.{next}
use Rattle.ranges.specs.Exact.{initialising_for, SwitchExact, outside_high, PowerUpIsReset}
use Rattle.arbiter.proofs.Choice.{if_true}
use Rattle.arbiter.proofs.Raws.{refuses, takes, met}
use Rattle.arbiter.proofs.Connected.{serves, all_served}

-- ---- the switch

-- whom it serves it is closed for or initialises for
serves_as : (m : Master) (w : Switch) → closed_for m w || initialising_for m w ≡ serves m w
serves_as m Apart = refl
serves_as m (Initialising k n) = refl
serves_as m (Closed k) = or-false _

pub switch_exact : SwitchExact
switch_exact k rs m = serves_as m (run k rs).arb.switch ∙ all_served k rs m

-- ---- power-up

-- the hold that a reset leaves
abbrev hold_left : Event → Device → ℕ
hold_left (Command m c) d = 0
hold_left (Write m v) d = 0
hold_left (Read m) d = 0
hold_left (Stop m) d = 0
hold_left (Pair v0 v1) d = 0
hold_left (Lines scl sda intin) d = 0
hold_left Tick d = 0
hold_left (Pulse sda) d = 0
hold_left Reset d = 0
hold_left (GeneralCall m b) d = hold_asked (side m d)

reset_effect : (e : Event) (d : Device) → is_reset e ≡ true → effect e d ≡ was_reset (hold_left e d) d
unfolding effect
reset_effect (Command m c) d h = absurd (false≢true h)
reset_effect (Write m v) d h = absurd (false≢true h)
reset_effect (Read m) d h = absurd (false≢true h)
reset_effect (Stop m) d h = absurd (false≢true h)
reset_effect (Pair v0 v1) d h = absurd (false≢true h)
reset_effect (Lines scl sda intin) d h = absurd (false≢true h)
reset_effect Tick d h = absurd (false≢true h)
reset_effect (Pulse sda) d h = absurd (false≢true h)
reset_effect Reset d h = refl
reset_effect (GeneralCall m b) d h = if_true _ d h

-- part 2 has nothing to zero
either_way : (t : Bool) (n : ℕ) → (if t then n else n) ≡ n
either_way true n = refl
either_way false n = refl

fresh_settled : (hold : ℕ) (changed : Bool) (b : Bus) → settled_bus false changed (fresh_bus hold b) ≡ fresh_bus hold b
fresh_settled hold changed b =
    let f : Bus = fresh_bus hold b in
    λ i. record {
      outscl = b.outscl;
      outsda = b.outsda;
      intin = b.intin;
      drivescl = true;
      drivesda = true;
      busy = false;
      hold = hold;
      idle = either_way (scl_high f && sda_high f) 0 i;
      lowscl = either_way (scl_high f) 0 i;
      lowsda = either_way (sda_high f || changed) 0 i;
    }

-- and the others nothing to do
fresh_left : (c : Clock) (tick : Bool) (hold : ℕ) (d : Device)
    → connect c (grant (claim (cut tick (losses (levels true d.bus (was_reset hold d)))))) ≡ was_reset hold d
unfolding levels losses losses_from cut cut_from claim grant grant_from connect connect_from was_reset fresh_side
fresh_left c tick hold d =
    ap (λ (b : Bus). record { side0 = fresh_side; side1 = fresh_side; bus = b; arb = (was_reset hold d).arb; kind = d.kind })
    (fresh_settled hold (scl_changed d.bus (fresh_bus hold d.bus)) d.bus)

pub reset_parts : (e : Event) (d : Device) → is_reset e ≡ true → parts e d ≡ was_reset (hold_left e d) d
unfolding parts
reset_parts e d h =
    ap₂ (λ (r : Bool) (n : Device). connect (clock_of e) (grant (claim (cut (is_tick e) (losses (levels r d.bus n)))))) h (reset_effect e d h)
    ∙ fresh_left (clock_of e) (is_tick e) (hold_left e d) d

-- with all outside levels 1 and no hold that is power-up
reset_fresh : (hold : ℕ) (d : Device) → hold ≡ 0 → outside_high d.bus ≡ true → was_reset hold d ≡ power_up d.kind
unfolding was_reset power_up
reset_fresh hold d z h =
    let two = (and-eq-true_iff (d.bus.outscl && d.bus.outsda) d.bus.intin).0 h in
    let one = (and-eq-true_iff d.bus.outscl d.bus.outsda).0 two.0 in
    λ i. record {
      side0 = fresh_side;
      side1 = fresh_side;
      bus =
          record {
            outscl = one.0 i;
            outsda = one.1 i;
            intin = two.1 i;
            drivescl = true;
            drivesda = true;
            busy = false;
            hold = z i;
            idle = 0;
            lowscl = 0;
            lowsda = 0;
          };
      arb = (was_reset 0 d).arb;
      kind = d.kind;
    }

pub power_up_is_reset : PowerUpIsReset
unfolding was_reset
power_up_is_reset d r h z high =
    elim (met r d) [
      | refuses x ↦ absurd (false≢true (sym (x.none λ f y. is_reset f) ∙ h))
      | takes e x ↦
          (let whole : next d r ≡ was_reset (hold_left e d) d = x.after ∙ reset_parts e d (sym (x.same λ f y. is_reset f) ∙ h) in
          whole ∙ reset_fresh (hold_left e d) d (sym (ap (λ (n : Device). n.bus.hold) whole) ∙ z) high)
    ]
