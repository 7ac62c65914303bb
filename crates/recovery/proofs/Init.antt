-- An initialisation over one event: parts 2 to 6 leave the switch, and of a master that owns after them BUS_CONNECT but for its own byte and the
-- 35-tick cut; part 7 then goes by the event's clock.
-- Assumes nothing.
use Prim.Native.Nat.{◌+◌}
use native.Mathlib.Nat.{add-zero}
use native.Mathlib.Omega.{arith}
use mathlib.Core.Path.{◌≡◌, refl, sym, ap, ◌∙◌, subst}
use mathlib.Core.Bool.{true≢false, false≢true, and-false, and-eq-true_iff}
use borrow.Author.Tests.{lt-ltb}
use Rattle.std.specs.Prelude.{◌&&◌, ◌∷◌}
use Rattle.ranges.specs.Names.{ℕ, Bool, true, false, not, [], ltb, Master, Zero, One, Ground, Turn, Nobody, Claims, Owns, Switch, Apart}
use Rattle.ranges.specs.Names.{Initialising, Closed, Control, Side, Clock, NoClock, Device, Raw, Event, Command, Write, Read, Stop, Pair, Lines, Tick, Pulse}
use Rattle.ranges.specs.Names.{Reset, GeneralCall}
use Rattle.arbiter.specs.Words.{worth, side}
use Rattle.arbiter.specs.State.{owns_turn, owns}
use Rattle.arbiter.specs.Events.{soft_reset}
use Rattle.arbiter.specs.Effects.{written, paired, was_read, lined, ticked, effect}
use Rattle.arbiter.specs.Order.{is_reset, is_tick, clock_of, levels, lost, losses_from, losses, cut_from, cut, claim, granted, grant_from, grant, switched}
use Rattle.arbiter.specs.Order.{joined}
use Rattle.arbiter.specs.Order.{initialised, init_failed, clocked, kept_joined, connect_from, connect}
use Rattle.arbiter.specs.Steps.{parts, run_from}
use Rattle.arbiter.specs.AuditWords.{next, lets_go, reset}
use Rattle.recovery.specs.Diagnosis.{is_pulse, pulse_of, low_pulses_in, owns_on, InitEnds, InitGoesOn, InitCounts}
use Rattle.arbiter.proofs.Cases.{cut_cases, grant_cases}
use Rattle.arbiter.proofs.Choice.{either, split, if_true, if_false, not_true, same_self, owns_turn_lem}
use Rattle.arbiter.proofs.Order.{connect_still}
use Rattle.arbiter.proofs.Owner.{mid, expired}
use Rattle.arbiter.proofs.Raws.{Takes, refuses, takes, met}
use Rattle.arbiter.proofs.Resets.{reset_ends}
use Rattle.arbiter.proofs.Runs.{never_comes, now, hence}
use Rattle.recovery.proofs.Turns.{loses, loses_ended}

-- the device after part 6
abbrev six : Event → Device → Device
six e d = grant (claim (cut (is_tick e) (losses (mid e d))))

-- ---- the switch until part 7

losses_switch : (t : Turn) (d : Device) → (losses_from t d).arb.switch ≡ d.arb.switch
unfolding losses_from lost
losses_switch Nobody d = refl
losses_switch (Claims m g) d = refl
losses_switch (Owns m g) d = either (λ (n : Device). n.arb.switch ≡ d.arb.switch) (expired m d) (λ h. refl) (λ h. refl)

cut_switch : (on : Bool) (t : Turn) (d : Device) → (cut_from on t d).arb.switch ≡ d.arb.switch
unfolding cut_from
cut_switch on Nobody d = refl
cut_switch on (Claims m g) d = refl
cut_switch on (Owns m g) d = cut_cases (λ (n : Device). n.arb.switch ≡ d.arb.switch) on m g d refl refl

grant_switch : (t : Turn) (d : Device) → (grant_from t d).arb.switch ≡ d.arb.switch
unfolding grant_from granted
grant_switch Nobody d = refl
grant_switch (Claims m g) d = grant_cases (λ (n : Device). n.arb.switch ≡ d.arb.switch) m g d refl refl
grant_switch (Owns m g) d = refl

-- only a reset touches it in part 1
effect_switch : (e : Event) (d : Device) → is_reset e ≡ false → (effect e d).arb.switch ≡ d.arb.switch
unfolding effect written paired was_read lined ticked
effect_switch (Command k c) d ok = refl
effect_switch (Write k v) d ok = refl
effect_switch (Read k) d ok = refl
effect_switch (Stop k) d ok = refl
effect_switch (Pair v0 v1) d ok = refl
effect_switch (Lines scl sda intin) d ok = refl
effect_switch Tick d ok = refl
effect_switch (Pulse sda) d ok = refl
effect_switch Reset d ok = absurd (true≢false ok)
effect_switch (GeneralCall k b) d ok =
    either (λ (n : Device). n.arb.switch ≡ d.arb.switch) (soft_reset b) (λ r. absurd (true≢false (sym r ∙ ok))) (λ r. refl)

six_switch : (e : Event) (d : Device) → is_reset e ≡ false → (six e d).arb.switch ≡ d.arb.switch
unfolding levels losses cut claim grant
six_switch e d ok =
    let x : Device = mid e d in
    let y : Device = losses x in
    let z : Device = claim (cut (is_tick e) y) in
    grant_switch z.arb.turn z ∙ cut_switch (is_tick e) y.arb.turn y ∙ losses_switch x.arb.turn x ∙ effect_switch e d ok

-- ---- part 7 of an owner whose switch initialises

module _ (m : Master) (e : Event) (d : Device) (o : owns m (parts e d) ≡ true) where
  -- who owns after part 7 owned before it
  six_owner : (g : Ground) × ((six e d).arb.turn ≡ Owns m g)
  unfolding parts
  six_owner = owns_turn_lem m (six e d).arb.turn (sym (ap (λ s. owns_turn m s.4) (connect_still (clock_of e) (six e d))) ∙ o)

  -- with BUS_CONNECT set it goes by the clock,
  goes_on : (n : ℕ) → (six e d).arb.switch ≡ Initialising m n → (side m (six e d)).contr.busconnect ≡ true
      → parts e d ≡ clocked (clock_of e) m n (six e d)
  unfolding parts connect connect_from kept_joined
  goes_on n s on =
      let w : Device = six e d in
      ap (λ (t : Turn). connect_from (clock_of e) t w) six_owner.1
      ∙ if_true (kept_joined (clock_of e) m w.arb.switch w) (switched Apart w) on
      ∙ ap (λ (x : Switch). kept_joined (clock_of e) m x w) s
      ∙ if_true (clocked (clock_of e) m n w) (joined m w) (same_self m)

  -- and else the switch opens.
  opens : (side m (six e d)).contr.busconnect ≡ false → parts e d ≡ switched Apart (six e d)
  unfolding parts connect connect_from
  opens off =
      let w : Device = six e d in
      ap (λ (t : Turn). connect_from (clock_of e) t w) six_owner.1 ∙ if_false (kept_joined (clock_of e) m w.arb.switch w) (switched Apart w) off

-- ---- BUS_CONNECT over a PULSE

-- part 3 leaves the side of a master that does not lose
losses_side : (m : Master) (t : Turn) (d : Device) → owns_turn m t && expired m d ≡ false → side m (losses_from t d) ≡ side m d
unfolding losses_from lost
losses_side m Nobody d h = refl
losses_side m (Claims k g) d h = refl
losses_side Zero (Owns Zero g) d h = ap (side Zero) (if_false (lost Zero d) d h)
losses_side Zero (Owns One g) d h = either (λ (n : Device). side Zero n ≡ side Zero d) (expired One d) (λ x. refl) (λ x. refl)
losses_side One (Owns Zero g) d h = either (λ (n : Device). side One n ≡ side One d) (expired Zero d) (λ x. refl) (λ x. refl)
losses_side One (Owns One g) d h = ap (side One) (if_false (lost One d) d h)

-- part 4 needs a tick
uncut : (t : Turn) (d : Device) → cut_from false t d ≡ d
unfolding cut_from
uncut Nobody d = refl
uncut (Claims m g) d = refl
uncut (Owns m g) d = refl

abbrev contrs : Device → Control × Control
contrs d = (d.side0.contr, d.side1.contr)

grant_contrs : (t : Turn) (d : Device) → contrs (grant_from t d) ≡ contrs d
unfolding grant_from granted
grant_contrs Nobody d = refl
grant_contrs (Claims Zero g) d = grant_cases (λ (n : Device). contrs n ≡ contrs d) Zero g d refl refl
grant_contrs (Claims One g) d = grant_cases (λ (n : Device). contrs n ≡ contrs d) One g d refl refl
grant_contrs (Owns m g) d = refl

side_contr : (m : Master) (n d : Device) → contrs n ≡ contrs d → (side m n).contr ≡ (side m d).contr
side_contr Zero n d e = ap (λ x. x.0) e
side_contr One n d e = ap (λ x. x.1) e

-- who owns after an event has not lost in it
unlost : (m : Master) (e : Event) (d : Device) → owns m (parts e d) ≡ true → loses m e d ≡ false
unlost m e d o =
    loses_ended m e d
    ∙ ap (λ (b : Bool). (owns m d && not b) && not (is_reset e) && not (lets_go m e d)) o
    ∙ ap (λ (b : Bool). b && not (is_reset e) && not (lets_go m e d)) (and-false (owns m d))

pulse_contr : (m : Master) (level : Bool) (d : Device) → owns m (parts (Pulse level) d) ≡ true → (side m (six (Pulse level) d)).contr ≡ (side m d).contr
unfolding effect levels losses cut claim grant
pulse_contr m level d o =
    let e : Event = Pulse level in
    let x : Device = mid e d in
    let y : Device = losses x in
    let z : Device = claim (cut false y) in
    side_contr m (grant z) z (grant_contrs z.arb.turn z)
    ∙ ap (λ (n : Device). (side m n).contr) (uncut y.arb.turn y)
    ∙ ap (λ (s : Side). s.contr) (losses_side m x.arb.turn x (unlost m e d o))

-- ---- PULSE

pulse_is : (level : Bool) (e : Event) → is_pulse level e ≡ true → e ≡ Pulse level
pulse_is level (Command k c) h = absurd (false≢true h)
pulse_is level (Write k v) h = absurd (false≢true h)
pulse_is level (Read k) h = absurd (false≢true h)
pulse_is level (Stop k) h = absurd (false≢true h)
pulse_is level (Pair v0 v1) h = absurd (false≢true h)
pulse_is level (Lines scl sda intin) h = absurd (false≢true h)
pulse_is level Tick h = absurd (false≢true h)
pulse_is true (Pulse sda) h = ap Pulse h
pulse_is false (Pulse sda) h = ap Pulse (not_true sda h)
pulse_is level Reset h = absurd (false≢true h)
pulse_is level (GeneralCall k b) h = absurd (false≢true h)

taken_pulse : (level : Bool) (r : Raw) (d : Device) → pulse_of level r d ≡ true → Takes (Pulse level) r d
taken_pulse level r d h =
    elim (met r d) [
      | refuses x ↦ absurd (false≢true (sym (x.none λ f y. is_pulse level f) ∙ h))
      | takes e x ↦ subst (λ (f : Event). Takes f r d) (pulse_is level e (sym (x.same λ f y. is_pulse level f) ∙ h)) x
    ]

pulsed : (level : Bool) (m : Master) (d : Device) (n : ℕ) (r : Raw) → d.arb.switch ≡ Initialising m n → (side m d).contr.busconnect ≡ true
    → owns m (next d r) ≡ true → pulse_of level r d ≡ true → next d r ≡ clocked (clock_of (Pulse level)) m n (six (Pulse level) d)
pulsed level m d n r s on o h =
    let e : Event = Pulse level in
    let x = taken_pulse level r d h in
    let owner : owns m (parts e d) ≡ true = sym (ap (owns m) x.after) ∙ o in
    x.after
    ∙ goes_on m e d owner n (six_switch e d refl ∙ s) (ap (λ (c : Control). c.busconnect) (pulse_contr m level d owner) ∙ on)

-- what it comes to
abbrev Ended : Master → Device → Type 0
Ended m x = (x.arb.switch ≡ Closed m) × ((side m x).contr.businit ≡ false)

ended : (m : Master) (d : Device) → Ended m (initialised m d)
ended Zero d = (refl, refl)
ended One d = (refl, refl)

abbrev Failed : Master → Device → Type 0
Failed m x = (x.arb.switch ≡ Apart) × (x.arb.initfail ≡ true) × ((side m x).contr.businit ≡ false) × ((side m x).contr.busconnect ≡ false)

failed : (m : Master) (d : Device) → Failed m (init_failed m d)
failed Zero d = (refl, refl, refl, refl)
failed One d = (refl, refl, refl, refl)

pub init_ends : InitEnds
unfolding clocked
init_ends m d n r s on o =
    let w : Device = six (Pulse false) d in (
      (λ h. subst (Ended m) (sym (pulsed true m d n r s on o h)) (ended m (six (Pulse true) d))),
      (λ h few. ap (λ (x : Device). x.arb.switch)
          (pulsed false m d n r s on o h ∙ if_true (switched (Initialising m (n + 1)) w) (init_failed m w) (lt-ltb n 8 few))),
      (λ h eight. subst (Failed m)
          (sym (pulsed false m d n r s on o h ∙ if_false (switched (Initialising m (n + 1)) w) (init_failed m w) (ap (λ (k : ℕ). ltb k 8) eight)))
          (failed m w)),
    )

-- ---- no PULSE

no_clock : (e : Event) → is_pulse true e ≡ false → is_pulse false e ≡ false → clock_of e ≡ NoClock
no_clock (Command k c) h l = refl
no_clock (Write k v) h l = refl
no_clock (Read k) h l = refl
no_clock (Stop k) h l = refl
no_clock (Pair v0 v1) h l = refl
no_clock (Lines scl sda intin) h l = refl
no_clock Tick h l = refl
no_clock (Pulse true) h l = absurd (true≢false h)
no_clock (Pulse false) h l = absurd (true≢false l)
no_clock Reset h l = refl
no_clock (GeneralCall k b) h l = refl

unclocked : (m : Master) (e : Event) (d : Device) (n : ℕ) → d.arb.switch ≡ Initialising m n → is_reset e ≡ false → clock_of e ≡ NoClock
    → owns m (parts e d) ≡ true → (side m (parts e d)).contr.busconnect ≡ true → (parts e d).arb.switch ≡ Initialising m n
unfolding clocked
unclocked m e d n s ok quiet o on =
    let w : Device = six e d in
    let same : w.arb.switch ≡ Initialising m n = six_switch e d ok ∙ s in
    split (side m w).contr.busconnect
    (λ b. ap (λ (x : Device). x.arb.switch) (goes_on m e d o n same b ∙ ap (λ (c : Clock). clocked c m n w) quiet) ∙ same)
    (λ b. absurd (true≢false (sym on ∙ ap (λ (x : Device). (side m x).contr.busconnect) (opens m e d o b) ∙ b)))

pub init_goes_on : InitGoesOn
init_goes_on m d n r s high low o on =
    elim (met r d) [
      | refuses x ↦ ap (λ (y : Device). y.arb.switch) x.after ∙ s
      | takes e x ↦
          (let ok : reset r d ≡ false = split (reset r d) (λ h. absurd (true≢false (sym o ∙ reset_ends m d r h))) (λ h. h) in
          ap (λ (y : Device). y.arb.switch) x.after
          ∙ unclocked m e d n s (sym (x.same λ f y. is_reset f) ∙ ok)
          (no_clock e (sym (x.same λ f y. is_pulse true f) ∙ high) (sym (x.same λ f y. is_pulse false f) ∙ low))
          (sym (ap (owns m) x.after) ∙ o) (sym (ap (λ (y : Device). (side m y).contr.busconnect) x.after) ∙ on))
    ]

-- ---- many events

pub init_counts : InitCounts
unfolding run_from low_pulses_in
init_counts m d n [] s on high few = s ∙ ap (Initialising m) (sym (add-zero n))
init_counts m d n (r ∷ rs) s on high few =
    let x : Device = next d r in
    let left : ℕ = low_pulses_in x rs in
    let here = (and-eq-true_iff (owns m d) (side m d).contr.busconnect).0 (now (owns_on m) (r ∷ rs) d on) in
    let later = hence (owns_on m) r rs d on in
    let there = (and-eq-true_iff (owns m x) (side m x).contr.busconnect).0 (now (owns_on m) rs x later) in
    let none = never_comes (pulse_of true) r rs d high in
    split (pulse_of false r d)
    (λ h. let one : worth 1 (pulse_of false r d) ≡ 1 = ap (worth 1) h in
    let sum : n + 1 + left ≡ n + (worth 1 (pulse_of false r d) + left) = omega (arith, one) in
    let more : x.arb.switch ≡ Initialising m (n + 1) = (init_ends m d n r s here.1 there.0).1 h (omega (arith, one, few)) in
    init_counts m x (n + 1) rs more later none.1 (omega (arith, one, few)) ∙ ap (Initialising m) sum)
    (λ h. let no : worth 1 (pulse_of false r d) ≡ 0 = ap (worth 1) h in
    let sum : n + left ≡ n + (worth 1 (pulse_of false r d) + left) = omega (arith, no) in
    let same : x.arb.switch ≡ Initialising m n = init_goes_on m d n r s none.0 h there.0 there.1 in
    init_counts m x n rs same later none.1 (omega (arith, no, few)) ∙ ap (Initialising m) sum)
