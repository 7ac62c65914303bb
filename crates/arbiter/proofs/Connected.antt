-- The switch serves, closed or initialising, exactly the owner whose BUS_CONNECT is 1: part 7 leaves it so, whatever the device was before.
-- Assumes nothing.
use mathlib.Core.Path.{◌≡◌, refl, sym, ap, ◌∙◌}
use mathlib.Core.Bool.{Bool, true, false, ◌&&◌, false≢true, and-eq-true_iff}
use mathlib.Core.List.{List}
use Rattle.std.specs.Prelude.{◌+◌}
use Rattle.arbiter.specs.Types.{ℕ, ltb, Master, Zero, One, Ground, Turn, Nobody, Claims, Owns, Switch, Apart, Initialising, Closed, Clock, NoClock}
use Rattle.arbiter.specs.Types.{ClockLow, ClockHigh, Kind, Device, Raw, Event}
use Rattle.arbiter.specs.Words.{same_master, partner, side}
use Rattle.arbiter.specs.State.{owns_turn, owns, closed_for}
use Rattle.arbiter.specs.Effects.{effect, power_up}
use Rattle.arbiter.specs.Order.{switched, joined, initialised, init_failed, clocked, kept_joined, connect_from, connect, levels, losses, cut, claim, grant}
use Rattle.arbiter.specs.Order.{is_reset, is_tick, clock_of}
use Rattle.arbiter.specs.Steps.{parts, step, run}
use Rattle.arbiter.specs.Audit.{OneConnected, ApartUnowned}
use Rattle.arbiter.proofs.Choice.{either, same_self}
use Rattle.arbiter.proofs.Cases.{step_keeps, run_keeps}

-- ---- whom the switch serves

abbrev pub serves : Master → Switch → Bool
serves m Apart = false
serves m (Initialising k n) = same_master m k
serves m (Closed k) = same_master m k

-- m asks for the connection: its BUS_CONNECT is 1
abbrev pub asks_on : Master → Device → Bool
asks_on m d = (side m d).contr.busconnect

-- the switch serves exactly the owner that asks for it
abbrev pub Served : Device → Type 0
Served d = (m : Master) → serves m d.arb.switch ≡ owns m d && asks_on m d

-- the switch serves nobody but m
abbrev only_for : Master → Switch → Bool
only_for m Apart = true
only_for m (Initialising k n) = same_master m k
only_for m (Closed k) = same_master m k

-- who is the same as m is not the same as m's partner
apart_from : (m k : Master) → same_master m k ≡ true → same_master (partner m) k ≡ false
apart_from Zero Zero h = refl
apart_from Zero One h = absurd (false≢true h)
apart_from One Zero h = absurd (false≢true h)
apart_from One One h = refl

-- where m owns, its partner does not
pub partner_not : (m : Master) (t : Turn) → owns_turn m t ≡ true → owns_turn (partner m) t ≡ false
partner_not m Nobody h = refl
partner_not m (Claims k g) h = refl
partner_not m (Owns k g) h = apart_from m k h

-- a switch that serves nobody but m does not serve the partner
not_partner : (m : Master) (w : Switch) → only_for m w ≡ true → serves (partner m) w ≡ false
not_partner m Apart h = refl
not_partner m (Initialising k n) h = apart_from m k h
not_partner m (Closed k) h = apart_from m k h

-- a switch that serves nobody but m, and m exactly if m asks, serves exactly those who are m and ask
serves_by : (j m : Master) (w : Switch) (on : Master → Bool) → only_for m w ≡ true → serves m w ≡ on m → serves j w ≡ same_master j m && on j
serves_by Zero Zero w on h s = s
serves_by Zero One w on h s = not_partner One w h
serves_by One Zero w on h s = not_partner Zero w h
serves_by One One w on h s = s

-- the same, where m is the owner by the turn
served : (m : Master) {g : Ground} (t : Turn) (w : Switch) (on : Master → Bool) → t ≡ Owns m g → only_for m w ≡ true → serves m w ≡ on m
    → (j : Master) → serves j w ≡ owns_turn j t && on j
served m t w on e h s j = serves_by j m w on h s ∙ sym (ap (λ (t : Turn). owns_turn j t && on j) e)

-- ---- part 7

-- the end of an initialisation leaves m's BUS_CONNECT if it closes the switch, and clears it if it fails
initialised_asks : (m : Master) (d : Device) → asks_on m (initialised m d) ≡ asks_on m d
initialised_asks Zero d = refl
initialised_asks One d = refl

failed_asks : (m : Master) (d : Device) → asks_on m (init_failed m d) ≡ false
failed_asks Zero d = refl
failed_asks One d = refl

module _ (m : Master) {g : Ground} (d : Device) (e : d.arb.turn ≡ Owns m g) where
  -- an open switch is right for an owner that does not ask
  apart_served : asks_on m d ≡ false → Served (switched Apart d)
  apart_served a = served m d.arb.turn Apart (λ j. asks_on j d) e refl (sym a)

  module _ (a : asks_on m d ≡ true) where
    -- one that is closed for it, or initialises for it, is right for an owner that asks
    joined-served : Served (joined m d)
    unfolding joined
    joined-served =
        either Served (side m d).contr.businit
        (λ h. served m d.arb.turn (Initialising m 0) (λ j. asks_on j d) e (same_self m) (same_self m ∙ sym a))
        (λ h. served m d.arb.turn (Closed m) (λ j. asks_on j d) e (same_self m) (same_self m ∙ sym a))

    -- and so is one that serves it already
    kept : only_for m d.arb.switch ≡ true → serves m d.arb.switch ≡ true → Served d
    kept h s = served m d.arb.turn d.arb.switch (λ j. asks_on j d) e h (s ∙ sym a)

    -- PULSEs keep it so: a failure opens the switch and clears BUS_CONNECT
    clocked-served : (c : Clock) (n : ℕ) → only_for m d.arb.switch ≡ true → serves m d.arb.switch ≡ true → Served (clocked c m n d)
    unfolding clocked
    clocked-served NoClock n h s = kept h s
    clocked-served ClockHigh n h s =
        served m d.arb.turn (Closed m) (λ j. asks_on j (initialised m d)) e (same_self m) (same_self m ∙ sym (initialised_asks m d ∙ a))
    clocked-served ClockLow n h s =
        either Served (ltb n 8)
        (λ x. served m d.arb.turn (Initialising m (n + 1)) (λ j. asks_on j d) e (same_self m) (same_self m ∙ sym a))
        (λ x. served m d.arb.turn Apart (λ j. asks_on j (init_failed m d)) e refl (sym (failed_asks m d)))

    -- whomever the switch served before, it serves the owner that asks
    kept-served : (c : Clock) (w : Switch) → d.arb.switch ≡ w → Served (kept_joined c m w d)
    unfolding kept_joined
    kept-served c Apart s = joined-served
    kept-served c (Initialising k n) s =
        either Served (same_master m k) (λ h. clocked-served c n (ap (only_for m) s ∙ h) (ap (serves m) s ∙ h)) (λ h. joined-served)
    kept-served c (Closed k) s = either Served (same_master m k) (λ h. kept (ap (only_for m) s ∙ h) (ap (serves m) s ∙ h)) (λ h. joined-served)

-- where nobody owns, an open switch is right
unowned_served : (t : Turn) (d : Device) → d.arb.turn ≡ t → ((j : Master) → owns_turn j t ≡ false) → Served (switched Apart d)
unowned_served t d e none j = sym (ap (λ (t : Turn). owns_turn j t && asks_on j d) e ∙ ap (λ (o : Bool). o && asks_on j d) (none j))

-- by whose turn it is
connect_from_served : (c : Clock) (t : Turn) (d : Device) → d.arb.turn ≡ t → Served (connect_from c t d)
unfolding connect_from
connect_from_served c Nobody d e = unowned_served Nobody d e (λ j. refl)
connect_from_served c (Claims m g) d e = unowned_served (Claims m g) d e (λ j. refl)
connect_from_served c (Owns m g) d e =
    either Served (asks_on m d) (λ a. kept-served m d e a c d.arb.switch refl) (λ a. apart_served m d e a)

-- so part 7 leaves it so
connect_served : (c : Clock) (d : Device) → Served (connect c d)
unfolding connect
connect_served c d = connect_from_served c d.arb.turn d refl

-- ---- a step and a run

-- part 7 is the last
parts_served : (e : Event) (d : Device) → Served d → Served (parts e d)
unfolding parts
parts_served e d h = connect_served (clock_of e) (grant (claim (cut (is_tick e) (losses (levels (is_reset e) d.bus (effect e d))))))

pub step_served : (d : Device) (r : Raw) → Served d → Served (step d r).device
step_served = step_keeps Served parts_served

pub all_served : (k : Kind) (rs : List Raw) → Served (run k rs)
unfolding run power_up
all_served k rs = run_keeps Served parts_served (power_up k) rs (λ m. refl)

-- ---- the auditor's first question

-- whoever the switch serves owns the bus
pub serves_owner : (d : Device) → Served d → (m : Master) → serves m d.arb.switch ≡ true → owns m d ≡ true
serves_owner d h m s = ((and-eq-true_iff (owns m d) (asks_on m d)).0 (sym (h m) ∙ s)).0

-- a closed switch serves
pub closed_served : (m : Master) (w : Switch) → closed_for m w ≡ true → serves m w ≡ true
closed_served m Apart h = h
closed_served m (Initialising k n) h = absurd (false≢true h)
closed_served m (Closed k) h = h

-- a switch is closed for one master at most
closed_once : (m : Master) (w : Switch) → closed_for m w ≡ true → closed_for (partner m) w ≡ false
closed_once m Apart h = refl
closed_once m (Initialising k n) h = refl
closed_once m (Closed k) h = apart_from m k h

pub one_connected : OneConnected
one_connected k rs m h =
    let d : Device = run k rs in
    (serves_owner d (all_served k rs) m (closed_served m d.arb.switch h), closed_once m d.arb.switch h)

-- a switch that serves nobody is open
pub unserved : (w : Switch) → ((m : Master) → serves m w ≡ false) → w ≡ Apart
unserved Apart h = refl
unserved (Initialising k n) h = absurd (false≢true (sym (h k) ∙ same_self k))
unserved (Closed k) h = absurd (false≢true (sym (h k) ∙ same_self k))

pub apart_unowned : ApartUnowned
apart_unowned k rs none =
    let d : Device = run k rs in
    unserved d.arb.switch λ m. all_served k rs m ∙ ap (λ (o : Bool). o && asks_on m d) (none m)
