-- Every event leaves a settled device settled: what parts 2 to 7 have done, they find done.
-- Assumes nothing.
use mathlib.Core.Path.{◌≡◌, refl, sym, ap, ap₂, subst, ◌∙◌}
use mathlib.Core.Bool.{Bool, true, false, not, ◌&&◌, false≢true, and-eq-true_iff, and-false}
use mathlib.Core.List.{List, [], ◌∷◌}
use lib.Dec.{eqb}
use Rattle.std.specs.Prelude.{if◌then◌else◌}
use Rattle.arbiter.specs.Words.{same_master, side}
use Rattle.arbiter.specs.State.{owns_turn, at_rest}
use Rattle.arbiter.specs.Order.{claim_by, winner, ground_of, claim_after}
use Rattle.arbiter.specs.Effects.{fresh_side, power_up}
use Rattle.arbiter.specs.Steps.{step, run_from}
use Rattle.arbiter.specs.AuditWords.{next}
use Rattle.arbiter.specs.declared.Master.{Master}
use Rattle.arbiter.specs.declared.Master.TheVariants.{Zero, One}
use Rattle.arbiter.specs.declared.Ground.{Ground}
use Rattle.arbiter.specs.declared.Turn.{Turn}
use Rattle.arbiter.specs.declared.Turn.TheVariants.{Nobody, Claims, Owns}
use Rattle.arbiter.specs.declared.Switch.{Switch}
use Rattle.arbiter.specs.declared.Switch.TheVariants.{Apart, Initialising, Closed}
use Rattle.arbiter.specs.declared.Device.{Device}
use Rattle.arbiter.specs.declared.Raw.{Raw}
use Rattle.arbiter.proofs.Settled.{loses, is_due, Ready, parts_ready}
use Rattle.arbiter.proofs.Choice.{not_true, same_self, turn_owns}
use Rattle.arbiter.proofs.Connected.{serves, asks_on, Served, unserved, serves_owner, step_served}
use Rattle.arbiter.proofs.Raws.{refuses, takes, met}
use Rattle.fields.specs.Apart.{is_apart}
use Rattle.connection.specs.Quiet.{linked}
use Rattle.step.specs.Carried.{quiet_from, is_quiet}
use Rattle.light.specs.Light.{Settled, SettledAtPowerUp, StaysSettled}

-- ---- who claims, by turn

abbrev is_nobody : Turn → Bool
is_nobody Nobody = true
is_nobody (Claims m g) = false
is_nobody (Owns m g) = false

abbrev is_for : Master → Turn → Bool
is_for m Nobody = false
is_for m (Claims k g) = same_master m k
is_for m (Owns k g) = false

-- five tests that hold
all_hold : (a b c d e : Bool) → a ≡ true → b ≡ true → c ≡ true → d ≡ true → e ≡ true → a && b && c && d && e ≡ true
all_hold a b c d e p q r s t =
    ap (λ (x : Bool). x && b && c && d && e) p
    ∙ ap (λ (x : Bool). x && c && d && e) q
    ∙ ap (λ (x : Bool). x && d && e) r
    ∙ ap (λ (x : Bool). x && e) s
    ∙ t

-- ---- who asks

none_asks : (r0 r1 : Bool) (w : Master) (g : Ground) → claim_by r0 r1 w g ≡ Nobody → not r0 && not r1 ≡ true
none_asks false false w g e = refl
none_asks true false w g e = absurd (false≢true (ap is_nobody e))
none_asks false true w g e = absurd (false≢true (ap is_nobody e))
none_asks true true w g e = absurd (false≢true (ap is_nobody e))

asks_0 : (r0 r1 : Bool) (w : Master) (g h : Ground) → (if r0 then Claims Zero g else claim_by r0 r1 w h) ≡ Claims Zero g → r0 ≡ true
asks_0 true r1 w g h e = refl
asks_0 false false w g h e = absurd (false≢true (ap (is_for Zero) e))
asks_0 false true w g h e = absurd (false≢true (ap (is_for Zero) e))

asks_1 : (r0 r1 : Bool) (w : Master) (g h : Ground) → (if r1 then Claims One g else claim_by r0 r1 w h) ≡ Claims One g → r1 ≡ true
asks_1 r0 true w g h e = refl
asks_1 false false w g h e = absurd (false≢true (ap (is_for One) e))
asks_1 true false w g h e = absurd (false≢true (ap (is_for One) e))

-- ---- the switch

other_way : (m k : Master) → same_master k m ≡ true → same_master m k ≡ true
other_way Zero Zero e = refl
other_way One One e = refl
other_way Zero One e = e
other_way One Zero e = e

module _ (m : Master) (g : Ground) (d : Device) (e : d.arb.turn ≡ Owns m g) (h : Served d) where
  asks_as : (w : Switch) → d.arb.switch ≡ w → (side m d).contr.busconnect ≡ serves m w
  asks_as w s = sym (ap (λ (o : Bool). o && asks_on m d) (turn_owns m d.arb.turn e)) ∙ sym (h m) ∙ ap (serves m) s

  own : (k : Master) → serves k d.arb.switch ≡ true → same_master m k ≡ true
  own k s = other_way m k (ap (owns_turn k) (sym e) ∙ serves_owner d h k s)

  both : (k : Master) (asks : Bool) → asks ≡ same_master m k → same_master m k ≡ true → asks && same_master m k ≡ true
  both k asks p q = ap₂ (λ (x y : Bool). x && y) (p ∙ q) q

  link : (w : Switch) → d.arb.switch ≡ w → linked m (side m d).contr.busconnect w ≡ true
  link Apart s = ap not (asks_as Apart s)
  link (Initialising k n) s = both k _ (asks_as (Initialising k n) s) (own k (ap (serves k) s ∙ same_self k))
  link (Closed k) s = both k _ (asks_as (Closed k) s) (own k (ap (serves k) s ∙ same_self k))

-- ---- ready and served is settled

module _ (d : Device) (ready : Ready d) (served : Served d) where
  open_now : (t : Turn) → d.arb.turn ≡ t → ((j : Master) → owns_turn j t ≡ false) → is_apart d.arb.switch ≡ true
  open_now t e none =
      ap is_apart (unserved d.arb.switch λ j. served j ∙ ap (λ (t : Turn). owns_turn j t && asks_on j d) e ∙ ap (λ (o : Bool). o && asks_on j d) (none j))

  claimed : (t : Turn) → d.arb.turn ≡ t → claim_after t d ≡ t
  claimed t e = ap (λ (x : Turn). claim_after x d) (sym e) ∙ ready.1 ∙ e

  due : (t : Turn) → d.arb.turn ≡ t → not (is_due t d) ≡ true
  due t e = ap not (ap (λ (x : Turn). is_due x d) (sym e) ∙ ready.2)

  kept : (t : Turn) → d.arb.turn ≡ t → not (loses t d) ≡ true
  kept t e = ap not (ap (λ (x : Turn). loses x d) (sym e) ∙ ready.0.1)

  abbrev r0 : Bool
  r0 = d.side0.contr.lockreq

  abbrev r1 : Bool
  r1 = d.side1.contr.lockreq

  abbrev wins : Master
  wins = winner d.side0.contr.priority d.side1.contr.priority d.arb.last

  abbrev ground : Ground
  ground = ground_of d.side0.contr.priority d.side1.contr.priority

  quiet_from_lem : (t : Turn) → d.arb.turn ≡ t → quiet_from t false d ≡ true
  quiet_from_lem Nobody e = all_hold _ _ _ _ _ (open_now Nobody e (λ j. refl)) refl (none_asks r0 r1 wins ground (claimed Nobody e)) refl refl
  quiet_from_lem (Claims Zero g) e =
      all_hold _ _ _ _ _ (open_now (Claims Zero g) e (λ j. refl)) (due (Claims Zero g) e) (asks_0 r0 r1 wins g ground (claimed (Claims Zero g) e)) refl refl
  quiet_from_lem (Claims One g) e =
      all_hold _ _ _ _ _ (open_now (Claims One g) e (λ j. refl)) (due (Claims One g) e) (asks_1 r0 r1 wins g ground (claimed (Claims One g) e)) refl refl
  quiet_from_lem (Owns m g) e = all_hold _ _ _ _ _ (link m g d e served d.arb.switch refl) refl refl refl (kept (Owns m g) e)

  ready_quiet : is_quiet false d ≡ true
  unfolding is_quiet
  ready_quiet = quiet_from_lem d.arb.turn refl

-- ---- a settled device's switch serves its owner

linked_serves : (m : Master) (on : Master → Bool) (w : Switch) → linked m (on m) w ≡ true → (j : Master) → serves j w ≡ same_master j m && on j
linked_serves Zero on Apart h Zero = sym (not_true (on Zero) h)
linked_serves Zero on Apart h One = refl
linked_serves One on Apart h Zero = refl
linked_serves One on Apart h One = sym (not_true (on One) h)
linked_serves Zero on (Initialising Zero n) h Zero = sym ((and-eq-true_iff (on Zero) true).0 h).0
linked_serves Zero on (Initialising Zero n) h One = refl
linked_serves Zero on (Initialising One n) h j = absurd (false≢true (sym (and-false (on Zero)) ∙ h))
linked_serves One on (Initialising Zero n) h j = absurd (false≢true (sym (and-false (on One)) ∙ h))
linked_serves One on (Initialising One n) h Zero = refl
linked_serves One on (Initialising One n) h One = sym ((and-eq-true_iff (on One) true).0 h).0
linked_serves Zero on (Closed Zero) h Zero = sym ((and-eq-true_iff (on Zero) true).0 h).0
linked_serves Zero on (Closed Zero) h One = refl
linked_serves Zero on (Closed One) h j = absurd (false≢true (sym (and-false (on Zero)) ∙ h))
linked_serves One on (Closed Zero) h j = absurd (false≢true (sym (and-false (on One)) ∙ h))
linked_serves One on (Closed One) h Zero = refl
linked_serves One on (Closed One) h One = sym ((and-eq-true_iff (on One) true).0 h).0

apart_serves : (w : Switch) → is_apart w ≡ true → (j : Master) → serves j w ≡ false
apart_serves Apart h j = refl
apart_serves (Initialising k n) h j = absurd (false≢true h)
apart_serves (Closed k) h j = absurd (false≢true h)

stays_first : (a b c d e : Bool) → a && b && c && d && e ≡ true → a ≡ true
stays_first true b c d e h = refl
stays_first false b c d e h = h

served_by : (d : Device) (t : Turn) → d.arb.turn ≡ t → quiet_from t false d ≡ true → Served d
served_by d Nobody e q j =
    apart_serves d.arb.switch (stays_first _ _ _ _ _ q) j ∙ sym (ap (λ (t : Turn). owns_turn j t && asks_on j d) e)
served_by d (Claims m g) e q j =
    apart_serves d.arb.switch (stays_first _ _ _ _ _ q) j ∙ sym (ap (λ (t : Turn). owns_turn j t && asks_on j d) e)
served_by d (Owns m g) e q j =
    linked_serves m (λ k. asks_on k d) d.arb.switch (stays_first _ _ _ _ _ q) j ∙ sym (ap (λ (t : Turn). owns_turn j t && asks_on j d) e)

settled_served : (d : Device) → Settled d → Served d
unfolding is_quiet
settled_served d h = served_by d d.arb.turn refl h.1

-- ---- the two laws

pub settled_at_power_up : SettledAtPowerUp
unfolding is_quiet power_up fresh_side
settled_at_power_up k = ((λ h. refl, λ h. refl, λ h. refl), refl)

pub stays_settled : StaysSettled
stays_settled d r h =
    elim (met r d) [
      | refuses x ↦ subst Settled (sym x.after) h
      | takes e x ↦
          let ready = subst Ready (sym x.after) (parts_ready e d) in
          (ready.0.0, ready_quiet (next d r) ready (step_served d r (settled_served d h)))
    ]

-- and so over every run
pub runs_settled : (d : Device) (rs : List Raw) → Settled d → Settled (run_from d rs)
unfolding run_from
runs_settled d [] h = h
runs_settled d (r ∷ rs) h = runs_settled (step d r).device rs (stays_settled d r h)
