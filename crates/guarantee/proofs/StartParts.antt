-- One event and one master: what parts 2 to 7 of a step leave of its port and of its request, and that they grant to no one that does not
-- request.
-- Assumes nothing.
use mathlib.Core.Path.{◌≡◌, refl, sym, ap, ◌∙◌, subst}
use mathlib.Core.Bool.{Bool, true, false, ◌&&◌, ◌||◌, true≢false, false≢true, or-false}
use lib.Dec.{eqb}
use Rattle.ranges.specs.Names.{Master, Zero, One, Ground, Turn, Nobody, Claims, Owns, Register, Port, Side, Switch, Clock, Device, Raw, Event}
use Rattle.arbiter.specs.Rules.{idle_limit}
use Rattle.std.specs.Prelude.{if◌then◌else◌}
use Rattle.arbiter.specs.Words.{same_master, side}
use Rattle.arbiter.specs.State.{owns_turn, owns, at_rest}
use Rattle.arbiter.specs.Effects.{effect}
use Rattle.arbiter.specs.Order.{is_reset, is_tick, clock_of, runs_out, levels, lost, losses_from, losses, cut_from, cut, claim_by, new_claim, claim_after}
use Rattle.arbiter.specs.Order.{claim}
use Rattle.arbiter.specs.Order.{granted, grant_from, grant, connect}
use Rattle.arbiter.specs.Steps.{parts}
use Rattle.arbiter.specs.AuditWords.{next, requests}
use Rattle.arbiter.proofs.Choice.{either, split, if_false}
use Rattle.arbiter.proofs.Cases.{claimant_stays, cut_cases, grant_cases, joined_by, init_ended, connect_cases}
use Rattle.arbiter.proofs.Effects.{owner_lets_go, effect_turn}
use Rattle.arbiter.proofs.Order.{owned, awarded, after, after_owned, after_turn}
use Rattle.arbiter.proofs.Owner.{mid, asks}
use Rattle.arbiter.proofs.Grounds.{has_turn}
use Rattle.arbiter.proofs.Raws.{refuses, takes, met}

-- ---- parts 2 to 7 leave both ports

-- a side's pointer, its auto-increment and its port
abbrev pub seat : Side → Register × Bool × Port
seat s = (s.pointer, s.auto, s.port)

abbrev seats : Device → (Register × Bool × Port) × (Register × Bool × Port)
seats d = (seat d.side0, seat d.side1)

abbrev Same : Device → Device → Type 0
Same d n = seats n ≡ seats d

lost_seat : (m : Master) (d : Device) → Same d (lost m d)
unfolding lost
lost_seat Zero d = refl
lost_seat One d = refl

losses_seat : (t : Turn) (d : Device) → Same d (losses_from t d)
unfolding losses_from
losses_seat Nobody d = refl
losses_seat (Claims m g) d = refl
losses_seat (Owns m g) d = either (Same d) (runs_out (idle_limit d) (side m d) d.arb.reserve d.bus) (λ h. lost_seat m d) (λ h. refl)

cut_seat : (on : Bool) (t : Turn) (d : Device) → Same d (cut_from on t d)
unfolding cut_from
cut_seat on Nobody d = refl
cut_seat on (Claims m g) d = refl
cut_seat on (Owns Zero g) d = cut_cases (Same d) on Zero g d refl refl
cut_seat on (Owns One g) d = cut_cases (Same d) on One g d refl refl

grant_seat : (t : Turn) (d : Device) → Same d (grant_from t d)
unfolding grant_from granted
grant_seat Nobody d = refl
grant_seat (Claims Zero g) d = grant_cases (Same d) Zero g d refl refl
grant_seat (Claims One g) d = grant_cases (Same d) One g d refl refl
grant_seat (Owns m g) d = refl

connect_seat : (c : Clock) (d : Device) → Same d (connect c d)
connect_seat c d = connect_cases (Same d) d (λ w fail. refl) ended c
  where
    ended : (m : Master) (on : Bool) (w : Switch) (fail : Bool) → ((side m d).contr.busconnect ≡ false → on ≡ false)
        → Same d (joined_by w fail (init_ended m on d))
    ended Zero on w fail h = refl
    ended One on w fail h = refl

parts_seats : (e : Event) (d : Device) → Same (effect e d) (parts e d)
unfolding parts levels losses cut claim grant
parts_seats e d =
    let two : Device = levels (is_reset e) d.bus (effect e d) in
    let three : Device = losses two in
    let five : Device = claim (cut (is_tick e) three) in
    connect_seat (clock_of e) (grant five)
    ∙ grant_seat five.arb.turn five
    ∙ cut_seat (is_tick e) three.arb.turn three
    ∙ losses_seat two.arb.turn two

-- m's port is after the step as part 1 left it.
pub parts_seat : (m : Master) (e : Event) (d : Device) → seat (side m (parts e d)) ≡ seat (side m (effect e d))
parts_seat Zero e d = ap (λ x. x.0) (parts_seats e d)
parts_seat One e d = ap (λ x. x.1) (parts_seats e d)

-- ---- and the request of whoever does not own

lost_other : (m k : Master) (d : Device) → same_master m k ≡ false → requests m (lost k d) ≡ requests m d
unfolding lost
lost_other Zero Zero d h = absurd (true≢false h)
lost_other Zero One d h = refl
lost_other One Zero d h = refl
lost_other One One d h = absurd (true≢false h)

losses_request : (m : Master) (t : Turn) (d : Device) → owns_turn m t ≡ false → requests m (losses_from t d) ≡ requests m d
unfolding losses_from
losses_request m Nobody d h = refl
losses_request m (Claims k g) d h = refl
losses_request m (Owns k g) d h =
    either (λ (n : Device). requests m n ≡ requests m d) (runs_out (idle_limit d) (side k d) d.arb.reserve d.bus) (λ x. lost_other m k d h) (λ x. refl)

losses_owner : (m : Master) (t : Turn) (d : Device) → d.arb.turn ≡ t → owns_turn m t ≡ false → owns_turn m (losses_from t d).arb.turn ≡ false
unfolding losses_from lost
losses_owner m Nobody d e h = ap (owns_turn m) e
losses_owner m (Claims k g) d e h = ap (owns_turn m) e
losses_owner m (Owns k g) d e h =
    either (λ (n : Device). owns_turn m n.arb.turn ≡ false) (runs_out (idle_limit d) (side k d) d.arb.reserve d.bus) (λ x. refl)
    (λ x. ap (owns_turn m) e ∙ h)

-- Part 1 makes nobody the owner.
effect_unowned : (m : Master) (e : Event) (d : Device) → owns m d ≡ false → owns m (effect e d) ≡ false
effect_unowned m e d h = ap (owns_turn m) (effect_turn e d) ∙ go (is_reset e) (owner_lets_go d.arb.turn e d)
  where
    go : (r o : Bool) → owns_turn m (if r || o then Nobody else d.arb.turn) ≡ false
    go true o = refl
    go false true = refl
    go false false = h

-- m does not own: its request is after the step as part 1 left it.
pub parts_request : (m : Master) (e : Event) (d : Device) → owns m d ≡ false → requests m (parts e d) ≡ requests m (effect e d)
unfolding parts levels losses
parts_request m e d h =
    let b : Device = mid e d in
    asks m e (losses b) ∙ losses_request m b.arb.turn b (effect_unowned m e d h)

-- ---- who does not request is not granted

-- A claim that part 5 makes is of one that requests,
new_asks : (m : Master) (x : Device) → has_turn m (new_claim x) ≡ true → requests m x ≡ true
new_asks m x = go m (requests Zero x) (requests One x) _ _ refl refl
  where
    go : (m : Master) (a b : Bool) (w : Master) (g : Ground) → requests Zero x ≡ a → requests One x ≡ b → has_turn m (claim_by a b w g) ≡ true
        → requests m x ≡ true
    go m false false w g ea eb h = absurd (false≢true h)
    go Zero true false w g ea eb h = ea
    go One true false w g ea eb h = absurd (false≢true h)
    go Zero false true w g ea eb h = absurd (false≢true h)
    go One false true w g ea eb h = eb
    go Zero true true w g ea eb h = ea
    go One true true w g ea eb h = eb

-- and so is a claim that it leaves,
claim_asks : (m : Master) (t : Turn) (x : Device) → owns_turn m t ≡ false → has_turn m (claim_after t x) ≡ true → requests m x ≡ true
claim_asks m Nobody x o h = new_asks m x h
claim_asks m (Claims k g) x o h =
    split (requests k x)
    (λ q. subst (λ (j : Master). requests j x ≡ true) (has_same m k (sym (ap (has_turn m) (claimant_stays k g x q)) ∙ h)) q)
    (λ q. new_asks m x (sym (ap (has_turn m) (if_false (Claims k g) (new_claim x) q)) ∙ h))
  where
    has_same : (m k : Master) → same_master m k || false ≡ true → k ≡ m
    has_same Zero Zero e = refl
    has_same Zero One e = absurd (false≢true e)
    has_same One Zero e = absurd (false≢true e)
    has_same One One e = refl
claim_asks m (Owns k g) x o h = absurd (false≢true (sym o ∙ h))

-- and part 6 grants to the claimant alone.
awarded_has : (m : Master) (t : Turn) (x : Device) → owns_turn m (awarded t x) ≡ true → has_turn m t ≡ true
awarded_has m Nobody x h = absurd (false≢true h)
awarded_has m (Claims k g) x h = go (at_rest (side k x).port && eqb x.bus.hold 0) h
  where
    go : (b : Bool) → owns_turn m (if b then Owns k g else Claims k g) ≡ true → same_master m k || false ≡ true
    go true o = or-false (same_master m k) ∙ o
    go false o = absurd (false≢true o)
awarded_has m (Owns k g) x h = h

pub after_asks : (m : Master) (e : Event) (x : Device) → owns m x ≡ false → owns m (after e x) ≡ true → requests m x ≡ true
after_asks m e x o h = go x.arb.turn refl
  where
    unowned : owned x.arb.turn ≡ false → requests m x ≡ true
    unowned u = claim_asks m x.arb.turn x o (awarded_has m (claim_after x.arb.turn x) x (sym (ap (owns_turn m) (after_turn e x u)) ∙ h))

    go : (t : Turn) → x.arb.turn ≡ t → requests m x ≡ true
    go Nobody t = unowned (ap owned t)
    go (Claims k g) t = unowned (ap owned t)
    go (Owns k g) t = absurd (false≢true (sym o ∙ sym (ap (λ s. owns_turn m s.4) (after_owned e k x t)) ∙ h))

parts_unasked : (m : Master) (e : Event) (d : Device) → owns m d ≡ false → requests m (parts e d) ≡ false → owns m (parts e d) ≡ false
unfolding parts levels losses
parts_unasked m e d o q =
    let b : Device = mid e d in
    let x : Device = losses b in
    split (owns m (parts e d))
    (λ h. absurd (true≢false
    (sym (asks m e x ∙ after_asks m e x (losses_owner m b.arb.turn b refl (effect_unowned m e d o)) h) ∙ q)))
    (λ h. h)

pub unasked : (m : Master) (r : Raw) (d : Device) → owns m d ≡ false → requests m (next d r) ≡ false → owns m (next d r) ≡ false
unasked m r d o q =
    elim (met r d) [
      | refuses x ↦ ap (owns m) x.after ∙ o
      | takes e x ↦ ap (owns m) x.after ∙ parts_unasked m e d o (sym (ap (requests m) x.after) ∙ q)
    ]
