-- One step from an owned bus, and one from a claim: the owner stays as part 3 found it, or its grant is over and its partner is next.
-- Assumes nothing.
use mathlib.Core.Path.{◌≡◌, refl, sym, ap, ap₂, ◌∙◌, subst}
use mathlib.Core.Bool.{and-true, true≢false, false≢true}
use mathlib.Core.Logic.{◌⊎◌, inl, inr}
use borrow.Author.Tests.{eq-eqb}
use Rattle.std.specs.Prelude.{◌-◌, ◌&&◌, ◌||◌, if◌then◌else◌}
use Rattle.arbiter.specs.Types.{ℕ, Bool, true, false, Master, Zero, One, Ground, Sole, Turn, Nobody, Claims, Owns, Device, Event}
use Rattle.arbiter.specs.Rules.{idle_limit}
use Rattle.arbiter.specs.Words.{partner, side}
use Rattle.arbiter.specs.State.{owns_turn, owns, at_rest}
use Rattle.arbiter.specs.Effects.{ticked, effect}
use Rattle.arbiter.specs.Order.{is_reset, is_tick, levels, runs_out, lost, losses_from, losses, claim_by, new_claim, claim_after}
use Rattle.arbiter.specs.Steps.{parts}
use Rattle.arbiter.specs.AuditWords.{requests, resting, lets_go}
use Rattle.arbiter.proofs.Choice.{either, split, if_true, if_false, same_not}
use Rattle.arbiter.proofs.Effects.{effect_side, owner_lets_go, effect_turn, effect_counts}
use Rattle.arbiter.proofs.Order.{still, side_kept, owned, awarded, after, after_sides, after_owned, losses_unowned, after_turn, Fresh, after_fresh}
use Rattle.arbiter.proofs.Order.{owner_same}

-- the device after parts 1 and 2 of e's step, where part 3 looks for a loss
abbrev pub mid : Event → Device → Device
mid e d = levels (is_reset e) d.bus (effect e d)

-- what part 3 asks of the owner m
abbrev pub expired : Master → Device → Bool
expired m d = runs_out (idle_limit d) (side m d) d.arb.reserve d.bus

-- ---- part 1 once more

-- Without a reset, the turn stays unless the owner lets go,
pub turn_kept : (e : Event) (d : Device) (t : Turn) → is_reset e ≡ false → d.arb.turn ≡ t → (effect e d).arb.turn ≡ (if owner_lets_go t e d then Nobody else t)
turn_kept e d t ok h = effect_turn e d ∙ ap₂ (λ (r : Bool) (u : Turn). if r || owner_lets_go u e d then Nobody else u) ok h

-- and no hold begins.
pub unheld : (e : Event) (d : Device) → is_reset e ≡ false → d.bus.hold ≡ 0 → (effect e d).bus.hold ≡ 0
unfolding ticked
unheld e d ok h =
    ap (λ c. c.0) (effect_counts e d ok) ∙ either (λ (c : ℕ × ℕ × ℕ × ℕ × ℕ). c.0 ≡ 0) (is_tick e) (λ t. ap (λ (n : ℕ). n - 1) h) (λ t. h)

-- ---- part 3

-- An owner that has not lost is left as it is,
pub losses_kept : (m : Master) {g : Ground} (d : Device) → d.arb.turn ≡ Owns m g → expired m d ≡ false → losses d ≡ d
unfolding losses losses_from
losses_kept m d h x = ap (λ (t : Turn). losses_from t d) h ∙ if_false (lost m d) d x

-- and one that has loses its request.
pub losses_lost : (m : Master) {g : Ground} (d : Device) → d.arb.turn ≡ Owns m g → expired m d ≡ true → losses d ≡ lost m d
unfolding losses losses_from
losses_lost m d h x = ap (λ (t : Turn). losses_from t d) h ∙ if_true (lost m d) d x

pub lost_request : (m : Master) (d : Device) → requests m (lost m d) ≡ false
unfolding lost
lost_request Zero d = refl
lost_request One d = refl

-- ---- parts 5 and 6 with no hold

-- who has the turn after p's claim on the ground g: with its port at rest p owns
abbrev pub heir : Bool → Master → Ground → Turn
heir rest p g = if rest then Owns p g else Claims p g

pub awarded_heir : (p : Master) (g : Ground) (d : Device) → d.bus.hold ≡ 0 → awarded (Claims p g) d ≡ heir (resting p d) p g
awarded_heir p g d h = ap (λ (b : Bool). heir b p g) (ap (λ (b : Bool). resting p d && b) (eq-eqb d.bus.hold 0 h) ∙ and-true (resting p d))

-- p is next, on the ground g: its request stands, no hold runs, and it owns if its port is at rest and else is the claimant.
pub record Next (p : Master) (g : Ground) (d : Device) : Type 0 where
  pub request : requests p d ≡ true
  pub hold : d.bus.hold ≡ 0
  pub turn : d.arb.turn ≡ heir (resting p d) p g

-- m's grant is over: its request is gone, m does not own, and its partner, if it requests, is next, as the one requester.
pub record Over (m : Master) (d : Device) : Type 0 where
  pub request : requests m d ≡ false
  pub hold : d.bus.hold ≡ 0
  pub turn : d.arb.turn ≡ (if requests (partner m) d then heir (resting (partner m) d) (partner m) Sole else Nobody)

-- So it is.
pub over_next : (m : Master) (d : Device) → Over m d → requests (partner m) d ≡ true → Next (partner m) Sole d
over_next m d h q = record { request = q; hold = h.hold; turn = h.turn ∙ if_true _ Nobody q }

-- Whose grant is over does not own.
heir_other : (request rest : Bool) (m : Master) → owns_turn m (if request then heir rest (partner m) Sole else Nobody) ≡ false
heir_other true true m = same_not m
heir_other true false m = refl
heir_other false rest m = refl

pub over_unowned : (m : Master) (d : Device) → Over m d → owns m d ≡ false
over_unowned m d h = ap (owns_turn m) h.turn ∙ heir_other (requests (partner m) d) (resting (partner m) d) m

-- With m not requesting, its partner claims if it requests,
only_one : (a b : Bool) (w : Master) (g : Ground) → a ≡ false → claim_by a b w g ≡ (if b then Claims One Sole else Nobody)
only_one true b w g h = absurd (true≢false h)
only_one false true w g h = refl
only_one false false w g h = refl

only_zero : (a b : Bool) (w : Master) (g : Ground) → b ≡ false → claim_by a b w g ≡ (if a then Claims Zero Sole else Nobody)
only_zero a true w g h = absurd (true≢false h)
only_zero true false w g h = refl
only_zero false false w g h = refl

pub sole_claim : (m : Master) (d : Device) → requests m d ≡ false → new_claim d ≡ (if requests (partner m) d then Claims (partner m) Sole else Nobody)
sole_claim Zero d h = only_one d.side0.contr.lockreq d.side1.contr.lockreq _ _ h
sole_claim One d h = only_zero d.side0.contr.lockreq d.side1.contr.lockreq _ _ h

-- and owns if its port is at rest.
awarded_sole : (b : Bool) (p : Master) (d : Device) → d.bus.hold ≡ 0
    → awarded (if b then Claims p Sole else Nobody) d ≡ (if b then heir (resting p d) p Sole else Nobody)
awarded_sole true p d h = awarded_heir p Sole d h
awarded_sole false p d h = refl

-- p's request and port are after part 7 as they were before part 4.
pub asks : (p : Master) (e : Event) (d : Device) → requests p (after e d) ≡ requests p d
asks p e d = ap (λ k. k.0) (side_kept p (after e d) d (after_sides e d))

pub rests : (p : Master) (e : Event) (d : Device) → resting p (after e d) ≡ resting p d
rests p e d = ap (λ k. at_rest k.3) (side_kept p (after e d) d (after_sides e d))

module _ (e : Event) (d : Device) (hold : d.bus.hold ≡ 0) where
  held : (after e d).bus.hold ≡ 0
  held = ap (λ s. s.2) (after_sides e d) ∙ hold

  -- Where the turn is nobody's and m does not request, m's grant is over,
  after_over : (m : Master) → d.arb.turn ≡ Nobody → requests m d ≡ false → Over m (after e d)
  after_over m t q =
      let p : Master = partner m in
      record {
        request = asks m e d ∙ q;
        hold = held;
        turn =
            after_turn e d (ap owned t)
            ∙ ap (λ (u : Turn). awarded u d) (ap (λ (u : Turn). claim_after u d) t ∙ sole_claim m d q)
            ∙ awarded_sole (requests p d) p d hold
            ∙ ap₂ (λ (a b : Bool). if a then heir b p Sole else Nobody) (sym (asks p e d)) (sym (rests p e d));
      }

  -- and a claimant that requests is next.
  after_claim : (p : Master) (g : Ground) → d.arb.turn ≡ Claims p g → requests p d ≡ true → Next p g (after e d)
  after_claim p g t q =
      record {
        request = asks p e d ∙ q;
        hold = held;
        turn =
            after_turn e d (ap owned t)
            ∙ ap (λ (u : Turn). awarded u d) (ap (λ (u : Turn). claim_after u d) t ∙ if_true (Claims p g) (new_claim d) q)
            ∙ awarded_heir p g d hold
            ∙ ap (λ (b : Bool). heir b p g) (sym (rests p e d));
      }

-- ---- a step from an owned bus

-- m keeps the grant and its ground g: it owns when part 3 looks, has not lost, and what part 3 found is left.
pub record Stays (m : Master) (g : Ground) (e : Event) (d : Device) : Type 0 where
  pub turn : (mid e d).arb.turn ≡ Owns m g
  pub unlost : expired m (mid e d) ≡ false
  pub left : still (parts e d) ≡ still (mid e d)

-- Of an owner in a step that is no reset: it keeps the grant, or the grant is over, by a loss unless it lets go.
pub data Fate (m : Master) (g : Ground) (e : Event) (d : Device) : Type 0 where
  stays : Stays m g e d → Fate m g e d
  ends : Over m (parts e d) → (lets_go m e d ≡ false → expired m (mid e d) ≡ true) → Fate m g e d

-- Whom part 3 finds owning and not lost keeps the grant.
stay : (m : Master) {g : Ground} (e : Event) (d : Device) → (mid e d).arb.turn ≡ Owns m g → expired m (mid e d) ≡ false → Stays m g e d
unfolding parts
stay m e d t x =
    record { turn = t; unlost = x; left = ap (λ (y : Device). still (after e y)) (losses_kept m (mid e d) t x) ∙ after_owned e m (mid e d) t }

-- It is one of these.
pub fate : (m : Master) {g : Ground} (e : Event) (d : Device) → is_reset e ≡ false → d.arb.turn ≡ Owns m g → d.bus.hold ≡ 0 → Fate m g e d
unfolding parts levels lost
fate m {g} e d ok t z =
    let b : Device = mid e d in
    let zb : b.bus.hold ≡ 0 = unheld e d ok z in
    let tb : b.arb.turn ≡ (if lets_go m e d then Nobody else Owns m g) = turn_kept e d (Owns m g) ok t in
    split (lets_go m e d)
    (λ l. let tn : b.arb.turn ≡ Nobody = tb ∙ if_true Nobody (Owns m g) l in
    ends
    (subst (λ (x : Device). Over m (after e x)) (sym (losses_unowned b (ap owned tn))) (after_over e b zb m tn ((effect_side m e d ok).falls l)))
    (λ f. absurd (true≢false (sym l ∙ f))))
    (λ l. let tn : b.arb.turn ≡ Owns m g = tb ∙ if_false Nobody (Owns m g) l in
    split (expired m b)
    (λ x. ends (subst (λ (y : Device). Over m (after e y)) (sym (losses_lost m b tn x)) (after_over e (lost m b) zb m refl (lost_request m b))) (λ f. x))
    (λ x. stays (stay m e d tn x)))

-- ---- a step from a claim

module _ (p : Master) {g : Ground} (e : Event) (d : Device) (ok : is_reset e ≡ false) (t : d.arb.turn ≡ Claims p g) where
  -- The claim stands when part 3 looks, which does nothing to it.
  pub claim_kept : (mid e d).arb.turn ≡ Claims p g
  unfolding levels
  claim_kept = turn_kept e d (Claims p g) ok t

  pub claim_passed : parts e d ≡ after e (mid e d)
  unfolding parts
  claim_passed = ap (after e) (losses_unowned (mid e d) (ap owned claim_kept))

  -- A claimant that does not withdraw is next,
  pub waits : requests p d ≡ true → d.bus.hold ≡ 0 → lets_go p e d ≡ false → Next p g (parts e d)
  unfolding levels
  waits q z l =
      subst (Next p g) (sym claim_passed) (after_claim e (mid e d) (unheld e d ok z) p g claim_kept ((effect_side p e d ok).stands l q))

  -- and one that withdraws no longer requests.
  pub withdraws : lets_go p e d ≡ true → requests p (parts e d) ≡ false
  unfolding levels
  withdraws l =
      subst (λ (n : Device). requests p n ≡ false) (sym claim_passed) (asks p e (mid e d) ∙ (effect_side p e d ok).falls l)

  -- Its port is as part 1 left it.
  pub port_left : resting p (parts e d) ≡ resting p (effect e d)
  unfolding levels
  port_left = ap (resting p) claim_passed ∙ rests p e (mid e d)

-- ---- where an owner comes from

-- Part 3 leaves an owner only if it owned before and has not lost.
unlost_owner : (m : Master) {j : Ground} (t : Turn) (d : Device) → d.arb.turn ≡ t → (losses_from t d).arb.turn ≡ Owns m j → (d.arb.turn ≡ Owns m j)
    × (expired m d ≡ false)
unfolding losses_from lost
unlost_owner m Nobody d t h = absurd (false≢true (ap owned (sym t ∙ h)))
unlost_owner m (Claims k g) d t h = absurd (false≢true (ap owned (sym t ∙ h)))
unlost_owner m {j} (Owns k g) d t h = go (expired k d) refl h
  where
    go : (x : Bool) → expired k d ≡ x → (if x then lost k d else d).arb.turn ≡ Owns m j → (d.arb.turn ≡ Owns m j) × (expired m d ≡ false)
    go true x o = absurd (false≢true (ap owned o))
    go false x o = (o, subst (λ (i : Master). expired i d ≡ false) (owner_same k m (sym t ∙ o)) x)

-- Who owns after a step has a new grant, or keeps the one that it had.
pub origin : (m : Master) {j : Ground} (e : Event) (d : Device) → (parts e d).arb.turn ≡ Owns m j → Fresh m (parts e d) ⊎ Stays m j e d
unfolding parts losses
origin m {j} e d h = go l.arb.turn refl
  where
    b : Device
    b = mid e d

    l : Device
    l = losses b

    go : (t : Turn) → l.arb.turn ≡ t → Fresh m (after e l) ⊎ Stays m j e d
    go Nobody t = inl (after_fresh m e l (ap owned t) h)
    go (Claims k g) t = inl (after_fresh m e l (ap owned t) h)
    go (Owns k g) t =
        let u = unlost_owner m b.arb.turn b refl (sym (ap (λ s. s.4) (after_owned e k l t)) ∙ h) in
        inr (stay m e d u.0 u.1)
