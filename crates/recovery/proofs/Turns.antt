-- The turn through the seven parts of a step: whose grant part 3 takes and to whom part 6 gives one, and that they are whose grant ended and begun.
-- Assumes nothing.
use mathlib.Core.Path.{◌≡◌, refl, sym, ap, ap₂, ◌∙◌}
use mathlib.Core.Bool.{true≢false, or-false, and-true, and-false}
use Rattle.std.specs.Prelude.{◌&&◌, ◌||◌, if◌then◌else◌}
use Rattle.ranges.specs.Names.{Bool, true, false, not, eqb, Master, Zero, One, Ground, Sole, Turn, Nobody, Claims, Owns, Device, Event}
use Rattle.arbiter.specs.Words.{partner, same_master, side}
use Rattle.arbiter.specs.State.{owns_turn, owns, claims_turn, at_rest}
use Rattle.arbiter.specs.Effects.{effect}
use Rattle.arbiter.specs.Order.{is_reset, is_tick, clock_of, levels, lost, losses_from, losses, cut, claim_after, claim, granted, grant_from, grant}
use Rattle.arbiter.specs.Steps.{parts}
use Rattle.arbiter.specs.AuditWords.{requests, lets_go}
use Rattle.arbiter.proofs.Choice.{either, split, same_self, same_not, owns_turn_lem}
use Rattle.arbiter.proofs.Effects.{effect_side, owner_lets_go, effect_turn}
use Rattle.arbiter.proofs.Ended.{claim_owner}
use Rattle.arbiter.proofs.Order.{side_kept, still_sides, cut_still, connect_still}
use Rattle.arbiter.proofs.Owner.{mid, expired, losses_kept, losses_lost, lost_request, sole_claim}
use Rattle.arbiter.proofs.Resets.{reset_request}

-- ---- what parts 3 and 6 do to m

-- part 3 takes m's grant
abbrev pub loses : Master → Event → Device → Bool
loses m e d = owns_turn m (mid e d).arb.turn && expired m (mid e d)

-- part 6 may grant k
abbrev pub free : Master → Device → Bool
free k d = at_rest (side k d).port && eqb d.bus.hold 0

abbrev pub given : Master → Turn → Device → Bool
given m Nobody d = false
given m (Claims k g) d = same_master m k && free k d
given m (Owns k g) d = false

-- the device after part 5
abbrev pub claimed_by : Event → Device → Device
claimed_by e d = claim (cut (is_tick e) (losses (mid e d)))

-- part 6 grants m
abbrev pub gets : Master → Event → Device → Bool
gets m e d = given m (claimed_by e d).arb.turn (claimed_by e d)

-- ---- the turn through the parts

-- part 1 takes an owner's grant by a reset or its withdrawal
effect_owner : (m : Master) (e : Event) (d : Device) → owns_turn m (effect e d).arb.turn ≡ owns m d && not (is_reset e || lets_go m e d)
effect_owner m e d = ap (owns_turn m) (effect_turn e d) ∙ go m (is_reset e) d.arb.turn
  where
    gone : (m : Master) (b : Bool) (t : Turn) → owns_turn m t ≡ false → owns_turn m (if b then Nobody else t) ≡ false
    gone m true t h = refl
    gone m false t h = h

    kept : (b : Bool) (k : Master) (g : Ground) → owns_turn k (if b then Nobody else Owns k g) ≡ not b
    kept true k g = refl
    kept false k g = same_self k

    go : (m : Master) (r : Bool) (t : Turn) → owns_turn m (if r || owner_lets_go t e d then Nobody else t) ≡ owns_turn m t && not (r || lets_go m e d)
    go m r Nobody = gone m (r || false) Nobody refl
    go m r (Claims k g) = gone m (r || false) (Claims k g) refl
    go Zero r (Owns Zero g) = kept (r || lets_go Zero e d) Zero g
    go Zero r (Owns One g) = gone Zero (r || lets_go One e d) (Owns One g) refl
    go One r (Owns Zero g) = gone One (r || lets_go Zero e d) (Owns Zero g) refl
    go One r (Owns One g) = kept (r || lets_go One e d) One g

-- part 3 takes it by a loss
losses_owner : (m : Master) (t : Turn) (d : Device) → d.arb.turn ≡ t → owns_turn m (losses_from t d).arb.turn ≡ owns_turn m t && not (expired m d)
unfolding losses_from lost
losses_owner m Nobody d e = ap (owns_turn m) e
losses_owner m (Claims k g) d e = ap (owns_turn m) e
losses_owner m (Owns k g) d e = go (expired k d) refl ∙ asked m k
  where
    go : (x : Bool) → expired k d ≡ x → owns_turn m (if x then lost k d else d).arb.turn ≡ same_master m k && not (expired k d)
    go true x = sym (ap (λ (b : Bool). same_master m k && not b) x ∙ and-false (same_master m k))
    go false x = ap (owns_turn m) e ∙ sym (ap (λ (b : Bool). same_master m k && not b) x ∙ and-true (same_master m k))

    asked : (m k : Master) → same_master m k && not (expired k d) ≡ same_master m k && not (expired m d)
    asked Zero Zero = refl
    asked Zero One = refl
    asked One Zero = refl
    asked One One = refl

-- part 6 makes an owner
grant_owner : (m : Master) (t : Turn) (d : Device) → d.arb.turn ≡ t → owns_turn m (grant_from t d).arb.turn ≡ owns_turn m t || given m t d
unfolding grant_from granted
grant_owner m Nobody d e = ap (owns_turn m) e
grant_owner m (Claims k g) d e = go (free k d)
  where
    go : (b : Bool) → owns_turn m (if b then granted k g d else d).arb.turn ≡ same_master m k && b
    go true = sym (and-true (same_master m k))
    go false = ap (owns_turn m) e ∙ sym (and-false (same_master m k))
grant_owner m (Owns k g) d e = ap (owns_turn m) e ∙ sym (or-false (same_master m k))

-- in sum
parts_owner : (m : Master) (e : Event) (d : Device)
    → owns m (parts e d) ≡ ((owns m d && not (is_reset e || lets_go m e d)) && not (expired m (mid e d))) || gets m e d
unfolding parts levels losses cut claim grant
parts_owner m e d =
    let x : Device = mid e d in
    let y : Device = losses x in
    let c : Device = cut (is_tick e) y in
    let z : Device = claim c in
    ap (λ s. owns_turn m s.4) (connect_still (clock_of e) (grant z))
    ∙ grant_owner m z.arb.turn z refl
    ∙ ap (λ (b : Bool). b || gets m e d)
    (claim_owner m c.arb.turn c
    ∙ ap (λ s. owns_turn m s.4) (cut_still (is_tick e) y.arb.turn y)
    ∙ losses_owner m x.arb.turn x refl
    ∙ ap (λ (b : Bool). b && not (expired m x)) (effect_owner m e d))

-- ---- an owner is not granted in the event that ends its grant

not_mine : (m : Master) (b : Bool) → claims_turn m (if b then Claims (partner m) Sole else Nobody) ≡ false
not_mine m true = same_not m
not_mine m false = refl

unclaimed : (m : Master) (t : Turn) (d : Device) → requests m d ≡ false → claims_turn m (claim_after t d) ≡ false
unclaimed m Nobody d q = ap (claims_turn m) (sole_claim m d q) ∙ not_mine m (requests (partner m) d)
unclaimed m (Claims k g) d q =
    either (λ (t : Turn). claims_turn m t ≡ false) (requests k d) (λ h. apart m k q h)
    (λ h. ap (claims_turn m) (sole_claim m d q) ∙ not_mine m (requests (partner m) d))
  where
    apart : (m k : Master) → requests m d ≡ false → requests k d ≡ true → same_master m k ≡ false
    apart Zero Zero a b = absurd (true≢false (sym b ∙ a))
    apart Zero One a b = refl
    apart One Zero a b = refl
    apart One One a b = absurd (true≢false (sym b ∙ a))
unclaimed m (Owns k g) d q = refl

ungiven : (m : Master) (t : Turn) (d : Device) → claims_turn m t ≡ false → given m t d ≡ false
ungiven m Nobody d h = refl
ungiven m (Claims k g) d h = ap (λ (b : Bool). b && free k d) h
ungiven m (Owns k g) d h = refl

lost_asks : (m k : Master) (d : Device) → requests m d ≡ false → requests m (lost k d) ≡ false
unfolding lost
lost_asks Zero Zero d h = refl
lost_asks Zero One d h = h
lost_asks One Zero d h = h
lost_asks One One d h = refl

losses_asks : (m : Master) (t : Turn) (d : Device) → requests m d ≡ false → requests m (losses_from t d) ≡ false
unfolding losses_from
losses_asks m Nobody d h = h
losses_asks m (Claims k g) d h = h
losses_asks m (Owns k g) d h = either (λ (n : Device). requests m n ≡ false) (expired k d) (λ x. lost_asks m k d h) (λ x. h)

-- without a request m is not granted
unasked : (m : Master) (e : Event) (d : Device) → requests m (losses (mid e d)) ≡ false → gets m e d ≡ false
unfolding claim cut
unasked m e d q =
    let y : Device = losses (mid e d) in
    let c : Device = cut (is_tick e) y in
    ungiven m (claim_after c.arb.turn c) (claim c)
    (unclaimed m c.arb.turn c (ap (λ k. k.0) (side_kept m c y (still_sides c y (cut_still (is_tick e) y.arb.turn y))) ∙ q))

-- and who owns after part 3 is not either
unmade : (m : Master) {g : Ground} (e : Event) (d : Device) → (losses (mid e d)).arb.turn ≡ Owns m g → gets m e d ≡ false
unfolding claim cut
unmade m {g} e d t =
    let y : Device = losses (mid e d) in
    let c : Device = cut (is_tick e) y in
    ap (λ (u : Turn). given m u (claim c)) (ap (λ (u : Turn). claim_after u c) (ap (λ s. s.4) (cut_still (is_tick e) y.arb.turn y) ∙ t))

not_again : (m : Master) (e : Event) (d : Device) → owns m d ≡ true → gets m e d ≡ false
unfolding levels losses
not_again m e d o =
    let x : Device = mid e d in
    split (is_reset e) (λ r. unasked m e d (losses_asks m x.arb.turn x (reset_request m e d r)))
    (λ r. split (lets_go m e d)
    (λ w. unasked m e d (losses_asks m x.arb.turn x ((effect_side m e d r).falls w)))
    (λ w. let own : owns_turn m x.arb.turn ≡ true = effect_owner m e d ∙ ap₂ (λ (a b : Bool). a && not b) o (ap₂ ◌||◌ r w) in
    let t = owns_turn_lem m x.arb.turn own in
    split (expired m x)
    (λ h. unasked m e d (ap (requests m) (losses_lost m x t.1 h) ∙ lost_request m x))
    (λ h. unmade m e d (ap (λ (n : Device). n.arb.turn) (losses_kept m x t.1 h) ∙ t.1))))

-- ---- one event that is taken

pub gets_taken : (m : Master) (e : Event) (d : Device) → gets m e d ≡ not (owns m d) && owns m (parts e d)
gets_taken m e d =
    split (owns m d)
    (λ o. not_again m e d o ∙ sym (ap (λ (b : Bool). not b && owns m (parts e d)) o))
    (λ o. sym (ap (λ (b : Bool). not b && owns m (parts e d)) o
    ∙ parts_owner m e d ∙ ap (λ (b : Bool). ((b && not (is_reset e || lets_go m e d)) && not (expired m (mid e d))) || gets m e d) o))

pub loses_ended : (m : Master) (e : Event) (d : Device)
    → loses m e d ≡ (owns m d && not (owns m (parts e d))) && not (is_reset e) && not (lets_go m e d)
unfolding levels
loses_ended m e d =
    let x : Bool = expired m (mid e d) in
    let r : Bool = is_reset e in
    let w : Bool = lets_go m e d in
    ap (λ (b : Bool). b && x) (effect_owner m e d)
    ∙ split (owns m d)
    (λ o. ap (λ (b : Bool). (b && not (r || w)) && x) o
    ∙ all r w x
    ∙ ap (λ (b : Bool). not b && not r && not w)
    (sym (parts_owner m e d ∙ ap₂ (λ (a g : Bool). ((a && not (r || w)) && not x) || g) o (not_again m e d o)))
    ∙ ap (λ (b : Bool). (b && not (owns m (parts e d))) && not r && not w) (sym o))
    (λ o. ap (λ (b : Bool). (b && not (r || w)) && x) o ∙ ap (λ (b : Bool). (b && not (owns m (parts e d))) && not r && not w) (sym o))
  where
    all : (r w x : Bool) → not (r || w) && x ≡ not ((not (r || w) && not x) || false) && not r && not w
    all true true true = refl
    all true true false = refl
    all true false true = refl
    all true false false = refl
    all false true true = refl
    all false true false = refl
    all false false true = refl
    all false false false = refl
