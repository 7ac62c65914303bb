-- The ground of a claim: fixed by the choice that makes it, and kept as long as the claim is its master's.
-- Assumes nothing.
use mathlib.Core.Path.{◌≡◌, refl, sym, ap, ap₂, ◌∙◌, subst}
use mathlib.Core.Bool.{true≢false, false≢true, and-eq-true_iff, or-false}
use Rattle.std.specs.Prelude.{◌&&◌, ◌||◌, ◌∷◌, if◌then◌else◌}
use Rattle.arbiter.specs.Types.{ℕ, Bool, true, false, not, List, [], eqb, Master, Zero, One, Ground, Sole, Priority, LastGranted, Turn}
use Rattle.arbiter.specs.Types.{Nobody, Claims, Owns, Device, Raw, Event}
use Rattle.arbiter.specs.Words.{partner, same_master, side}
use Rattle.arbiter.specs.State.{at_rest, owns_turn, claims_turn}
use Rattle.arbiter.specs.Order.{is_reset, levels, lost, losses, ground_of, claim_by, winner, new_claim, claim_after}
use Rattle.arbiter.specs.Steps.{ground_number, turn_ground, parts, run_from, run}
use Rattle.arbiter.specs.AuditWords.{next, requests, lets_go, throughout}
use Rattle.arbiter.specs.Grounds.{has_claim, priority, differ, claim_made, GroundWithClaim, chosen_by, GroundOfChoice, GroundStays}
use Rattle.arbiter.proofs.Choice.{split, if_true, if_false, not_true, same_eq}
use Rattle.arbiter.proofs.Order.{owned, awarded, after, after_sides, side_kept, after_owned, losses_unowned, after_turn}
use Rattle.arbiter.proofs.Cases.{claimant_stays}
use Rattle.arbiter.proofs.Effects.{effect_side}
use Rattle.arbiter.proofs.Owner.{mid, expired, turn_kept, losses_kept, losses_lost, lost_request}
use Rattle.arbiter.proofs.Raws.{refuses, takes, met}
use Rattle.arbiter.proofs.Resets.{reset_request, reset_turn}
use Rattle.arbiter.proofs.Runs.{now, hence}
use Rattle.arbiter.proofs.Settled.{Ready}
use Rattle.arbiter.proofs.Seen.{ground_shown_lem}

-- ---- of a turn

-- the claim is m's, by the turn
abbrev pub has_turn : Master → Turn → Bool
has_turn m t = claims_turn m t || owns_turn m t

-- The turn after part 6 has the same claim, on the same ground.
awarded_has : (m : Master) (t : Turn) (d : Device) → has_turn m (awarded t d) ≡ has_turn m t
awarded_has m Nobody d = refl
awarded_has m (Claims k g) d = go (at_rest (side k d).port && eqb d.bus.hold 0)
  where
    go : (b : Bool) → has_turn m (if b then Owns k g else Claims k g) ≡ has_turn m (Claims k g)
    go true = sym (or-false (same_master m k))
    go false = refl
awarded_has m (Owns k g) d = refl

awarded_ground : (t : Turn) (d : Device) → turn_ground (awarded t d) ≡ turn_ground t
awarded_ground Nobody d = refl
awarded_ground (Claims k g) d = go (at_rest (side k d).port && eqb d.bus.hold 0)
  where
    go : (b : Bool) → turn_ground (if b then Owns k g else Claims k g) ≡ ground_number g
    go true = refl
    go false = refl
awarded_ground (Owns k g) d = refl

-- ---- parts 4 to 7

-- They make of the claim what part 5 does.
claimed_by : {A : Type 0} (f : Turn → A) → ((t : Turn) (d : Device) → f (awarded t d) ≡ f t) → (e : Event) (x : Device)
    → f (after e x).arb.turn ≡ f (claim_after x.arb.turn x)
claimed_by f keeps e x = go x.arb.turn refl
  where
    go : (t : Turn) → x.arb.turn ≡ t → f (after e x).arb.turn ≡ f (claim_after x.arb.turn x)
    go Nobody h = ap f (after_turn e x (ap owned h)) ∙ keeps _ x
    go (Claims k g) h = ap f (after_turn e x (ap owned h)) ∙ keeps _ x
    go (Owns k g) h = ap (λ s. f s.4) (after_owned e k x h) ∙ ap f h ∙ sym (ap (λ (t : Turn). f (claim_after t x)) h)

-- and leave what the choice asks: requests and priorities.
chosen_left : (m : Master) (e : Event) (x : Device) → chosen_by m (after e x) ≡ chosen_by m x
chosen_left m e x =
    let s = after_sides e x in
    ap₂ (λ (a : Bool) (b : Bool). if a then (if b then 2 else 3) else 1) (ap (λ k. k.0) (side_kept (partner m) (after e x) x s))
    (ap₂ differ (ap (λ k. k.4) (side_kept Zero (after e x) x s)) (ap (λ k. k.4) (side_kept One (after e x) x s)))

-- ---- part 5: a new claim

-- It is made by one that requests, on the ground of the choice.
pub record Made (m : Master) (x : Device) (t : Turn) : Type 0 where
  pub request : requests m x ≡ true
  pub ground : turn_ground t ≡ chosen_by m x

number_of_ground : (p0 p1 : Bool) → ground_number (ground_of p0 p1) ≡ (if differ p0 p1 then 2 else 3)
number_of_ground true true = refl
number_of_ground true false = refl
number_of_ground false true = refl
number_of_ground false false = refl

new_made : (m : Master) (x : Device) → has_turn m (new_claim x) ≡ true → Made m x (new_claim x)
new_made m x = go m (requests Zero x) (requests One x) (winner p0 p1 x.arb.last) refl refl
  where
    p0 : Bool
    p0 = priority Zero x

    p1 : Bool
    p1 = priority One x

    go : (m : Master) (a b : Bool) (w : Master) → requests Zero x ≡ a → requests One x ≡ b → has_turn m (claim_by a b w (ground_of p0 p1)) ≡ true
        → Made m x (claim_by a b w (ground_of p0 p1))
    go m false false w ea eb h = absurd (false≢true h)
    go Zero true false w ea eb h = record { request = ea; ground = sym (if_false _ 1 eb) }
    go One true false w ea eb h = absurd (false≢true h)
    go Zero false true w ea eb h = absurd (false≢true h)
    go One false true w ea eb h = record { request = eb; ground = sym (if_false _ 1 ea) }
    go Zero true true w ea eb h = record { request = ea; ground = number_of_ground p0 p1 ∙ sym (if_true _ 1 eb) }
    go One true true w ea eb h = record { request = eb; ground = number_of_ground p0 p1 ∙ sym (if_true _ 1 ea) }

-- ---- parts 1 to 3: the claim of before, or none, and then whose it was no longer requests

has_same : (m k : Master) → same_master m k || false ≡ true → k ≡ m
has_same m k h = same_eq m k (sym (or-false (same_master m k)) ∙ h)

data Left (d x : Device) : Type 0 where
  same : x.arb.turn ≡ d.arb.turn → Left d x
  ended : x.arb.turn ≡ Nobody → ((m : Master) → has_turn m d.arb.turn ≡ true → requests m x ≡ false) → Left d x

left : (e : Event) (d : Device) → Left d (losses (mid e d))
unfolding levels lost
left e d =
    split (is_reset e)
    (λ h. let u : losses b ≡ b = losses_unowned b (ap owned (reset_turn e d h)) in
    ended (ap turn u ∙ reset_turn e d h) (λ m q. ap (requests m) u ∙ reset_request m e d h))
    (λ ok. go d.arb.turn refl ok)
  where
    b : Device
    b = mid e d

    turn : Device → Turn
    turn x = x.arb.turn

    -- k's claim has ended, and k does not request
    over : (k : Master) (g : Ground) (x : Device) → d.arb.turn ≡ Owns k g → x.arb.turn ≡ Nobody → requests k x ≡ false → Left d x
    over k g x h n q =
        ended n (λ m o. subst (λ (j : Master). requests j x ≡ false) (same_eq m k (sym (ap (has_turn m) h) ∙ o)) q)

    go : (t : Turn) → d.arb.turn ≡ t → is_reset e ≡ false → Left d (losses b)
    go Nobody h ok = same (ap turn (losses_unowned b (ap owned n)) ∙ n ∙ sym h)
      where
        n : b.arb.turn ≡ Nobody
        n = turn_kept e d Nobody ok h
    go (Claims k g) h ok = same (ap turn (losses_unowned b (ap owned n)) ∙ n ∙ sym h)
      where
        n : b.arb.turn ≡ Claims k g
        n = turn_kept e d (Claims k g) ok h
    go (Owns k g) h ok =
        let tb : b.arb.turn ≡ (if lets_go k e d then Nobody else Owns k g) = turn_kept e d (Owns k g) ok h in
        split (lets_go k e d)
        (λ l. let n : b.arb.turn ≡ Nobody = tb ∙ if_true Nobody (Owns k g) l in
        let u : losses b ≡ b = losses_unowned b (ap owned n) in
        over k g (losses b) h (ap turn u ∙ n) (ap (requests k) u ∙ (effect_side k e d ok).falls l))
        (λ l. let n : b.arb.turn ≡ Owns k g = tb ∙ if_false Nobody (Owns k g) l in
        split (expired k b)
        (λ x. let u : losses b ≡ lost k b = losses_lost k b n x in over k g (losses b) h (ap turn u) (ap (requests k) u ∙ lost_request k b))
        (λ x. same (ap turn (losses_kept k b n x) ∙ n ∙ sym h)))

-- ---- a step

-- Whose claim it is before and after an event keeps its ground,
parts_stays : (m : Master) (e : Event) (d : Device) → has_turn m d.arb.turn ≡ true → has_turn m (parts e d).arb.turn ≡ true
    → turn_ground (parts e d).arb.turn ≡ turn_ground d.arb.turn
unfolding parts
parts_stays m e d before h =
    claimed_by turn_ground awarded_ground e x ∙ go (left e d) (sym (claimed_by (has_turn m) (awarded_has m) e x) ∙ h)
  where
    x : Device
    x = losses (mid e d)

    kept : (t : Turn) → has_turn m t ≡ true → has_turn m (claim_after t x) ≡ true → turn_ground (claim_after t x) ≡ turn_ground t
    kept Nobody b a = absurd (false≢true b)
    kept (Claims k g) b a =
        split (requests k x) (λ q. ap turn_ground (claimant_stays k g x q))
        (λ q. let none : claim_after (Claims k g) x ≡ new_claim x = if_false (Claims k g) (new_claim x) q in
        absurd (true≢false (sym (new_made m x (sym (ap (has_turn m) none) ∙ a)).request ∙ subst (λ (j : Master). requests j x ≡ false) (has_same m k b) q)))
    kept (Owns k g) b a = refl

    go : Left d x → has_turn m (claim_after x.arb.turn x) ≡ true → turn_ground (claim_after x.arb.turn x) ≡ turn_ground d.arb.turn
    go (same t) a =
        ap (λ (u : Turn). turn_ground (claim_after u x)) t ∙ kept d.arb.turn before (sym (ap (λ (u : Turn). has_turn m (claim_after u x)) t) ∙ a)
    go (ended n q) a =
        absurd (true≢false (sym (new_made m x (sym (ap (λ (u : Turn). has_turn m (claim_after u x)) n) ∙ a)).request ∙ q m before))

-- and a claim that an event makes has the ground of the choice.
parts_made : (m : Master) (e : Event) (d : Device) → has_turn m d.arb.turn ≡ false → has_turn m (parts e d).arb.turn ≡ true
    → Made m (parts e d) (parts e d).arb.turn
unfolding parts
parts_made m e d before h =
    let new = go (left e d) (sym (claimed_by (has_turn m) (awarded_has m) e x) ∙ h) in
    record {
      request = ap (λ k. k.0) (side_kept m (after e x) x (after_sides e x)) ∙ new.request;
      ground = claimed_by turn_ground awarded_ground e x ∙ new.ground ∙ sym (chosen_left m e x);
    }
  where
    x : Device
    x = losses (mid e d)

    new : (t : Turn) → has_turn m t ≡ false → has_turn m (claim_after t x) ≡ true → Made m x (claim_after t x)
    new Nobody b a = new_made m x a
    new (Claims k g) b a =
        split (requests k x) (λ q. absurd (true≢false (sym (sym (ap (has_turn m) (claimant_stays k g x q)) ∙ a) ∙ b)))
        (λ q. let none : claim_after (Claims k g) x ≡ new_claim x = if_false (Claims k g) (new_claim x) q in
        subst (Made m x) (sym none) (new_made m x (sym (ap (has_turn m) none) ∙ a)))
    new (Owns k g) b a = absurd (true≢false (sym a ∙ b))

    go : Left d x → has_turn m (claim_after x.arb.turn x) ≡ true → Made m x (claim_after x.arb.turn x)
    go (same t) a =
        subst (λ (u : Turn). Made m x (claim_after u x)) (sym t) (new d.arb.turn before (sym (ap (λ (u : Turn). has_turn m (claim_after u x)) t) ∙ a))
    go (ended n q) a =
        subst (λ (u : Turn). Made m x (claim_after u x)) (sym n) (new_made m x (sym (ap (λ (u : Turn). has_turn m (claim_after u x)) n) ∙ a))

-- ---- four bytes, and a run

next_stays : (m : Master) (r : Raw) (d : Device) → has_claim m d ≡ true → has_claim m (next d r) ≡ true → turn_ground (next d r).arb.turn
    ≡ turn_ground d.arb.turn
next_stays m r d b a =
    elim (met r d) [
      | refuses x ↦ ap (λ (n : Device). turn_ground n.arb.turn) x.after
      | takes e x ↦ ap (λ (n : Device). turn_ground n.arb.turn) x.after ∙ parts_stays m e d b (sym (ap (has_claim m) x.after) ∙ a)
    ]

pub next_made : (m : Master) (r : Raw) (d : Device) → claim_made m r d ≡ true → Made m (next d r) (next d r).arb.turn
next_made m r d h =
    let both = (and-eq-true_iff (not (has_claim m d)) (has_claim m (next d r))).0 h in
    let b : has_claim m d ≡ false = not_true (has_claim m d) both.0 in
    elim (met r d) [
      | refuses x ↦ absurd (true≢false (sym both.1 ∙ ap (has_claim m) x.after ∙ b))
      | takes e x ↦ subst (λ (n : Device). Made m n n.arb.turn) (sym x.after) (parts_made m e d b (sym (ap (has_claim m) x.after) ∙ both.1))
    ]

run_stays : (m : Master) (rs : List Raw) (d : Device) → throughout (has_claim m) d rs ≡ true → turn_ground (run_from d rs).arb.turn ≡ turn_ground d.arb.turn
unfolding run_from
run_stays m [] d h = refl
run_stays m (r ∷ rs) d h =
    let on = hence (has_claim m) r rs d h in
    run_stays m rs (next d r) on ∙ next_stays m r d (now (has_claim m) (r ∷ rs) d h) (now (has_claim m) rs (next d r) on)

-- at the end of them the claim is still m's
last_holds : (holds : Device → Bool) (rs : List Raw) (d : Device) → throughout holds d rs ≡ true → holds (run_from d rs) ≡ true
unfolding run_from
last_holds holds [] d h = now holds [] d h
last_holds holds (r ∷ rs) d h = last_holds holds rs (next d r) (hence holds r rs d h)

pub ground_of_choice : GroundOfChoice
ground_of_choice k m rs r h = ground_shown_lem (run k rs) r ∙ (next_made m r (run k rs) h).ground

pub ground_stays : GroundStays
ground_stays k m rs r later t all h =
    let d : Device = next (run k rs) r in
    let x : Device = run_from d later in
    ground_shown_lem x t ∙ next_stays m t x (last_holds (has_claim m) later d all) h ∙ run_stays m later d all ∙ sym (ground_shown_lem (run k rs) r)

-- ---- no claim, no ground

some_ground : (g : Ground) → eqb (ground_number g) 0 ≡ false
some_ground Sole = refl
some_ground Priority = refl
some_ground LastGranted = refl

without : (t : Turn) → eqb (turn_ground t) 0 ≡ not (has_turn Zero t || has_turn One t)
without Nobody = refl
without (Claims Zero g) = some_ground g
without (Claims One g) = some_ground g
without (Owns Zero g) = some_ground g
without (Owns One g) = some_ground g

pub ground_with_claim : GroundWithClaim
ground_with_claim k rs r = ap (λ (n : ℕ). eqb n 0) (ground_shown_lem (run k rs) r) ∙ without (next (run k rs) r).arb.turn

-- ---- what a claim says of requests

-- It stays its master's as long as that requests.
pub still_there : (p : Master) (e : Event) (d : Device) → has_turn p d.arb.turn ≡ true → requests p (parts e d) ≡ true → has_turn p (parts e d).arb.turn
    ≡ true
unfolding parts
still_there p e d before q = claimed_by (has_turn p) (awarded_has p) e x ∙ go (left e d)
  where
    x : Device
    x = losses (mid e d)

    asks : requests p x ≡ true
    asks = sym (ap (λ k. k.0) (side_kept p (after e x) x (after_sides e x))) ∙ q

    stays : (t : Turn) → has_turn p t ≡ true → has_turn p (claim_after t x) ≡ true
    stays Nobody h = absurd (false≢true h)
    stays (Claims k g) h = ap (has_turn p) (claimant_stays k g x (subst (λ (j : Master). requests j x ≡ true) (sym (has_same p k h)) asks)) ∙ h
    stays (Owns k g) h = h

    go : Left d x → has_turn p (claim_after x.arb.turn x) ≡ true
    go (same t) = ap (λ (u : Turn). has_turn p (claim_after u x)) t ∙ stays d.arb.turn before
    go (ended n f) = absurd (true≢false (sym asks ∙ f p before))

-- Where the turn is nobody's in a run, nobody requests.
abbrev is_nobody : Turn → Bool
is_nobody Nobody = true
is_nobody (Claims k g) = false
is_nobody (Owns k g) = false

none_asks : (a b : Bool) (w : Master) (g : Ground) → claim_by a b w g ≡ Nobody → (a ≡ false) × (b ≡ false)
none_asks false false w g h = (refl, refl)
none_asks true false w g h = absurd (false≢true (ap is_nobody h))
none_asks false true w g h = absurd (false≢true (ap is_nobody h))
none_asks true true w g h = absurd (false≢true (ap is_nobody h))

pub nobody_asks : (d : Device) → Ready d → d.arb.turn ≡ Nobody → (requests Zero d ≡ false) × (requests One d ≡ false)
nobody_asks d (kept, claimed, waits) n = none_asks _ _ _ _ (sym (ap (λ (t : Turn). claim_after t d) n) ∙ claimed ∙ n)
