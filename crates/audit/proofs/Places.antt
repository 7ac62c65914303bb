-- Where a waiting master stands: it owns, it claims, its partner owns, or its partner claims before it; and what an event makes of that. What
-- stands before it is counted in ticks, and each tick takes one from it.
-- Assumes nothing.
use Prim.Native.Nat.{◌<◌, ◌≤◌}
use mathlib.Core.Path.{◌≡◌, refl, sym, ap, ap₂, ◌∙◌, subst}
use mathlib.Core.Bool.{true≢false, and-eq-true_iff, and-true}
use native.Mathlib.Nat.{sub-zero}
use native.Mathlib.Omega.{arith}
use borrow.Author.Tests.{eq-eqb, ne_eqb, eqb-true, eqb-false, ltb-true}
use Rattle.std.specs.Prelude.{◌+◌, ◌-◌, ◌&&◌, ◌||◌, if◌then◌else◌}
use Rattle.ranges.specs.Names.{ℕ, Bool, true, false, not, eqb, ltb, Master, Ground, Sole, Turn, Nobody, Claims, Owns, Bus, Device, Raw, Event, Tick}
use Rattle.arbiter.specs.Words.{worth, partner}
use Rattle.arbiter.specs.State.{owns_turn, owns, claims_turn, claims, at_rest}
use Rattle.arbiter.specs.Effects.{ticked, effect}
use Rattle.arbiter.specs.Order.{is_reset, is_tick, levels, new_claim, claim_after}
use Rattle.arbiter.specs.Steps.{parts}
use Rattle.arbiter.specs.AuditWords.{next, requests, resting, reserve_of, reset, tick}
use Rattle.audit.specs.WorstWait.{reserves_within, delayed}
use Rattle.arbiter.proofs.Choice.{split, if_true, if_false, same_self, turn_owns}
use Rattle.arbiter.proofs.Effects.{counts, effect_counts}
use Rattle.arbiter.proofs.Order.{side_kept, owned, awarded, after, after_sides, losses_unowned, after_turn}
use Rattle.arbiter.proofs.Owner.{mid, turn_kept, heir, over_next, sole_claim}
use Rattle.arbiter.proofs.Raws.{Takes, refuses, takes, met, taken_tick}
use Rattle.arbiter.proofs.Settled.{is_due, Ready}
use Rattle.arbiter.proofs.Idle.{parts_bus}
use Rattle.arbiter.proofs.Tenure.{Owned, keeps, over, lot, taken_fresh}
use Rattle.arbiter.proofs.Reserve.{reserve_kept}

-- ---- the hold over an event

-- A tick is taken from the hold.
pub hold_next : (r : Raw) (d : Device) → reset r d ≡ false → (next d r).bus.hold ≡ d.bus.hold - worth 1 (tick r d)
unfolding levels ticked
hold_next r d ok =
    elim (met r d) [
      | refuses x ↦
          (ap (λ (n : Device). n.bus.hold) x.after
          ∙ sym (sub-zero d.bus.hold)
          ∙ sym (ap (λ (b : Bool). d.bus.hold - worth 1 b) (x.none λ f y. is_tick f)))
      | takes e x ↦
          (ap (λ (n : Device). n.bus.hold) x.after
          ∙ ap (λ (b : Bus). b.hold) (parts_bus e d)
          ∙ ap (λ c. c.0) (effect_counts e d (sym (x.same λ f y. is_reset f) ∙ ok))
          ∙ go (is_tick e)
          ∙ sym (ap (λ (b : Bool). d.bus.hold - worth 1 b) (x.same λ f y. is_tick f)))
    ]
  where
    go : (b : Bool) → (if b then counts (ticked d) else counts d).0 ≡ d.bus.hold - worth 1 b
    go true = refl
    go false = sym (sub-zero d.bus.hold)

-- ---- an event on a claim

-- q is to be granted
abbrev due : Master → Device → Bool
due q d = resting q d && eqb d.bus.hold 0

-- the turn after a claim of q's: it owns if it is due
abbrev awaits : Master → Ground → Device → Turn
awaits q g d = if due q d then Owns q g else Claims q g

module _ (q : Master) {g : Ground} (e : Event) (d : Device) (ok : is_reset e ≡ false) (t : d.arb.turn ≡ Claims q g) where
  mid_turn : (mid e d).arb.turn ≡ Claims q g
  unfolding levels
  mid_turn = turn_kept e d (Claims q g) ok t

  passed : parts e d ≡ after e (mid e d)
  unfolding parts
  passed = ap (after e) (losses_unowned (mid e d) (ap owned mid_turn))

  asks : (j : Master) → requests j (parts e d) ≡ requests j (mid e d)
  asks j = ap (requests j) passed ∙ ap (λ k. k.0) (side_kept j (after e (mid e d)) (mid e d) (after_sides e (mid e d)))

  rests : (j : Master) → resting j (parts e d) ≡ resting j (mid e d)
  rests j = ap (resting j) passed ∙ ap (λ k. at_rest k.3) (side_kept j (after e (mid e d)) (mid e d) (after_sides e (mid e d)))

  holds : (parts e d).bus.hold ≡ (mid e d).bus.hold
  holds = ap (λ (n : Device). n.bus.hold) passed ∙ ap (λ s. s.2) (after_sides e (mid e d))

  turned : (parts e d).arb.turn ≡ awarded (claim_after (Claims q g) (mid e d)) (mid e d)
  turned =
      ap (λ (n : Device). n.arb.turn) passed ∙ after_turn e (mid e d) (ap owned mid_turn)
      ∙ ap (λ (u : Turn). awarded (claim_after u (mid e d)) (mid e d)) mid_turn

  awards : (j : Master) (i : Ground) → awarded (Claims j i) (mid e d) ≡ awaits j i (parts e d)
  awards j i = ap₂ (λ (a : Bool) (h : ℕ). if a && eqb h 0 then Owns j i else Claims j i) (sym (rests j)) (sym holds)

  -- Who still requests has it, and owns if it is due;
  claim_stays : requests q (parts e d) ≡ true → (parts e d).arb.turn ≡ awaits q g (parts e d)
  claim_stays h = turned ∙ ap (λ (u : Turn). awarded u (mid e d)) (if_true (Claims q g) (new_claim (mid e d)) (sym (asks q) ∙ h)) ∙ awards q g

  -- else its partner has it, if that requests.
  claim_passes : requests q (parts e d) ≡ false → requests (partner q) (parts e d) ≡ true → (parts e d).arb.turn ≡ awaits (partner q) Sole (parts e d)
  claim_passes h a =
      turned
      ∙ ap (λ (u : Turn). awarded u (mid e d))
      (if_false (Claims q g) (new_claim (mid e d)) (sym (asks q) ∙ h)
      ∙ sole_claim q (mid e d) (sym (asks q) ∙ h) ∙ if_true _ Nobody (sym (asks (partner q)) ∙ a))
      ∙ awards (partner q) Sole

-- A tick leaves the ports.
tick_rests : (q : Master) {g : Ground} (r : Raw) (d : Device) → d.arb.turn ≡ Claims q g → tick r d ≡ true → resting q (next d r) ≡ resting q d
unfolding levels effect ticked
tick_rests q r d t h = ap (resting q) (taken_tick r d h).after ∙ rests q Tick d refl t q

-- ---- what stands before m's partner p

-- the ticks until a claimant of such a hold has been granted, where it has delayed for n ticks and may do so for one and `more`
abbrev pub ahead : ℕ → ℕ → ℕ → ℕ
ahead more hold n = if eqb hold 0 then more + 1 - n else hold + more

-- p owns; p claims, and a hold of at most b ticks runs; m owns with at most b ticks left; m claims
pub data Place (m : Master) (most more n b : ℕ) (d : Device) : Type 0 where
  mine : (g : Ground) → d.arb.turn ≡ Owns (partner m) g → Place m most more n b d
  first : (g : Ground) → d.arb.turn ≡ Claims (partner m) g → d.bus.hold ≤ b → Place m most more n b d
  theirs : (g : Ground) → d.arb.turn ≡ Owns m g → d.arb.reserve ≤ b → Place m most more n b d
  behind : (g : Ground) → d.arb.turn ≡ Claims m g → ahead more d.bus.hold n + most ≤ b → Place m most more n b d

-- whose claim it is now owns if it is due, and else a hold may run
claim_place : (m : Master) (g : Ground) (most more n b : ℕ) (d : Device) → d.arb.turn ≡ awaits (partner m) g d → d.bus.hold ≤ b → Place m most more n b d
claim_place m g most more n b d t h =
    split (due (partner m) d) (λ x. mine g (t ∙ if_true _ _ x)) (λ x. first g (t ∙ if_false _ _ x) h)

-- a reserve of a grant is at most `most`, and more than 0
pub well : (m : Master) (most : ℕ) (d : Device) → owns m d ≡ true → reserves_within most m d ≡ true → (0 < reserve_of m d) × (reserve_of m d < most + 1)
well m most d o h =
    let both = (and-eq-true_iff (ltb 0 (reserve_of m d)) (ltb (reserve_of m d) (most + 1))).0
    (sym (ap (λ (b : Bool). not b || ltb 0 (reserve_of m d) && ltb (reserve_of m d) (most + 1)) o) ∙ h) in
    (ltb-true 0 (reserve_of m d) both.0, ltb-true (reserve_of m d) (most + 1) both.1)

-- ---- one event

module _ (m : Master) (most more n b : ℕ) (r : Raw) (d : Device) (i : Owned d) (s : Ready d) (ok : reset r d ≡ false)
    (q : requests (partner m) (next d r) ≡ true) (w : reserves_within most m (next d r) ≡ true) (late : delayed m n r d < more + 2) where
  abbrev x : Device
  x = next d r

  abbrev less : ℕ
  less = b - worth 1 (tick r d)

  -- where p stands after it
  abbrev Then : Type 0
  Then = Place m most more (delayed m n r d) less x

  -- an owner p keeps the grant, for a loss or a withdrawal would take its request away
  mine_then : (g : Ground) → d.arb.turn ≡ Owns (partner m) g → Then
  mine_then g t =
      elim (lot (partner m) r d (i (partner m) g t) ok) [
        | keeps k ↦ mine k.owner.ground k.owner.turn
        | over h c ↦ absurd (true≢false (sym q ∙ h.request))
      ]

  -- a claimant p is granted or waits on, and a tick is taken from the hold
  first_then : (g : Ground) → d.arb.turn ≡ Claims (partner m) g → d.bus.hold ≤ b → Then
  first_then g t h =
      let count : x.bus.hold ≡ d.bus.hold - worth 1 (tick r d) = hold_next r d ok in
      elim (met r d) [
        | refuses y ↦ first g (ap (λ (z : Device). z.arb.turn) y.after ∙ t) (omega arith)
        | takes e y ↦
            (let no : is_reset e ≡ false = sym (y.same λ f z. is_reset f) ∙ ok in
            claim_place m g most more (delayed m n r d) less x
            (subst (λ (z : Device). requests (partner m) z ≡ true → z.arb.turn ≡ awaits (partner m) g z) (sym y.after)
            (claim_stays (partner m) e d no t) q)
            (omega arith))
      ]

  -- an owner m keeps the grant, with a tick taken from its reserve, or p follows
  theirs_then : (g : Ground) → d.arb.turn ≡ Owns m g → d.arb.reserve ≤ b → Then
  theirs_then g t h =
      let u = i m g t in
      elim (lot m r d u ok) [
        | keeps k ↦
            (let count : x.arb.reserve ≡ d.arb.reserve - worth 1 (tick r d) = reserve_kept m r d u ok k in
            theirs k.owner.ground k.owner.turn (omega arith))
        | over h c ↦
            (let y = over_next m x h q in
            let none : x.bus.hold ≡ 0 = y.hold in
            split (resting (partner m) x)
            (λ a. mine Sole (y.turn ∙ ap (λ (b : Bool). heir b (partner m) Sole) a))
            (λ a. first Sole (y.turn ∙ ap (λ (b : Bool). heir b (partner m) Sole) a) (omega arith)))
      ]

  -- a claimant m
  module _ (g : Ground) (t : d.arb.turn ≡ Claims m g) (h : ahead more d.bus.hold n + most ≤ b) where
    has : claims m d ≡ true
    has = ap (claims_turn m) t ∙ same_self m

    -- with no hold it has not sent its STOP, or it were granted
    opened : d.bus.hold ≡ 0 → resting m d ≡ false
    opened z =
        sym (and-true (resting m d)) ∙ ap (λ (b : Bool). resting m d && b) (sym (eq-eqb d.bus.hold 0 z))
        ∙ sym (ap (λ (u : Turn). is_due u d) t) ∙ s.2

    -- what stands ahead with no hold, and with one
    ahead-free : d.bus.hold ≡ 0 → more + 1 - n + most ≤ b
    ahead-free z = subst (λ (k : ℕ). k + most ≤ b) (if_true (more + 1 - n) (d.bus.hold + more) (eq-eqb d.bus.hold 0 z)) h

    ahead-held : eqb d.bus.hold 0 ≡ false → d.bus.hold + more + most ≤ b
    ahead-held z = subst (λ (k : ℕ). k + most ≤ b) (if_false (more + 1 - n) (d.bus.hold + more) z) h

    hold-ahead : d.bus.hold + most ≤ b
    hold-ahead =
        split (eqb d.bus.hold 0)
        (λ z. let none = eqb-true d.bus.hold 0 z in let all = ahead-free none in omega arith)
        (λ z. let all = ahead-held z in omega arith)

    -- m has withdrawn, and p has the claim
    behind-gone : (e : Event) → Takes e r d → requests m x ≡ false → Then
    behind-gone e y a =
        let no : is_reset e ≡ false = sym (y.same λ f z. is_reset f) ∙ ok in
        let count : x.bus.hold ≡ d.bus.hold - worth 1 (tick r d) = hold_next r d ok in
        let all = hold-ahead in
        claim_place m Sole most more (delayed m n r d) less x
        (subst (λ (z : Device). requests m z ≡ false → requests (partner m) z ≡ true → z.arb.turn ≡ awaits (partner m) Sole z) (sym y.after)
        (claim_passes m e d no t) a q)
        (omega arith)

    -- m is granted: at a tick by the end of the hold, and else by its STOP
    room : resting m x ≡ true → most + worth 1 (tick r d) ≤ b
    room a = go (tick r d) refl
      where
        go : (k : Bool) → tick r d ≡ k → most + worth 1 k ≤ b
        go false e = let all = hold-ahead in omega arith
        go true e =
            split (eqb d.bus.hold 0)
            (λ z. absurd (true≢false (sym a ∙ tick_rests m r d t e ∙ opened (eqb-true d.bus.hold 0 z))))
            (λ z. let some = eqb-false d.bus.hold 0 z in let all = hold-ahead in omega arith)

    behind-granted : x.arb.turn ≡ Owns m g → resting m x ≡ true → Then
    behind-granted u a =
        let own : owns m x ≡ true = turn_owns m x.arb.turn u in
        let new = ap₂ (λ (a b : Bool). not a && b) (ap (owns_turn m) t) own in
        let fresh : x.arb.reserve ≡ reserve_of m x = (taken_fresh m r d new).0.reserve in
        let top = (well m most x own w).1 in
        let all = room a in
        theirs g u (omega arith)

    -- m goes on with its port open and no hold: it delayed before, and a tick is counted
    counted : resting m x ≡ false → x.arb.turn ≡ Claims m g → resting m d ≡ false → delayed m n r d ≡ n + worth 1 (tick r d)
    counted a u c =
        if_true (n + worth 1 (tick r d)) 0
        (ap₂ ◌&&◌ (ap₂ (λ (p q : Bool). p && not q) has c) (ap₂ (λ (p q : Bool). p && not q) (ap (claims_turn m) u ∙ same_self m) a))

    -- its port was open before, too: with a hold that this tick ends, as it is after it
    open-before : resting m x ≡ false → x.bus.hold ≡ 0 → resting m d ≡ false
    open-before a z =
        split (eqb d.bus.hold 0) (λ e. opened (eqb-true d.bus.hold 0 e)) (λ e. go (tick r d) refl (eqb-false d.bus.hold 0 e))
      where
        go : (k : Bool) → tick r d ≡ k → (d.bus.hold ≡ 0 → ⊥) → resting m d ≡ false
        go true e f = sym (tick_rests m r d t e) ∙ a
        go false e f = absurd (f (sym (sub-zero d.bus.hold) ∙ sym (ap (λ (k : Bool). d.bus.hold - worth 1 k) e) ∙ sym (hold_next r d ok) ∙ z))

    -- so what stands ahead has become less by the tick
    waits-held : eqb x.bus.hold 0 ≡ false → ahead more x.bus.hold (delayed m n r d) + most ≤ less
    waits-held z =
        let count : x.bus.hold ≡ d.bus.hold - worth 1 (tick r d) = hold_next r d ok in
        let some = eqb-false x.bus.hold 0 z in
        let all = ahead-held (ne_eqb d.bus.hold 0 (λ e. omega arith)) in
        subst (λ (k : ℕ). k + most ≤ less) (sym (if_false (more + 1 - delayed m n r d) (x.bus.hold + more) z)) (omega arith)

    waits-free : x.arb.turn ≡ Claims m g → resting m x ≡ false → x.bus.hold ≡ 0 → ahead more x.bus.hold (delayed m n r d) + most ≤ less
    waits-free u a z =
        let count : x.bus.hold ≡ d.bus.hold - worth 1 (tick r d) = hold_next r d ok in
        let so : delayed m n r d ≡ n + worth 1 (tick r d) = counted a u (open-before a z) in
        subst (λ (k : ℕ). k + most ≤ less) (sym (if_true (more + 1 - delayed m n r d) (x.bus.hold + more) (eq-eqb x.bus.hold 0 z)))
        (split (eqb d.bus.hold 0)
        (λ e. let all = ahead-free (eqb-true d.bus.hold 0 e) in omega arith)
        (λ e. let some = eqb-false d.bus.hold 0 e in let all = ahead-held e in omega arith))

    -- m waits on
    behind-waits : x.arb.turn ≡ Claims m g → due m x ≡ false → Then
    behind-waits u a =
        behind g u
        (split (eqb x.bus.hold 0)
        (λ z. waits-free u (sym (and-true (resting m x)) ∙ ap (λ (b : Bool). resting m x && b) (sym z) ∙ a) (eqb-true x.bus.hold 0 z))
        waits-held)

    -- whatever the event
    behind_then : Then
    behind_then =
        elim (met r d) [
          | refuses y ↦
              behind-waits (ap (λ (z : Device). z.arb.turn) y.after ∙ t)
              (ap (due m) y.after ∙ sym (ap (λ (u : Turn). is_due u d) t) ∙ s.2)
          | takes e y ↦
              (let no : is_reset e ≡ false = sym (y.same λ f z. is_reset f) ∙ ok in
              split (requests m x)
              (λ a. let u : x.arb.turn ≡ awaits m g x =
              subst (λ (z : Device). requests m z ≡ true → z.arb.turn ≡ awaits m g z) (sym y.after) (claim_stays m e d no t) a in
              split (due m x)
              (λ v. behind-granted (u ∙ if_true _ _ v) ((and-eq-true_iff (resting m x) (eqb x.bus.hold 0)).0 v).0)
              (λ v. behind-waits (u ∙ if_false _ _ v) v))
              (λ a. behind-gone e y a))
        ]

  pub place_then : Place m most more n b d → Then
  place_then (mine g t) = mine_then g t
  place_then (first g t h) = first_then g t h
  place_then (theirs g t h) = theirs_then g t h
  place_then (behind g t h) = behind_then g t h
