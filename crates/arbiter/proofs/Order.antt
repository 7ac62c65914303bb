-- Parts 3 to 7 of a step: what they leave as it was, what they make of a bus that nobody owns, and what a new grant is.
-- Assumes nothing.
use mathlib.Core.Path.{◌≡◌, refl, sym, ap, ◌∙◌, subst}
use mathlib.Core.Bool.{true≢false, false≢true, and-eq-true_iff}
use borrow.Author.Tests.{eqb-true}
use Rattle.std.specs.Prelude.{◌&&◌, if◌then◌else◌}
use Rattle.arbiter.specs.Types.{ℕ, Bool, true, false, eqb, Master, Zero, One, Ground, Turn, Nobody, Claims, Owns, Port, Side, Bus, Kind, Device}
use Rattle.arbiter.specs.Types.{Clock, Event}
use Rattle.arbiter.specs.Words.{side}
use Rattle.arbiter.specs.Parts.{with_turn, with_side, with_arb}
use Rattle.arbiter.specs.State.{at_rest}
use Rattle.arbiter.specs.Order.{is_tick, clock_of, losses_from, losses, cut_from, cut, claim_after, claim, granted, grant_from, grant, connect}
use Rattle.arbiter.specs.AuditWords.{resting}
use Rattle.arbiter.proofs.Cases.{cut_cases, new_cases, claim_cases, grant_cases, connect_cases}
use Rattle.arbiter.proofs.Effects.{kept}

-- ---- what is left as it was

-- of both sides those that `kept` names, and the hold
abbrev pub sides : Device → (Bool × Bool × ℕ × Port × Bool) × (Bool × Bool × ℕ × Port × Bool) × ℕ
sides d = (kept d.side0, kept d.side1, d.bus.hold)

-- the same with the whole bus, the reserve count, the turn and the kind
abbrev pub still : Device → (Bool × Bool × ℕ × Port × Bool) × (Bool × Bool × ℕ × Port × Bool) × Bus × ℕ × Turn × Kind
still d = (kept d.side0, kept d.side1, d.bus, d.arb.reserve, d.arb.turn, d.kind)

-- What leaves the second leaves the first,
pub still_sides : (n d : Device) → still n ≡ still d → sides n ≡ sides d
still_sides n d e = ap (λ x. (x.0, x.1, x.2.hold)) e

-- and m's side in either.
pub side_kept : (m : Master) (n d : Device) → sides n ≡ sides d → kept (side m n) ≡ kept (side m d)
side_kept Zero n d e = ap (λ x. x.0) e
side_kept One n d e = ap (λ x. x.1) e

-- A side with the same in m's place changes none of this.
alike : (m : Master) (s : Side) (d : Device) → kept s ≡ kept (side m d) → still (with_side m s d) ≡ still d
alike Zero s d e = ap (λ x. (x, kept d.side1, d.bus, d.arb.reserve, d.arb.turn, d.kind)) e
alike One s d e = ap (λ x. (kept d.side0, x, d.bus, d.arb.reserve, d.arb.turn, d.kind)) e

-- ---- part 4 clears BUS_CONNECT at most

pub cut_still : (tick : Bool) (t : Turn) (d : Device) → still (cut_from tick t d) ≡ still d
unfolding cut_from
cut_still tick Nobody d = refl
cut_still tick (Claims m g) d = refl
cut_still tick (Owns m g) d = cut_cases (λ (n : Device). still n ≡ still d) tick m g d (alike m _ d refl) refl

-- ---- part 7 changes the switch, BUS_INIT, BUS_CONNECT and BUS_INIT_FAIL at most

pub connect_still : (c : Clock) (d : Device) → still (connect c d) ≡ still d
connect_still c d = connect_cases (λ (n : Device). still n ≡ still d) d (λ w fail. refl) (λ m on w fail h. alike m _ d refl) c

-- ---- part 6

-- d with the turn t
abbrev turned : Turn → Device → Device
turned t d = with_arb (with_turn t d.arb) d

-- what part 6 makes of the turn: a claimant with its port at rest and no hold owns
abbrev pub awarded : Turn → Device → Turn
awarded Nobody d = Nobody
awarded (Claims m g) d = if at_rest (side m d).port && eqb d.bus.hold 0 then Owns m g else Claims m g
awarded (Owns m g) d = Owns m g

-- A grant sets the grant's interrupt, zeroes the idle count and sets the reserve count: the sides and the hold are left.
granted_sides : (m : Master) (g : Ground) (d : Device) → sides (granted m g d) ≡ sides d
unfolding granted
granted_sides Zero g d = refl
granted_sides One g d = refl

grant_sides : (t : Turn) (d : Device) → sides (grant_from t d) ≡ sides d
unfolding grant_from
grant_sides Nobody d = refl
grant_sides (Claims m g) d = grant_cases (λ (n : Device). sides n ≡ sides d) m g d (granted_sides m g d) refl
grant_sides (Owns m g) d = refl

-- Of the turn t it makes this.
grant_turn : (t : Turn) (d : Device) → (grant_from t (turned t d)).arb.turn ≡ awarded t d
unfolding grant_from granted
grant_turn Nobody d = refl
grant_turn (Claims m g) d = go (at_rest (side m d).port && eqb d.bus.hold 0)
  where
    go : (b : Bool) → (if b then granted m g (turned (Claims m g) d) else turned (Claims m g) d).arb.turn ≡ (if b then Owns m g else Claims m g)
    go true = refl
    go false = refl
grant_turn (Owns m g) d = refl

-- ---- parts 4 to 7

-- the four parts after the losses
abbrev pub after : Event → Device → Device
after e d = connect (clock_of e) (grant (claim (cut (is_tick e) d)))

-- They leave both sides and the hold,
pub after_sides : (e : Event) (d : Device) → sides (after e d) ≡ sides d
unfolding grant claim cut
after_sides e d =
    let c : Device = cut (is_tick e) d in
    let f : Device = claim c in
    let g : Device = grant f in
    still_sides (connect (clock_of e) g) g (connect_still (clock_of e) g)
    ∙ grant_sides f.arb.turn f
    ∙ still_sides c d (cut_still (is_tick e) d.arb.turn d)

-- and of an owned bus everything that `still` names.
pub claim_owned : (m : Master) {g : Ground} (d : Device) → d.arb.turn ≡ Owns m g → claim d ≡ d
unfolding claim
claim_owned m d h = ap (λ (t : Turn). turned (claim_after t d) d) h ∙ ap (λ (t : Turn). turned t d) (sym h)

pub grant_owned : (m : Master) {g : Ground} (d : Device) → d.arb.turn ≡ Owns m g → grant d ≡ d
unfolding grant grant_from
grant_owned m d h = ap (λ (t : Turn). grant_from t d) h

pub after_owned : (e : Event) (m : Master) {g : Ground} (d : Device) → d.arb.turn ≡ Owns m g → still (after e d) ≡ still d
unfolding cut
after_owned e m {g} d h =
    let c : Device = cut (is_tick e) d in
    let s : still c ≡ still d = cut_still (is_tick e) d.arb.turn d in
    let o : c.arb.turn ≡ Owns m g = ap (λ x. x.4) s ∙ h in
    ap (λ (x : Device). still (connect (clock_of e) x)) (ap grant (claim_owned m c o) ∙ grant_owned m c o)
    ∙ connect_still (clock_of e) c
    ∙ s

-- ---- parts 3 to 7 of a bus that nobody owns

-- some master owns
abbrev pub owned : Turn → Bool
owned Nobody = false
owned (Claims m g) = false
owned (Owns m g) = true

-- Parts 3 and 4 do nothing to it,
unlost : (t : Turn) (d : Device) → owned t ≡ false → losses_from t d ≡ d
unfolding losses_from
unlost Nobody d h = refl
unlost (Claims m g) d h = refl
unlost (Owns m g) d h = absurd (true≢false h)

pub losses_unowned : (d : Device) → owned d.arb.turn ≡ false → losses d ≡ d
unfolding losses
losses_unowned d h = unlost d.arb.turn d h

uncut : (tick : Bool) (t : Turn) (d : Device) → owned t ≡ false → cut_from tick t d ≡ d
unfolding cut_from
uncut tick Nobody d h = refl
uncut tick (Claims m g) d h = refl
uncut tick (Owns m g) d h = absurd (true≢false h)

-- the turn after part 5
abbrev claimed : Device → Turn
claimed d = claim_after d.arb.turn d

-- so that the device goes by the claim and the grant alone,
after_unowned : (e : Event) (d : Device) → owned d.arb.turn ≡ false → still (after e d) ≡ still (grant_from (claimed d) (turned (claimed d) d))
unfolding grant claim cut
after_unowned e d h =
    let g : Device = grant (claim d) in
    ap (λ (x : Device). still (connect (clock_of e) (grant (claim x)))) (uncut (is_tick e) d.arb.turn d h) ∙ connect_still (clock_of e) g

-- and so does the turn.
pub after_turn : (e : Event) (d : Device) → owned d.arb.turn ≡ false → (after e d).arb.turn ≡ awarded (claimed d) d
after_turn e d h = ap (λ x. x.4) (after_unowned e d h) ∙ grant_turn (claimed d) d

-- ---- a new grant

-- m's grant is new: the reserve count is m's RT, the idle count is 0, m's port is at rest, and no hold runs.
pub record Fresh (m : Master) (d : Device) : Type 0 where
  pub reserve : d.arb.reserve ≡ (side m d).rt
  pub idle : d.bus.idle ≡ 0
  pub rest : resting m d ≡ true
  pub hold : d.bus.hold ≡ 0

-- It is read off what `still` names,
fresh_still : (m : Master) (n d : Device) → still n ≡ still d → Fresh m d → Fresh m n
fresh_still m n d e h =
    record {
      reserve = ap (λ x. x.3) e ∙ h.reserve ∙ sym (ap (λ x. x.2) (side_kept m n d (still_sides n d e)));
      idle = ap (λ x. x.2.idle) e ∙ h.idle;
      rest = ap (λ x. at_rest x.3) (side_kept m n d (still_sides n d e)) ∙ h.rest;
      hold = ap (λ x. x.2.hold) e ∙ h.hold;
    }

-- and part 6 makes it so:
granted_fresh : (m : Master) (g : Ground) (d : Device) → resting m d && eqb d.bus.hold 0 ≡ true → Fresh m (granted m g d)
unfolding granted
granted_fresh Zero g d h =
    let both = (and-eq-true_iff (resting Zero d) (eqb d.bus.hold 0)).0 h in
    record { reserve = refl; idle = refl; rest = both.0; hold = eqb-true d.bus.hold 0 both.1 }
granted_fresh One g d h =
    let both = (and-eq-true_iff (resting One d) (eqb d.bus.hold 0)).0 h in
    record { reserve = refl; idle = refl; rest = both.0; hold = eqb-true d.bus.hold 0 both.1 }

-- a turn has one owner,
pub owner_same : (k m : Master) {g j : Ground} → Owns k g ≡ Owns m j → k ≡ m
owner_same k m h = cc

-- and a claimant owns after part 6 only by a new grant.
grant_fresh : (m : Master) {j : Ground} (t : Turn) (d : Device) → owned t ≡ false → (grant_from t (turned t d)).arb.turn ≡ Owns m j
    → Fresh m (grant_from t (turned t d))
unfolding grant_from granted
grant_fresh m Nobody d u h = absurd (false≢true (ap owned h))
grant_fresh m {j} (Claims k g) d u h = go (at_rest (side k d).port && eqb d.bus.hold 0) refl h
  where
    given : Bool → Device
    given b = if b then granted k g (turned (Claims k g) d) else turned (Claims k g) d

    go : (b : Bool) → at_rest (side k d).port && eqb d.bus.hold 0 ≡ b → (given b).arb.turn ≡ Owns m j → Fresh m (given b)
    go true t o =
        subst (λ (i : Master). Fresh i (granted k g (turned (Claims k g) d))) (owner_same k m o)
        (granted_fresh k g (turned (Claims k g) d) t)
    go false t o = absurd (false≢true (ap owned o))
grant_fresh m (Owns k g) d u h = absurd (true≢false u)

-- A claim is no grant, and part 5 makes no owner.
claimed_unowned : (t : Turn) (d : Device) → owned t ≡ false → owned (claim_after t d) ≡ false
claimed_unowned Nobody d h = new_cases (λ (t : Turn). owned t ≡ false) d refl (λ k g. refl)
claimed_unowned (Claims m g) d h = claim_cases (λ (t : Turn). owned t ≡ false) m g d refl (λ k g. refl)
claimed_unowned (Owns m g) d h = absurd (true≢false h)

-- So who owns after part 7 on a bus that nobody owned before part 4 has a new grant.
pub after_fresh : (m : Master) {g : Ground} (e : Event) (d : Device) → owned d.arb.turn ≡ false → (after e d).arb.turn ≡ Owns m g → Fresh m (after e d)
after_fresh m e d u h =
    let s = after_unowned e d u in
    fresh_still m (after e d) (grant_from (claimed d) (turned (claimed d) d)) s
    (grant_fresh m (claimed d) d (claimed_unowned d.arb.turn d u) (sym (ap (λ x. x.4) s) ∙ h))
