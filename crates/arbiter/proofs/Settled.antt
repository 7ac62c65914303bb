-- A refused event changes nothing, and every step of a run leaves nothing to settle: no line to level, no grant to lose, no claim to make or to grant. That
-- parts 2 to 7 done again then change nothing is in proofs/Again.antt.
-- Assumes nothing.
use mathlib.Core.Path.{◌≡◌, refl, sym, ap, ap₂, subst, ◌∙◌}
use mathlib.Core.Bool.{Bool, true, false, not, ◌&&◌, ◌||◌, false≢true, and-eq-true_iff, and-false}
use Rattle.arbiter.specs.Types.{ℕ, List, eqb, Master, Zero, One, Ground, Sole, Turn, Nobody, Claims, Owns, Side, Bus, Apart}
use Rattle.arbiter.specs.Types.{Clock, Kind, Device, Raw, Event}
use Rattle.arbiter.specs.Rules.{idle_limit}
use Rattle.arbiter.specs.Words.{side}
use Rattle.arbiter.specs.Parts.{with_bus_connect, with_bus_init, with_contr, with_drives, with_idle, with_turn, with_switch, with_init_fail, with_side}
use Rattle.arbiter.specs.Parts.{with_arb}
use Rattle.arbiter.specs.State.{at_rest, scl_high, sda_high, is_idle}
use Rattle.arbiter.specs.Registers.{released}
use Rattle.arbiter.specs.Effects.{fresh_side, power_up, effect}
use Rattle.arbiter.specs.Order.{is_reset, is_tick, clock_of, scl_changed, levels, runs_out, lost, losses_from, losses, cut_from, cut}
use Rattle.arbiter.specs.Order.{claim_by, winner, ground_of, new_claim, claim_after, claim, granted, grant_from, grant}
use Rattle.arbiter.specs.Order.{connect}
use Rattle.arbiter.specs.Steps.{parts, run}
use Rattle.arbiter.specs.AuditWords.{requests}
use Rattle.arbiter.specs.Audit.{RefusedUnchanged}
use Rattle.arbiter.proofs.Choice.{either, split, if_true, if_false}
use Rattle.arbiter.proofs.Cases.{cut_cases, claimant_stays, new_cases, claim_cases, connect_cases, run_keeps}
use Rattle.arbiter.proofs.Raws.{refuses, takes, met}
use Rattle.arbiter.proofs.KindKept.{limit_some}

-- ---- a refused event

pub refused_unchanged : RefusedUnchanged
refused_unchanged d r h =
    elim (met r d) [
      | refuses x ↦ x.after
      | takes e x ↦ absurd (false≢true (sym h ∙ x.same λ f y. true))
    ]

-- ---- what there is to settle, part by part

-- part 2: a high line's low count is 0, and so is the idle count of a bus that is not idle
abbrev pub Still : Bus → Type 0
Still b = (scl_high b ≡ true → b.lowscl ≡ 0) × (sda_high b ≡ true → b.lowsda ≡ 0) × (is_idle b ≡ false → b.idle ≡ 0)

-- part 3: the owner loses
abbrev pub loses : Turn → Device → Bool
loses Nobody d = false
loses (Claims m g) d = false
loses (Owns m g) d = runs_out (idle_limit d) (side m d) d.arb.reserve d.bus

-- part 6: the claimant is to be granted
abbrev pub is_due : Turn → Device → Bool
is_due Nobody d = false
is_due (Claims m g) d = at_rest (side m d).port && eqb d.bus.hold 0
is_due (Owns m g) d = false

-- the bus is still, and its owner does not lose
abbrev pub Kept : Device → Type 0
Kept d = Still d.bus × (loses d.arb.turn d ≡ false)

-- part 5: the claimant stays
abbrev pub Claimed : Device → Type 0
Claimed d = claim_after d.arb.turn d ≡ d.arb.turn

-- all of parts 2 to 6: nothing to level, to lose, to claim or to grant
abbrev pub Ready : Device → Type 0
Ready d = Kept d × Claimed d × (is_due d.arb.turn d ≡ false)

-- ---- parts 4 and 7 change nothing that those ask

-- the device less BUS_INIT, BUS_CONNECT, the switch and BUS_INIT_FAIL
abbrev bare_side : Side → Side
bare_side s = with_contr (with_bus_init false (with_bus_connect false s.contr)) s

abbrev bare : Device → Device
bare d = record { side0 = bare_side d.side0; side1 = bare_side d.side1; bus = d.bus; arb = with_init_fail false (with_switch Apart d.arb); kind = d.kind }

-- whether the owner loses is asked of RT, the idle timer, the reserve count and the bus
loses_bare : (t : Turn) (d : Device) → loses t (bare d) ≡ loses t d
loses_bare Nobody d = refl
loses_bare (Claims m g) d = refl
loses_bare (Owns Zero g) d = refl
loses_bare (Owns One g) d = refl

-- who claims is asked of LOCK_REQ, the priorities and the last granted
claim_bare : (t : Turn) (d : Device) → claim_after t (bare d) ≡ claim_after t d
claim_bare Nobody d = refl
claim_bare (Claims Zero g) d = refl
claim_bare (Claims One g) d = refl
claim_bare (Owns m g) d = refl

-- whether the claimant is to be granted is asked of its port and the hold
due_bare : (t : Turn) (d : Device) → is_due t (bare d) ≡ is_due t d
due_bare Nobody d = refl
due_bare (Claims Zero g) d = refl
due_bare (Claims One g) d = refl
due_bare (Owns m g) d = refl

module _ (x y : Device) (p : bare x ≡ bare y) where
  -- so a device that differs in those alone is as still, and its owner as safe
  kept_by : Kept x → Kept y
  kept_by (still, stays) = (
    subst (λ (d : Device). Still d.bus) p still,
    sym (loses_bare y.arb.turn y) ∙ ap (λ (d : Device). loses d.arb.turn d) (sym p) ∙ loses_bare x.arb.turn x ∙ stays,
  )

  -- and as ready
  ready_by : Ready x → Ready y
  ready_by (kept, claimed, waits) = (
    kept_by kept,
    sym (claim_bare y.arb.turn y) ∙ ap (λ (d : Device). claim_after d.arb.turn d) (sym p) ∙ claim_bare x.arb.turn x ∙ claimed
        ∙ ap (λ (d : Device). d.arb.turn) p,
    sym (due_bare y.arb.turn y) ∙ ap (λ (d : Device). is_due d.arb.turn d) (sym p) ∙ due_bare x.arb.turn x ∙ waits,
  )

-- one side put in place of another that is the same but for those
side_bare : (m : Master) (s : Side) (d : Device) → bare_side s ≡ bare_side (side m d) → bare (with_side m s d) ≡ bare d
side_bare Zero s d h =
    λ i. record { side0 = h i; side1 = bare_side d.side1; bus = d.bus; arb = with_init_fail false (with_switch Apart d.arb); kind = d.kind }
side_bare One s d h =
    λ i. record { side0 = bare_side d.side0; side1 = h i; bus = d.bus; arb = with_init_fail false (with_switch Apart d.arb); kind = d.kind }

-- part 4 clears BUS_CONNECT and nothing else
cut_bare : (on : Bool) (t : Turn) (d : Device) → bare (cut_from on t d) ≡ bare d
unfolding cut_from
cut_bare on Nobody d = refl
cut_bare on (Claims m g) d = refl
cut_bare on (Owns m g) d = cut_cases (λ (x : Device). bare x ≡ bare d) on m g d (side_bare m _ d refl) refl

-- part 7 touches nothing but those
connect_bare : (c : Clock) (d : Device) → bare (connect c d) ≡ bare d
connect_bare c d =
    connect_cases (λ (x : Device). bare x ≡ bare d) d (λ w fail. refl)
    (λ m on w fail h. side_bare m _ d refl) c

-- ---- part 2 leaves a still bus

-- the levels are as before part 2, which zeroed the counts by them
pub levels_still : (reset : Bool) (before : Bus) (d : Device) → Still (levels reset before d).bus
unfolding levels
levels_still reset before d =
    let b : Bus = d.bus in
    (λ h. if_true 0 b.lowscl h, λ h. if_true 0 b.lowsda (ap (λ (high : Bool). high || scl_changed before b) h), λ h. if_false b.idle 0 h)

-- ---- part 3: a loss comes only on an idle bus, whose drives are released already

-- an idle count at a limit that is not 0 is not 0, so the bus is idle
counted_idle : (limit : ℕ) → eqb 0 limit ≡ false → (b : Bus) → Still b → eqb b.idle limit ≡ true → is_idle b ≡ true
counted_idle limit some b still h =
    split (is_idle b) (λ e. e) (λ e. absurd (false≢true (sym some ∙ sym (ap (λ (n : ℕ). eqb n limit) (still.2 e)) ∙ h)))

-- a reserve that runs out asks for an idle bus, and the idle timer for its count
pub out_idle : (limit : ℕ) → eqb 0 limit ≡ false → (s : Side) (n : ℕ) (b : Bus) → Still b → runs_out limit s n b ≡ true → is_idle b ≡ true
out_idle limit some s n b still =
    either (λ (x : Bool). x ≡ true → is_idle b ≡ true) (eqb s.rt 0)
    (λ z h. counted_idle limit some b still ((and-eq-true_iff s.contr.idletimer (eqb b.idle limit)).0 h).1)
    (λ z h. ((and-eq-true_iff (eqb n 0) (is_idle b)).0 h).1)

-- lines that are high are not driven low
idle_released : (b : Bus) → is_idle b ≡ true → released b ≡ b
idle_released b h =
    let outer = (and-eq-true_iff (not b.busy && scl_high b) (sda_high b)).0 h in
    let scl = ((and-eq-true_iff (b.outscl && b.drivescl) (eqb b.hold 0)).0 ((and-eq-true_iff (not b.busy) (scl_high b)).0 outer.0).1).0 in
    let drivescl = ((and-eq-true_iff b.outscl b.drivescl).0 scl).1 in
    let drivesda = ((and-eq-true_iff b.outsda b.drivesda).0 outer.1).1 in
    ap₂ (λ (x y : Bool). with_drives x y b) (sym drivescl) (sym drivesda)

-- so part 3 leaves the bus as it was
pub losses_bus : (t : Turn) (d : Device) → Still d.bus → (losses_from t d).bus ≡ d.bus
unfolding losses_from lost
losses_bus Nobody d still = refl
losses_bus (Claims m g) d still = refl
losses_bus (Owns m g) d still =
    either (λ (n : Device). n.bus ≡ d.bus) (runs_out (idle_limit d) (side m d) d.arb.reserve d.bus)
    (λ h. idle_released d.bus (out_idle (idle_limit d) (limit_some d.kind) (side m d) d.arb.reserve d.bus still h)) (λ h. refl)

-- and nobody is left to lose
losses_kept : (t : Turn) (d : Device) → d.arb.turn ≡ t → Still d.bus → Kept (losses_from t d)
unfolding losses_from lost
losses_kept Nobody d e still = (still, ap (λ (t : Turn). loses t d) e)
losses_kept (Claims m g) d e still = (still, ap (λ (t : Turn). loses t d) e)
losses_kept (Owns m g) d e still =
    either Kept (runs_out (idle_limit d) (side m d) d.arb.reserve d.bus)
    (λ h. (
      subst Still (sym (idle_released d.bus (out_idle (idle_limit d) (limit_some d.kind) (side m d) d.arb.reserve d.bus still h))) still,
      refl,
    ))
    (λ h. (still, ap (λ (t : Turn). loses t d) e ∙ h))

-- ---- part 5: who claims stays the claimant, and a new claimant has nothing to lose

-- the winner, if both request, and its ground
abbrev winner_in : Device → Master
winner_in d = winner d.side0.contr.priority d.side1.contr.priority d.arb.last

abbrev ground_in : Device → Ground
ground_in d = ground_of d.side0.contr.priority d.side1.contr.priority

module _ (d : Device) where
  -- a new claimant requests; and where nobody claims, nobody requests
  new_stays : claim_after (new_claim d) d ≡ new_claim d
  new_stays = go (requests Zero d) (requests One d) (winner_in d) (ground_in d) refl refl
    where
      go : (r0 r1 : Bool) (w : Master) (g : Ground) → requests Zero d ≡ r0 → requests One d ≡ r1 → claim_after (claim_by r0 r1 w g) d ≡ claim_by r0 r1 w g
      go false false w g e0 e1 = ap₂ (λ (r0 r1 : Bool). claim_by r0 r1 (winner_in d) (ground_in d)) e0 e1
      go true false w g e0 e1 = claimant_stays Zero Sole d e0
      go false true w g e0 e1 = claimant_stays One Sole d e1
      go true true Zero g e0 e1 = claimant_stays Zero g d e0
      go true true One g e0 e1 = claimant_stays One g d e1

  -- part 5 done twice is part 5 done once
  claim_stays : (t : Turn) → claim_after (claim_after t d) d ≡ claim_after t d
  claim_stays Nobody = new_stays
  claim_stays (Claims m g) =
      either (λ (t : Turn). claim_after t d ≡ t) (requests m d) (λ h. claimant_stays m g d h) (λ h. new_stays)
  claim_stays (Owns m g) = refl

  -- an owner stays the owner, and nobody else is made one
  claim_keeps : (t : Turn) → loses t d ≡ false → loses (claim_after t d) d ≡ false
  claim_keeps Nobody h = new_cases (λ (t : Turn). loses t d ≡ false) d refl (λ k g. refl)
  claim_keeps (Claims m g) h = claim_cases (λ (t : Turn). loses t d ≡ false) m g d refl (λ k j. refl)
  claim_keeps (Owns m g) h = h

  -- both are asked of the turn that is given, and not of the device's own
  loses_turn : (t u : Turn) → loses t (with_arb (with_turn u d.arb) d) ≡ loses t d
  loses_turn Nobody u = refl
  loses_turn (Claims m g) u = refl
  loses_turn (Owns m g) u = refl

  claim_turn : (t u : Turn) → claim_after t (with_arb (with_turn u d.arb) d) ≡ claim_after t d
  claim_turn Nobody u = refl
  claim_turn (Claims m g) u = refl
  claim_turn (Owns m g) u = refl

  -- so part 5 leaves a claimant that stays, and an owner as safe as before
  claim_ready : Kept d → Kept (claim d) × Claimed (claim d)
  unfolding claim
  claim_ready (still, stays) =
      let t : Turn = claim_after d.arb.turn d in
      ((still, loses_turn t t ∙ claim_keeps d.arb.turn stays), claim_turn t t ∙ claim_stays d.arb.turn)

-- ---- part 6: a fresh grant has its whole reserve before it, and an idle count of 0

-- a zeroed idle count is right on any bus
fresh_still : (b : Bus) → Still b → Still (with_idle 0 b)
fresh_still b still = (still.0, still.1, λ h. refl)

-- a reserve count of RT is 0 only for RT 00h, and an idle count of 0 is below the limit
fresh_keeps : (limit : ℕ) → eqb 0 limit ≡ false → (s : Side) (b : Bus) → runs_out limit s s.rt (with_idle 0 b) ≡ false
fresh_keeps limit some s b =
    either (λ (x : Bool). x ≡ false) (eqb s.rt 0) (λ z. ap (λ (x : Bool). s.contr.idletimer && x) some ∙ and-false s.contr.idletimer)
    (λ z. ap (λ (n : Bool). n && is_idle b) z)

-- so a fresh owner does not lose at once, and an owner is the claimant, with no grant due
granted_ready : (m : Master) (g : Ground) (d : Device) → Still d.bus → Ready (granted m g d)
unfolding granted
granted_ready Zero g d still = ((fresh_still d.bus still, fresh_keeps (idle_limit d) (limit_some d.kind) d.side0 d.bus), refl, refl)
granted_ready One g d still = ((fresh_still d.bus still, fresh_keeps (idle_limit d) (limit_some d.kind) d.side1 d.bus), refl, refl)

-- whoever is due is granted, so after part 6 nobody is
grant_ready : (t : Turn) (d : Device) → d.arb.turn ≡ t → Kept d → Claimed d → Ready (grant_from t d)
unfolding grant_from
grant_ready Nobody d e kept claimed = (kept, claimed, ap (λ (t : Turn). is_due t d) e)
grant_ready (Owns m g) d e kept claimed = (kept, claimed, ap (λ (t : Turn). is_due t d) e)
grant_ready (Claims m g) d e kept claimed =
    either Ready (is_due (Claims m g) d)
    (λ h. granted_ready m g d kept.0)
    (λ h. (kept, claimed, ap (λ (t : Turn). is_due t d) e ∙ h))

-- ---- a step leaves all of it, whatever the device was before

-- part 2 levels, part 3 loses, 4 leaves both, 5 claims, 6 grants, and 7 leaves all
pub parts_ready : (e : Event) (d : Device) → Ready (parts e d)
unfolding parts losses cut grant
parts_ready e d =
    let levelled : Device = levels (is_reset e) d.bus (effect e d) in
    let three : Device = losses levelled in
    let four : Device = cut (is_tick e) three in
    let five : Device = claim four in
    let six : Device = grant five in
    let seven : Device = connect (clock_of e) six in
    let kept = losses_kept levelled.arb.turn levelled refl (levels_still (is_reset e) d.bus (effect e d)) in
    let claimed = claim_ready four (kept_by three four (sym (cut_bare (is_tick e) three.arb.turn three)) kept) in
    ready_by six seven (sym (connect_bare (clock_of e) six)) (grant_ready five.arb.turn five refl claimed.0 claimed.1)

-- so it holds after every run, and at power-up
pub all_ready : (k : Kind) (rs : List Raw) → Ready (run k rs)
unfolding run power_up fresh_side
all_ready k rs = run_keeps Ready (λ e d h. parts_ready e d) (power_up k) rs (((λ h. refl, λ h. refl, λ h. refl), refl), refl, refl)
