-- A claimant that does not stop and a holder whose bus is not idle keep the bus, over every run.
-- Assumes nothing.
use mathlib.Core.Path.{◌≡◌, refl, sym, ap, ◌∙◌, subst}
use mathlib.Core.Bool.{true≢false, false≢true}
use Rattle.std.specs.Prelude.{◌&&◌, ◌∷◌, if◌then◌else◌}
use Rattle.ranges.specs.Names.{Bool, true, false, not, List, [], eqb, Master, Zero, One, Ground, Sole, Turn, Nobody, Claims, Owns, Device, Raw}
use Rattle.ranges.specs.Names.{Event, Command, Write, Read, Stop, Pair, Lines, Tick, Pulse, Reset, GeneralCall}
use Rattle.arbiter.specs.Rules.{idle_limit}
use Rattle.arbiter.specs.Words.{partner, side}
use Rattle.arbiter.specs.State.{owns_turn, claims_turn, is_idle}
use Rattle.arbiter.specs.Effects.{effect}
use Rattle.arbiter.specs.Order.{is_reset, levels, new_claim, claim_after}
use Rattle.arbiter.specs.Steps.{parts, run_from, run}
use Rattle.arbiter.specs.AuditWords.{next, requests, resting, lets_go, is_stop_of, reset, withdrawal_of, stop_of, levelled, never, throughout}
use Rattle.audit.specs.Blocking.{ClaimantBlocks, ClaimantYields, LostIdle, StalledHolderKeeps}
use Rattle.arbiter.proofs.Choice.{split, if_true, if_false, not_true, same_self, same_not, owns_turn_lem, turn_owns}
use Rattle.arbiter.proofs.KindKept.{limit_some}
use Rattle.arbiter.proofs.Runs.{never_comes, now, hence}
use Rattle.arbiter.proofs.Effects.{effect_side}
use Rattle.arbiter.proofs.Order.{owned, awarded, after, after_sides, side_kept, after_turn}
use Rattle.arbiter.proofs.Owner.{mid, expired, unheld, heir, awarded_heir, Next, sole_claim, asks, rests, claim_kept, claim_passed, port_left}
use Rattle.arbiter.proofs.Raws.{refuses, takes, met}
use Rattle.arbiter.proofs.Settled.{Claimed, levels_still, out_idle, all_ready}
use Rattle.arbiter.proofs.Idle.{next_idle}
use Rattle.arbiter.proofs.Waiting.{is_next}
use Rattle.arbiter.proofs.Tenure.{Owner, run_owned, keeps, over, lot}

-- ---- a claimant

-- m claims exactly if the turn is such.
pub claims_turn_lem : (m : Master) (t : Turn) → claims_turn m t ≡ true → (g : Ground) × (t ≡ Claims m g)
claims_turn_lem m Nobody h = absurd (false≢true h)
claims_turn_lem Zero (Claims Zero g) h = (g, refl)
claims_turn_lem Zero (Claims One g) h = absurd (false≢true h)
claims_turn_lem One (Claims Zero g) h = absurd (false≢true h)
claims_turn_lem One (Claims One g) h = (g, refl)
claims_turn_lem m (Owns k g) h = absurd (false≢true h)

-- Where m does not request, a new claim is not m's.
not_mine : (m : Master) (b : Bool) → claims_turn m (if b then Claims (partner m) Sole else Nobody) ≡ false
not_mine m true = same_not m
not_mine m false = refl

-- So a claimant that part 5 leaves as it is requests.
pub claimant_asks : (m : Master) {g : Ground} (d : Device) → Claimed d → d.arb.turn ≡ Claims m g → requests m d ≡ true
claimant_asks m {g} d c t =
    split (requests m d) (λ q. q)
    (λ q. let new : Claims m g ≡ new_claim d = sym t ∙ sym c ∙ ap (λ (u : Turn). claim_after u d) t ∙ if_false (Claims m g) (new_claim d) q in
    absurd (true≢false (sym (same_self m) ∙ ap (claims_turn m) (new ∙ sole_claim m d q) ∙ not_mine m (requests (partner m) d))))

-- What a step that is no reset makes of a claim whose request stands after part 1: what part 6 makes of it. Its request stands after it.
module _ (m : Master) {g : Ground} (e : Event) (d : Device) (ok : is_reset e ≡ false) (t : d.arb.turn ≡ Claims m g)
    (q : requests m (effect e d) ≡ true) where
  pub claim_goes : (parts e d).arb.turn ≡ awarded (Claims m g) (mid e d)
  unfolding levels
  claim_goes =
      let b : Device = mid e d in
      ap (λ (x : Device). x.arb.turn) (claim_passed m e d ok t)
      ∙ after_turn e b (ap owned (claim_kept m e d ok t))
      ∙ ap (λ (u : Turn). awarded u b) (ap (λ (u : Turn). claim_after u b) (claim_kept m e d ok t) ∙ if_true (Claims m g) (new_claim b) q)

  pub claim_asks : requests m (parts e d) ≡ true
  unfolding levels
  claim_asks =
      let b : Device = mid e d in
      ap (requests m) (claim_passed m e d ok t) ∙ ap (λ k. k.0) (side_kept m (after e b) b (after_sides e b)) ∙ q

-- m claims on some ground, requests, and its port is not at rest.
record Blocks (m : Master) (d : Device) : Type 0 where
  ground : Ground
  turn : d.arb.turn ≡ Claims m ground
  request : requests m d ≡ true
  port : resting m d ≡ false

-- It does so after an event that is no reset, no withdrawal and no STOP of its own.
parts_block : (m : Master) (e : Event) (d : Device) → Blocks m d → is_reset e ≡ false → lets_go m e d ≡ false → is_stop_of m e ≡ false
    → Blocks m (parts e d)
unfolding levels
parts_block m e d b ok on up =
    let moved = effect_side m e d ok in
    let q : requests m (effect e d) ≡ true = moved.stands on b.request in
    let unrested : resting m (effect e d) ≡ false = moved.opened up b.port in
    record {
      ground = b.ground;
      turn =
          claim_goes m e d ok b.turn q
          ∙ ap (λ (r : Bool). if r && eqb (mid e d).bus.hold 0 then Owns m b.ground else Claims m b.ground) unrested;
      request = claim_asks m e d ok b.turn q;
      port = port_left m e d ok b.turn ∙ unrested;
    }

blocks_on : (m : Master) (r : Raw) (d : Device) → Blocks m d → reset r d ≡ false → withdrawal_of m r d ≡ false → stop_of m r d ≡ false
    → Blocks m (next d r)
blocks_on m r d b ok on up =
    elim (met r d) [
      | refuses x ↦ subst (Blocks m) (sym x.after) b
      | takes e x ↦
          subst (Blocks m) (sym x.after)
          (parts_block m e d b (sym (x.same λ f y. is_reset f) ∙ ok) (sym (x.same (lets_go m)) ∙ on) (sym (x.same λ f y. is_stop_of m f) ∙ up))
    ]

-- So over any events, from any device in which it does.
blocks : (m : Master) (rs : List Raw) (d : Device) → Blocks m d → never reset d rs ≡ true → never (withdrawal_of m) d rs ≡ true
    → never (stop_of m) d rs ≡ true → Blocks m (run_from d rs)
unfolding run_from
blocks m [] d b nr nw ns = b
blocks m (r ∷ rs) d b nr nw ns =
    let ok = never_comes reset r rs d nr in
    let on = never_comes (withdrawal_of m) r rs d nw in
    let up = never_comes (stop_of m) r rs d ns in
    blocks m rs (next d r) (blocks_on m r d b ok.0 on.0 up.0) ok.1 on.1 up.1

pub claimant_blocks : ClaimantBlocks
claimant_blocks k m rs later c unrested nr nw ns =
    let d : Device = run k rs in
    let t = claims_turn_lem m d.arb.turn c in
    let q : requests m d ≡ true = claimant_asks m d (all_ready k rs).1 t.1 in
    let b : Blocks m (run_from d later) = blocks m later d (record { ground = t.0; turn = t.1; request = q; port = unrested }) nr nw ns in
    (ap (claims_turn m) b.turn ∙ same_self m, λ p. ap (owns_turn p) b.turn)

-- Its withdrawal leaves one requester, the partner, which is next.
module _ (m : Master) {g : Ground} (e : Event) (d : Device) (ok : is_reset e ≡ false) (t : d.arb.turn ≡ Claims m g) (l : lets_go m e d ≡ true) where
  abbrev p : Master
  p = partner m

  parts_yield : d.bus.hold ≡ 0 → requests p (parts e d) ≡ true → Next p Sole (parts e d)
  unfolding levels
  parts_yield z q =
      let b : Device = mid e d in
      let passed : parts e d ≡ after e b = claim_passed m e d ok t in
      let zb : b.bus.hold ≡ 0 = unheld e d ok z in
      let qb : requests p b ≡ true = sym (ap (requests p) passed ∙ asks p e b) ∙ q in
      let new : claim_after b.arb.turn b ≡ Claims p Sole =
      ap (λ (u : Turn). claim_after u b) (claim_kept m e d ok t)
      ∙ if_false (Claims m g) (new_claim b) ((effect_side m e d ok).falls l)
      ∙ sole_claim m b ((effect_side m e d ok).falls l)
      ∙ if_true (Claims p Sole) Nobody qb
      in
      record {
        request = q;
        hold = ap (λ (n : Device). n.bus.hold) passed ∙ ap (λ s. s.2) (after_sides e b) ∙ zb;
        turn =
            ap (λ (n : Device). n.arb.turn) passed
            ∙ after_turn e b (ap owned (claim_kept m e d ok t))
            ∙ ap (λ (u : Turn). awarded u b) new
            ∙ awarded_heir p Sole b zb
            ∙ ap (λ (r : Bool). heir r p Sole) (sym (ap (resting p) passed ∙ rests p e b));
      }

-- An event with m's withdrawal is no reset.
gone_no_reset : (m : Master) (e : Event) (d : Device) → lets_go m e d ≡ true → is_reset e ≡ false
gone_no_reset m (Command k c) d h = absurd (false≢true h)
gone_no_reset m (Write k v) d h = refl
gone_no_reset m (Read k) d h = absurd (false≢true h)
gone_no_reset m (Stop k) d h = absurd (false≢true h)
gone_no_reset m (Pair v0 v1) d h = refl
gone_no_reset m (Lines scl sda intin) d h = absurd (false≢true h)
gone_no_reset m Tick d h = absurd (false≢true h)
gone_no_reset m (Pulse sda) d h = absurd (false≢true h)
gone_no_reset m Reset d h = absurd (false≢true h)
gone_no_reset m (GeneralCall k b) d h = absurd (false≢true h)

pub claimant_yields : ClaimantYields
claimant_yields k m rs r c z w q =
    let d : Device = run k rs in
    let t = claims_turn_lem m d.arb.turn c in
    let n : Next (partner m) Sole (next d r) =
    elim (met r d) [
      | refuses x ↦ absurd (false≢true (sym (x.none (lets_go m)) ∙ w))
      | takes e x ↦
          (let l : lets_go m e d ≡ true = sym (x.same (lets_go m)) ∙ w in
          subst (Next (partner m) Sole) (sym x.after)
          (parts_yield m e d (gone_no_reset m e d l) t.1 l z (sym (ap (requests (partner m)) x.after) ∙ q)))
    ]
    in is_next (partner m) (next d r) n

-- ---- a holder

-- Where part 3 finds that an owner loses, in an event that is taken, the bus is idle.
lost_idle_found : (m : Master) (e : Event) (d : Device) → expired m (mid e d) ≡ true → is_idle (mid e d).bus ≡ true
lost_idle_found m e d h =
    let b : Device = mid e d in
    out_idle (idle_limit b) (limit_some b.kind) (side m b) b.arb.reserve b.bus (levels_still (is_reset e) d.bus (effect e d)) h

-- From any device in which m owns.
unlost_busy : (m : Master) (r : Raw) (d : Device) → Owner m d → reset r d ≡ false → withdrawal_of m r d ≡ false → is_idle (next d r).bus ≡ false
    → Owner m (next d r)
unlost_busy m r d o ok on busy =
    elim (lot m r d o ok) [
      | keeps k ↦ k.owner
      | over h c ↦ absurd (true≢false (sym (next_idle r d (idle (c on))) ∙ busy))
    ]
  where
    idle : expired m (levelled r d) ≡ true → is_idle (levelled r d).bus ≡ true
    idle h =
        elim (met r d) [
          | refuses x ↦ absurd (true≢false (sym h ∙ ap (expired m) x.middle ∙ o.unlost))
          | takes e x ↦ ap (λ (n : Device). is_idle n.bus) x.middle ∙ lost_idle_found m e d (sym (ap (expired m) x.middle) ∙ h)
        ]

pub lost_idle : LostIdle
lost_idle k m rs r own ok on busy =
    let d : Device = run k rs in
    let t = owns_turn_lem m d.arb.turn own in
    turn_owns m (next d r).arb.turn (unlost_busy m r d (run_owned k rs m t.0 t.1) ok on busy).turn

-- the bus is not idle
abbrev stalled : Device → Bool
stalled d = not (is_idle d.bus)

stays_owner : (m : Master) (rs : List Raw) (d : Device) → Owner m d → never reset d rs ≡ true → never (withdrawal_of m) d rs ≡ true
    → throughout stalled d rs ≡ true → Owner m (run_from d rs)
unfolding run_from
stays_owner m [] d o nr nw s = o
stays_owner m (r ∷ rs) d o nr nw s =
    let n : Device = next d r in
    let ok = never_comes reset r rs d nr in
    let on = never_comes (withdrawal_of m) r rs d nw in
    let later = hence stalled r rs d s in
    stays_owner m rs n (unlost_busy m r d o ok.0 on.0 (not_true (is_idle n.bus) (now stalled rs n later))) ok.1 on.1 later

pub stalled_holder_keeps : StalledHolderKeeps
stalled_holder_keeps k m rs later own nr nw s =
    let d : Device = run k rs in
    let t = owns_turn_lem m d.arb.turn own in
    turn_owns m (run_from d later).arb.turn (stays_owner m later d (run_owned k rs m t.0 t.1) nr nw s).turn
