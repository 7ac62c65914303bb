-- Whose turn it is where p asks: a claim at rest waits for a hold, and an owner has no more left of its reserve than its RT.
-- Assumes nothing.
use Prim.Native.Nat.{◌≤◌}
use native.Mathlib.Omega.{arith}
use mathlib.Core.Path.{◌≡◌, refl, sym, ap, ap₂, ◌∙◌}
use mathlib.Core.Bool.{true≢false, false≢true}
use mathlib.Core.Logic.{◌⊎◌, inl, inr}
use borrow.Author.Tests.{eq-eqb, eqb-false}
use Rattle.std.specs.Prelude.{◌-◌, ◌&&◌, ◌||◌, ◌∷◌}
use Rattle.ranges.specs.Names.{Bool, true, false, not, List, [], eqb, Master, Zero, One, Ground, Turn, Nobody, Claims, Owns, Kind}
use Rattle.ranges.specs.Names.{Device, Raw}
use Rattle.arbiter.specs.Words.{worth, partner}
use Rattle.arbiter.specs.State.{owns, claims, at_rest}
use Rattle.arbiter.specs.Effects.{power_up, effect}
use Rattle.arbiter.specs.Order.{is_reset}
use Rattle.arbiter.specs.Steps.{run_from, run}
use Rattle.arbiter.specs.AuditWords.{next, requests, resting, reserve_of, lets_go, reset, tick, throughout}
use Rattle.recovery.specs.Crash.{is_of, sent_by}
use Rattle.arbiter.proofs.Choice.{split, if_true, if_false, owns_turn_lem, turn_owns}
use Rattle.arbiter.proofs.Effects.{effect_side}
use Rattle.arbiter.proofs.Raws.{refuses, takes, met}
use Rattle.arbiter.proofs.Order.{owned}
use Rattle.arbiter.proofs.Owner.{mid, over_unowned, port_left}
use Rattle.arbiter.proofs.Settled.{Ready, is_due}
use Rattle.arbiter.proofs.Tenure.{Owned, next_owned, run_owned, keeps, over, lot, taken_fresh}
use Rattle.arbiter.proofs.Reserve.{rt_kept, reserve_kept}
use Rattle.arbiter.proofs.Resets.{reset_ends}
use Rattle.arbiter.proofs.Grounds.{has_turn, nobody_asks}
use Rattle.arbiter.proofs.Runs.{now, hence}
use Rattle.audit.proofs.Blocking.{claims_turn_lem, claimant_asks, claim_goes}
use Rattle.audit.proofs.Overtaking.{line_next}
use Rattle.recovery.proofs.Silent.{not_sent, own_lets_go, silent_kept}

-- ---- of a claim

-- Without a hold, with the port at rest, it is a grant where nothing is left to settle;
pub due_owns : (j : Master) (d : Device) → Ready d → d.bus.hold ≡ 0 → resting j d ≡ true → has_turn j d.arb.turn ≡ true → owns j d ≡ true
due_owns j d ready z rest h =
    split (claims j d)
    (λ c. let t = claims_turn_lem j d.arb.turn c in
    absurd (true≢false (sym (ap (λ (u : Turn). is_due u d) t.1 ∙ ap₂ ◌&&◌ rest (eq-eqb d.bus.hold 0 z)) ∙ ready.2)))
    (λ c. sym (ap (λ (b : Bool). b || owns j d) c) ∙ h)

-- so one with the port at rest waits for a hold.
pub due_held : (m : Master) {g : Ground} (d : Device) → Ready d → d.arb.turn ≡ Claims m g → resting m d ≡ true → 1 ≤ d.bus.hold
due_held m d ready t rest =
    let x : eqb d.bus.hold 0 ≡ false =
    sym (ap (λ (b : Bool). b && eqb d.bus.hold 0) rest) ∙ sym (ap (λ (u : Turn). is_due u d) t) ∙ ready.2 in
    let some = eqb-false d.bus.hold 0 x in omega arith

-- A silent claimant at rest is granted, or waits on at rest.
pub claim_step : (m : Master) (g : Ground) (r : Raw) (d : Device) → Ready d → reset r d ≡ false → sent_by m r d ≡ false → d.arb.turn ≡ Claims m g
    → resting m d ≡ true → ((next d r).arb.turn ≡ Owns m g) ⊎ (((next d r).arb.turn ≡ Claims m g) × (resting m (next d r) ≡ true))
claim_step m g r d ready ok silent t rest =
    elim (met r d) [
      | refuses x ↦ inr (ap (λ (y : Device). y.arb.turn) x.after ∙ t, ap (resting m) x.after ∙ rest)
      | takes e x ↦
          (let no : is_reset e ≡ false = sym (x.same λ f y. is_reset f) ∙ ok in
          let asks : requests m (effect e d) ≡ true =
          (effect_side m e d no).stands (sym (x.same (lets_go m)) ∙ not_sent m (lets_go m) (own_lets_go m) r d silent) (claimant_asks m d ready.1 t) in
          let w = ap (λ (y : Device). y.arb.turn) x.after ∙ claim_goes m e d no t asks in
          let stays : resting m (next d r) ≡ true =
          ap (resting m) x.after ∙ port_left m e d no t
          ∙ ap (λ k. at_rest k.3) (silent_kept m e d no (sym (x.same λ f y. is_of m f) ∙ silent)) ∙ rest in
          split (resting m (mid e d) && eqb (mid e d).bus.hold 0) (λ y. inl (w ∙ if_true _ _ y)) (λ y. inr (w ∙ if_false _ _ y, stays)))
    ]

-- The turn of a device in which p asks is m's or p's.
pub data Turned (m : Master) (d : Device) : Type 0 where
  his : has_turn (partner m) d.arb.turn ≡ true → Turned m d
  owner : (g : Ground) → d.arb.turn ≡ Owns m g → Turned m d
  claimant : (g : Ground) → d.arb.turn ≡ Claims m g → Turned m d

pub turned : (m : Master) (d : Device) → Ready d → requests (partner m) d ≡ true → Turned m d
turned m d ready q = go m d.arb.turn refl q
  where
    go : (m : Master) (t : Turn) → d.arb.turn ≡ t → requests (partner m) d ≡ true → Turned m d
    go Zero Nobody e q = absurd (true≢false (sym q ∙ (nobody_asks d ready e).1))
    go One Nobody e q = absurd (true≢false (sym q ∙ (nobody_asks d ready e).0))
    go Zero (Claims Zero g) e q = claimant g e
    go Zero (Claims One g) e q = his (ap (has_turn One) e)
    go One (Claims Zero g) e q = his (ap (has_turn Zero) e)
    go One (Claims One g) e q = claimant g e
    go Zero (Owns Zero g) e q = owner g e
    go Zero (Owns One g) e q = his (ap (has_turn One) e)
    go One (Owns Zero g) e q = his (ap (has_turn Zero) e)
    go One (Owns One g) e q = owner g e

-- Over events throughout which p requests, its turn stays its own.
pub line_stays : (p : Master) (rs : List Raw) (d : Device) → has_turn p d.arb.turn ≡ true → throughout (requests p) d rs ≡ true
    → has_turn p (run_from d rs).arb.turn ≡ true
unfolding run_from
line_stays p [] d h st = h
line_stays p (r ∷ rs) d h st =
    let on = hence (requests p) r rs d st in
    line_stays p rs (next d r) (line_next p r d h (now (requests p) rs (next d r) on)) on

-- ---- what is left of a reserve

-- An owner has no more left of it than its RT, in every run.
abbrev Spends : Device → Type 0
Spends d = (m : Master) (g : Ground) → d.arb.turn ≡ Owns m g → d.arb.reserve ≤ reserve_of m d

next_spends : (r : Raw) (d : Device) → Owned d → Spends d → Spends (next d r)
next_spends r d i l m g h =
    let n : Device = next d r in
    let own : owns m n ≡ true = turn_owns m n.arb.turn h in
    let ok : reset r d ≡ false = split (reset r d) (λ x. absurd (true≢false (sym own ∙ reset_ends m d r x))) (λ x. x) in
    split (owns m d)
    (λ o. let t = owns_turn_lem m d.arb.turn o in
    let u = i m t.0 t.1 in
    let low : d.arb.reserve ≤ reserve_of m d = l m t.0 t.1 in
    elim (lot m r d u ok) [
      | keeps k ↦
          (let same : reserve_of m n ≡ reserve_of m d = rt_kept m r d u ok k in
          let count : n.arb.reserve ≡ d.arb.reserve - worth 1 (tick r d) = reserve_kept m r d u ok k in
          omega arith)
      | over h c ↦ absurd (true≢false (sym own ∙ over_unowned m n h))
    ])
    (λ o. let fresh : n.arb.reserve ≡ reserve_of m n = (taken_fresh m r d (ap₂ (λ (a b : Bool). not a && b) o own)).0.reserve in omega arith)

from_spends : (rs : List Raw) (d : Device) → Owned d → Spends d → Spends (run_from d rs)
unfolding run_from
from_spends [] d i l = l
from_spends (r ∷ rs) d i l = from_spends rs (next d r) (next_owned r d i) (next_spends r d i l)

pub run_spends : (k : Kind) (rs : List Raw) (m : Master) (g : Ground) → (run k rs).arb.turn ≡ Owns m g → (run k rs).arb.reserve ≤ reserve_of m (run k rs)
unfolding run run_from power_up
run_spends k rs = from_spends rs (power_up k) (run_owned k []) (λ m g h. absurd (false≢true (ap owned h)))
