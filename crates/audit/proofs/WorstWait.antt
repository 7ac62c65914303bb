-- A worst wait: when nothing is left of what stood before a waiting master, it owns.
-- Assumes nothing.
use Prim.Native.Nat.{◌≤◌}
use mathlib.Core.Path.{◌≡◌, refl, sym, ap, ap₂, ◌∙◌, subst}
use mathlib.Core.Bool.{true≢false, false≢true, and-eq-true_iff}
use mathlib.Core.Logic.{◌⊎◌, inl, inr, ⊎_elim}
use native.Mathlib.Nat.{sub-zero}
use native.Mathlib.Omega.{arith}
use borrow.Author.Tests.{eq-eqb, ne_eqb, ltb-true}
use Rattle.std.specs.Prelude.{◌+◌, ◌-◌, ◌&&◌, ◌∷◌}
use Rattle.ranges.specs.Names.{ℕ, Bool, true, false, not, List, [], eqb, ltb, Master, Zero, One, Ground, Turn, Nobody, Claims, Owns, Kind}
use Rattle.ranges.specs.Names.{Device, Raw}
use Rattle.arbiter.specs.Words.{worth, partner}
use Rattle.arbiter.specs.State.{owns, is_idle}
use Rattle.arbiter.specs.Effects.{power_up}
use Rattle.arbiter.specs.Order.{claim_by, new_claim, claim_after}
use Rattle.arbiter.specs.Steps.{run_from, run}
use Rattle.arbiter.specs.AuditWords.{next, requests, resting, reserve_of, reset, tick, ticks_in, never, throughout}
use Rattle.audit.specs.WorstWait.{reserves_within, delayed, stops_after, WaitIsOverWithin, WorstWaitWithin, WorstWaitWithinUnheld, WorstWait}
use Rattle.audit.specs.WorstWait.{WorstWaitUnheld, WorstWaitLate}
use Rattle.arbiter.proofs.Choice.{either, split, if_false, owns_turn_lem, turn_owns}
use Rattle.arbiter.proofs.Cases.{step_keeps}
use Rattle.arbiter.proofs.Runs.{never_comes, now, hence}
use Rattle.arbiter.proofs.Order.{owned}
use Rattle.arbiter.proofs.Owner.{expired, over_unowned}
use Rattle.arbiter.proofs.Resets.{reset_ends}
use Rattle.arbiter.proofs.Settled.{is_due, Ready, parts_ready, all_ready}
use Rattle.arbiter.proofs.Tenure.{Owned, next_owned, run_owned, keeps, over, lot, taken_fresh}
use Rattle.arbiter.proofs.Reserve.{rt_kept, reserve_kept}
use Rattle.ranges.proofs.Ranges.{any_ok}
use Rattle.audit.proofs.Places.{ahead, Place, mine, first, theirs, behind, well, place_then}

-- ---- what is left of a reserve

-- An owner has no more left of its reserve than its RT: in every run.
pub Left : Device → Type 0
Left d = (m : Master) (g : Ground) → d.arb.turn ≡ Owns m g → d.arb.reserve ≤ reserve_of m d

pub next_left : (r : Raw) (d : Device) → Owned d → Left d → Left (next d r)
unfolding Left
next_left r d i l m g h =
    let n : Device = next d r in
    let own : owns m n ≡ true = turn_owns m n.arb.turn h in
    let ok : reset r d ≡ false = split (reset r d) (λ x. absurd (true≢false (sym own ∙ reset_ends m d r x))) (λ x. x) in
    split (owns m d)
    (λ o. let t = owns_turn_lem m d.arb.turn o in
    let u = i m t.0 t.1 in
    let low : d.arb.reserve ≤ reserve_of m d = l m t.0 t.1 in
    elim (lot m r d u ok) [
      | keeps k ↦
          (let same : reserve_of m n ≡ reserve_of m d = rt_kept m r d u ok k in
          let count : n.arb.reserve ≡ d.arb.reserve - worth 1 (tick r d) = reserve_kept m r d u ok k in
          omega arith)
      | over h c ↦ absurd (true≢false (sym own ∙ over_unowned m n h))
    ])
    (λ o. let fresh : n.arb.reserve ≡ reserve_of m n = (taken_fresh m r d (ap₂ (λ (a b : Bool). not a && b) o own)).0.reserve in omega arith)

from_left : (rs : List Raw) (d : Device) → Owned d → Left d → Left (run_from d rs)
unfolding run_from
from_left [] d i l = l
from_left (r ∷ rs) d i l = from_left rs (next d r) (next_owned r d i) (next_left r d i l)

pub run_left : (k : Kind) (rs : List Raw) → Left (run k rs)
unfolding run run_from power_up Left
run_left k rs = from_left rs (power_up k) (run_owned k []) (λ m g h. absurd (false≢true (ap owned h)))

-- ---- the events of a run

-- the device at the end is settled, no owner is to lose, and p stands so
record Stands (m : Master) (most more b : ℕ) (d : Device) : Type 0 where
  owned_then : Owned d
  ready_then : Ready d
  count : ℕ
  place : Place m most more count b d

pub next_ready : (r : Raw) (d : Device) → Ready d → Ready (next d r)
next_ready r d s = step_keeps Ready (λ e x h. parts_ready e x) d r s

stand : (m : Master) (most more n b : ℕ) (rs : List Raw) (d : Device) → Owned d → Ready d
    → throughout (requests (partner m)) d rs ≡ true → never reset d rs ≡ true
    → throughout (reserves_within most m) d rs ≡ true → stops_after m more n d rs ≡ true → Place m most more n b d
    → Stands m most more (b - ticks_in d rs) (run_from d rs)
unfolding run_from ticks_in stops_after
stand m most more n b [] d i s q nr w late p =
    record { owned_then = i; ready_then = s; count = n; place = subst (λ (k : ℕ). Place m most more n k d) (sym (sub-zero b)) p }
stand m most more n b (r ∷ rs) d i s q nr w late p =
    let x : Device = next d r in
    let ok = never_comes reset r rs d nr in
    let asks_on = hence (requests (partner m)) r rs d q in
    let well-on = hence (reserves_within most m) r rs d w in
    let stops = (and-eq-true_iff (ltb (delayed m n r d) (more + 2)) (stops_after m more (delayed m n r d) x rs)).0 late in
    let soon = ltb-true (delayed m n r d) (more + 2) stops.0 in
    let p1 = place_then m most more n b r d i s ok.0 (now (requests (partner m)) rs x asks_on) (now (reserves_within most m) rs x well-on) soon p in
    let less : b - worth 1 (tick r d) - ticks_in x rs ≡ b - (worth 1 (tick r d) + ticks_in x rs) = omega arith in
    subst (λ (k : ℕ). Stands m most more k (run_from x rs)) less
    (stand m most more (delayed m n r d) (b - worth 1 (tick r d)) rs x (next_owned r d i) (next_ready r d s) asks_on ok.1 well-on stops.1 p1)

-- What holds throughout holds at the end.
pub at_end : (holds : Device → Bool) (rs : List Raw) (d : Device) → throughout holds d rs ≡ true → holds (run_from d rs) ≡ true
unfolding run_from
at_end holds [] d h = now holds [] d h
at_end holds (r ∷ rs) d h = at_end holds rs (next d r) (hence holds r rs d h)

-- With nothing left before it, the bus idle and its port at rest, p owns.
pub nothing_left : (m : Master) (most more n b : ℕ) (d : Device) → 1 ≤ most → b ≡ 0 → Owned d → Ready d → reserves_within most m d ≡ true → is_idle d.bus
    ≡ true
    → resting (partner m) d ≡ true → Place m most more n b d → owns (partner m) d ≡ true
nothing_left m most more n b d some z i s w idle rest (mine g t) = turn_owns (partner m) d.arb.turn t
nothing_left m most more n b d some z i s w idle rest (first g t h) =
    let none : d.bus.hold ≡ 0 = omega arith in
    absurd (true≢false (sym (ap₂ ◌&&◌ rest (eq-eqb d.bus.hold 0 none)) ∙ sym (ap (λ (u : Turn). is_due u d) t) ∙ s.2))
nothing_left m most more n b d some z i s w idle rest (theirs g t h) =
    let not_None = (well m most d (turn_owns m d.arb.turn t) w).0 in
    let out : expired m d ≡ true =
    if_false _ _ (ne_eqb (reserve_of m d) 0 (λ e. omega arith)) ∙ ap₂ ◌&&◌ (eq-eqb d.arb.reserve 0 (omega arith)) idle in
    absurd (true≢false (sym out ∙ (i m g t).unlost))
nothing_left m most more n b d some z i s w idle rest (behind g t h) = absurd (beyond (ahead more d.bus.hold n) h)
  where
    beyond : (k : ℕ) → k + most ≤ b → ⊥
    beyond k l = omega arith

-- ---- where p stands at first

whose : (m q : Master) → (q ≡ m) ⊎ (q ≡ partner m)
whose Zero Zero = inl refl
whose Zero One = inr refl
whose One Zero = inr refl
whose One One = inl refl

-- Where nobody has the turn, nobody requests.
abbrev is_nobody : Turn → Bool
is_nobody Nobody = true
is_nobody (Claims m g) = false
is_nobody (Owns m g) = false

neither_asks : (a b : Bool) (w : Master) (g : Ground) → is_nobody (claim_by a b w g) ≡ true → (a ≡ false) × (b ≡ false)
neither_asks false false w g h = (refl, refl)
neither_asks true false w g h = absurd (false≢true h)
neither_asks false true w g h = absurd (false≢true h)
neither_asks true true w g h = absurd (false≢true h)

nobody_asks : (j : Master) (d : Device) → is_nobody (new_claim d) ≡ true → requests j d ≡ false
nobody_asks Zero d h = (neither_asks (requests Zero d) (requests One d) _ _ h).0
nobody_asks One d h = (neither_asks (requests Zero d) (requests One d) _ _ h).1

module _ (m : Master) (most more b : ℕ) (d : Device) (s : Ready d) (l : Left d) (q : requests (partner m) d ≡ true) (w : reserves_within most m d ≡ true)
    (held : d.bus.hold + more + most ≤ b) (free : more + most + 1 ≤ b) where
  at_first_claims : (g : Ground) → d.arb.turn ≡ Claims m g → Place m most more 0 b d
  at_first_claims g t =
      behind g t (either (λ (k : ℕ). k + most ≤ b) (eqb d.bus.hold 0) (λ z. omega arith) (λ z. omega arith))

  at_first_owns : (g : Ground) → d.arb.turn ≡ Owns m g → Place m most more 0 b d
  unfolding Left
  at_first_owns g t =
      let some = (well m most d (turn_owns m d.arb.turn t) w).1 in
      let low : d.arb.reserve ≤ reserve_of m d = l m g t in
      theirs g t (omega arith)

  pub at_first : Place m most more 0 b d
  at_first = go d.arb.turn refl
    where
      go : (t : Turn) → d.arb.turn ≡ t → Place m most more 0 b d
      go Nobody t = absurd (true≢false (sym q ∙ nobody_asks (partner m) d (ap is_nobody (sym (ap (λ (u : Turn). claim_after u d) t) ∙ s.1 ∙ t))))
      go (Claims j g) t =
          ⊎_elim (λ (e : j ≡ m). at_first_claims g (t ∙ ap (λ (i : Master). Claims i g) e))
          (λ (e : j ≡ partner m). first g (t ∙ ap (λ (i : Master). Claims i g) e) (omega arith)) (whose m j)
      go (Owns j g) t =
          ⊎_elim (λ (e : j ≡ m). at_first_owns g (t ∙ ap (λ (i : Master). Owns i g) e))
          (λ (e : j ≡ partner m). mine g (t ∙ ap (λ (i : Master). Owns i g) e)) (whose m j)

-- ---- the statements

waited : (k : Kind) (m : Master) (rs later : List Raw) (most more b : ℕ) → 1 ≤ most
    → (run k rs).bus.hold + more + most ≤ b → more + most + 1 ≤ b → b ≤ ticks_in (run k rs) later
    → WaitIsOverWithin most more m (run k rs) later
waited k m rs later most more b some held free long q nr w stops idle rest =
    let d : Device = run k rs in
    let end : Device = run_from d later in
    let asks-now = now (requests (partner m)) later d q in
    let start = at_first m most more b d (all_ready k rs) (run_left k rs) asks-now (now (reserves_within most m) later d w) held free in
    let x = stand m most more 0 b later d (run_owned k rs) (all_ready k rs) q nr w stops start in
    nothing_left m most more x.count (b - ticks_in d later) end some (omega arith) x.owned_then x.ready_then
    (at_end (reserves_within most m) later d w) idle rest x.place

-- a hold is of 35 ticks at most
held_most : (k : Kind) (rs : List Raw) → (run k rs).bus.hold ≤ 35
held_most k rs = let low = (any_ok k rs).bus.0 in omega arith

pub worst_wait_within : WorstWaitWithin
worst_wait_within k m rs later most more some long =
    let top = held_most k rs in
    waited k m rs later most more (35 + most + more) some (omega arith) (omega arith) long

pub worst_wait_within_unheld : WorstWaitWithinUnheld
worst_wait_within_unheld k m rs later most more some none long =
    waited k m rs later most more (most + 1 + more) some (omega arith) (omega arith) long

-- at 255
pub worst_wait_late : WorstWaitLate
worst_wait_late k m rs later more long = worst_wait_within k m rs later 255 more (omega arith) long

pub worst_wait : WorstWait
worst_wait k m rs later long = worst_wait_within k m rs later 255 0 (omega arith) long

pub worst_wait_unheld : WorstWaitUnheld
worst_wait_unheld k m rs later none long = worst_wait_within_unheld k m rs later 255 0 (omega arith) none long
