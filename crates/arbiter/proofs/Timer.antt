-- What does a reserve of 00h mean? Over every run, the grant lasts until it is let go, or with the idle timer on until the idle count is at the limit.
-- Assumes nothing.
use mathlib.Core.Path.{◌≡◌, refl, sym, ap, ◌∙◌}
use mathlib.Core.Bool.{true≢false}
use borrow.Author.Tests.{eq-eqb}
use Rattle.std.specs.Prelude.{◌&&◌, ◌∷◌}
use Rattle.arbiter.specs.Types.{Bool, true, false, not, List, [], eqb, Master, Zero, One, Turn, Nobody, Claims, Owns, Kind, Device, Raw}
use Rattle.arbiter.specs.State.{owns}
use Rattle.arbiter.specs.Rules.{limit_of, idle_limit}
use Rattle.arbiter.specs.Order.{lost, losses_from, losses}
use Rattle.arbiter.specs.Steps.{parts, run_from, run}
use Rattle.arbiter.specs.AuditWords.{next, reserve_of, idle_timer_on, reset, withdrawal_of, levelled, never, throughout}
use Rattle.arbiter.specs.Audit.{HeldUntilLetGo, IdleTimerExact}
use Rattle.arbiter.proofs.Choice.{either, if_true, not_true, owns_turn_lem, turn_owns}
use Rattle.arbiter.proofs.KindKept.{levelled_kind, runs_of_kind}
use Rattle.arbiter.proofs.Runs.{never_comes, now, hence}
use Rattle.arbiter.proofs.Order.{side_kept, after, after_sides}
use Rattle.arbiter.proofs.Owner.{mid, expired, over_unowned}
use Rattle.arbiter.proofs.Raws.{refuses, takes, met}
use Rattle.arbiter.proofs.Tenure.{Owner, run_owned, keeps, over, lot, taken_fresh, rt_found}
use Rattle.arbiter.proofs.Reserve.{rt_kept}

-- With a reserve of 00h part 3 asks for the idle timer and the idle count.
pub expires : (m : Master) (d : Device) → reserve_of m d ≡ 0 → expired m d ≡ (idle_timer_on m d && eqb d.bus.idle (idle_limit d))
expires m d z = if_true _ _ (eq-eqb (reserve_of m d) 0 z)

-- ---- the idle timer

-- A loss leaves the timers as they were.
lost_timer : (m k : Master) (d : Device) → idle_timer_on m (lost k d) ≡ idle_timer_on m d
unfolding lost
lost_timer Zero Zero d = refl
lost_timer Zero One d = refl
lost_timer One Zero d = refl
lost_timer One One d = refl

losses_timer : (m : Master) (t : Turn) (d : Device) → idle_timer_on m (losses_from t d) ≡ idle_timer_on m d
unfolding losses_from
losses_timer m Nobody d = refl
losses_timer m (Claims k g) d = refl
losses_timer m (Owns k g) d = either (λ (n : Device). idle_timer_on m n ≡ idle_timer_on m d) (expired k d) (λ h. lost_timer m k d) (λ h. refl)

-- What the timer is when part 3 looks it is after the step.
timer_left : (m : Master) (r : Raw) (d : Device) → idle_timer_on m (next d r) ≡ idle_timer_on m (levelled r d)
unfolding parts losses
timer_left m r d =
    elim (met r d) [
      | refuses x ↦ ap (idle_timer_on m) (x.after ∙ sym x.middle)
      | takes e x ↦
          (let b : Device = mid e d in
          ap (idle_timer_on m) x.after
          ∙ ap (λ k. k.1) (side_kept m (after e (losses b)) (losses b) (after_sides e (losses b)))
          ∙ losses_timer m b.arb.turn b
          ∙ sym (ap (idle_timer_on m) x.middle))
    ]

-- ---- with the timer off

-- From any device in which m owns with a reserve of 00h.
held : (m : Master) (rs : List Raw) (d : Device) → Owner m d → reserve_of m d ≡ 0 → never reset d rs ≡ true → never (withdrawal_of m) d rs ≡ true
    → throughout (λ (x : Device). not (idle_timer_on m x)) d rs ≡ true → owns m (run_from d rs) ≡ true
unfolding run_from
held m [] d o z nr nw off = turn_owns m d.arb.turn o.turn
held m (r ∷ rs) d o z nr nw off =
    let n : Device = next d r in
    let l : Device = levelled r d in
    let ok = never_comes reset r rs d nr in
    let on = never_comes (withdrawal_of m) r rs d nw in
    let later = hence (λ (x : Device). not (idle_timer_on m x)) r rs d off in
    elim (lot m r d o ok.0) [
      | keeps k ↦ held m rs n k.owner (rt_kept m r d o ok.0 k ∙ z) ok.1 on.1 later
      | over h c ↦
          (let zl : reserve_of m l ≡ 0 = rt_found m r d (turn_owns m d.arb.turn o.turn) ok.0 ∙ z in
          let ol : idle_timer_on m l ≡ false =
          sym (timer_left m r d) ∙ not_true (idle_timer_on m n) (now (λ (x : Device). not (idle_timer_on m x)) rs n later)
          in
          absurd
          (true≢false (sym (c on.0) ∙ expires m l zl ∙ ap (λ (b : Bool). b && eqb l.bus.idle (idle_limit l)) ol)))
    ]

pub held_until_let_go : HeldUntilLetGo
held_until_let_go k m rs r later g z nr nw off = held m later (next (run k rs) r) (taken_fresh m r (run k rs) g).1 z nr nw off

-- ---- with the timer on

-- From any device in which m owns with a reserve of 00h.
exact : (m : Master) (r : Raw) (d : Device) → Owner m d → reserve_of m d ≡ 0 → reset r d ≡ false → withdrawal_of m r d ≡ false
    → owns m (next d r) ≡ not (idle_timer_on m (levelled r d) && eqb (levelled r d).bus.idle (idle_limit d))
exact m r d o z ok on =
    let l : Device = levelled r d in
    let own : owns m d ≡ true = turn_owns m d.arb.turn o.turn in
    let x : expired m l ≡ (idle_timer_on m l && eqb l.bus.idle (idle_limit d)) =
    expires m l (rt_found m r d own ok ∙ z) ∙ ap (λ (k : Kind). idle_timer_on m l && eqb l.bus.idle (limit_of k)) (levelled_kind r d)
    in
    elim (lot m r d o ok) [
      | keeps k ↦ turn_owns m (next d r).arb.turn k.owner.turn ∙ sym (ap not (sym x ∙ k.unlost))
      | over h c ↦ over_unowned m (next d r) h ∙ sym (ap not (sym x ∙ c on))
    ]

pub idle_timer_exact : IdleTimerExact
idle_timer_exact k m rs r own z ok on =
    let d : Device = run k rs in
    let l : Device = levelled r d in
    let t = owns_turn_lem m d.arb.turn own in
    exact m r d (run_owned k rs m t.0 t.1) z ok on
    ∙ ap (λ (j : Kind). not (idle_timer_on m l && eqb l.bus.idle (limit_of j))) (runs_of_kind k rs)
