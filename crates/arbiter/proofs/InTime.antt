-- In sum, over every run: a partner whose request stands has the bus at the tick that uses up the owner's reserve.
-- Assumes nothing.
use Prim.Native.Nat.{◌<◌, ◌≤◌}
use mathlib.Core.Path.{◌≡◌, sym, ap, ◌∙◌, subst}
use mathlib.Core.Bool.{true≢false}
use native.Mathlib.Omega.{arith}
use Rattle.std.specs.Prelude.{◌+◌, ◌-◌, ◌∷◌, ◌++◌}
use Rattle.arbiter.specs.Types.{true, false, List, [], Master, Ground, Sole, Owns, Device, Raw}
use Rattle.arbiter.specs.Words.{worth, partner}
use Rattle.arbiter.specs.State.{owns, is_idle}
use Rattle.arbiter.specs.Order.{is_reset}
use Rattle.arbiter.specs.Steps.{parts, run_from, run}
use Rattle.arbiter.specs.AuditWords.{next, requests, resting, reserve_of, lets_go, reset, tick, ticks_in, never, throughout}
use Rattle.arbiter.specs.Audit.{PartnerInTime, PartnerInTimeThroughout}
use Rattle.arbiter.proofs.Choice.{split, turn_owns}
use Rattle.arbiter.proofs.Runs.{never_comes, now, hence}
use Rattle.arbiter.proofs.Owner.{Next, over_next, waits, withdraws}
use Rattle.arbiter.proofs.Raws.{refuses, takes, met, tick_no_reset}
use Rattle.arbiter.proofs.Tenure.{Owner, Owned, next_owned, run_owned, keeps, over, lot, taken_fresh}
use Rattle.arbiter.proofs.Reserve.{rt_kept, reserve_kept, ends_at_tick, last_tick}
use Rattle.arbiter.proofs.Waiting.{Waiting, next_owns, next_waits}

-- ---- in line

-- p owns, or waits.
data InLine (p : Master) (d : Device) : Type 0 where
  mine : (g : Ground) → d.arb.turn ≡ Owns p g → InLine p d
  soon : Waiting p d → InLine p d

-- Who is next is in line.
next_in_line : (p : Master) {g : Ground} (d : Device) → Next p g d → InLine p d
next_in_line p {g} d n = split (resting p d) (λ r. mine g (next_owns p d n r)) (λ r. soon (next_waits p d n r))

-- It stays in line as long as its request stands and no reset comes: a loss and a withdrawal would take the request away.
stays_in_line : (p : Master) (r : Raw) (d : Device) → Owned d → reset r d ≡ false → InLine p d → requests p (next d r) ≡ true → InLine p (next d r)
stays_in_line p r d i ok (mine g t) q =
    elim (lot p r d (i p g t) ok) [ keeps k ↦ mine k.owner.ground k.owner.turn | over h c ↦ absurd (true≢false (sym q ∙ h.request)) ]
stays_in_line p r d i ok (soon w) q =
    elim (met r d) [
      | refuses x ↦ subst (InLine p) (sym x.after) (soon w)
      | takes e x ↦
          (let no : is_reset e ≡ false = sym (x.same λ f y. is_reset f) ∙ ok in
          split (lets_go p e d)
          (λ l. absurd (true≢false (sym q ∙ ap (requests p) x.after ∙ withdraws p e d no w.turn l)))
          (λ l. subst (InLine p) (sym x.after) (next_in_line p (parts e d) (waits p e d no w.turn w.request w.hold l))))
    ]

-- So over any events and a last one t.
line : (p : Master) (rs : List Raw) (t : Raw) (d : Device) → Owned d → InLine p d → never reset d rs ≡ true → reset t (run_from d rs) ≡ false
    → throughout (requests p) d (rs ++ t ∷ []) ≡ true → InLine p (next (run_from d rs) t)
unfolding run_from
line p [] t d i l nr ok st = stays_in_line p t d i ok l (now (requests p) [] (next d t) (hence (requests p) t [] d st))
line p (r ∷ rs) t d i l nr ok st =
    let first = never_comes reset r rs d nr in
    let on = hence (requests p) r (rs ++ t ∷ []) d st in
    line p rs t (next d r) (next_owned r d i) (stays_in_line p r d i first.0 l (now (requests p) (rs ++ t ∷ []) (next d r) on)) first.1 ok on

-- In line with its port at rest, it owns.
line_owns : (p : Master) (d : Device) → InLine p d → resting p d ≡ true → owns p d ≡ true
line_owns p d (mine g t) r = turn_owns p d.arb.turn t
line_owns p d (soon w) r = absurd (true≢false (sym r ∙ w.port))

-- ---- the tick that uses up the reserve

-- At that tick, with the bus idle after it, the grant is over, and a partner that requests with its port at rest owns.
follows : (m : Master) (t : Raw) (d : Device) → Owner m d → 0 < reserve_of m d → d.arb.reserve ≤ 1 → tick t d ≡ true
    → requests (partner m) (next d t) ≡ true → is_idle (next d t).bus ≡ true → resting (partner m) (next d t) ≡ true
    → owns (partner m) (next d t) ≡ true
follows m t d o rt one h q idle rest =
    let n : Device = next d t in
    elim (lot m t d o (tick_no_reset t d h)) [
      | keeps k ↦ absurd (true≢false (sym (turn_owns m n.arb.turn k.owner.turn) ∙ ends_at_tick m t d o rt one h idle))
      | over h c ↦ turn_owns (partner m) n.arb.turn (next_owns (partner m) n (over_next m n h q) rest)
    ]

pub partner_in_time : PartnerInTime
partner_in_time k m rs r later t g l h nr nw q idle rest =
    let (o, rt, one) = last_tick m r (run k rs) later g l nr nw in
    follows m t (run_from (next (run k rs) r) later) o rt one h q idle rest

-- ---- with the partner's request standing all the while

-- From any device in which m owns with its reserve count just used up by t.
by_the_tick : (m : Master) (rs : List Raw) (t : Raw) (d : Device) → Owned d → Owner m d → 0 < reserve_of m d
    → ticks_in d rs + 1 ≡ d.arb.reserve → tick t (run_from d rs) ≡ true → never reset d rs ≡ true
    → throughout (requests (partner m)) d (rs ++ t ∷ []) ≡ true → is_idle (next (run_from d rs) t).bus ≡ true
    → resting (partner m) (next (run_from d rs) t) ≡ true → owns (partner m) (next (run_from d rs) t) ≡ true
unfolding run_from ticks_in
by_the_tick m [] t d i u rt l h nr st idle rest =
    let q = now (requests (partner m)) [] (next d t) (hence (requests (partner m)) t [] d st) in
    follows m t d u rt (omega arith) h q idle rest
by_the_tick m (r ∷ rs) t d i u rt l h nr st idle rest =
    let p : Master = partner m in
    let n : Device = next d r in
    let ok = never_comes reset r rs d nr in
    let on = hence (requests p) r (rs ++ t ∷ []) d st in
    elim (lot m r d u ok.0) [
      | keeps k ↦
          (let same : reserve_of m n ≡ reserve_of m d = rt_kept m r d u ok.0 k in
          let count : n.arb.reserve ≡ d.arb.reserve - worth 1 (tick r d) = reserve_kept m r d u ok.0 k in
          by_the_tick m rs t n (next_owned r d i) k.owner (omega arith) (omega arith) h ok.1 on idle rest)
      | over o c ↦
          (let x : Next p Sole n = over_next m n o (now (requests p) (rs ++ t ∷ []) n on) in
          line_owns p (next (run_from n rs) t)
          (line p rs t n (next_owned r d i) (next_in_line p n x) ok.1 (tick_no_reset t (run_from n rs) h) on) rest)
    ]

pub partner_in_time_throughout : PartnerInTimeThroughout
partner_in_time_throughout k m rs r later t g l h nr st idle rest =
    let d : Device = next (run k rs) r in
    let new = taken_fresh m r (run k rs) g in
    let count : d.arb.reserve ≡ reserve_of m d = new.0.reserve in
    by_the_tick m later t d (next_owned r (run k rs) (run_owned k rs)) new.1 (omega arith) (omega arith) h nr st idle rest
