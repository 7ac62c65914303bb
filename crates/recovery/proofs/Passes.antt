-- A silent master that has something that ends its grant, and is not inside a transfer: what stands before its partner is counted in ticks, and each tick takes
-- one
-- from it.
-- Assumes nothing.
use Prim.Native.Nat.{◌<◌, ◌≤◌}
use native.Mathlib.Omega.{arith}
use mathlib.Core.Path.{◌≡◌, refl, sym, ap, ap₂, ◌∙◌, subst}
use mathlib.Core.Bool.{true≢false, false≢true}
use mathlib.Core.Logic.{⊎_elim}
use borrow.Author.Tests.{eq-eqb, eqb-false, eqb-true}
use Rattle.std.specs.Prelude.{◌+◌, ◌-◌, ◌&&◌, ◌||◌, ◌∷◌, if◌then◌else◌}
use Rattle.ranges.specs.Names.{ℕ, Bool, true, false, not, List, [], eqb, Master, Ground, Claims, Owns, Bus, Kind, Device, Raw}
use Rattle.arbiter.specs.Rules.{limit_of, idle_limit}
use Rattle.arbiter.specs.Words.{worth, partner}
use Rattle.arbiter.specs.State.{owns_turn, owns, claims_turn, is_idle}
use Rattle.arbiter.specs.Steps.{run_from, run}
use Rattle.arbiter.specs.AuditWords.{next, requests, resting, reserve_of, idle_timer_on, reset, tick, levelled, ticks_in, never, throughout}
use Rattle.recovery.specs.Crash.{sent_by, endless, stalled_inside, idle_under, StalledOnlyIf}
use Rattle.arbiter.proofs.Choice.{split, if_true, if_false, same_self, turn_owns}
use Rattle.arbiter.proofs.KindKept.{keeps_kind, runs_of_kind}
use Rattle.arbiter.proofs.Runs.{never_comes, now, hence}
use Rattle.arbiter.proofs.Owner.{expired, over_unowned}
use Rattle.arbiter.proofs.Settled.{Ready, all_ready}
use Rattle.arbiter.proofs.Tenure.{Owner, Owned, next_owned, run_owned, Keeps, keeps, over, lot, taken_fresh}
use Rattle.arbiter.proofs.Reserve.{reserve_kept}
use Rattle.arbiter.proofs.Timer.{expires}
use Rattle.arbiter.proofs.IdleCount.{idle_found}
use Rattle.arbiter.proofs.Grounds.{has_turn}
use Rattle.ranges.proofs.Ranges.{any_ok}
use Rattle.audit.proofs.Freed.{ready_next, hold_next}
use Rattle.audit.proofs.Overtaking.{line_next, owner_next, worth_one}
use Rattle.recovery.proofs.Silent.{rt_on, timer_on}
use Rattle.recovery.proofs.CrashTurns.{due_owns, due_held, claim_step, Turned, his, owner, claimant, turned, run_spends}

-- ---- what stands before p

-- how long m's grant lasts from its beginning, and what is left of it; `zero` says that RT is 00h
abbrev whole : Bool → Master → Device → ℕ
whole zero m d = if zero then idle_limit d else reserve_of m d

abbrev left : Bool → Master → Device → ℕ
left zero m d = if zero then idle_limit d - d.bus.idle else d.arb.reserve

-- m has something that ends its grant
record Ends (zero : Bool) (m : Master) (d : Device) : Type 0 where
  rt : eqb (reserve_of m d) 0 ≡ zero
  timer : zero ≡ true → idle_timer_on m d ≡ true

-- the turn is p's and a hold of at most b ticks runs; m owns with at most b ticks left; m claims at rest, with at most b to come
data Before (zero : Bool) (m : Master) (b : ℕ) (d : Device) : Type 0 where
  mine : has_turn (partner m) d.arb.turn ≡ true → d.bus.hold ≤ b → Before zero m b d
  theirs : Owner m d → (zero ≡ true → d.bus.idle ≤ idle_limit d) → left zero m d ≤ b → Before zero m b d
  behind : (g : Ground) → d.arb.turn ≡ Claims m g → resting m d ≡ true → d.bus.hold + whole zero m d ≤ b → Before zero m b d

-- An owner with RT 00h and the timer on is below the limit.
below : (m : Master) (d : Device) → Owner m d → Ends true m d → d.bus.idle ≤ idle_limit d → d.bus.idle < idle_limit d
below m d o x h =
    let no : eqb d.bus.idle (idle_limit d) ≡ false =
    sym (ap (λ (b : Bool). b && eqb d.bus.idle (idle_limit d)) (x.timer refl)) ∙ sym (expires m d (eqb-true (reserve_of m d) 0 x.rt)) ∙ o.unlost
    in
    let other = eqb-false d.bus.idle (idle_limit d) no in
    omega arith

-- ---- one event

module _ (m : Master) (b : ℕ) (r : Raw) (d : Device) (i : Owned d) (ready : Ready d) (ok : reset r d ≡ false) (silent : sent_by m r d ≡ false)
    (q : requests (partner m) (next d r) ≡ true) where
  abbrev n : Device
  n = next d r

  abbrev less : ℕ
  less = b - worth 1 (tick r d)

  ends_on : (zero : Bool) → Ends zero m d → Ends zero m n
  ends_on zero x = record { rt = ap (λ (k : ℕ). eqb k 0) (rt_on m r d ok silent) ∙ x.rt; timer = λ z. timer_on m r d ok silent ∙ x.timer z }

  -- the turn is p's still
  mine_then : (zero : Bool) → has_turn (partner m) d.arb.turn ≡ true → d.bus.hold ≤ b → Before zero m less n
  mine_then zero h l =
      let count : n.bus.hold ≡ d.bus.hold - worth 1 (tick r d) = hold_next r d ok in
      mine (line_next (partner m) r d h q) (omega arith)

  -- an owner m keeps the grant, with a tick taken from what is left
  kept_then : (zero : Bool) → Ends zero m d → (o : Owner m d) → (zero ≡ true → d.bus.idle ≤ idle_limit d) → is_idle d.bus ≡ true → is_idle n.bus ≡ true
      → left zero m d ≤ b → Keeps m r d → Before zero m less n
  kept_then true x o low idle on l k =
      let limit : idle_limit n ≡ idle_limit d = ap limit_of (keeps_kind d r) in
      let same : n.bus ≡ (levelled r d).bus = ap (λ s. s.2) k.left in
      let under : d.bus.idle < idle_limit d = below m d o x (low refl) in
      let count : n.bus.idle ≡ d.bus.idle + worth 1 (tick r d) =
      ap (λ (y : Bus). y.idle) same ∙ idle_found r d ok idle under ∙ if_true _ 0 (ap is_idle (sym same) ∙ on)
      in
      let one : worth 1 (tick r d) ≤ 1 = worth_one (tick r d) in
      theirs k.owner (λ z. omega arith) (omega arith)
  kept_then false x o low idle on l k =
      let count : n.arb.reserve ≡ d.arb.reserve - worth 1 (tick r d) = reserve_kept m r d o ok k in
      theirs k.owner (λ z. absurd (false≢true z)) (omega arith)

  -- or the turn is p's
  theirs_then : (zero : Bool) → Ends zero m d → (o : Owner m d) → (zero ≡ true → d.bus.idle ≤ idle_limit d) → left zero m d ≤ b
      → idle_under m d ≡ true → idle_under m n ≡ true → Before zero m less n
  theirs_then zero x o low l i0 i1 =
      let own : owns m d ≡ true = turn_owns m d.arb.turn o.turn in
      let count : n.bus.hold ≡ d.bus.hold - worth 1 (tick r d) = hold_next r d ok in
      let none : d.bus.hold ≡ 0 = o.hold in
      ⊎_elim
      (λ (h : owns m n ≡ true).
      elim (lot m r d o ok) [
        | keeps k ↦ kept_then zero x o low (idle-under m d own i0) (idle-under m n h i1) l k
        | over y c ↦ absurd (true≢false (sym h ∙ over_unowned m n y))
      ])
      (λ (h : has_turn (partner m) n.arb.turn ≡ true). mine h (omega arith)) (owner_next m r d i own q)
    where
      idle-under : (m : Master) (y : Device) → owns m y ≡ true → idle_under m y ≡ true → is_idle y.bus ≡ true
      idle-under m y o h = sym (ap (λ (a : Bool). not a || is_idle y.bus) o) ∙ h

  -- a claimant m at rest is granted or waits on
  granted_then : (zero : Bool) {g : Ground} → d.arb.turn ≡ Claims m g → 1 ≤ d.bus.hold → d.bus.hold + whole zero m d ≤ b → n.arb.turn ≡ Owns m g
      → Before zero m less n
  granted_then zero t some l u =
      let new = taken_fresh m r d (ap₂ (λ (x y : Bool). not x && y) (ap (owns_turn m) t) (turn_owns m n.arb.turn u)) in
      let limit : idle_limit n ≡ idle_limit d = ap limit_of (keeps_kind d r) in
      let start : n.bus.idle ≡ 0 = new.0.idle in
      let count : n.arb.reserve ≡ reserve_of m n = new.0.reserve in
      let same : reserve_of m n ≡ reserve_of m d = rt_on m r d ok silent in
      let one : worth 1 (tick r d) ≤ 1 = worth_one (tick r d) in
      theirs new.1 (λ z. omega arith) (go zero l limit start (count ∙ same) one)
    where
      go : (zero : Bool) → d.bus.hold + whole zero m d ≤ b → idle_limit n ≡ idle_limit d → n.bus.idle ≡ 0 → n.arb.reserve ≡ reserve_of m d
          → worth 1 (tick r d) ≤ 1 → left zero m n ≤ less
      go true l limit start count one = omega arith
      go false l limit start count one = omega arith

  waits_then : (zero : Bool) {g : Ground} → 1 ≤ d.bus.hold → d.bus.hold + whole zero m d ≤ b → n.arb.turn ≡ Claims m g → resting m n ≡ true
      → Before zero m less n
  waits_then zero {g} some l u rest =
      behind g u rest (go zero l (ap limit_of (keeps_kind d r)) (rt_on m r d ok silent) (hold_next r d ok) (worth_one (tick r d)))
    where
      go : (zero : Bool) → d.bus.hold + whole zero m d ≤ b → idle_limit n ≡ idle_limit d → reserve_of m n ≡ reserve_of m d
          → n.bus.hold ≡ d.bus.hold - worth 1 (tick r d) → worth 1 (tick r d) ≤ 1 → n.bus.hold + whole zero m n ≤ less
      go true l limit same count one = omega arith
      go false l limit same count one = omega arith

  behind_then : (zero : Bool) (g : Ground) → d.arb.turn ≡ Claims m g → resting m d ≡ true → d.bus.hold + whole zero m d ≤ b → Before zero m less n
  behind_then zero g t rest l =
      let some : 1 ≤ d.bus.hold = due_held m d ready t rest in
      ⊎_elim (λ (u : n.arb.turn ≡ Owns m g). granted_then zero t some l u)
      (λ (u : (n.arb.turn ≡ Claims m g) × (resting m n ≡ true)). waits_then zero some l u.0 u.1) (claim_step m g r d ready ok silent t rest)

  before_then : (zero : Bool) → Ends zero m d → idle_under m d ≡ true → idle_under m n ≡ true → Before zero m b d → Before zero m less n
  before_then zero x i0 i1 (mine h l) = mine_then zero h l
  before_then zero x i0 i1 (theirs o low l) = theirs_then zero x o low l i0 i1
  before_then zero x i0 i1 (behind g t rest l) = behind_then zero g t rest l

-- ---- the events of a run

-- With nothing left before it, and its port at rest, p owns.
nothing_left : (zero : Bool) (m : Master) (b : ℕ) (d : Device) → b ≡ 0 → Ready d → Ends zero m d → idle_under m d ≡ true → resting (partner m) d ≡ true
    → Before zero m b d → owns (partner m) d ≡ true
nothing_left zero m b d z ready x i rest (mine h l) = due_owns (partner m) d ready (omega arith) rest h
nothing_left true m b d z ready x i rest (theirs o low l) =
    let under : d.bus.idle < idle_limit d = below m d o x (low refl) in absurd (omega arith)
nothing_left false m b d z ready x i rest (theirs o low l) =
    let idle : is_idle d.bus ≡ true = sym (ap (λ (a : Bool). not a || is_idle d.bus) (turn_owns m d.arb.turn o.turn)) ∙ i in
    let out : expired m d ≡ true = if_false _ _ x.rt ∙ ap₂ ◌&&◌ (eq-eqb d.arb.reserve 0 (omega arith)) idle in
    absurd (true≢false (sym out ∙ o.unlost))
nothing_left zero m b d z ready x i rest (behind g t shut l) =
    let some : 1 ≤ d.bus.hold = due_held m d ready t shut in absurd (beyond (whole zero m d) l)
  where
    beyond : (k : ℕ) → d.bus.hold + k ≤ b → ⊥
    beyond k y = let some : 1 ≤ d.bus.hold = due_held m d ready t shut in omega arith

stands : (zero : Bool) (m : Master) (b : ℕ) (rs : List Raw) (d : Device) → Owned d → Ready d → Ends zero m d → never reset d rs ≡ true → never (sent_by m) d rs
    ≡ true
    → throughout (requests (partner m)) d rs ≡ true → throughout (idle_under m) d rs ≡ true → b ≤ ticks_in d rs → resting (partner m) (run_from d rs) ≡ true
    → Before zero m b d → owns (partner m) (run_from d rs) ≡ true
unfolding run_from ticks_in
stands zero m b [] d i ready x nr ns st idle long rest p = nothing_left zero m b d (omega arith) ready x (now (idle_under m) [] d idle) rest p
stands zero m b (r ∷ rs) d i ready x nr ns st idle long rest p =
    let n : Device = next d r in
    let ok = never_comes reset r rs d nr in
    let silent = never_comes (sent_by m) r rs d ns in
    let more = hence (requests (partner m)) r rs d st in
    let idle1 = hence (idle_under m) r rs d idle in
    let q = now (requests (partner m)) rs n more in
    stands zero m (b - worth 1 (tick r d)) rs n (next_owned r d i) (ready_next r d ready) (ends_on m b r d i ready ok.0 silent.0 q zero x) ok.1
    silent.1 more
    idle1 (omega arith) rest
    (before_then m b r d i ready ok.0 silent.0 q zero x (now (idle_under m) (r ∷ rs) d idle) (now (idle_under m) rs n idle1) p)

-- ---- the statement

module _ (k : Kind) (m : Master) (rs : List Raw) (shut : stalled_inside m (run k rs) ≡ false) where
  abbrev d : Device
  d = run k rs

  abbrev Start : Bool → Type 0
  Start zero = Before zero m (d.bus.hold + (if zero then limit_of k else reserve_of m d)) d

  limit : idle_limit d ≡ limit_of k
  limit = ap limit_of (runs_of_kind k rs)

  start_owner : (zero : Bool) (g : Ground) → d.arb.turn ≡ Owns m g → Start zero
  start_owner true g t = let top = (any_ok k rs).bus.1 in let same = limit in theirs (run_owned k rs m g t) (λ z. omega arith) (omega arith)
  start_owner false g t =
      let low : d.arb.reserve ≤ reserve_of m d = run_spends k rs m g t in theirs (run_owned k rs m g t) (λ z. absurd (false≢true z)) (omega arith)

  start_claimant : (zero : Bool) (g : Ground) → d.arb.turn ≡ Claims m g → Start zero
  start_claimant zero g t = behind g t rested (go zero)
    where
      rested : resting m d ≡ true
      rested =
          split (resting m d) (λ y. y)
          (λ y. absurd (true≢false (sym (ap₂ (λ (a c : Bool). a && not c) (ap (claims_turn m) t ∙ same_self m) y) ∙ shut)))

      go : (zero : Bool) → d.bus.hold + whole zero m d ≤ d.bus.hold + (if zero then limit_of k else reserve_of m d)
      go true = let same = limit in omega arith
      go false = omega arith

  start : (zero : Bool) → Turned m d → Start zero
  start zero (his h) = mine h (omega arith)
  start zero (owner g t) = start_owner zero g t
  start zero (claimant g t) = start_claimant zero g t

pub stalled_only_if : StalledOnlyIf
stalled_only_if k m rs later nr ns st idle long rest out =
    split (endless m d) (λ h. ap (λ (b : Bool). b || stalled_inside m d) h)
    (λ h. split (stalled_inside m d) (λ s. ap₂ ◌||◌ h s)
    (λ s. absurd (true≢false (sym (passes (eqb (reserve_of m d) 0) refl h s) ∙ out))))
  where
    d : Device
    d = run k rs

    timed : (b t : Bool) → b && not t ≡ false → b ≡ true → t ≡ true
    timed b true h e = refl
    timed b false h e = absurd (true≢false (sym (ap (λ (x : Bool). x && true) e) ∙ h))

    passes : (zero : Bool) → eqb (reserve_of m d) 0 ≡ zero → endless m d ≡ false → stalled_inside m d ≡ false → owns (partner m) (run_from d later) ≡ true
    passes zero e h s =
        stands zero m (d.bus.hold + (if zero then limit_of k else reserve_of m d)) later d (run_owned k rs) (all_ready k rs)
        (record { rt = e; timer = λ z. timed (eqb (reserve_of m d) 0) (idle_timer_on m d) h (e ∙ z) }) nr ns st idle
        (subst (λ (b : Bool). d.bus.hold + (if b then limit_of k else reserve_of m d) ≤ ticks_in d later) e long) rest
        (start k m rs s zero (turned m d (all_ready k rs) (now (requests (partner m)) later d st)))
