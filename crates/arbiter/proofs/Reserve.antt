-- Can a reserved transfer be cut short? Over every run, an owner keeps the bus for the ticks of its reserve, and after them exactly until
-- the bus is idle.
-- Assumes nothing.
use Prim.Native.Nat.{◌<◌, ◌≤◌}
use mathlib.Core.Path.{◌≡◌, refl, sym, ap, ◌∙◌}
use mathlib.Core.Bool.{true≢false}
use native.Mathlib.Nat.{sub-zero}
use native.Mathlib.Omega.{arith}
use borrow.Author.Tests.{ne_eqb, eq-eqb}
use Rattle.std.specs.Prelude.{◌+◌, ◌-◌, ◌&&◌, ◌∷◌, ◌++◌}
use Rattle.arbiter.specs.Types.{ℕ, Bool, true, false, not, List, [], eqb, Master, Device, Raw}
use Rattle.arbiter.specs.Words.{worth}
use Rattle.arbiter.specs.State.{owns, is_idle}
use Rattle.arbiter.specs.Steps.{run_from, run}
use Rattle.arbiter.specs.AuditWords.{next, reserve_of, lets_go, reset, tick, withdrawal_of, grant_taken, levelled, ticks_in, never, throughout}
use Rattle.arbiter.specs.Audit.{ReserveLasts, ReserveEnds, ReserveExact}
use Rattle.arbiter.proofs.Choice.{split, if_false, turn_owns}
use Rattle.arbiter.proofs.Runs.{never_comes, now, hence, ticks_last}
use Rattle.arbiter.proofs.Order.{still_sides, side_kept}
use Rattle.arbiter.proofs.Owner.{expired, over_unowned}
use Rattle.arbiter.proofs.Raws.{taken_tick, tick_no_reset}
use Rattle.arbiter.proofs.Tenure.{Owner, Keeps, keeps, over, lot, taken_fresh, rt_found, reserve_found}
use Rattle.arbiter.proofs.Resets.{reset_ends}
use Rattle.arbiter.proofs.Idle.{next_idle}

-- ---- one event

module _ (m : Master) (r : Raw) (d : Device) (o : Owner m d) (ok : reset r d ≡ false) where
  -- Who keeps the grant keeps its RT, and a tick is taken from its reserve count.
  pub rt_kept : Keeps m r d → reserve_of m (next d r) ≡ reserve_of m d
  rt_kept k =
      ap (λ x. x.2) (side_kept m (next d r) (levelled r d) (still_sides (next d r) (levelled r d) k.left))
      ∙ rt_found m r d (turn_owns m d.arb.turn o.turn) ok

  pub reserve_kept : Keeps m r d → (next d r).arb.reserve ≡ d.arb.reserve - worth 1 (tick r d)
  reserve_kept k = ap (λ x. x.3) k.left ∙ reserve_found r d ok

  -- With a reserve, part 3 asks for the count and the bus.
  asked : 0 < reserve_of m d → expired m (levelled r d) ≡ eqb (levelled r d).arb.reserve 0 && is_idle (levelled r d).bus
  asked rt =
      let same : reserve_of m (levelled r d) ≡ reserve_of m d = rt_found m r d (turn_owns m d.arb.turn o.turn) ok in
      if_false _ _ (ne_eqb (reserve_of m (levelled r d)) 0 (λ x. omega arith))

  -- With a reserve that is not used up after r, it has not lost.
  unspent : 0 < reserve_of m d → worth 1 (tick r d) < d.arb.reserve → expired m (levelled r d) ≡ false
  unspent rt left =
      let l : Device = levelled r d in
      let count : l.arb.reserve ≡ d.arb.reserve - worth 1 (tick r d) = reserve_found r d ok in
      asked rt ∙ ap (λ (b : Bool). b && is_idle l.bus) (ne_eqb l.arb.reserve 0 (λ x. omega arith))

  -- With one that is, it has lost exactly if the bus is idle,
  spent : 0 < reserve_of m d → d.arb.reserve ≤ worth 1 (tick r d) → expired m (levelled r d) ≡ is_idle (levelled r d).bus
  spent rt out =
      let l : Device = levelled r d in
      let count : l.arb.reserve ≡ d.arb.reserve - worth 1 (tick r d) = reserve_found r d ok in
      asked rt ∙ ap (λ (b : Bool). b && is_idle l.bus) (eq-eqb l.arb.reserve 0 (omega arith))

  -- and so it owns exactly if the bus is not idle after r.
  pub unless_idle : 0 < reserve_of m d → d.arb.reserve ≤ worth 1 (tick r d) → withdrawal_of m r d ≡ false
      → owns m (next d r) ≡ not (is_idle (next d r).bus)
  unless_idle rt out on =
      elim (lot m r d o ok) [
        | keeps k ↦
            turn_owns m (next d r).arb.turn k.owner.turn
            ∙ sym (ap not (ap (λ s. is_idle s.2) k.left ∙ sym (spent rt out) ∙ k.unlost))
        | over h c ↦ over_unowned m (next d r) h ∙ sym (ap not (next_idle r d (sym (spent rt out) ∙ c on)))
      ]

-- At the tick that uses up the reserve, with the bus idle after it, m does not own.
pub ends_at_tick : (m : Master) (t : Raw) (d : Device) → Owner m d → 0 < reserve_of m d → d.arb.reserve ≤ 1 → tick t d ≡ true
    → is_idle (next d t).bus ≡ true → owns m (next d t) ≡ false
ends_at_tick m t d o rt one h idle =
    let now : worth 1 (tick t d) ≡ 1 = ap (worth 1) h in
    unless_idle m t d o (tick_no_reset t d h) rt (omega arith) ((taken_tick t d h).same (lets_go m)) ∙ ap not idle

-- ---- the events of a grant

-- m has in x the grant that it had in d, and n ticks have been taken from its reserve count.
pub record Kept (m : Master) (n : ℕ) (d x : Device) : Type 0 where
  pub owner : Owner m x
  pub rt : reserve_of m x ≡ reserve_of m d
  pub count : x.arb.reserve ≡ d.arb.reserve - n

kept_here : (m : Master) (d : Device) → Owner m d → Kept m 0 d d
kept_here m d o = record { owner = o; rt = refl; count = sym (sub-zero d.arb.reserve) }

kept_on : (m : Master) (r : Raw) (d x : Device) (n : ℕ) → Owner m d → reset r d ≡ false → Keeps m r d → Kept m n (next d r) x
    → Kept m (worth 1 (tick r d) + n) d x
kept_on m r d x n o ok k later =
    let first : (next d r).arb.reserve ≡ d.arb.reserve - worth 1 (tick r d) = reserve_kept m r d o ok k in
    let rest : x.arb.reserve ≡ (next d r).arb.reserve - n = later.count in
    record { owner = later.owner; rt = later.rt ∙ rt_kept m r d o ok k; count = omega arith }

-- From any device in which m owns, for as many events as bring fewer ticks than its reserve count.
pub lasts : (m : Master) (rs : List Raw) (d : Device) → Owner m d → 0 < reserve_of m d → ticks_in d rs < d.arb.reserve → never reset d rs ≡ true
    → never (withdrawal_of m) d rs ≡ true → Kept m (ticks_in d rs) d (run_from d rs)
unfolding run_from ticks_in
lasts m [] d o rt l nr nw = kept_here m d o
lasts m (r ∷ rs) d o rt l nr nw =
    let n : Device = next d r in
    let ok = never_comes reset r rs d nr in
    let on = never_comes (withdrawal_of m) r rs d nw in
    elim (lot m r d o ok.0) [
      | keeps k ↦
          (let same : reserve_of m n ≡ reserve_of m d = rt_kept m r d o ok.0 k in
          let count : n.arb.reserve ≡ d.arb.reserve - worth 1 (tick r d) = reserve_kept m r d o ok.0 k in
          kept_on m r d (run_from n rs) (ticks_in n rs) o ok.0 k (lasts m rs n k.owner (omega arith) (omega arith) ok.1 on.1))
      | over h c ↦ absurd (true≢false (sym (c on.0) ∙ unspent m r d o ok.0 rt (omega arith)))
    ]

-- From any device, over events throughout which m owns: none is a reset, and none ends the grant.
owned_on : (m : Master) (rs : List Raw) (d : Device) → Owner m d → throughout (owns m) d rs ≡ true → Kept m (ticks_in d rs) d (run_from d rs)
unfolding run_from ticks_in
owned_on m [] d o all = kept_here m d o
owned_on m (r ∷ rs) d o all =
    let n : Device = next d r in
    let on = hence (owns m) r rs d all in
    let own : owns m n ≡ true = now (owns m) rs n on in
    let ok : reset r d ≡ false = split (reset r d) (λ h. absurd (true≢false (sym own ∙ reset_ends m d r h))) (λ h. h) in
    elim (lot m r d o ok) [
      | keeps k ↦ kept_on m r d (run_from n rs) (ticks_in n rs) o ok k (owned_on m rs n k.owner on)
      | over h c ↦ absurd (true≢false (sym own ∙ over_unowned m n h))
    ]

-- ---- the statements

-- The grant that r gives to m, over events that bring fewer ticks than its reserve.
pub reserved : (m : Master) (r : Raw) (x : Device) (later : List Raw) → let d : Device = next x r in
    grant_taken m r x ≡ true → ticks_in d later < reserve_of m d → never reset d later ≡ true → never (withdrawal_of m) d later ≡ true
    → Kept m (ticks_in d later) d (run_from d later)
reserved m r x later g l nr nw =
    let d : Device = next x r in
    let new = taken_fresh m r x g in
    let count : d.arb.reserve ≡ reserve_of m d = new.0.reserve in
    lasts m later d new.1 (omega arith) (omega arith) nr nw

-- Where it has one tick left: m owns with a reserve, and the count is 1.
pub last_tick : (m : Master) (r : Raw) (x : Device) (later : List Raw) → let d : Device = next x r in
    let y : Device = run_from d later in
    grant_taken m r x ≡ true → ticks_in d later + 1 ≡ reserve_of m d → never reset d later ≡ true → never (withdrawal_of m) d later ≡ true
    → Owner m y × (0 < reserve_of m y) × (y.arb.reserve ≤ 1)
last_tick m r x later g l nr nw =
    let d : Device = next x r in
    let k = reserved m r x later g (omega arith) nr nw in
    let start : d.arb.reserve ≡ reserve_of m d = (taken_fresh m r x g).0.reserve in
    let same : reserve_of m (run_from d later) ≡ reserve_of m d = k.rt in
    let count : (run_from d later).arb.reserve ≡ d.arb.reserve - ticks_in d later = k.count in
    (k.owner, omega arith, omega arith)

pub reserve_lasts : ReserveLasts
reserve_lasts k m rs r later g l nr nw =
    let y : Device = run_from (next (run k rs) r) later in
    turn_owns m y.arb.turn (reserved m r (run k rs) later g l nr nw).owner.turn

pub reserve_ends : ReserveEnds
reserve_ends k m rs r later t g l h nr nw idle =
    let (o, rt, one) = last_tick m r (run k rs) later g l nr nw in
    ends_at_tick m t (run_from (next (run k rs) r) later) o rt one h idle

pub reserve_exact : ReserveExact
reserve_exact part m rs r later e g all rt out ok on =
    let d : Device = next (run part rs) r in
    let x : Device = run_from d later in
    let new = taken_fresh m r (run part rs) g in
    let k = owned_on m later d new.1 all in
    let start : d.arb.reserve ≡ reserve_of m d = new.0.reserve in
    let same : reserve_of m x ≡ reserve_of m d = k.rt in
    let count : x.arb.reserve ≡ d.arb.reserve - ticks_in d later = k.count in
    let ticks : ticks_in d (later ++ e ∷ []) ≡ ticks_in d later + worth 1 (tick e x) = ticks_last later e d in
    unless_idle m e x k.owner ok (omega arith) (omega arith) on
