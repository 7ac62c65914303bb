-- A reserved transfer: a master that is connected stays so while its reserve lasts, over every run.
-- Assumes nothing.
use Prim.Native.Nat.{◌<◌}
use mathlib.Core.Path.{◌≡◌, refl, ap, ap₂}
use native.Mathlib.Omega.{arith}
use Rattle.std.specs.Prelude.{◌+◌, ◌-◌, ◌&&◌, ◌∷◌, ◌++◌}
use Rattle.ranges.specs.Names.{Bool, true, not, List, [], Master, Device, Raw}
use Rattle.arbiter.specs.Words.{worth}
use Rattle.arbiter.specs.State.{owns}
use Rattle.arbiter.specs.Steps.{run_from, run}
use Rattle.arbiter.specs.AuditWords.{next, reserve_of, reset, tick, withdrawal_of, ticks_in, never, throughout}
use Rattle.audit.specs.Connection.{TransferLasts}
use Rattle.arbiter.proofs.Choice.{turn_owns}
use Rattle.arbiter.proofs.Runs.{never_comes}
use Rattle.arbiter.proofs.Connected.{Served, step_served, all_served}
use Rattle.arbiter.proofs.Tenure.{Owner, next_owned, run_owned, taken_fresh}
use Rattle.arbiter.proofs.Reserve.{Kept, lasts, reserved}
use Rattle.audit.proofs.Freed.{owned_from}
use Rattle.audit.proofs.Connection.{stays_connected_from}

-- The switch serves the owner that asks after any events.
served_from : (rs : List Raw) (d : Device) → Served d → Served (run_from d rs)
unfolding run_from
served_from [] d h = h
served_from (r ∷ rs) d h = served_from rs (next d r) (step_served d r h)

-- What is said of the events xs and ys is said of xs, and of ys from where xs lead.
pub never_both : (such : Raw → Device → Bool) (xs ys : List Raw) (d : Device) → never such d (xs ++ ys) ≡ true
    → (never such d xs ≡ true) × (never such (run_from d xs) ys ≡ true)
unfolding run_from never
never_both such [] ys d h = (refl, h)
never_both such (x ∷ xs) ys d h =
    let first = never_comes such x (xs ++ ys) d h in
    let rest = never_both such xs ys (next d x) first.1 in
    (ap₂ (λ (a b : Bool). not a && b) first.0 rest.0, rest.1)

ticks_both : (xs ys : List Raw) (d : Device) → ticks_in d (xs ++ ys) ≡ ticks_in d xs + ticks_in (run_from d xs) ys
unfolding run_from ticks_in
ticks_both [] ys d = omega arith
ticks_both (x ∷ xs) ys d =
    let n : Device = next d x in
    let rest : ticks_in n (xs ++ ys) ≡ ticks_in n xs + ticks_in (run_from n xs) ys = ticks_both xs ys n in
    omega arith

-- m owns all the while that its reserve lasts.
owns_while : (m : Master) (rs : List Raw) (d : Device) → Owner m d → 0 < reserve_of m d → ticks_in d rs < d.arb.reserve → never reset d rs ≡ true
    → never (withdrawal_of m) d rs ≡ true → throughout (owns m) d rs ≡ true
unfolding throughout ticks_in run_from never
owns_while m [] d o rt l nr nw = turn_owns m d.arb.turn o.turn
owns_while m (r ∷ rs) d o rt l nr nw =
    let n : Device = next d r in
    let ok = never_comes reset r rs d nr in
    let on = never_comes (withdrawal_of m) r rs d nw in
    let one : Kept m (ticks_in d (r ∷ [])) d n =
    lasts m (r ∷ []) d o rt (omega arith) (ap (λ (b : Bool). not b && true) ok.0) (ap (λ (b : Bool). not b && true) on.0)
    in
    let same : reserve_of m n ≡ reserve_of m d = one.rt in
    let count : n.arb.reserve ≡ d.arb.reserve - (worth 1 (tick r d) + 0) = one.count in
    ap₂ ◌&&◌ (turn_owns m d.arb.turn o.turn) (owns_while m rs n one.owner (omega arith) (omega arith) ok.1 on.1)

pub transfer_lasts : TransferLasts
transfer_lasts k m rs r before later g h l nr nw nd nc =
    let d : Device = next (run k rs) r in
    let x : Device = run_from d before in
    let resets = never_both reset before later d nr in
    let leaves = never_both (withdrawal_of m) before later d nw in
    let ticks : ticks_in d (before ++ later) ≡ ticks_in d before + ticks_in x later = ticks_both before later d in
    let start : d.arb.reserve ≡ reserve_of m d = (taken_fresh m r (run k rs) g).0.reserve in
    let kept : Kept m (ticks_in d before) d x = reserved m r (run k rs) before g (omega arith) resets.0 leaves.0 in
    let same : reserve_of m x ≡ reserve_of m d = kept.rt in
    let count : x.arb.reserve ≡ d.arb.reserve - ticks_in d before = kept.count in
    stays_connected_from m later x (owned_from before d (next_owned r (run k rs) (run_owned k rs)))
    (served_from before d (step_served (run k rs) r (all_served k rs))) h
    (owns_while m later x kept.owner (omega arith) (omega arith) resets.1 leaves.1) nd nc
