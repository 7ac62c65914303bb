-- The longest wait in the list of states after TICKs of a run, and in the totals of a trace.
-- Assumes nothing.
use Prim.Native.Nat.{ℕ, ◌+◌, ◌-◌, ◌≤◌}
use mathlib.Core.Path.{◌≡◌, refl, sym, ap, ap₂, subst, ◌∙◌}
use mathlib.Core.Bool.{Bool, true, false, not, ◌&&◌, ◌||◌, and-eq-true_iff}
use mathlib.Core.List.{List, [], ◌∷◌}
use lib.Dec.{ltb}
use native.Mathlib.Omega.{arith}
use borrow.Author.Tests.{lt-ltb, ltb-true}
use Rattle.std.specs.Prelude.{if◌then◌else◌}
use Rattle.arbiter.specs.Words.{worth, partner}
use Rattle.arbiter.specs.State.{owns}
use Rattle.arbiter.specs.Effects.{power_up}
use Rattle.arbiter.specs.Steps.{run_from, run}
use Rattle.arbiter.specs.AuditWords.{next, requests, reset, tick, never, throughout}
use Rattle.arbiter.specs.Traces.{events_in}
use Rattle.arbiter.specs.declared.Master.{Master}
use Rattle.arbiter.specs.declared.Master.TheVariants.{Zero, One}
use Rattle.arbiter.specs.declared.Kind.{Kind}
use Rattle.arbiter.specs.declared.Device.{Device}
use Rattle.arbiter.specs.declared.Raw.{Raw}
use Rattle.std.specs.Prelude.{Result}
use Rattle.arbiter.specs.declared.Accepted.{Accepted}
use Rattle.arbiter.specs.declared.Refusal.{Refusal}
use Rattle.audit.specs.WorstWait.{reserves_within, delayed, stops_after}
use Rattle.share.specs.States.{listed_if, states_from, tick_states, waits, front, longest}
use Rattle.share.specs.Share.{shares_in, totals_of}
use Rattle.longest.specs.Longest.{keeps_asking, waits_unready, Meets, LongestWaitBounded, LongestWaitUnheld, LongestWaitBelow, longest_of, TraceWaitBounded}
use Rattle.arbiter.proofs.Choice.{split}
use Rattle.arbiter.proofs.Runs.{never_comes, now, hence}
use Rattle.arbiter.proofs.Settled.{Ready, all_ready}
use Rattle.arbiter.proofs.Tenure.{Owned, next_owned, run_owned}
use Rattle.ranges.proofs.Fields.{DeviceFits}
use Rattle.ranges.proofs.Fits.{step_ok, power_up_ok}
use Rattle.ranges.proofs.Ranges.{Any}
use Rattle.share.proofs.Numbers.{larger_right, larger_most}
use Rattle.audit.proofs.Places.{hold_next}
use Rattle.audit.proofs.WorstWait.{Left, next_left, run_left, next_ready, at_first}
use Rattle.longest.proofs.Waiting.{stood, Bounds, stops_here, delayed_place, stands_on}

-- ---- a run

-- a hold of at most h ticks is left
abbrev held_within : ℕ → Device → Bool
held_within h d = ltb d.bus.hold (h + 1)

-- The longest of a list with one more state, or as it was.
listed : (p : Master) (b : ℕ) (c : Bool) (x : Device) (ds : List Device)
    → (c ≡ true → front (waits p) (x ∷ ds) ≤ b - 1 + longest (waits_unready p) (x ∷ ds))
    → longest (waits p) ds ≤ b - 1 + longest (waits_unready p) ds
    → longest (waits p) (listed_if c x ds) ≤ b - 1 + longest (waits_unready p) (listed_if c x ds)
unfolding longest
listed p b true x ds one on =
    let wider = larger_right (front (waits_unready p) (x ∷ ds)) (longest (waits_unready p) ds) in
    larger_most (front (waits p) (x ∷ ds)) (longest (waits p) ds) _ (one refl) (omega (arith, on, wider))
listed p b false x ds one on = on

module _ (m : Master) (most more h b : ℕ) (some : 1 ≤ most) (held : h + more + most ≤ b) (free : more + most + 1 ≤ b) where
  abbrev p : Master
  p = partner m

  -- From a tick on after which p waits: it requested before, and stands somewhere.
  from_tick : (waited : Bool) (n : ℕ) (r : Raw) (rs : List Raw) (d : Device) → Owned d → Ready d → Left d → held_within h d ≡ true
      → keeps_asking p waited d (r ∷ rs) ≡ true → throughout (reserves_within most m) d (r ∷ rs) ≡ true → stops_after m more n d (r ∷ rs) ≡ true
      → tick r d ≡ true → Bounds p b (next d r ∷ states_from (next d r) rs)
  unfolding keeps_asking states_from
  from_tick waited n r rs d i s l hold k w late t =
      let x : Device = next d r in
      split (waits p x)
      (λ wx. let asked = stood p r d t ((and-eq-true_iff (requests p x) (not (owns p x))).0 wx).0 in
      let low = ltb-true d.bus.hold (h + 1) hold in
      let start = at_first m most more b d s l asked (now (reserves_within most m) (r ∷ rs) d w) (omega arith) free in
      let asks_on = ap (λ (c : Bool). keeps_asking p (if c then waits p x else true) x rs) t
      ∙ sym (ap (λ (c : Bool). keeps_asking p (if c then waits p x else waited) x rs) t)
      ∙ ((and-eq-true_iff (not waited || requests p d) _).0 k).1 in
      subst (λ (c : Bool). Bounds p b (listed_if c x (states_from x rs))) t
      (stands_on m most more some n b (r ∷ rs) d i s (ap₂ ◌&&◌ asked asks_on) w late (delayed_place m most more n b d start)))
      (λ wx. stops_here p b x (states_from x rs) wx)

  -- Each wait of a run begins so.
  bounded : (waited : Bool) (n : ℕ) (rs : List Raw) (d : Device) → Owned d → Ready d → Left d → throughout (held_within h) d rs ≡ true
      → keeps_asking p waited d rs ≡ true → throughout (reserves_within most m) d rs ≡ true → stops_after m more n d rs ≡ true
      → longest (waits p) (states_from d rs) ≤ b - 1 + longest (waits_unready p) (states_from d rs)
  unfolding keeps_asking states_from stops_after longest
  bounded waited n [] d i s l hold k w late = omega arith
  bounded waited n (r ∷ rs) d i s l hold k w late =
      let x : Device = next d r in
      listed p b (tick r d) x (states_from x rs)
      (λ t. (from_tick waited n r rs d i s l (now (held_within h) (r ∷ rs) d hold) k w late t).all)
      (bounded (if tick r d then waits p x else waited) (delayed m n r d) rs x (next_owned r d i) (next_ready r d s) (next_left r d i l)
      (hence (held_within h) r rs d hold)
      ((and-eq-true_iff (not waited || requests p d) _).0 k).1
      (hence (reserves_within most m) r rs d w)
      ((and-eq-true_iff (ltb (delayed m n r d) (more + 2)) _).0 late).1)

-- ---- the statements

-- a hold is of 35 ticks at most,
held_most : (rs : List Raw) (d : Device) → DeviceFits Any d → throughout (held_within 35) d rs ≡ true
unfolding throughout
held_most [] d o = lt-ltb d.bus.hold 36 o.bus.0
held_most (r ∷ rs) d o = ap₂ ◌&&◌ (lt-ltb d.bus.hold 36 o.bus.0) (held_most rs (next d r) (step_ok Any tt (λ n b. tt) d r (tt, tt) o))

-- and without a reset none begins.
never_held : (rs : List Raw) (d : Device) → never reset d rs ≡ true → d.bus.hold ≡ 0 → throughout (held_within 0) d rs ≡ true
unfolding throughout
never_held [] d nr z = lt-ltb d.bus.hold 1 (omega arith)
never_held (r ∷ rs) d nr z =
    let ok = never_comes reset r rs d nr in
    let count : (next d r).bus.hold ≡ d.bus.hold - worth 1 (tick r d) = hold_next r d ok.0 in
    ap₂ ◌&&◌ (lt-ltb d.bus.hold 1 (omega arith)) (never_held rs (next d r) ok.1 (omega arith))

-- from power-up
from_power_up : (k : Kind) (rs : List Raw) (m : Master) (most more busy h b : ℕ) → Meets k rs m most more busy → h + more + most ≤ b → more + most + 1 ≤ b
    → throughout (held_within h) (power_up k) rs ≡ true → longest (waits (partner m)) (tick_states k rs) ≤ b - 1 + busy
unfolding run run_from
from_power_up k rs m most more busy h b x held free hold =
    let so = bounded m most more h b x.some held free false 0 rs (power_up k) (run_owned k []) (all_ready k []) (run_left k [])
    hold x.asks x.reserves x.stops in
    let few = x.ready in
    omega (arith, so, few)

pub longest_wait_below : LongestWaitBelow
unfolding power_up
longest_wait_below k rs m most more busy x =
    let held = from_power_up k rs m most more busy 35 (35 + most + more) x (omega arith) (omega arith)
    (held_most rs (power_up k) (power_up_ok Any tt (λ n b. tt) k)) in (
      omega (arith, held),
      λ nr. let free = from_power_up k rs m most more busy 0 (most + 1 + more) x (omega arith) (omega arith) (never_held rs (power_up k) nr refl) in
          omega (arith, free),
    )

pub longest_wait_bounded : LongestWaitBounded
longest_wait_bounded k rs m most more busy x = let less = (longest_wait_below k rs m most more busy x).0 in omega (arith, less)

pub longest_wait_unheld : LongestWaitUnheld
longest_wait_unheld k rs m most more busy x nr = let less = (longest_wait_below k rs m most more busy x).1 nr in omega (arith, less)

-- the totals of a trace have both longest waits
longest_in : (p : Master) (ds : List Device) → longest_of p (shares_in ds) ≡ longest (waits p) ds
unfolding shares_in
longest_in Zero ds = refl
longest_in One ds = refl

pub trace_wait_bounded : TraceWaitBounded
unfolding totals_of
trace_wait_bounded t address n k m most more busy a x =
    let low = longest_wait_bounded k (events_in n t) m most more busy x in
    subst (λ (j : ℕ). j ≤ 35 + most + more + busy)
    (sym (ap (λ (y : Result Accepted Refusal). longest_of (partner m) (totals_of y t)) a ∙ longest_in (partner m) (tick_states k (events_in n t)))) low
