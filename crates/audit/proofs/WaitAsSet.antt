-- A reserve stays within what RT was set to, and the wait of the partner with it.
-- Assumes nothing.
use Prim.Native.Nat.{◌≤◌}
use mathlib.Core.Path.{◌≡◌, refl, sym, ap, ap₂, ◌∙◌, subst}
use mathlib.Core.Bool.{true≢false, false≢true, or-true, and-eq-true_iff}
use native.Mathlib.Omega.{arith}
use borrow.Author.Tests.{eq-eqb, lt-ltb, ltb-true}
use Rattle.std.specs.Prelude.{◌+◌, ◌-◌, ◌&&◌, ◌||◌, ◌∷◌, ◌++◌}
use Rattle.ranges.specs.Names.{ℕ, Bool, true, false, not, List, [], eqb, ltb, Master, Zero, One, Kind, Device, Raw}
use Rattle.arbiter.specs.Words.{worth}
use Rattle.arbiter.specs.State.{owns}
use Rattle.arbiter.specs.Effects.{power_up}
use Rattle.arbiter.specs.Steps.{run_from, run}
use Rattle.arbiter.specs.AuditWords.{next, reserve_of, reset, tick, ticks_in, never, throughout}
use Rattle.audit.specs.WorstWait.{WaitIsOverWithin}
use Rattle.audit.specs.SettingsKept.{byte_by, stores, stores_rt}
use Rattle.audit.specs.WaitAsSet.{is_within, stores_beyond, ReservesKept, ReservesAsSet, WaitAsSet, BothReserve}
use Rattle.arbiter.proofs.Choice.{split}
use Rattle.arbiter.proofs.Raws.{refuses, takes, met}
use Rattle.arbiter.proofs.Runs.{from_append, never_comes}
use Rattle.audit.proofs.Places.{hold_next}
use Rattle.audit.proofs.Transfer.{never_both}
use Rattle.audit.proofs.SettingsKept.{rt_kept, rt_stored}
use Rattle.audit.proofs.WorstWait.{worst_wait_within_unheld}

-- ---- one event

-- A test that fails with another one does not, where the first holds: the other does.
other_holds : (a b : Bool) → a ≡ true → a && not b ≡ false → b ≡ true
other_holds true true h k = refl
other_holds true false h k = absurd (true≢false k)
other_holds false b h k = absurd (false≢true h)

-- RT stays within
next_within : (m : Master) (most : ℕ) (r : Raw) (d : Device) → reset r d ≡ false → stores_beyond most m r d ≡ false
    → is_within most (reserve_of m d) ≡ true → is_within most (reserve_of m (next d r)) ≡ true
next_within m most r d ok unstored w =
    split (stores_rt m r d)
    (λ h. elim (met r d) [
      | refuses x ↦ absurd (false≢true (sym (x.none (stores m)) ∙ h))
      | takes e x ↦
          (let is : stores m e d ≡ true = sym (x.same (stores m)) ∙ h in
          let good : is_within most (byte_by m e) ≡ true =
          other_holds (stores m e d) (is_within most (byte_by m e)) is (sym (x.same λ f y. stores m f y && not (is_within most (byte_by m f))) ∙ unstored) in
          let now : reserve_of m (next d r) ≡ byte_by m e =
          rt_stored m d r (byte_by m e)
          (x.same (λ f y. stores m f y && eqb (byte_by m f) (byte_by m e)) ∙ ap₂ ◌&&◌ is (eq-eqb (byte_by m e) (byte_by m e) refl)) in
          ap (is_within most) now ∙ good)
    ])
    (λ h. ap (is_within most) (rt_kept m d r ok h) ∙ w)

-- ---- many

pub reserves_kept : ReservesKept
unfolding throughout
reserves_kept m d [] most w nr ns = ap (λ (b : Bool). not (owns m d) || b) w ∙ or-true (not (owns m d))
reserves_kept m d (r ∷ rs) most w nr ns =
    let ok = never_comes reset r rs d nr in
    let unstored = never_comes (stores_beyond most m) r rs d ns in
    ap₂ ◌&&◌ (ap (λ (b : Bool). not (owns m d) || b) w ∙ or-true (not (owns m d)))
    (reserves_kept m (next d r) rs most (next_within m most r d ok.0 unstored.0 w) ok.1 unstored.1)

-- and-ing a test to one that fails
none_beyond : (most : ℕ) (m : Master) (r : Raw) (d : Device) → stores_rt m r d ≡ false → stores_beyond most m r d ≡ false
none_beyond most m r d h =
    elim (met r d) [
      | refuses x ↦ x.none λ f y. stores m f y && not (is_within most (byte_by m f))
      | takes e x ↦
          ((x.same λ f y. stores m f y && not (is_within most (byte_by m f)))
          ∙ ap (λ (b : Bool). b && not (is_within most (byte_by m e))) (sym (x.same (stores m)) ∙ h))
    ]

pub never_beyond : (most : ℕ) (m : Master) (rs : List Raw) (d : Device) → never (stores_rt m) d rs ≡ true → never (stores_beyond most m) d rs ≡ true
unfolding never
never_beyond most m [] d h = refl
never_beyond most m (r ∷ rs) d h =
    let both = never_comes (stores_rt m) r rs d h in
    ap₂ (λ (a b : Bool). not a && b) (none_beyond most m r d both.0) (never_beyond most m rs (next d r) both.1)

-- A reserve is within itself.
pub within_self : (n : ℕ) → 1 ≤ n → is_within n n ≡ true
within_self n h = ap₂ ◌&&◌ (lt-ltb 0 n (omega arith)) (lt-ltb n (n + 1) (omega arith))

pub reserves_as_set : ReservesAsSet
reserves_as_set m d rs some nr ns =
    reserves_kept m d rs (reserve_of m d) (within_self (reserve_of m d) some) nr (never_beyond (reserve_of m d) m rs d ns)

pub both_reserve : BothReserve
both_reserve d rs some0 some1 nr ns0 ns1 = (reserves_as_set Zero d rs some0 nr ns0, reserves_as_set One d rs some1 nr ns1)

-- ---- the wait

-- RT is still within after some events, and no hold runs.
from_within : (m : Master) (most : ℕ) (rs : List Raw) (d : Device) → never reset d rs ≡ true → never (stores_beyond most m) d rs ≡ true
    → is_within most (reserve_of m d) ≡ true → is_within most (reserve_of m (run_from d rs)) ≡ true
unfolding run_from
from_within m most [] d nr ns w = w
from_within m most (r ∷ rs) d nr ns w =
    let ok = never_comes reset r rs d nr in
    let unstored = never_comes (stores_beyond most m) r rs d ns in
    from_within m most rs (next d r) ok.1 unstored.1 (next_within m most r d ok.0 unstored.0 w)

from_unheld : (rs : List Raw) (d : Device) → never reset d rs ≡ true → d.bus.hold ≡ 0 → (run_from d rs).bus.hold ≡ 0
unfolding run_from
from_unheld [] d nr z = z
from_unheld (r ∷ rs) d nr z =
    let ok = never_comes reset r rs d nr in
    let count : (next d r).bus.hold ≡ d.bus.hold - worth 1 (tick r d) = hold_next r d ok.0 in
    from_unheld rs (next d r) ok.1 (omega arith)

-- there is some room: what lies within it is not 0
within_some : (most n : ℕ) → is_within most n ≡ true → 1 ≤ most
within_some most n h =
    let both = (and-eq-true_iff (ltb 0 n) (ltb n (most + 1))).0 h in
    let low = ltb-true 0 n both.0 in
    let high = ltb-true n (most + 1) both.1 in
    omega arith

-- the same over a run of a kind from power-up
unheld_wait : (k : Kind) (m : Master) (rs later : List Raw) (most more : ℕ) (d : Device) → run k rs ≡ d → 1 ≤ most → d.bus.hold ≡ 0
    → most + 1 + more ≤ ticks_in d later → WaitIsOverWithin most more m d later
unheld_wait k m rs later most more d e some =
    subst (λ (x : Device). x.bus.hold ≡ 0 → most + 1 + more ≤ ticks_in x later → WaitIsOverWithin most more m x later) e
    (worst_wait_within_unheld k m rs later most more some)

pub wait_as_set : WaitAsSet
unfolding run
wait_as_set k m rs before later most more w z nr ns long q stops idle rest =
    let start : Device = run k rs in
    let d : Device = run_from start before in
    let resets = never_both reset before later start nr in
    let bytes = never_both (stores_beyond most m) before later start ns in
    let good = from_within m most before start resets.0 bytes.0 w in
    unheld_wait k m (rs ++ before) later most more d (from_append rs before (power_up k)) (within_some most (reserve_of m start) w)
    (from_unheld before start resets.0 z) long q resets.1 (reserves_kept m d later most good resets.1 bytes.1) stops idle rest
