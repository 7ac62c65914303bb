-- Going on keeps what is still to be reached: the device after all ticks, and the number of ticks that change something. Of every device.
-- Assumes nothing.
use mathlib.Core.Path.{◌≡◌, refl, sym, ap, ap₂, subst, ◌∙◌}
use mathlib.Core.Bool.{Bool, true, false}
use Prim.Native.Nat.{ℕ, zero, suc, ◌+◌, ◌-◌, ◌<◌, ◌≤◌}
use lib.Dec.{eqb}
use borrow.Author.Tests.{eqb-true, eqb-false}
use native.Mathlib.Omega.{arith}
use Rattle.std.specs.Prelude.{if◌then◌else◌}
use Rattle.arbiter.specs.Words.{worth}
use Rattle.arbiter.specs.Steps.{step, run_from}
use Rattle.arbiter.specs.declared.Device.{Device}
use Rattle.arbiter.specs.declared.Stepped.{Stepped}
use Rattle.arbiter.proofs.Choice.{either, if_true, if_false}
use Rattle.quiet.specs.Counts.{least, with_counts, after_ticks}
use Rattle.quiet.specs.Quiet.{quiet_ticks, tick, ticks, Same}
use Rattle.quiet.proofs.Counts.{least_first, least_second}
use Rattle.quiet.proofs.Ticks.{quiet, after_none, ticks_after, quiet_together}
use Rattle.advance.specs.Changes.{changes, bare}
use Rattle.advance.specs.Advance.{changing, advanced_with, way_with, tick_on, jump_on, onward}
use Rattle.advance.specs.declared.Way.{Way}
use Rattle.advance.proofs.Compared.{unchanged}

-- ---- n ticks in two parts

pub ticks_more : (m n : ℕ) (d : Device) → ticks (m + n) d ≡ ticks n (ticks m d)
unfolding ticks run_from
ticks_more zero n d = let e : 0 + n ≡ n = omega arith in ap (λ (x : ℕ). ticks x d) e
ticks_more (suc m) n d = let e : suc m + n ≡ suc (m + n) = omega arith in ap (λ (x : ℕ). ticks x d) e ∙ ticks_more m n (step d tick).device

pub changing_more : (m n : ℕ) (d : Device) → changing (m + n) d ≡ changing m d + changing n (ticks m d)
unfolding changing ticks run_from
changing_more zero n d =
    let e : 0 + n ≡ n = omega arith in
    let f : changing n d ≡ 0 + changing n d = omega arith in
    ap (λ (x : ℕ). changing x d) e ∙ f
changing_more (suc m) n d =
    let e : suc m + n ≡ suc (m + n) = omega arith in
    let x : Device = (step d tick).device in
    let one : ℕ = worth 1 (changes d x) in
    let f : one + (changing m x + changing n (ticks m x)) ≡ one + changing m x + changing n (ticks m x) = omega arith in
    ap (λ (y : ℕ). changing y d) e ∙ ap (λ (y : ℕ). one + y) (changing_more m n x) ∙ f

-- ---- quiet ticks change nothing

same_back : {b c d : Device} → Same d b → Same d c → Same b c
same_back p q = record { scl = q.scl ∙ sym p.scl; sda = q.sda ∙ sym p.sda; hung = q.hung ∙ sym p.hung }

bare_after : (i j : ℕ) (d : Device) → bare (after_ticks i d) ≡ bare (after_ticks j d)
unfolding after_ticks with_counts
bare_after i j d = refl

quiet_same : (i : ℕ) (d : Device) → i + 1 ≤ quiet_ticks d → changes (after_ticks i d) (after_ticks (i + 1) d) ≡ false
quiet_same i d l =
    (unchanged (after_ticks i d) (after_ticks (i + 1) d)).1 (bare_after (i + 1) i d)
    (same_back (quiet_together d i (omega arith)).1 (quiet_together d (i + 1) l).1)

changing_after : (n i : ℕ) (d : Device) → i + n ≤ quiet_ticks d → changing n (after_ticks i d) ≡ 0
unfolding changing
changing_after zero i d l = refl
changing_after (suc n) i d l =
    let next : (step (after_ticks i d) tick).device ≡ after_ticks (i + 1) d = ap (λ (s : Stepped). s.device) (quiet d i (omega arith)) in
    ap (λ (x : Device). worth 1 (changes (after_ticks i d) x) + changing n x) next
    ∙ ap₂ (λ (b : Bool) (k : ℕ). worth 1 b + k) (quiet_same i d (omega arith)) (changing_after n (i + 1) d (omega arith))

pub changing_quiet : (j : ℕ) (d : Device) → j ≤ quiet_ticks d → changing j d ≡ 0
changing_quiet j d l = ap (changing j) (sym (after_none d)) ∙ changing_after j 0 d (omega arith)

-- ---- going on

-- what is left to reach from w
abbrev pub Kept : Way → Way → Type 0
Kept w v =
    (ticks v.left v.device ≡ ticks w.left w.device)
    × (v.reported + changing v.left v.device ≡ w.reported + changing w.left w.device)
    × (v.left < w.left)
    × (v.reported + v.left ≤ w.reported + w.left)

small : (b : Bool) → worth 1 b ≤ 1
small true = omega arith
small false = omega arith

tick_kept : (w : Way) → 0 < w.left → Kept w (tick_on w)
unfolding ticks run_from changing
tick_kept w h = go w.left refl h
  where
    d : Device
    d = w.device

    next : Device
    next = (step d tick).device

    one : ℕ
    one = worth 1 (changes d next)

    go : (n : ℕ) → w.left ≡ n → 0 < n → Kept w (tick_on w)
    go zero e p = absurd (omega arith)
    go (suc n) e p =
        let f : w.left - 1 ≡ n = omega arith in
        let s : one ≤ 1 = small (changes d next) in (
          ap (λ (x : ℕ). ticks x next) f ∙ ap (λ (x : ℕ). ticks x d) (sym e),
          let g : w.reported + one + changing n next ≡ w.reported + (one + changing n next) = omega arith in
              ap (λ (x : ℕ). w.reported + one + changing x next) f ∙ g ∙ ap (λ (x : ℕ). w.reported + changing x d) (sym e),
          omega arith,
          omega arith,
        )

jump_kept : (j : ℕ) (w : Way) → 0 < j → j ≤ quiet_ticks w.device → j ≤ w.left → Kept w (jump_on j w)
jump_kept j w p q l =
    let d : Device = w.device in
    let n : ℕ = w.left - j in
    let e : j + n ≡ w.left = omega arith in
    let after : ticks j d ≡ after_ticks j d = (quiet_together d j q).0 in
    let all : ticks w.left d ≡ ticks n (after_ticks j d) = ap (λ (x : ℕ). ticks x d) (sym e) ∙ ticks_more j n d ∙ ap (ticks n) after in
    let none : changing j d ≡ 0 = changing_quiet j d q in
    let sum : changing w.left d ≡ changing j d + changing n (after_ticks j d) = ap (λ (x : ℕ). changing x d) (sym e) ∙ changing_more j n d
    ∙ ap (λ (x : Device). changing j d + changing n x) after in
    (sym all, omega arith, omega arith, omega arith)

pub onward_kept : (w : Way) → 0 < w.left → Kept w (onward w)
unfolding onward
onward_kept w h =
    let j : ℕ = least (quiet_ticks w.device) w.left in
    either (Kept w) (eqb j 0)
    (λ e. tick_kept w h)
    (λ e.
    let some : j ≡ 0 → ⊥ = eqb-false j 0 e in
    let a : j ≤ quiet_ticks w.device = least_first (quiet_ticks w.device) w.left in
    let b : j ≤ w.left = least_second (quiet_ticks w.device) w.left in
    jump_kept j w (omega arith) a b)

-- With no tick left, from the start v, all of them are done.
pub arrived : (n : ℕ) (d : Device) (w v : Way) → v ≡ way_with d n 0 → ticks w.left w.device ≡ ticks v.left v.device
    → w.reported + changing w.left w.device ≡ v.reported + changing v.left v.device → w.left ≡ 0
    → advanced_with 0 w.device w.reported ≡ advanced_with 0 (ticks n d) (changing n d)
unfolding ticks run_from changing
arrived n d w v start there told none =
    let device : w.device ≡ ticks n d = ap (λ (x : ℕ). ticks x w.device) (sym none) ∙ there ∙ ap (λ (x : Way). ticks x.left x.device) start in
    let sum : w.reported + 0 ≡ 0 + changing n d =
    ap (λ (x : ℕ). w.reported + changing x w.device) (sym none) ∙ told ∙ ap (λ (x : Way). x.reported + changing x.left x.device) start
    in
    let reported : w.reported ≡ changing n d = omega arith in
    ap₂ (advanced_with 0) device reported
