-- One tick of the bus that leaves SCL as it is: the lines stay, SCL's count does not fall, and a bus stays hung.
-- Assumes nothing.
use Prim.Native.Nat.{ℕ, ◌+◌, ◌-◌, ◌≤◌}
use mathlib.Core.Path.{◌≡◌, refl, ap, ap₂, ◌∙◌}
use mathlib.Core.Bool.{Bool, true, false, not, ◌&&◌, ◌||◌, false≢true, and-eq-true_iff}
use lib.Dec.{eqb, ltb}
use borrow.Author.Tests.{eqb-true, ltb-true, ltb-false, lt-ltb}
use native.Mathlib.Omega.{arith}
use Rattle.arbiter.specs.State.{scl_high, sda_high, scl_hung_limit, sda_hung_limit, bus_hung}
use Rattle.arbiter.specs.Effects.{counted_to, ticked_bus}
use Rattle.arbiter.specs.Order.{cut_ticks}
use Rattle.arbiter.specs.declared.Bus.{Bus}
use Rattle.arbiter.proofs.Choice.{either, split, if_true, if_false}

-- ---- a count

-- it rises by one at most, does not fall,
pub counted_most : (top : ℕ) (up : Bool) (n : ℕ) → counted_to top up n ≤ n + 1
counted_most top up n = either (λ (x : ℕ). x ≤ n + 1) (up && ltb n top) (λ h. omega arith) (λ h. omega arith)

counted_least : (top : ℕ) (up : Bool) (n : ℕ) → n ≤ counted_to top up n
counted_least top up n = either (λ (x : ℕ). n ≤ x) (up && ltb n top) (λ h. omega arith) (λ h. omega arith)

-- and stays at its top.
counted_full : (top : ℕ) (up : Bool) (n : ℕ) → eqb n top ≡ true → eqb (counted_to top up n) top ≡ true
counted_full top up n h =
    split (up && ltb n top)
    (λ x. let low = ltb-true n top ((and-eq-true_iff up (ltb n top)).0 x).1 in let full = eqb-true n top h in absurd (omega arith))
    (λ x. ap (λ (y : ℕ). eqb y top) (if_false (n + 1) n x) ∙ h)

-- So a count below that of the cut was below it,
pub uncut_before : (up : Bool) (n : ℕ) → ltb (counted_to scl_hung_limit up n) cut_ticks ≡ true → ltb n cut_ticks ≡ true
uncut_before up n h =
    let below = ltb-true (counted_to 500 up n) 35 h in
    let least = counted_least 500 up n in
    lt-ltb n 35 (omega arith)

-- one that the tick makes that of the cut was below it,
pub cut_before : (up : Bool) (n : ℕ) → up ≡ true → eqb (counted_to scl_hung_limit up n) cut_ticks ≡ true → ltb n cut_ticks ≡ true
cut_before up n u h =
    split (ltb n 35) (λ x. x)
    (λ x.
    let past = ltb-false n 35 x in
    let made = eqb-true (counted_to 500 up n) 35 h in
    let least = counted_least 500 up n in
    let is : n ≡ 35 = omega arith in
    let more : counted_to 500 up n ≡ n + 1 = if_true (n + 1) n (ap₂ ◌&&◌ u (lt-ltb n 500 (omega arith))) in
    absurd (omega arith))

-- and a hung bus is hung after it.
either_holds : (a b c e : Bool) → (a ≡ true → c ≡ true) → (b ≡ true → e ≡ true) → a || b ≡ true → c || e ≡ true
either_holds true b c e f g h = ap (λ (x : Bool). x || e) (f refl)
either_holds false true true e f g h = refl
either_holds false true false e f g h = g refl
either_holds false false c e f g h = absurd (false≢true h)

pub hung_stays : (limit : ℕ) (b : Bus) → bus_hung b ≡ true → bus_hung (ticked_bus limit b) ≡ true
hung_stays limit b h =
    either_holds (eqb b.lowscl scl_hung_limit) (eqb b.lowsda sda_hung_limit) _ _ (counted_full scl_hung_limit (not (scl_high b)) b.lowscl)
    (counted_full sda_hung_limit (not (sda_high b)) b.lowsda) h

-- With both lines high no low count moves.
pub hung_high : (limit : ℕ) (b : Bus) → scl_high b && sda_high b ≡ true → bus_hung (ticked_bus limit b) ≡ bus_hung b
hung_high limit b h =
    let high = (and-eq-true_iff (scl_high b) (sda_high b)).0 h in
    ap₂ (λ (s a : Bool). eqb (counted_to scl_hung_limit (not s) b.lowscl) scl_hung_limit || eqb (counted_to sda_hung_limit (not a) b.lowsda) sda_hung_limit)
    high.0 high.1

-- ---- the levels

-- a bus with a low line is not idle
pub low_busy : (free scl sda : Bool) → scl && sda ≡ false → free && scl && sda ≡ false
low_busy true scl sda h = h
low_busy false scl sda h = refl
