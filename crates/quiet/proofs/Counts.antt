-- What a count is after j ticks: one tick more adds one, and none that has ticks left reaches what ends it.
-- Assumes nothing.
use mathlib.Core.Path.{◌≡◌, refl, sym, ap, ◌∙◌}
use mathlib.Core.Bool.{Bool, true, false, not, ◌&&◌}
use Prim.Native.Nat.{ℕ, ◌-◌, ◌+◌, ◌<◌, ◌≤◌}
use lib.Dec.{eqb, ltb}
use borrow.Author.Tests.{eqb-true, eqb-false, ne_eqb, ltb-true, ltb-false, lt-ltb, le-ltb}
use native.Mathlib.Omega.{arith}
use Rattle.std.specs.Prelude.{if◌then◌else◌}
use Rattle.arbiter.specs.State.{scl_hung_limit, sda_hung_limit}
use Rattle.arbiter.specs.Effects.{counted_to}
use Rattle.arbiter.specs.Order.{cut_ticks}
use Rattle.arbiter.proofs.Choice.{split, if_true, if_false}
use Rattle.quiet.specs.Counts.{least, risen}
use Rattle.quiet.specs.Quiet.{hold_left, scl_left, sda_left, idle_left}

-- ---- the smaller of two

pub least_first : (m n : ℕ) → least m n ≤ m
least_first m n = split (ltb m n) (λ h. omega (arith, if_true m n h)) (λ h. omega (arith, if_false m n h, ltb-false m n h))

pub least_second : (m n : ℕ) → least m n ≤ n
least_second m n = split (ltb m n) (λ h. omega (arith, if_true m n h, ltb-true m n h)) (λ h. omega (arith, if_false m n h))

-- ---- a count that rises

pub risen_below : (top j n : ℕ) → n + j < top → risen top true j n ≡ n + j
risen_below top j n h = if_true _ n (lt-ltb n top (omega arith)) ∙ if_true (n + j) top (lt-ltb (n + j) top h)

pub risen_top : (top j n : ℕ) → n < top → top ≤ n + j → risen top true j n ≡ top
risen_top top j n h g = if_true _ n (lt-ltb n top h) ∙ if_false (n + j) top (le-ltb (n + j) top g)

pub risen_past : (top j n : ℕ) → top ≤ n → risen top true j n ≡ n
risen_past top j n h = if_false _ n (le-ltb n top h)

counted_below : (top n : ℕ) → n < top → counted_to top true n ≡ n + 1
counted_below top n h = if_true (n + 1) n (lt-ltb n top h)

counted_past : (top n : ℕ) → top ≤ n → counted_to top true n ≡ n
counted_past top n h = if_false (n + 1) n (le-ltb n top h)

-- a tick more is one more, to its top
pub risen_more : (top : ℕ) (up : Bool) (j n : ℕ) → counted_to top up (risen top up j n) ≡ risen top up (j + 1) n
risen_more top false j n = refl
risen_more top true j n =
    split (ltb n top)
    (λ h.
    let low : n < top = ltb-true n top h in
    split (ltb (n + j) top)
    (λ g.
    let below : n + j < top = ltb-true (n + j) top g in
    ap (counted_to top true) (risen_below top j n below)
    ∙ counted_below top (n + j) below
    ∙ split (ltb (n + (j + 1)) top)
    (λ k. let x : n + (j + 1) < top = ltb-true (n + (j + 1)) top k in omega (arith, risen_below top (j + 1) n x))
    (λ k. let x : top ≤ n + (j + 1) = ltb-false (n + (j + 1)) top k in omega (arith, risen_top top (j + 1) n low x)))
    (λ g.
    let past : top ≤ n + j = ltb-false (n + j) top g in
    ap (counted_to top true) (risen_top top j n low past)
    ∙ counted_past top top (omega arith)
    ∙ sym (risen_top top (j + 1) n low (omega arith))))
    (λ h.
    let past : top ≤ n = ltb-false n top h in
    ap (counted_to top true) (risen_past top j n past) ∙ counted_past top n past ∙ sym (risen_past top (j + 1) n past))

-- no tick leaves it where it is
pub risen_none : (top : ℕ) (up : Bool) (n : ℕ) → risen top up 0 n ≡ n
risen_none top false n = refl
risen_none top true n =
    split (ltb n top)
    (λ h. let low : n < top = ltb-true n top h in omega (arith, risen_below top 0 n (omega arith)))
    (λ h. risen_past top 0 n (ltb-false n top h))

-- below its top by j it is not at its top after j, and was not before
hung_below : (top j n : ℕ) → n + j < top → eqb (risen top true j n) top ≡ eqb n top
hung_below top j n h =
    ap (λ (x : ℕ). eqb x top) (risen_below top j n h) ∙ ne_eqb (n + j) top (λ q. omega arith) ∙ sym (ne_eqb n top (λ q. omega arith))

hung_past : (top j n : ℕ) → top ≤ n → eqb (risen top true j n) top ≡ eqb n top
hung_past top j n h = ap (λ (x : ℕ). eqb x top) (risen_past top j n h)

-- ---- the hold

pub hold_kept : (j hold : ℕ) → j ≤ hold_left hold → eqb (hold - j) 0 ≡ eqb hold 0
hold_kept j hold l =
    split (eqb hold 0)
    (λ h. let e : hold ≡ 0 = eqb-true hold 0 h in let f : hold - j ≡ hold = omega arith in ap (λ (x : ℕ). eqb x 0) f)
    (λ h.
    let n : hold ≡ 0 → ⊥ = eqb-false hold 0 h in
    let some : 0 < hold = omega arith in
    let left : hold_left hold ≡ hold - 1 = if_false _ _ h in
    ne_eqb (hold - j) 0 (λ q. omega arith) ∙ sym h)

-- ---- low SCL

scl_cases : {A : Type 0} (j n : ℕ) → j ≤ scl_left false n → (n + j < cut_ticks → A) → (cut_ticks ≤ n → n + j < scl_hung_limit → A) → (scl_hung_limit ≤ n → A)
    → A
scl_cases j n l f g h =
    split (ltb n cut_ticks)
    (λ x.
    let low : n < 35 = ltb-true n cut_ticks x in
    let left : scl_left false n ≡ 35 - 1 - n = if_true _ _ x in
    f (omega arith))
    (λ x.
    let past : 35 ≤ n = ltb-false n cut_ticks x in
    let rest : scl_left false n ≡ (if ltb n scl_hung_limit then scl_hung_limit - 1 - n else 65535) = if_false _ _ x in
    split (ltb n scl_hung_limit)
    (λ y.
    let low : n < 500 = ltb-true n scl_hung_limit y in
    let left : (if ltb n scl_hung_limit then scl_hung_limit - 1 - n else 65535) ≡ 500 - 1 - n = if_true _ _ y in
    g past (omega arith))
    (λ y. h (ltb-false n scl_hung_limit y)))

pub scl_uncut : (high : Bool) (j n : ℕ) → 1 ≤ j → (high ≡ true → n ≡ 0) → j ≤ scl_left high n → eqb (risen scl_hung_limit (not high) j n) cut_ticks ≡ false
scl_uncut true j n o still l = ap (λ (x : ℕ). eqb x 35) (still refl)
scl_uncut false j n o still l =
    scl_cases j n l
    (λ x. ap (λ (y : ℕ). eqb y 35) (risen_below 500 j n (omega arith)) ∙ ne_eqb (n + j) 35 (λ q. omega arith))
    (λ x y. ap (λ (z : ℕ). eqb z 35) (risen_below 500 j n y) ∙ ne_eqb (n + j) 35 (λ q. omega arith))
    (λ x. ap (λ (y : ℕ). eqb y 35) (risen_past 500 j n x) ∙ ne_eqb n 35 (λ q. omega arith))

pub scl_hung : (high : Bool) (j n : ℕ) → j ≤ scl_left high n → eqb (risen scl_hung_limit (not high) j n) scl_hung_limit ≡ eqb n scl_hung_limit
scl_hung true j n l = refl
scl_hung false j n l = scl_cases j n l (λ x. hung_below 500 j n (omega arith)) (λ x y. hung_below 500 j n y) (λ x. hung_past 500 j n x)

-- ---- low SDA

pub sda_hung : (high : Bool) (j n : ℕ) → j ≤ sda_left high n → eqb (risen sda_hung_limit (not high) j n) sda_hung_limit ≡ eqb n sda_hung_limit
sda_hung true j n l = refl
sda_hung false j n l =
    split (ltb n sda_hung_limit)
    (λ x.
    let low : n < 501 = ltb-true n sda_hung_limit x in
    let left : sda_left false n ≡ 501 - 1 - n = if_true _ _ x in
    hung_below 501 j n (omega arith))
    (λ x. hung_past 501 j n (ltb-false n sda_hung_limit x))

-- ---- the idle count of an owner with RT 00h, on an idle bus

pub idle_unexpired : (limit : ℕ) (timer : Bool) (j n : ℕ) → 1 ≤ j → j ≤ idle_left limit timer n → timer && eqb (risen limit true j n) limit ≡ false
idle_unexpired limit false j n o l = refl
idle_unexpired limit true j n o l =
    split (ltb n limit)
    (λ x.
    let low : n < limit = ltb-true n limit x in
    let left : idle_left limit true n ≡ limit - 1 - n = if_true _ _ x in
    ap (λ (y : ℕ). eqb y limit) (risen_below limit j n (omega arith)) ∙ ne_eqb (n + j) limit (λ q. omega arith))
    (λ x. let left : idle_left limit true n ≡ 0 = if_false _ _ x in absurd (omega arith))
