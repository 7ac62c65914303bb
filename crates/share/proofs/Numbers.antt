-- Sums that stop at a limit, and the larger of two numbers: in what order they are taken is all one.
-- Assumes nothing.
use Prim.Native.Nat.{ℕ, ◌+◌, ◌≤◌, ◌<◌}
use mathlib.Core.Path.{◌≡◌, sym, ap, subst, ◌∙◌}
use native.Mathlib.Nat.{le_refl, le_trans}
use native.Mathlib.Omega.{arith}
use lib.Dec.{ltb}
use borrow.Author.Tests.{ltb-true, ltb-false, lt-ltb, le-ltb}
use Rattle.arbiter.proofs.Choice.{split, either, if_true, if_false}
use Rattle.std.specs.Prelude.{◌-◌, ◌^◌, min, max}
use Rattle.share.specs.Numbers.{top, up_to, plus, larger}

-- ---- up to a limit

module _ (limit : ℕ) where
  pub up_small : (n : ℕ) → n ≤ limit → up_to limit n ≡ n
  up_small n h = if_false limit n (le-ltb limit n h)

  pub up_past : (n : ℕ) → limit ≤ n → up_to limit n ≡ limit
  up_past n h =
      split (ltb limit n) (λ t. if_true limit n t)
      (λ f. let small : n ≤ limit = ltb-false limit n f in let e : n ≡ limit = omega arith in if_false limit n f ∙ e)

  pub up_twice : (n c : ℕ) → up_to limit (up_to limit n + c) ≡ up_to limit (n + c)
  up_twice n c =
      split (ltb limit n)
      (λ t. let past = ltb-true limit n t in ap (λ (k : ℕ). up_to limit (k + c)) (if_true limit n t) ∙ up_past (limit + c) (omega arith)
      ∙ sym (up_past (n + c) (omega arith)))
      (λ f. ap (λ (k : ℕ). up_to limit (k + c)) (if_false limit n f))

  pub up_below : (n : ℕ) → up_to limit n ≤ limit
  up_below n = either (λ (k : ℕ). k ≤ limit) (ltb limit n) (λ t. le_refl limit) (λ f. ltb-false limit n f)

-- ---- sums of totals

pub plus_swap : (a b c : ℕ) → plus (plus a b) c ≡ plus (plus a c) b
unfolding plus
plus_swap a b c = let e : a + b + c ≡ a + c + b = omega arith in up_twice top (a + b) c ∙ ap (up_to top) e ∙ sym (up_twice top (a + c) b)

pub plus_assoc : (a b c : ℕ) → plus a (plus b c) ≡ plus (plus a b) c
unfolding plus
plus_assoc a b c =
    let turned : a + up_to top (b + c) ≡ up_to top (b + c) + a = omega arith in
    let e : b + c + a ≡ a + b + c = omega arith in
    ap (up_to top) turned ∙ up_twice top (b + c) a ∙ ap (up_to top) e ∙ sym (up_twice top (a + b) c)

pub plus_exact : (a b : ℕ) → a + b ≤ top → plus a b ≡ a + b
unfolding plus
plus_exact a b h = up_small top (a + b) h

-- as the code has it, by what is left to the top
pub plus_past : (a b : ℕ) → 18446744073709551615 < a + b → 18446744073709551615 ≡ plus a b
unfolding plus top
plus_past a b h = sym (if_true _ _ (lt-ltb _ _ h))

pub plus_in : (a b : ℕ) → a + b ≤ 18446744073709551615 → a + b ≡ plus a b
unfolding plus top
plus_in a b h = sym (if_false _ _ (le-ltb _ _ h))

-- a sum is past a small number as the code's is
pub plus_over : (n a b : ℕ) → n < top → n < plus a b → n < a + b
unfolding plus
plus_over n a b small h =
    split (ltb top (a + b)) (λ t. let past = ltb-true top (a + b) t in omega arith) (λ f. subst (λ (m : ℕ). n < m) (if_false top (a + b) f) h)

pub plus_under : (n a b : ℕ) → n < top → plus a b ≤ n → a + b ≤ n
unfolding plus
plus_under n a b small h =
    split (ltb top (a + b))
    (λ t. let m : top ≤ n = subst (λ (m : ℕ). m ≤ n) (if_true top (a + b) t) h in omega (arith, m, small))
    (λ f. subst (λ (m : ℕ). m ≤ n) (if_false top (a + b) f) h)

pub plus_none : (a : ℕ) → a ≤ top → plus a 0 ≡ a
plus_none a h = let e : a + 0 ≡ a = omega arith in plus_exact a 0 (subst (λ (n : ℕ). n ≤ top) (sym e) h) ∙ e

pub plus_fits : (a b : ℕ) → plus a b ≤ top
unfolding plus
plus_fits a b = up_below top (a + b)

-- ---- the larger of two

pub larger_left : (a b : ℕ) → a ≤ larger a b
unfolding larger
larger_left a b = either (λ (n : ℕ). a ≤ n) (ltb a b) (λ t. let h = ltb-true a b t in omega arith) (λ f. le_refl a)

pub larger_right : (a b : ℕ) → b ≤ larger a b
unfolding larger
larger_right a b = either (λ (n : ℕ). b ≤ n) (ltb a b) (λ t. le_refl b) (λ f. ltb-false a b f)

pub larger_most : (a b c : ℕ) → a ≤ c → b ≤ c → larger a b ≤ c
unfolding larger
larger_most a b c p q = either (λ (n : ℕ). n ≤ c) (ltb a b) (λ t. q) (λ f. p)

below : (a b c : ℕ) → larger (larger a b) c ≤ larger (larger a c) b
below a b c =
    let ac = larger a c in
    larger_most (larger a b) c _
    (larger_most a b _ (le_trans (larger_left a c) (larger_left ac b)) (larger_right ac b))
    (le_trans (larger_right a c) (larger_left ac b))

pub larger_swap : (a b c : ℕ) → larger (larger a b) c ≡ larger (larger a c) b
larger_swap a b c = let p = below a b c in let q = below a c b in omega (arith, p, q)

pub larger_assoc : (a b c : ℕ) → larger a (larger b c) ≡ larger (larger a b) c
larger_assoc a b c =
    let ab = larger a b in
    let bc = larger b c in
    let p = larger_most a bc (larger ab c) (le_trans (larger_left a b) (larger_left ab c))
    (larger_most b c _ (le_trans (larger_right a b) (larger_left ab c)) (larger_right ab c)) in
    let q = larger_most ab c (larger a bc) (larger_most a b _ (larger_left a bc) (le_trans (larger_left b c) (larger_right a bc)))
    (le_trans (larger_right b c) (larger_right a bc)) in
    omega (arith, p, q)

pub larger_none : (a : ℕ) → larger a 0 ≡ a
larger_none a = let p = larger_left a 0 in let q = larger_most a 0 a (le_refl a) (omega arith) in omega (arith, p, q)

-- ---- as the library says them

pub plus_is : (a b : ℕ) → min (a + b) (2 ^ 64 - 1) ≡ plus a b
plus_is a b =
    split (ltb 18446744073709551615 (a + b))
    (λ t. let past = ltb-true _ _ t in let e : min (a + b) (2 ^ 64 - 1) ≡ 18446744073709551615 = omega (arith, past) in e ∙ plus_past a b past)
    (λ f. let within = ltb-false _ _ f in let e : min (a + b) (2 ^ 64 - 1) ≡ a + b = omega (arith, within) in e ∙ plus_in a b within)

pub larger_is : (a b : ℕ) → max a b ≡ larger a b
unfolding larger
larger_is a b =
    split (ltb a b)
    (λ t. let less = ltb-true a b t in let e : max a b ≡ b = omega (arith, less) in e ∙ sym (if_true _ _ t))
    (λ f. let more = ltb-false a b f in let e : max a b ≡ a = omega (arith, more) in e ∙ sym (if_false _ _ f))
