-- Counts that stop at the top of 64 bits: in what order they are added up is all one.
-- Assumes nothing.
use Prim.Native.Nat.{◌≤◌}
use mathlib.Core.Path.{◌≡◌, sym, ap, ◌∙◌}
use native.Mathlib.Omega.{arith}
use borrow.Author.Tests.{ltb-true, ltb-false, le-ltb}
use Rattle.arbiter.proofs.Choice.{split, if_true, if_false}
use Rattle.std.specs.Prelude.{◌+◌}
use Rattle.watch.specs.Names.{ℕ, ltb}
use Rattle.watch.specs.Stream.{top, up_to, plus}

pub up_small : (n : ℕ) → n ≤ top → up_to n ≡ n
up_small n h = if_false top n (le-ltb top n h)

pub up_past : (n : ℕ) → top ≤ n → up_to n ≡ top
up_past n h =
    split (ltb top n) (λ t. if_true top n t) (λ f. let small : n ≤ top = ltb-false top n f in let e : n ≡ top = omega arith in if_false top n f ∙ e)

pub up_below : (n : ℕ) → up_to n ≤ top
up_below n =
    split (ltb top n) (λ t. let e : up_to n ≡ top = if_true top n t in omega arith)
    (λ f. let e : up_to n ≡ n = if_false top n f in let small : n ≤ top = ltb-false top n f in omega arith)

pub plus_twice : (a b c : ℕ) → plus (plus a b) c ≡ plus a (b + c)
unfolding plus
plus_twice a b c =
    let same : a + b + c ≡ a + (b + c) = omega arith in
    split (ltb top (a + b))
    (λ t. let past = ltb-true top (a + b) t in
    ap (λ (n : ℕ). up_to (n + c)) (if_true top (a + b) t) ∙ up_past (top + c) (omega arith) ∙ sym (up_past (a + (b + c)) (omega arith)))
    (λ f. ap (λ (n : ℕ). up_to (n + c)) (if_false top (a + b) f) ∙ ap up_to same)

pub plus_below : (a b : ℕ) → plus a b ≤ top
unfolding plus
plus_below a b = up_below (a + b)

pub plus_none : (a : ℕ) → a ≤ top → a ≡ plus a 0
unfolding plus
plus_none a h = let e : a + 0 ≡ a = omega arith in sym (ap up_to e ∙ up_small a h)

pub none_counted : (n : ℕ) → plus 0 n ≡ up_to n
unfolding plus
none_counted n = let e : 0 + n ≡ n = omega arith in ap up_to e

pub none_below : 0 ≤ top
none_below = omega arith
