-- How many orders there are: the rule by which they are counted, their length as a list, and that there are at most 924.
-- Assumes nothing.
use mathlib.Core.Path.{◌≡◌, refl, sym, ap, ap₂, subst, ◌∙◌}
use mathlib.Core.Logic.{◌≢◌}
use mathlib.Core.List.{List, [], ◌∷◌, ◌++◌, map}
use Prim.Native.Nat.{ℕ, zero, suc, ◌+◌, ◌-◌, ◌≤◌, ◌<◌}
use native.Mathlib.Nat.{suc-add, add-suc, add-zero}
use native.Mathlib.Omega.{arith}
use lib.ListN.{length, length-append, length-map}
use Rattle.orders.specs.Orders.{orders, choose, number_of_orders}
use Rattle.orders.specs.Call.{most_scripted}

-- ---- Pascal's rule

choose_over : (n k : ℕ) → n < k → choose n k ≡ 0
unfolding choose
choose_over n zero h = omega arith
choose_over zero (suc k) h = refl
choose_over (suc n) (suc k) h =
    let a = choose_over n k (omega arith) in
    let b = choose_over n (suc k) (omega arith) in
    omega (arith, a, b)

choose_all : (n : ℕ) → choose n n ≡ 1
unfolding choose
choose_all zero = refl
choose_all (suc n) =
    let a = choose_all n in
    let b = choose_over n (suc n) (omega arith) in
    omega (arith, a, b)

-- the number by the script whose event comes first
pub none_of_0 : (n : ℕ) → number_of_orders 0 n ≡ 1
unfolding choose
none_of_0 n = refl

pub none_of_1 : (m : ℕ) → number_of_orders m 0 ≡ 1
none_of_1 m = ap (λ (k : ℕ). choose k m) (add-zero m) ∙ choose_all m

pub some_of_both : (m n : ℕ) → number_of_orders (suc m) (suc n) ≡ number_of_orders m (suc n) + number_of_orders (suc m) n
unfolding choose
some_of_both m n =
    ap (λ (k : ℕ). choose k (suc m)) (add-suc (suc m) n)
    ∙ ap (λ (k : ℕ). choose k m + choose (suc m + n) (suc m)) (suc-add m n ∙ sym (add-suc m n))

-- the same with one event less
pub by_next : (m n : ℕ) → m ≢ 0 → n ≢ 0 → number_of_orders (m - 1) n + number_of_orders m (n - 1) ≡ number_of_orders m n
by_next zero n h k = absurd (h refl)
by_next (suc m) zero h k = absurd (k refl)
by_next (suc m) (suc n) h k =
    let e : suc m - 1 ≡ m = omega arith in
    let f : suc n - 1 ≡ n = omega arith in
    ap₂ (λ (i j : ℕ). number_of_orders i (suc n) + number_of_orders (suc m) j) e f ∙ sym (some_of_both m n)

-- ---- the orders as a list

pub length_orders : {A : Type 0} (xs ys : List A) → length (orders xs ys) ≡ number_of_orders (length xs) (length ys)
unfolding orders
length_orders [] [] = sym (none_of_0 0)
length_orders (x ∷ xs) [] =
    length-map (orders xs []) (λ o. x ∷ o) ∙ length_orders xs [] ∙ none_of_1 (length xs) ∙ sym (none_of_1 (suc (length xs)))
length_orders [] (y ∷ ys) =
    length-map (orders [] ys) (λ o. y ∷ o) ∙ length_orders [] ys ∙ none_of_0 (length ys) ∙ sym (none_of_0 (suc (length ys)))
length_orders (x ∷ xs) (y ∷ ys) =
    length-append (map (λ o. x ∷ o) (orders xs (y ∷ ys))) (map (λ o. y ∷ o) (orders (x ∷ xs) ys))
    ∙ ap₂ ◌+◌
    (length-map (orders xs (y ∷ ys)) (λ o. x ∷ o) ∙ length_orders xs (y ∷ ys))
    (length-map (orders (x ∷ xs) ys) (λ o. y ∷ o) ∙ length_orders (x ∷ xs) ys)
    ∙ sym (some_of_both (length xs) (length ys))

-- ---- more events, more orders

grows_0 : (m n : ℕ) → number_of_orders m n ≤ number_of_orders (suc m) n
grows_0 m zero = omega (arith, none_of_1 m, none_of_1 (suc m))
grows_0 m (suc n) = omega (arith, some_of_both m n)

grows_1 : (m n : ℕ) → number_of_orders m n ≤ number_of_orders m (suc n)
grows_1 zero n = omega (arith, none_of_0 n, none_of_0 (suc n))
grows_1 (suc m) n = omega (arith, some_of_both m n)

rises_0 : (k m n : ℕ) → number_of_orders m n ≤ number_of_orders (m + k) n
rises_0 zero m n = omega (arith, ap (λ (k : ℕ). number_of_orders k n) (add-zero m))
rises_0 (suc k) m n = omega (arith, rises_0 k m n, grows_0 (m + k) n, ap (λ (j : ℕ). number_of_orders j n) (add-suc m k))

rises_1 : (k m n : ℕ) → number_of_orders m n ≤ number_of_orders m (n + k)
rises_1 zero m n = omega (arith, ap (number_of_orders m) (add-zero n))
rises_1 (suc k) m n = omega (arith, rises_1 k m n, grows_1 m (n + k), ap (number_of_orders m) (add-suc n k))

pub six_and_six : number_of_orders most_scripted most_scripted ≡ 924
unfolding choose
six_and_six = refl

pub at_most : (m n : ℕ) → m ≤ most_scripted → n ≤ most_scripted → number_of_orders m n ≤ 924
at_most m n h k =
    let e : m + (most_scripted - m) ≡ most_scripted = omega arith in
    let f : n + (most_scripted - n) ≡ most_scripted = omega arith in
    let a = subst (λ (j : ℕ). number_of_orders m n ≤ number_of_orders j n) e (rises_0 (most_scripted - m) m n) in
    let b = subst (λ (j : ℕ). number_of_orders most_scripted n ≤ number_of_orders most_scripted j) f (rises_1 (most_scripted - n) most_scripted n) in
    omega (arith, a, b, six_and_six)
