-- A test that antt computes at every number below n, or at both truth values, and the law that gives it at any one of them.
-- Assumes nothing.
use mathlib.Core.Path.{◌≡◌, subst, sym}
use mathlib.Core.Bool.{Bool, true, false, ◌&&◌, and-eq-true_iff}
use mathlib.Core.Logic.{⊎_elim}
use Prim.Native.Nat.{ℕ, zero, suc, ◌<◌}
use native.Mathlib.Nat.{eq-or-lt_of_le, le_of_suc-le-suc, not-suc-le-zero}

abbrev pub every : (ℕ → Bool) → ℕ → Bool
every f zero = true
every f (suc n) = f n && every f n

pub every_at : (f : ℕ → Bool) (n : ℕ) → every f n ≡ true → (k : ℕ) → k < n → f k ≡ true
every_at f zero t k h = absurd (not-suc-le-zero h)
every_at f (suc n) t k h =
    let both = (and-eq-true_iff (f n) (every f n)).0 t in
    ⊎_elim
    (λ (e : k ≡ n). subst (λ (m : ℕ). f m ≡ true) (sym e) both.0)
    (λ (l : k < n). every_at f n both.1 k l)
    (eq-or-lt_of_le (le_of_suc-le-suc h))

-- ---- the same at both truth values

unfoldable pub both : (Bool → Bool) → Bool
both f = f true && f false

pub both_at : (f : Bool → Bool) → both f ≡ true → (b : Bool) → f b ≡ true
unfolding both
both_at f t true = ((and-eq-true_iff (f true) (f false)).0 t).0
both_at f t false = ((and-eq-true_iff (f true) (f false)).0 t).1
