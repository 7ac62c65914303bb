-- Text stored after text: a run of stores that goes on where another ended, and a whole text stored at the start.
-- Assumes nothing.
use mathlib.Core.Path.{◌≡◌, sym, ap, subst, ◌∙◌}
use mathlib.Core.Bool.{Bool}
use mathlib.Core.List.{List, [], ◌∷◌, ◌++◌}
use Prim.Native.Nat.{ℕ, suc, ◌+◌, ◌≤◌, ◌<◌}
use native.Mathlib.Nat.{zero-add, add-zero, add-suc, suc-add}
use lib.ListN.{length, drop, set}
use lib.Seq.{sets, sets-eq}
use borrow.Author.Tests.{le-ltb, lt-ltb}
use Rattle.std.specs.Prelude.{if◌then◌else◌}
use Rattle.text.specs.Written.{fitted}

pub sets_on : (xs ys l : List ℕ) (i n : ℕ) → n ≡ i + length xs → sets (sets l i xs) n ys ≡ sets l i (xs ++ ys)
sets_on [] ys l i n e = ap (λ (k : ℕ). sets l k ys) (e ∙ add-zero i)
sets_on (x ∷ xs) ys l i n e = sets_on xs ys (set l i x) (suc i) n (e ∙ add-suc i (length xs) ∙ sym (suc-add i (length xs)))

-- a text of k bytes and a buffer l: where l has room, storing the text at its start is what `fitted` says; where it has none, nothing is
pub fits : (k : ℕ) (w l : List ℕ) → k ≡ length w → k ≤ length l → sets l 0 w ≡ fitted w l
unfolding fitted
fits k w l e h =
    sets-eq w l 0 (subst (λ (n : ℕ). n ≤ length l) (e ∙ sym (zero-add (length w))) h)
    ∙ ap (λ (n : ℕ). w ++ drop n l) (zero-add (length w))
    ∙ ap (λ (b : Bool). if b then l else w ++ drop (length w) l) (sym (le-ltb (length l) (length w) (subst (λ (n : ℕ). n ≤ length l) e h)))

pub no_room : (k : ℕ) (w l : List ℕ) → k ≡ length w → length l < k → l ≡ fitted w l
unfolding fitted
no_room k w l e h =
    ap (λ (b : Bool). if b then l else w ++ drop (length w) l) (sym (lt-ltb (length l) (length w) (subst (λ (n : ℕ). length l < n) e h)))
