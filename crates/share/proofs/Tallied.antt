-- The counts that are handed from state to state are, at the end, those of the definitions.
-- Assumes nothing.
use Prim.Native.Nat.{ℕ, ◌+◌, ◌≤◌}
use mathlib.Core.Path.{◌≡◌, refl, ap, ◌∙◌}
use mathlib.Core.Bool.{Bool, true, false}
use mathlib.Core.List.{List, [], ◌∷◌}
use native.Mathlib.Nat.{le_refl, le_trans, zero-add}
use native.Mathlib.Omega.{arith}
use lib.ListN.{length}
use Rattle.std.specs.Prelude.{if◌then◌else◌}
use Rattle.arbiter.specs.Words.{worth}
use Rattle.arbiter.specs.State.{owns, connected}
use Rattle.arbiter.specs.declared.Master.TheVariants.{Zero, One}
use Rattle.arbiter.specs.declared.Device.{Device}
use Rattle.share.specs.declared.Tally.{Tally}
use Rattle.share.specs.Numbers.{larger}
use Rattle.share.specs.States.{waits, unowned, count, front, longest}
use Rattle.share.specs.Share.{shares_in}
use Rattle.share.specs.Walk.{seen_of, waited_on, noted, tally_from, no_tally, shares}
use Rattle.share.proofs.Numbers.{larger_left, larger_right, larger_most}

-- ---- a count

abbrev after : Device → Tally → Tally
after d t = noted 1 (seen_of d) t

module _ (f : Tally → ℕ) (such : Device → Bool) (more : (d : Device) (t : Tally) → f (after d t) ≡ f t + worth 1 (such d)) where
  counts : (ds : List Device) (t : Tally) → f (tally_from t ds) ≡ f t + count such ds
  unfolding tally_from count
  counts [] t = omega arith
  counts (d ∷ ds) t = let h = counts ds (after d t) in let e = more d t in omega (arith, h, e)

-- every state is counted
ticked : (ds : List Device) (t : Tally) → (tally_from t ds).ticks ≡ t.ticks + length ds
unfolding tally_from noted
ticked [] t = omega arith
ticked (d ∷ ds) t = let h = ticked ds (after d t) in omega (arith, h)

-- ---- a longest wait

front_in : (such : Device → Bool) (ds : List Device) → front such ds ≤ longest such ds
unfolding front longest
front_in such [] = le_refl 0
front_in such (d ∷ ds) = larger_left _ _

equal : (a b : ℕ) → a ≤ b → b ≤ a → a ≡ b
equal a b p q = omega arith

-- a wait of r, and the longest of b so far: at the end it is the longest so far, or the wait gone on, or one after it
abbrev ended : ℕ → ℕ → ℕ → ℕ → ℕ
ended b r f l = larger b (larger (r + f) l)

module _ (b r f l : ℕ) where
  ended_b : b ≤ ended b r f l
  ended_b = larger_left _ _

  ended_r : r + f ≤ ended b r f l
  ended_r = le_trans (larger_left (r + f) l) (larger_right b _)

  ended_l : l ≤ ended b r f l
  ended_l = le_trans (larger_right (r + f) l) (larger_right b _)

  ended_most : (n : ℕ) → b ≤ n → r + f ≤ n → l ≤ n → ended b r f l ≤ n
  ended_most n p q s = larger_most _ _ n p (larger_most _ _ n q s)

-- one state more that waits, and one that does not
goes_on : (b r f l : ℕ) → ended (larger b (r + 1)) (r + 1) f l ≡ ended b r (1 + f) (larger (1 + f) l)
goes_on b r f l =
    let lb = larger_left b (r + 1) in
    let x = ended (larger b (r + 1)) (r + 1) f l in
    let y = ended b r (1 + f) (larger (1 + f) l) in
    let xb : larger b (r + 1) ≤ x = ended_b (larger b (r + 1)) (r + 1) f l in
    let xr : r + 1 + f ≤ x = ended_r (larger b (r + 1)) (r + 1) f l in
    let xl : l ≤ x = ended_l (larger b (r + 1)) (r + 1) f l in
    let yb : b ≤ y = ended_b b r (1 + f) (larger (1 + f) l) in
    let yr : r + (1 + f) ≤ y = ended_r b r (1 + f) (larger (1 + f) l) in
    let yl : larger (1 + f) l ≤ y = ended_l b r (1 + f) (larger (1 + f) l) in
    let ll = larger_right (1 + f) l in
    equal x y
    (ended_most _ _ f l y (larger_most b (r + 1) y yb (omega (arith, yr))) (omega (arith, yr)) (le_trans ll yl))
    (ended_most b r (1 + f) _ x (le_trans lb xb) (omega (arith, xr)) (larger_most (1 + f) l x (omega (arith, xr)) xl))

stops : (b r f l : ℕ) → r ≤ b → f ≤ l → ended (larger b 0) 0 f l ≡ ended b r 0 (larger 0 l)
stops b r f l h k =
    let x = ended (larger b 0) 0 f l in
    let y = ended b r 0 (larger 0 l) in
    let xb : larger b 0 ≤ x = ended_b (larger b 0) 0 f l in
    let xl : l ≤ x = ended_l (larger b 0) 0 f l in
    let yb : b ≤ y = ended_b b r 0 (larger 0 l) in
    let yl : larger 0 l ≤ y = ended_l b r 0 (larger 0 l) in
    let lb = larger_left b 0 in
    let ll = larger_right 0 l in
    equal x y
    (ended_most _ 0 f l y (larger_most b 0 y yb (omega arith)) (omega (arith, ll, yl)) (le_trans ll yl))
    (ended_most b r 0 _ x (le_trans lb xb) (omega (arith, lb, xb)) (larger_most 0 l x (omega arith) xl))

module _ (run best : Tally → ℕ) (such : Device → Bool) (runs : (d : Device) (t : Tally) → run (after d t) ≡ waited_on 1 (such d) (run t))
    (bests : (d : Device) (t : Tally) → best (after d t) ≡ larger (best t) (waited_on 1 (such d) (run t))) where
  held : (d : Device) (t : Tally) → run (after d t) ≤ best (after d t)
  held d t = let h = larger_right (best t) (waited_on 1 (such d) (run t)) in let p = runs d t in let q = bests d t in omega (arith, h, p, q)

  one_more : (b : Bool) (n r f l : ℕ) → r ≤ n → f ≤ l
      → ended (larger n (waited_on 1 b r)) (waited_on 1 b r) f l ≡ ended n r (if b then 1 + f else 0) (larger (if b then 1 + f else 0) l)
  unfolding waited_on
  one_more true n r f l h k = goes_on n r f l
  one_more false n r f l h k = stops n r f l h k

  waited : (ds : List Device) (t : Tally) → run t ≤ best t → best (tally_from t ds) ≡ ended (best t) (run t) (front such ds) (longest such ds)
  unfolding tally_from front longest
  waited [] t h =
      equal _ _ (ended_b (best t) (run t) 0 0) (ended_most (best t) (run t) 0 0 (best t) (le_refl _) (omega arith) (omega arith))
  waited (d ∷ ds) t h =
      waited ds (after d t) (held d t)
      ∙ ap (λ (b : ℕ). ended b (run (after d t)) (front such ds) (longest such ds)) (bests d t)
      ∙ ap (λ (r : ℕ). ended (larger (best t) (waited_on 1 (such d) (run t))) r (front such ds) (longest such ds)) (runs d t)
      ∙ one_more (such d) (best t) (run t) (front such ds) (longest such ds) h (front_in such ds)

-- from nothing
from_none : (f l : ℕ) → f ≤ l → ended 0 0 f l ≡ l
from_none f l h = equal _ _ (ended_most 0 0 f l l (omega arith) (omega arith) (le_refl l)) (ended_l 0 0 f l)

-- ---- all of them

module _ (ds : List Device) where
  abbrev t : Tally
  t = tally_from no_tally ds

  ticks_are : t.ticks ≡ length ds
  unfolding no_tally
  ticks_are = ticked ds no_tally ∙ zero-add _

  owned0_are : t.owned0 ≡ count (owns Zero) ds
  unfolding no_tally noted seen_of
  owned0_are = counts (λ x. x.owned0) (owns Zero) (λ d x. refl) ds no_tally ∙ zero-add _

  owned1_are : t.owned1 ≡ count (owns One) ds
  unfolding no_tally noted seen_of
  owned1_are = counts (λ x. x.owned1) (owns One) (λ d x. refl) ds no_tally ∙ zero-add _

  unowned_are : t.unowned ≡ count unowned ds
  unfolding no_tally noted seen_of
  unowned_are = counts (λ x. x.unowned) unowned (λ d x. refl) ds no_tally ∙ zero-add _

  connected0_are : t.connected0 ≡ count (connected Zero) ds
  unfolding no_tally noted seen_of
  connected0_are = counts (λ x. x.connected0) (connected Zero) (λ d x. refl) ds no_tally ∙ zero-add _

  connected1_are : t.connected1 ≡ count (connected One) ds
  unfolding no_tally noted seen_of
  connected1_are = counts (λ x. x.connected1) (connected One) (λ d x. refl) ds no_tally ∙ zero-add _

  waited0_are : t.waited0 ≡ count (waits Zero) ds
  unfolding no_tally noted seen_of
  waited0_are = counts (λ x. x.waited0) (waits Zero) (λ d x. refl) ds no_tally ∙ zero-add _

  waited1_are : t.waited1 ≡ count (waits One) ds
  unfolding no_tally noted seen_of
  waited1_are = counts (λ x. x.waited1) (waits One) (λ d x. refl) ds no_tally ∙ zero-add _

  longest0_are : t.longest0 ≡ longest (waits Zero) ds
  unfolding no_tally noted seen_of
  longest0_are =
      waited (λ x. x.run0) (λ x. x.longest0) (waits Zero) (λ d x. refl) (λ d x. refl) ds no_tally (le_refl 0) ∙ from_none _ _ (front_in (waits Zero) ds)

  longest1_are : t.longest1 ≡ longest (waits One) ds
  unfolding no_tally noted seen_of
  longest1_are =
      waited (λ x. x.run1) (λ x. x.longest1) (waits One) (λ d x. refl) (λ d x. refl) ds no_tally (le_refl 0) ∙ from_none _ _ (front_in (waits One) ds)

  pub tallied : shares t ≡ shares_in ds
  unfolding shares shares_in
  tallied = λ j.
      record {
        traces = 1;
        ticks = ticks_are j;
        owned0 = owned0_are j;
        owned1 = owned1_are j;
        unowned = unowned_are j;
        connected0 = connected0_are j;
        connected1 = connected1_are j;
        waited0 = waited0_are j;
        waited1 = waited1_are j;
        longest0 = longest0_are j;
        longest1 = longest1_are j;
        refused3 = 0;
        refused5 = 0;
        refused6 = 0;
        refused7 = 0;
        refused8 = 0;
        refused10 = 0;
      }
