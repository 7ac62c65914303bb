-- Totals stored in a buffer of 17 numbers and read back are the same, and what adding a trace to such a buffer, and joining
-- other totals to it, answers and leaves.
-- Assumes nothing.
use Prim.Native.Nat.{ℕ}
use mathlib.Core.Path.{◌≡◌, refl, sym, ap, ◌∙◌}
use mathlib.Core.Bool.{true, false, and-eq-true_iff}
use mathlib.Core.List.{List, ◌++◌, append-nil}
use native.Mathlib.Nat.{le_of_eq}
use lib.Dec.{eqb}
use lib.ListN.{length, drop_of_length-le}
use lib.Seq.{sets, sets-eq}
use borrow.Author.Tests.{eq-eqb, ne_eqb, eqb-true}
use Rattle.arbiter.proofs.Choice.{if_true, if_false}
use Rattle.std.specs.Prelude.{Result, Err}
use Rattle.share.specs.declared.Totals.{Totals}
use Rattle.share.specs.declared.Uncounted.{Uncounted}
use Rattle.share.specs.declared.Uncounted.TheVariants.{OtherLength}
use Rattle.share.specs.Share.{Added, added_with, added, joined, told_number, trace_told, join_told}
use Rattle.share.specs.Lent.{total_count, totals_in, totals_list, lent_number, lent_after}
use Rattle.share.specs.Lent.{lent_told, both_totals, join_number, join_after, lent_joined_told, ReadStored}

pub read_stored : ReadStored
unfolding totals_in totals_list
read_stored x = refl

-- 17 numbers stored one after the other fill the buffer
pub stored_whole : (x : Totals) (l : List ℕ) → length l ≡ total_count → sets l 0 (totals_list x) ≡ totals_list x
unfolding totals_list
stored_whole x l h =
    sets-eq (totals_list x) l 0 (le_of_eq (sym h))
    ∙ ap (λ (r : List ℕ). totals_list x ++ r) (drop_of_length-le l (le_of_eq h))
    ∙ append-nil (totals_list x)

-- what the call answers and leaves
pub lent_taken : (l t : List ℕ) (x y : Totals) (r : Result (Unit {0}) Uncounted) (after : List ℕ) → length l ≡ total_count → x ≡ totals_in l
    → (r ≡ trace_told x t) × (added_with y (told_number r) ≡ added x t) → after ≡ totals_list y
    → (r ≡ lent_told l t) × (told_number r ≡ lent_number l t) × (after ≡ lent_after l t)
unfolding lent_told lent_number lent_after
lent_taken l t x y r after h e f g =
    let all : added_with y (told_number r) ≡ added (totals_in l) t = f.1 ∙ ap (λ (z : Totals). added z t) e in (
      f.0 ∙ ap (λ (z : Totals). trace_told z t) e ∙ sym (if_true _ _ (eq-eqb (length l) total_count h)),
      ap (λ (y : Added). y.number) all ∙ sym (if_true _ _ (eq-eqb (length l) total_count h)),
      g ∙ ap (λ (y : Added). totals_list y.totals) all ∙ sym (if_true _ _ (eq-eqb (length l) total_count h)),
    )

pub lent_refused : (l t : List ℕ) → (length l ≡ total_count → ⊥) → (Err OtherLength ≡ lent_told l t) × (9 ≡ lent_number l t) × (l ≡ lent_after l t)
unfolding lent_told lent_number lent_after
lent_refused l t h = let other = ne_eqb (length l) total_count h in (sym (if_false _ _ other), sym (if_false _ _ other), sym (if_false _ _ other))

-- ---- joining

module _ (l o : List ℕ) where
  pub both_first : both_totals l o ≡ true → length l ≡ total_count
  both_first h = eqb-true (length l) total_count ((and-eq-true_iff (eqb (length l) total_count) (eqb (length o) total_count)).0 h).0

  pub both_second : both_totals l o ≡ true → length o ≡ total_count
  both_second h = eqb-true (length o) total_count ((and-eq-true_iff (eqb (length l) total_count) (eqb (length o) total_count)).0 h).1

  pub join_taken : (x y w : Totals) (r : Result (Unit {0}) Uncounted) (after : List ℕ) → both_totals l o ≡ true → x ≡ totals_in l → y ≡ totals_in o
      → (r ≡ join_told x y) × (added_with w (told_number r) ≡ joined x y) → after ≡ totals_list w
      → (r ≡ lent_joined_told l o) × (told_number r ≡ join_number l o) × (after ≡ join_after l o)
  unfolding lent_joined_told join_number join_after
  join_taken x y w r after h e f g i =
      let all : added_with w (told_number r) ≡ joined (totals_in l) (totals_in o) =
      g.1 ∙ ap (λ (z : Totals). joined z y) e ∙ ap (joined (totals_in l)) f in (
        g.0 ∙ ap (λ (z : Totals). join_told z y) e ∙ ap (join_told (totals_in l)) f ∙ sym (if_true _ _ h),
        ap (λ (z : Added). z.number) all ∙ sym (if_true _ _ h),
        i ∙ ap (λ (z : Added). totals_list z.totals) all ∙ sym (if_true _ _ h),
      )

  pub join_refused : both_totals l o ≡ false → (Err OtherLength ≡ lent_joined_told l o) × (9 ≡ join_number l o) × (l ≡ join_after l o)
  unfolding lent_joined_told join_number join_after
  join_refused h = (sym (if_false _ _ h), sym (if_false _ _ h), sym (if_false _ _ h))
